-- How a piece of a statement uses the operands of its frame.
use Rattle.std.specs.Prelude.{ℕ, ◌+◌, ◌-◌}
use Rattle.stack_code.specs.Needs as needs
use Rattle.stack_code.specs.Needs.{args_need, expr_need, place_need}
use Rattle.stack_code.specs.Pieces.{Piece, OfExpr, OfPlace, OfArgs, Does, Waits, Travels}

-- the operands that it needs, those already there apart
abbrev pub piece_need : Piece → ℕ
piece_need (OfExpr e) = expr_need e
piece_need (OfPlace p) = place_need p
piece_need (OfArgs args) = args_need args
piece_need piece = 0

-- an upper bound for the operands after it, by those before
abbrev pub depth_behind : Piece → ℕ → ℕ
depth_behind (OfExpr e) depth = depth + 1
depth_behind (OfPlace p) depth = depth + 1
depth_behind (Does op) depth = needs.depth_behind op depth
depth_behind Waits depth = depth - 1
depth_behind Travels depth = depth - 2
depth_behind piece depth = depth
