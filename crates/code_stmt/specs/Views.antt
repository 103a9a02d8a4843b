-- The pieces of statements as contracts see them.
use Rattle.std.specs.Prelude.{List, map}
use Rattle.std.specs.Borrow.{Bor}
use Rattle.stack_code.specs.Pieces as plain
use Rattle.stack_code.specs.Pieces.{push, push_down}
use Rattle.stack_code.specs.Placed as placed
use Rattle.typed_trees.specs.Plain.{TypedArg, args_of}
use Rattle.typed_trees.specs.Views.{view_arg, view_expr, view_place}
use Rattle.typed_trees.specs.declared.expr.Arg.{Arg}
use Rattle.code_stmt.specs.declared.own.Own.{Own}
use Rattle.code_stmt.specs.declared.piece.Piece.{Piece}
use Rattle.code_stmt.specs.declared.piece.Piece.TheVariants.{Expr, Place, Args, Does, Waits, GoesTo, Chooses, Travels}

abbrev pub view_args : List (Bor Arg) → List TypedArg
view_args args = map (λ a. view_arg a.now) args

abbrev pub view_own : Own → placed.Own
view_own own = record { retry = own.retry; next = own.next; at = own.at }

abbrev pub view_piece : Piece → plain.Piece
view_piece (Expr e) = plain.OfExpr (view_expr e.now)
view_piece (Place p) = plain.OfPlace (view_place p.now)
view_piece (Args args) = plain.OfArgs (args_of (map view_arg args.now.items))
view_piece (Does op) = plain.Does op
view_piece Waits = plain.Waits
view_piece (GoesTo label) = plain.GoesTo label
view_piece Chooses = plain.Chooses push_down (push 1)
view_piece Travels = plain.Travels

abbrev pub view_pieces : List Piece → List plain.Piece
view_pieces pieces = map view_piece pieces
