use Rattle.std.proofs.Common.{ℕ, Bool, Some, None, ap, sym, ◌∙◌}
use Rattle.std.specs.Prelude.{Option, if◌then◌else◌}
use Rattle.command_words.proofs.ParsedMoves.{moves_not_parsed, moves_not_text, moves_parsed, parses_bytes}
use Rattle.command_words.proofs.moves.moves_of.Goals as goal

-- the number, if the test holds
abbrev chosen : ℕ → Bool → Option ℕ
chosen moves test = if test then Some moves else None

pub returns-then-is_moves : goal.returns-then-is_moves
returns-then-is_moves c =
    sym (moves_parsed c.args.word.now c.in-Ok-parse.moves c.parse.result c.in-Ok-parse.is (parses_bytes _ _ _ c.in-Ok.ensures.cases.0 c.parse.ensures.value.0)
    ∙ ap (chosen c.in-Ok-parse.moves) (sym c.is_moves.ensures ∙ c.if-is_moves.true))

pub returns-else-is_moves : goal.returns-else-is_moves
returns-else-is_moves c =
    sym (moves_parsed c.args.word.now c.in-Ok-parse.moves c.parse.result c.in-Ok-parse.is (parses_bytes _ _ _ c.in-Ok.ensures.cases.0 c.parse.ensures.value.0)
    ∙ ap (chosen c.in-Ok-parse.moves) (sym c.is_moves.ensures ∙ c.if-is_moves.false))

pub returns-in_default : goal.returns-in_default
returns-in_default c = sym (moves_not_text c.args.word.now c.in_default.ensures.cases.0)

pub returns-in_default-parse : goal.returns-in_default-parse
returns-in_default-parse c =
    sym (moves_not_parsed c.args.word.now c.in_default-parse.field-0 c.parse.result c.in_default-parse.is (parses_bytes _ _ _ c.in-Ok.ensures.cases.0 c.parse.ensures.value.0))
