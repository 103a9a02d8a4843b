-- A name alone, with no index and no components.
use Rattle.std.proofs.Common.{◌≡◌, false, List, [], ◌∷◌, None, Ok, refl, sym, ◌∙◌}
use Rattle.rapid_lexer.specs.Tokens.{Lexeme}
use Rattle.rapid_forms.specs.declared.sign.Sign.TheVariants as signs
use Rattle.rapid_forms.specs.Signs.{begins_with}
use Rattle.rapid_forms.specs.Reading.{then_read, seq_read, optional_read, many_read}
use Rattle.rapid_forms.proofs.Loops.{front_none, loop_done}
use Rattle.expr_parser.specs.Reads.{InsideRead, part_read, parts_read}
use Rattle.expr_parser.proofs.Operands.{fewer}

pub no_parts : (i : InsideRead) (ts : List Lexeme) → begins_with (signs.OpenBrace ∷ signs.Dot ∷ []) ts ≡ false → parts_read i ts ≡ Ok ((None, []), ts)
unfolding parts_read seq_read optional_read then_read
no_parts i ts none =
    let closed : many_read (signs.Dot ∷ []) part_read ts ≡ Ok ([], ts) = sym (front_none _) ∙ loop_done part_read _ [] ts (fewer _ (signs.OpenBrace ∷ signs.Dot ∷ []) ts refl none) in
    rw (fewer (signs.OpenBrace ∷ []) (signs.OpenBrace ∷ signs.Dot ∷ []) ts refl none, closed) refl
