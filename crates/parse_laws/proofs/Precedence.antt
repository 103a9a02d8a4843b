-- How NOT and AND are parsed, computed with the readers.
use Rattle.std.proofs.Common.{◌≡◌, ℕ, List, [], Ok, refl, sym, subst, ◌∙◌}
use Rattle.std.proofs.lemmas.List.{append-nil}
use Rattle.rapid_forms.specs.Signs.{has, sign_of, begins_with}
use Rattle.rapid_forms.specs.Parsed.{Spells}
use Rattle.rapid_forms.specs.Reading.{then_read, one_read, seq_read, either_read, optional_read, many_within, many_read, made_read}
use Rattle.rapid_forms.proofs.Right.{Right}
use Rattle.expr_parser.specs.Operators.{operator_of}
use Rattle.expr_parser.specs.Grammar.{expr}
use Rattle.parse_laws.specs.Precedence.{not_a_and_b, not_of_both}
use Rattle.expr_parser.specs.Reads.{name_read, parts_read, named_read, primary_read, step_read, chain_read, term_read, signed_read, sum_read, relation_read, land_read, negated_read, expr_of_read, expr_read}
use Rattle.expr_parser.proofs.Answered.{expr_reads}

not_of_both_read : (a b : List ℕ) (i j k l : ℕ) → expr_read 0 (not_a_and_b a b i j k l) ≡ Ok (not_of_both a b i j l, [])
unfolding expr_read expr_of_read chain_read made_read seq_read then_read negated_read optional_read one_read many_read many_within land_read relation_read sum_read signed_read term_read primary_read either_read named_read name_read parts_read step_read begins_with has sign_of operator_of
not_of_both_read a b i j k l = refl

pub not_of_both_spelled : (a b : List ℕ) (i j k l : ℕ) → Spells expr (not_of_both a b i j l) (not_a_and_b a b i j k l)
not_of_both_spelled a b i j k l =
    let ts = not_a_and_b a b i j k l in
    let h = subst (Right expr 0 ts) (not_of_both_read a b i j k l) ((expr_reads 0).right ts) in
    (0, subst (λ front. (expr 0).Whole (not_of_both a b i j l) front) (sym (h.split ∙ append-nil h.front)) h.whole)
