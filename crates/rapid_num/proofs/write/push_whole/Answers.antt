use Rattle.std.proofs.Common.{◌≡◌, ℕ, ◌≤◌, ◌∙◌, ap, arith, rules, nat_abs, ◌/◌, length, decimal}
use Rattle.std.proofs.lemmas.Fmt.{length-decimal-le}
use Rattle.std.proofs.lemmas.Int.{to_z-of_z}
use Rattle.std.specs.Int.{w64}
use Rattle.std.specs.Prelude.{FitsSigned}
use Rattle.rapid_num.specs.Range.{greatest}
use Rattle.rapid_num.proofs.write.push_whole.Goals as goal

whole_digits : (n size : ℕ) → size ≡ n → n ≤ greatest → length (decimal (size / 1000)) ≤ 10
whole_digits n size same range = length-decimal-le 10 (size / 1000) (omega arith) (omega arith) (omega arith)

pub push_str-requires : goal.push_str-requires
push_str-requires g c =
    let count = c.thousandths.result in
    let fits : FitsSigned w64 count = search rules in
    let same : c.unsigned_abs-size.result ≡ nat_abs c.args.value = c.unsigned_abs-size.ensures.value ∙ ap nat_abs (to_z-of_z w64 count fits) ∙ ap nat_abs c.thousandths.ensures.same in
    let whole = whole_digits (nat_abs c.args.value) c.unsigned_abs-size.result same c.thousandths.ensures.range.size in
    (search rules, omega (arith, whole, c.requires, c.push_sign.ensures.short, ap length c.format.ensures.text))

pub returns-clause-short : goal.returns-clause-short
returns-clause-short g c =
    let count = c.thousandths.result in
    let fits : FitsSigned w64 count = search rules in
    let same : c.unsigned_abs-size.result ≡ nat_abs c.args.value = c.unsigned_abs-size.ensures.value ∙ ap nat_abs (to_z-of_z w64 count fits) ∙ ap nat_abs c.thousandths.ensures.same in
    let whole = whole_digits (nat_abs c.args.value) c.unsigned_abs-size.result same c.thousandths.ensures.range.size in
    omega (arith, whole, c.push_sign.ensures.short, c.push_str.ensures.len, ap length c.format.ensures.text)
