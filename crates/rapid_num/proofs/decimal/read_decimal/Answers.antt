use Rattle.std.proofs.Common.{◌<◌, ◌^◌, ◌∙◌, sym, ap, arith, take, nat_abs}
use Rattle.std.specs.Int.{w128}
use Rattle.std.specs.Prelude.{FitsSigned}
use Rattle.std.proofs.lemmas.Int.{to_z-of_z, fits_signed_from_abs}
use Rattle.rapid_num.specs.Reading.{within, scaled_mantissa}
use Rattle.rapid_num.proofs.Cuts.{decimal_with, decimal_amiss, decimal_without}
use Rattle.rapid_num.proofs.decimal.read_decimal.Goals as goal

pub returns-in_err-exponent-in-Some : goal.returns-in_err-exponent-in-Some
returns-in_err-exponent-in-Some c =
    c.from_residual.ensures ∙ ap within (sym (decimal_amiss c.args.text.now c.in-Some.at c.in-Some.ensures c.in_err-exponent-in-Some.ensures.value))

pub returns-in_ok-exponent-in-Some : goal.returns-in_ok-exponent-in-Some
returns-in_ok-exponent-in-Some c =
    let e = c.in_ok-exponent-in-Some.exponent in
    let small : nat_abs e < 10 ^ 30 = c.in_ok-exponent-in-Some.ensures.thirty_digits in
    let fits : FitsSigned w128 e = fits_signed_from_abs w128 e (omega arith) in
    c.read_scaled.ensures
    ∙ ap (λ z. within (scaled_mantissa (take c.in-Some.at c.args.text.now) z)) (to_z-of_z w128 e fits)
    ∙ ap within (sym (decimal_with c.args.text.now c.in-Some.at e c.in-Some.ensures c.in_ok-exponent-in-Some.ensures.value))

pub returns-in-None : goal.returns-in-None
returns-in-None c =
    c.read_scaled-in-None.ensures ∙ ap within (sym (decimal_without c.args.text.now c.in-None.ensures))
