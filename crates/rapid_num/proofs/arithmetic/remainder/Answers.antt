use Rattle.std.proofs.Common.{◌∙◌, rules, w64, FitsSigned}
use Rattle.std.proofs.lemmas.Int.{rem_is}
use Rattle.rapid_num.proofs.Remainders.{remainder_is}
use Rattle.rapid_num.proofs.arithmetic.remainder.Goals as goal

pub returns-clause-remainder : goal.returns-clause-remainder
returns-clause-remainder c =
    let a = c.thousandths.result in
    let b = c.thousandths-2.result in
    let left : FitsSigned w64 a = search rules in
    let right : FitsSigned w64 b = search rules in
    rw (← c.thousandths.ensures.same, ← c.thousandths-2.ensures.same) (rem_is w64 a b left right ∙ remainder_is a b)
