use Rattle.std.proofs.Common.{◌≤◌, inl, inr, refl, arith}
use Rattle.std.proofs.lemmas.Int.{ints}
use Rattle.zone_clearance.proofs.Products.{le_from_not_lt, lt_from_true, sum_small}
use Rattle.zone_clearance.proofs.Raising.{crossing_sum, crossing_under, crossing_above}
use Rattle.zone_clearance.proofs.search.raised.crossing_above.Goals as goal
use Rattle.zone_clearance.proofs.search.raised.crossing_above.Goals.{then-top-lt0-via-then-top-lt0, then-top-lt0-via-else-top-lt0+then-product}

pub overflow_add-top : goal.overflow_add-top
overflow_add-top c = omega (arith, ints)

pub returns-then-top-lt0 : goal.returns-then-top-lt0
returns-then-top-lt0 c =
    let one = c.scaled.ensures in
    let two = c.scaled-2.ensures in
    let sum = crossing_sum c.args.upper c.args.lower _ _ _ _ c.abs_diff-start.ensures c.abs_diff-end.ensures one.scaled two.scaled one.small two.small in
    crossing_under c.args.upper c.args.lower c.args.best _ _ _ sum
    (elim c.then-top-lt0.branch [
      | then-top-lt0-via-then-top-lt0 w ↦ inl (lt_from_true _ _ w.if-top-lt0.true)
      | then-top-lt0-via-else-top-lt0+then-product w ↦ inr (rw (← w.unsigned_abs.ensures.value) (omega (arith, w.product.ensures, w.product-else-top-lt0.ensures, w.if-product.true)))
    ])

pub invariant_of-result : goal.invariant_of-result
invariant_of-result c =
    let top : c.unsigned_abs-2.result ≤ 160_000_000_000_000_000 = rw c.unsigned_abs-2.ensures.value (sum_small c.scaled.result c.scaled-2.result c.scaled.ensures.small c.scaled-2.ensures.small) in
    record { some = omega (arith, ints); small_top = top; small_bottom = omega (arith, ints) }

pub returns : goal.returns
returns c =
    let one = c.scaled.ensures in
    let two = c.scaled-2.ensures in
    let sum = crossing_sum c.args.upper c.args.lower _ _ _ _ c.abs_diff-start.ensures c.abs_diff-end.ensures one.scaled two.scaled one.small two.small in
    crossing_above c.args.upper c.args.lower c.args.best _ _ _ _ sum (le_from_not_lt _ _ c.if-top-lt0.false)
    (rw (← c.unsigned_abs.ensures.value) (omega (arith, c.product.ensures, c.product-else-top-lt0.ensures, c.if-product.false)))
    c.unsigned_abs-2.ensures.value refl
