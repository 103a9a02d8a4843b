use Rattle.std.proofs.Common.{◌<◌, ◌≤◌, ◌+◌, ℤ, length, nat_abs, refl, sym, subst, arith, w64, to_z}
use Rattle.zone_clearance.proofs.Arriving.{line_read}
use Rattle.zone_clearance.proofs.LeastEnds.{IsLeastSoFar, least_all, least_at_first, least_more, least_read, least_skip, raised_read, zero_small}
use Rattle.zone_clearance.proofs.Products.{line_value}
use Rattle.zone_clearance.proofs.search.least_end.least_end.Goals as goal
use Rattle.zone_clearance.proofs.search.least_end.least_end.Goals.{in-Some, in_default}

pub loop-number-init : goal.loop-number-init
loop-number-init c = record { so_far = least_at_first c.args.lines.now _ refl; small = omega arith }

pub loop-number-preserved : goal.loop-number-preserved
loop-number-preserved c =
    let lines = c.args.lines.now in
    let number = c.loop-number.number in
    let so_far = c.loop-number.invariant in
    let below : number < length lines = omega arith in
    elim c.match-lines-number.branch [
      | in-Some w ↦
          let read = least_read w.in-Some.line _ w.min.result w.min-least.result _ so_far.small w.min.ensures.value w.min-least.ensures.value w.least-is in
          record { so_far = least_more lines number w.in-Some.line _ _ (line_read lines number _ _ below w.in-Some.is) read.is so_far.so_far; small = read.small }
      | in_default w ↦ record {
        so_far = subst (λ (x : ℤ). IsLeastSoFar lines (number + 1) x) (sym w.least-is) (least_skip lines number _ (line_read lines number _ _ below w.in_default.is) so_far.so_far);
        small = subst (λ (x : ℤ). nat_abs x ≤ 200_000_000) (sym w.least-is) so_far.small;
      }
    ]

pub whole-requires-clause-small : goal.whole-requires-clause-small
whole-requires-clause-small c =
    let short = zero_small (to_z w64 c.loop-number.least-bits) c.max.result c.loop-number.invariant.small c.max.ensures.value in
    subst (λ (x : ℤ). nat_abs x ≤ 200_000_000) (sym (line_value c.max.result short)) short

pub returns : goal.returns
returns c =
    let all : length c.args.lines.now ≤ c.loop-number.number = omega arith in
    least_all c.args.lines.now c.loop-number.number _ c.whole.result all
    (raised_read (to_z w64 c.loop-number.least-bits) c.max.result c.whole.result.top c.loop-number.invariant.small c.max.ensures.value c.whole.ensures.top) c.whole.ensures.bottom c.loop-number.invariant.so_far
