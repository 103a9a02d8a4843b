use Rattle.std.proofs.Common.{◌≡◌, ◌-◌, take, Some, None, refl, sym, ap, ◌+◌, ◌∙◌, arith, rules}
use Rattle.std.proofs.lemmas.List.{take_all}
use Rattle.history_text.specs.Reading.{many_at}
use Rattle.history_text.specs.ValueReading.{bound_at, shape_at, side_at}
use Rattle.history_text.proofs.ManyThings.{after_front, many_all, many_more, many_none, take_set_more}
use Rattle.history_text.proofs.shape_reading.shape_at.Goals as goal

pub loop-axis-preserved : goal.loop-axis-preserved
loop-axis-preserved c =
    let so_far = take c.loop-axis.axis c.loop-axis.bounds in
    let one : bound_at c.loop-axis.rest.now ≡ Some (c.in-Some-bound_at.bound, c.in-Some-bound_at.more.now) = search rules in
    record {
      count = search rules;
      same = c.loop-axis.invariant.same ∙ many_more bound_at 12 c.loop-axis.axis so_far c.loop-axis.rest.now c.in-Some-bound_at.bound c.in-Some-bound_at.more.now (omega arith) one
          ∙ ap (λ front. after_front front (many_at bound_at (12 - (c.loop-axis.axis + 1)) c.in-Some-bound_at.more.now)) (sym (take_set_more c.loop-axis.bounds c.loop-axis.axis c.in-Some-bound_at.bound (omega (arith, c.loop-axis.invariant.count))));
    }

pub returns-in_default-bound_at : goal.returns-in_default-bound_at
unfolding shape_at
returns-in_default-bound_at c =
    let side : side_at c.args.text.now ≡ Some (c.in-Some.inside, c.in-Some.after_side.now) = search rules in
    let none : bound_at c.loop-axis.rest.now ≡ None = search rules in
    let all = c.loop-axis.invariant.same ∙ many_none bound_at 12 c.loop-axis.axis (take c.loop-axis.axis c.loop-axis.bounds) c.loop-axis.rest.now (omega arith) none in
    rw (side, all) refl

pub returns : goal.returns
unfolding shape_at
returns c =
    let side : side_at c.args.text.now ≡ Some (c.in-Some.inside, c.in-Some.after_side.now) = search rules in
    let whole = take_all c.loop-axis.axis c.loop-axis.bounds (omega (arith, c.loop-axis.invariant.count)) in
    let all = c.loop-axis.invariant.same ∙ many_all bound_at 12 c.loop-axis.axis (take c.loop-axis.axis c.loop-axis.bounds) c.loop-axis.rest.now (omega arith) in
    rw (side, all, whole) refl
