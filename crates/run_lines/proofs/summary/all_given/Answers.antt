use Rattle.std.proofs.Common.{◌≡◌, ℕ, ◌+◌, ◌<◌, List, Bool, true, false, length, take, ap, sym, ◌∙◌, arith}
use Rattle.std.specs.Prelude.{Some, slice_get}
use Rattle.std.proofs.lemmas.List.Sums.{count_by_more_no, count_by_more_yes}
use Rattle.std.proofs.lemmas.Option.{get_or_from_slice_get}
use Rattle.rapid_model.specs.declared.event.Event.{Event}
use Rattle.cell_meaning.specs.Motion.{is_given}
use Rattle.run_lines.specs.Output.{all_given}
use Rattle.run_lines.proofs.summary.all_given.Goals as goal
use Rattle.run_lines.proofs.summary.all_given.Goals.{then-is_given, else-is_given}

abbrev gives : Event → Bool
gives e = is_given e.request e.answer

-- one more event, which gives a setpoint or does not
given_more : (history : List Event) (k : ℕ) (e : Event) → k < length history → slice_get history k ≡ Some e → gives e ≡ true → all_given (take (k + 1) history) ≡ all_given (take k history) + 1
given_more history k e lt at is = count_by_more_yes gives history k e lt (ap gives (get_or_from_slice_get history k e e at) ∙ is)

given_same : (history : List Event) (k : ℕ) (e : Event) → k < length history → slice_get history k ≡ Some e → gives e ≡ false → all_given (take (k + 1) history) ≡ all_given (take k history)
given_same history k e lt at is = count_by_more_no gives history k e lt (ap gives (get_or_from_slice_get history k e e at) ∙ is)

pub loop-k-preserved : goal.loop-k-preserved
loop-k-preserved c =
    let history = c.args.core.now.history in
    let inside = c.loop-k-test.true in
    let same = c.len-k-end.ensures.same in
    let lt : c.loop-k.k < length history = omega (arith, inside, same) in
    let few = c.loop-k.invariant.few in
    elim c.if-is_given.branch [
      | then-is_given w ↦
          let is = w.given-is in
          record {
            counted =
                is ∙ ap (λ (n : ℕ). n + 1) c.loop-k.invariant.counted
                ∙ sym (given_more history c.loop-k.k c.event.result lt c.event.ensures (sym c.is_given.ensures ∙ w.if-is_given.true));
            few = omega (arith, few, is);
          }
      | else-is_given w ↦
          let is = w.given-is in
          record {
            counted =
                is ∙ c.loop-k.invariant.counted
                ∙ sym (given_same history c.loop-k.k c.event.result lt c.event.ensures (sym c.is_given.ensures ∙ w.if-is_given.false));
            few = omega (arith, few, is);
          }
    ]
