use Rattle.std.proofs.Common.{◌≡◌, ℕ, ◌+◌, ◌<◌, ◌≤◌, List, length, get_or, drop, Option, Some, None, refl, sym, ◌∙◌, arith, rules}
use Rattle.std.proofs.lemmas.List.{at_drop_all, at_drop_more}
use Rattle.rapid_model.specs.declared.fate.Fault.{Fault}
use Rattle.rapid_model.specs.declared.fate.Fault.TheVariants.{NumRange}
use Rattle.history_text.specs.EventReading.{named_at}
use Rattle.history_text.specs.Lines.{fault_name}
use Rattle.history_text.specs.Reading.{after_word, or_else}
use Rattle.history_text.proofs.fate_reading.named_at.Goals as goal

turn : (faults : List Fault) (i : ℕ) (text : List ℕ) → i < length faults
    → named_at (drop i faults) text ≡ or_else (after_word (fault_name (get_or faults i NumRange)) text) (λ rest. Some (get_or faults i NumRange, rest)) (named_at (drop (i + 1) faults) text)
unfolding named_at
turn faults i text less = at_drop_more (λ fs. named_at fs text) faults i NumRange less

end : (faults : List Fault) (i : ℕ) (text : List ℕ) → length faults ≤ i → ◌≡◌ {A = Option _} None (named_at (drop i faults) text)
unfolding named_at
end faults i text past = sym (at_drop_all (λ fs. named_at fs text) faults i past)

pub returns-in-Some : goal.returns-in-Some
returns-in-Some c =
    let there : after_word (fault_name (get_or c.args.faults.now c.loop-fault.fault-index NumRange)) c.args.text.now ≡ Some c.in-Some.rest.now = search rules in
    let step = turn c.args.faults.now c.loop-fault.fault-index c.args.text.now (omega arith) in
    rw (c.loop-fault.invariant, step, there) refl

pub loop-fault-preserved : goal.loop-fault-preserved
loop-fault-preserved c =
    let none : after_word (fault_name (get_or c.args.faults.now c.loop-fault.fault-index NumRange)) c.args.text.now ≡ None = search rules in
    let step = turn c.args.faults.now c.loop-fault.fault-index c.args.text.now (omega arith) in
    c.loop-fault.invariant ∙ rw none at step

pub returns : goal.returns
returns c = end c.args.faults.now c.loop-fault.fault-index c.args.text.now (omega arith) ∙ sym c.loop-fault.invariant
