use Rattle.std.proofs.Common.{◌<◌, ◌≡◌, ◌+◌, ℕ, length, Option, refl, sym, ◌∙◌, subst, arith}
use Rattle.std.proofs.lemmas.Bool.{false≢true}
use Rattle.zone_clearance.specs.declared.search.arrival.Arrival.{Arrival}
use Rattle.zone_clearance.specs.Arrivals.{IsArrival}
use Rattle.zone_clearance.proofs.Arriving.{arrival_at_first, arrival_kept, arrival_new, arrival_skip, line_read, never_enters, never_there}
use Rattle.zone_clearance.proofs.search.earliest.earliest_entry.Goals as goal
use Rattle.zone_clearance.proofs.search.earliest.earliest_entry.Goals.{in-Some+in-Some-entry+then-is_earlier, in-Some+in-Some-entry+else-is_earlier, in-Some+in_default-entry, in_default}

pub loop-number-init : goal.loop-number-init
loop-number-init c = record { so_far = arrival_at_first c.args.lines.now c.args.level }

pub loop-number-preserved : goal.loop-number-preserved
loop-number-preserved c =
    let lines = c.args.lines.now in
    let level = c.args.level in
    let number = c.loop-number.number in
    let arrival = c.loop-number.arrival in
    let so_far = c.loop-number.invariant.so_far in
    let below : number < length lines = omega arith in
    elim c.match-lines-number.branch [
      | in-Some+in-Some-entry+then-is_earlier w ↦ record {
        so_far =
            subst (λ (o : Option Arrival). IsArrival lines level (number + 1) o) (sym w.arrival-is)
            (arrival_new lines level number arrival _ w.in-Some.line (line_read lines number _ _ below w.in-Some.is) w.in-Some-entry.ensures refl (w.is_earlier.ensures.0 w.if-is_earlier.true) so_far);
      }
      | in-Some+in-Some-entry+else-is_earlier w ↦ record {
        so_far =
            subst (λ (o : Option Arrival). IsArrival lines level (number + 1) o) (sym w.arrival-is)
            (arrival_kept lines level number arrival w.in-Some-entry.place w.in-Some.line (line_read lines number _ _ below w.in-Some.is) w.in-Some-entry.ensures
            (λ sooner. false≢true (sym w.if-is_earlier.false ∙ w.is_earlier.ensures.1 sooner)) so_far);
      }
      | in-Some+in_default-entry w ↦ record {
        so_far =
            subst (λ (o : Option Arrival). IsArrival lines level (number + 1) o) (sym w.arrival-is)
            (arrival_skip lines level number arrival (never_enters lines level number w.in-Some.line (line_read lines number _ _ below w.in-Some.is) w.in_default-entry.ensures) so_far);
      }
      | in_default w ↦ record {
        so_far =
            subst (λ (o : Option Arrival). IsArrival lines level (number + 1) o) (sym w.arrival-is)
            (arrival_skip lines level number arrival (never_there lines level number (line_read lines number _ _ below w.in_default.is)) so_far);
      }
    ]

pub returns : goal.returns
returns c =
    let all : c.loop-number.number ≡ 25 = omega arith in
    subst (λ (count : ℕ). IsArrival c.args.lines.now c.args.level count c.loop-number.arrival) all c.loop-number.invariant.so_far
