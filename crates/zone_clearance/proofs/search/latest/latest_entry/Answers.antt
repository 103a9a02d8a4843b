use Rattle.std.proofs.Common.{◌<◌, ◌≤◌, ◌+◌, length, sym, ◌∙◌, subst, arith}
use Rattle.std.proofs.lemmas.Bool.{false≢true}
use Rattle.zone_clearance.specs.declared.place.Place.{Place}
use Rattle.zone_clearance.proofs.Arriving.{IsLatestSoFar, always_enters, latest_all, latest_at_first, latest_kept, latest_moved, latest_skip, line_read}
use Rattle.zone_clearance.proofs.search.latest.latest_entry.Goals as goal
use Rattle.zone_clearance.proofs.search.latest.latest_entry.Goals.{in-Some+in-Some-entry+then-is_before, in-Some+in-Some-entry+else-is_before, in-Some+in_default-entry, in_default}

pub loop-number-init : goal.loop-number-init
loop-number-init c = record { so_far = latest_at_first c.args.lines.now c.args.level _ _ c.start-place.ensures.top c.start-place.ensures.bottom c.requires }

pub loop-number-preserved : goal.loop-number-preserved
loop-number-preserved c =
    let lines = c.args.lines.now in
    let level = c.args.level in
    let number = c.loop-number.number in
    let place = c.loop-number.place in
    let so_far = c.loop-number.invariant.so_far in
    let below : number < length lines = omega arith in
    elim c.match-lines-number.branch [
      | in-Some+in-Some-entry+then-is_before w ↦ record {
        so_far =
            subst (λ (p : Place). IsLatestSoFar lines level (number + 1) p.top p.bottom) (sym w.place-is)
            (latest_moved lines level number place.top place.bottom w.in-Some-entry.entry w.in-Some.line c.requires (line_read lines number _ _ below w.in-Some.is) w.in-Some-entry.ensures (w.is_before.ensures.0 w.if-is_before.true) so_far);
      }
      | in-Some+in-Some-entry+else-is_before w ↦ record {
        so_far =
            subst (λ (p : Place). IsLatestSoFar lines level (number + 1) p.top p.bottom) (sym w.place-is)
            (latest_kept lines level number place.top place.bottom w.in-Some-entry.entry w.in-Some.line (line_read lines number _ _ below w.in-Some.is) w.in-Some-entry.ensures
            (λ later. false≢true (sym w.if-is_before.false ∙ w.is_before.ensures.1 later)) so_far);
      }
      | in-Some+in_default-entry w ↦ absurd (always_enters lines level number w.in-Some.line c.requires (line_read lines number _ _ below w.in-Some.is) w.in_default-entry.ensures)
      | in_default w ↦ record {
        so_far =
            subst (λ (p : Place). IsLatestSoFar lines level (number + 1) p.top p.bottom) (sym w.place-is)
            (latest_skip lines level number place.top place.bottom (line_read lines number _ _ below w.in_default.is) so_far);
      }
    ]

pub returns : goal.returns
returns c =
    let all : length c.args.lines.now ≤ c.loop-number.number = omega arith in
    latest_all c.args.lines.now c.args.level c.loop-number.number c.loop-number.place all c.loop-number.invariant.so_far
