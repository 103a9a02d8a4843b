-- The boards on worked examples, in the example cell of cell_meaning: two tasks, A and B, whose arms are at 0, an input
-- that is off, an output that is on, two persistent nums, a meeting, and an input script of one step.
use Rattle.std.proofs.Common.{◌≡◌, true, false, List, [], ◌∷◌, ◌++◌, Some, None, refl}
use Rattle.std.specs.Prelude.{pos}
use Rattle.std.specs.List.{fold}
use Rattle.rapid_model.specs.declared.answer.Answer.TheVariants as answers
use Rattle.rapid_model.specs.declared.event.Event.{Event}
use Rattle.rapid_model.specs.declared.fate.Fate.TheVariants as fates
use Rattle.rapid_model.specs.declared.input_row.InputRow.{InputRow}
use Rattle.rapid_model.specs.declared.request.Request.TheVariants as requests
use Rattle.rapid_model.specs.declared.value.Value.TheVariants as values
use Rattle.rapid_model.specs.declared.watched.Watched.TheVariants as watched
use Rattle.rapid_model.specs.declared.zone_name.ZoneName.TheVariants as zones
use Rattle.cell_meaning.proofs.ExampleCell.{joints_at, cell, second, cleared, written, went}
use Rattle.cell_meaning.proofs.MoreEvents.{event}
use Rattle.cell_core.specs.Boards.{BoardData, boards_of, boards_with, change_on}
use Rattle.cell_core.specs.Reading.{can_go_on, is_passed, standing, fates_of}
use Rattle.cell_core.specs.Answering.{answer_on}
use Rattle.cell_core.specs.declared.change.Change.{Change}
use Rattle.cell_core.specs.declared.change.Change.TheVariants as changes

-- the boards after these events
abbrev after : List Event → BoardData
after events = fold (λ boards e. boards_with cell boards e) (boards_of cell) events

-- what one more event changes
abbrev change : List Event → Event → Change
change events e = change_on cell (after events) e.actor e.request e.answer

-- at first no arm has moved, no value is new, and no trap is due
first_look : answer_on (after []) 0 requests.Look ≡ answers.Go 0
first_look = refl

first_position : answer_on (after []) 0 requests.Position ≡ answers.At (joints_at (pos 0))
first_position = refl

-- a setpoint that was given moves its own task's arm; one that a zone stopped moves none
arm_moves : answer_on (after (went ∷ [])) 0 requests.Position ≡ answers.At (joints_at (pos 1000))
arm_moves = refl

other_arm_stays : answer_on (after (went ∷ [])) 1 requests.Position ≡ answers.At (joints_at (pos 0))
other_arm_stays = refl

stopped_stays : answer_on (after (event 0 (requests.Setpoint (joints_at (pos 1000))) (answers.Stopped (zones.Cell 0)) ∷ [])) 0 requests.Position ≡ answers.At (joints_at (pos 0))
stopped_stays = refl

-- any task reads what was written
output_cleared : answer_on (after (cleared ∷ [])) 0 (requests.ReadS 1) ≡ answers.Bit false
output_cleared = refl

element_written : answer_on (after (written ∷ [])) 0 (requests.ReadP 0 second) ≡ answers.Val (values.Num (pos 3000))
element_written = refl

-- a new value is a change; the same value, or a setpoint, is none
cleared_changes : change [] cleared ≡ changes.Value (watched.Signal 1 false)
cleared_changes = refl

written_changes : change [] written ≡ changes.Value (watched.Pers 0)
written_changes = refl

cleared_again : change (cleared ∷ []) cleared ≡ changes.Nothing
cleared_again = refl

written_again : change (written ∷ []) written ≡ changes.Nothing
written_again = refl

setpoint_changes_nothing : change [] went ≡ changes.Nothing
setpoint_changes_nothing = refl

-- a task sees the changes of others, and not its own
others_seen : answer_on (after (cleared ∷ cleared ∷ written ∷ [])) 0 requests.Look ≡ answers.Go 2
others_seen = refl

own_not_seen : answer_on (after (cleared ∷ written ∷ [])) 1 requests.Look ≡ answers.Go 0
own_not_seen = refl

-- the first task at a meeting of both waits, and its arrival counts once; the second meets it
abbrev arrived : Event
arrived = event 0 (requests.Arrive 0 3) answers.Apart

first_waits : answer_on (after []) 0 (requests.Arrive 0 3) ≡ answers.Apart
first_waits = refl

waits_still : answer_on (after (arrived ∷ [])) 0 (requests.Arrive 0 3) ≡ answers.Apart
waits_still = refl

second_meets : answer_on (after (arrived ∷ [])) 1 (requests.Arrive 0 3) ≡ answers.Met
second_meets = refl

arrival_changes : change [] arrived ≡ changes.Arrival
arrival_changes = refl

counts_once : change (arrived ∷ []) arrived ≡ changes.Nothing
counts_once = refl

-- task A orders a single interrupt on the output going off
abbrev watches : List Event
watches = event 0 (requests.Connect 0 7) (answers.Number 1) ∷ event 0 (requests.Order 1 (watched.Signal 1 false) true) answers.Ok ∷ []

trap_is_due : answer_on (after (watches ++ cleared ∷ [])) 0 requests.Look ≡ answers.Trap 1 7
trap_is_due = refl

not_of_b : answer_on (after (watches ++ cleared ∷ [])) 1 requests.Look ≡ answers.Go 0
not_of_b = refl

equal_write : answer_on (after (watches ++ event 1 (requests.WriteS 1 true) answers.Ok ∷ [])) 0 requests.Look ≡ answers.Go 0
equal_write = refl

-- a held task goes on after a change by another that it had not seen, or if a trap is due
abbrev held : Event
held = event 0 (requests.Hold 0) answers.Ok

holds : can_go_on (after (held ∷ [])) 0 ≡ false
holds = refl

goes_on : can_go_on (after (held ∷ cleared ∷ [])) 0 ≡ true
goes_on = refl

own_write : can_go_on (after (event 0 (requests.WriteS 1 false) answers.Ok ∷ held ∷ [])) 0 ≡ false
own_write = refl

seen_before : can_go_on (after (cleared ∷ event 0 (requests.Hold 1) answers.Ok ∷ [])) 0 ≡ false
seen_before = refl

own_trap : can_go_on (after (watches ++ event 0 (requests.WriteS 1 false) answers.Ok ∷ held ∷ [])) 0 ≡ true
own_trap = refl

-- this step waits until the output is off, task A was given a setpoint, and two events are counted
abbrev gated : InputRow
gated = record { signal = 0; value = true; when = Some (1, false); given = Some (0, 1); after = Some 2 }

no_signal : is_passed (after (went ∷ held ∷ [])) gated ≡ false
no_signal = refl

no_setpoint : is_passed (after (cleared ∷ held ∷ [])) gated ≡ false
no_setpoint = refl

one_counted : is_passed (after (event 2 (requests.Input 0) answers.Ok ∷ cleared ∷ [])) (record gated { given = None }) ≡ false
one_counted = refl

passes : is_passed (after (cleared ∷ went ∷ [])) gated ≡ true
passes = refl

-- a task that has ended stands with its fate; another is cut if the steps are spent, and otherwise held
told_stands : standing true (Some fates.Done) ≡ fates.Done
told_stands = refl

untold_is_cut : standing true None ≡ fates.Cut
untold_is_cut = refl

untold_is_held : standing false None ≡ fates.Held
untold_is_held = refl

both_stand : fates_of true 2 (after (event 0 (requests.End fates.Exit) answers.Ok ∷ [])).actors ≡ fates.Exit ∷ fates.Cut ∷ []
both_stand = refl
