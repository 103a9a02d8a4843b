-- Waits, inputs and stalled cells on worked examples.
use Rattle.std.proofs.Common.{◌≡◌, true, false, [], ◌∷◌, Some, None, refl}
use Rattle.rapid_model.specs.CellData.{CellData}
use Rattle.rapid_model.specs.declared.answer.Answer.TheVariants as answers
use Rattle.rapid_model.specs.declared.event.Event.{Event}
use Rattle.rapid_model.specs.declared.fate.Fate.TheVariants as fates
use Rattle.rapid_model.specs.declared.request.Request.TheVariants as requests
use Rattle.rapid_model.specs.declared.zone_name.ZoneName.TheVariants.{Own}
use Rattle.cell_meaning.specs.Answers.{is_enabled}
use Rattle.cell_meaning.specs.Stalled.{is_stalled}
use Rattle.cell_meaning.proofs.ExampleCell.{cell, cleared, went}
use Rattle.cell_meaning.proofs.MoreEvents.{event}

-- task A waits, and has seen no change
abbrev held : Event
held = event 0 (requests.Hold 0) answers.Ok

abbrev fed : Event
fed = event 2 (requests.Input 0) answers.Ok

abbrev ended : Event
ended = event 1 (requests.End fates.Done) answers.Ok

waits : is_enabled cell (held ∷ []) 0 requests.Rise ≡ false
waits = refl

rises : is_enabled cell (held ∷ cleared ∷ []) 0 requests.Rise ≡ true
rises = refl

-- a change that the task had seen before it was held does not wake it up
seen : is_enabled cell (cleared ∷ event 0 (requests.Hold 1) answers.Ok ∷ []) 0 requests.Rise ≡ false
seen = refl

-- a step without a gate is open at once, and is done once
open_at_once : is_enabled cell [] 2 (requests.Input 0) ≡ true
open_at_once = refl

done_once : is_enabled cell (fed ∷ []) 2 (requests.Input 0) ≡ false
done_once = refl

none_after_end : is_enabled cell (ended ∷ event 0 (requests.End fates.Done) answers.Ok ∷ []) 2 (requests.Input 0) ≡ false
none_after_end = refl

-- the step waits for the output to be cleared, for a setpoint of task A, and for two counted events
abbrev gated : CellData
gated = record cell { inputs = record { signal = 0; value = true; when = Some (1, false); given = Some (0, 1); after = Some 2 } ∷ [] }

no_signal : is_enabled gated (went ∷ held ∷ []) 2 (requests.Input 0) ≡ false
no_signal = refl

no_setpoint : is_enabled gated (cleared ∷ held ∷ []) 2 (requests.Input 0) ≡ false
no_setpoint = refl

one_event : is_enabled gated (cleared ∷ []) 2 (requests.Input 0) ≡ false
one_event = refl

all_hold : is_enabled gated (cleared ∷ went ∷ []) 2 (requests.Input 0) ≡ true
all_hold = refl

-- A waits, B has ended, and the input was given before A looked; until then the cell was not stalled
stalls : is_stalled cell (fed ∷ event 0 (requests.Hold 1) answers.Ok ∷ ended ∷ []) ≡ true
stalls = refl

input_left : is_stalled cell (held ∷ ended ∷ []) ≡ false
input_left = refl

one_rises : is_stalled cell (held ∷ fed ∷ ended ∷ []) ≡ false
one_rises = refl

-- of four steps three are counted, then all
last_step : is_enabled cell (cleared ∷ went ∷ cleared ∷ []) 2 (requests.Input 0) ≡ true
last_step = refl

no_step_left : is_enabled cell (cleared ∷ went ∷ cleared ∷ went ∷ []) 2 (requests.Input 0) ≡ false
no_step_left = refl

-- a second step of the script waits for two counted events: neither an input nor an End is one
abbrev twice : CellData
twice = record cell { inputs = record { signal = 0; value = true; when = None; given = None; after = None } ∷ record { signal = 0; value = false; when = None; given = None; after = Some 2 } ∷ [] }

uncounted : is_enabled twice (fed ∷ ended ∷ cleared ∷ []) 2 (requests.Input 1) ≡ false
uncounted = refl

two_counted : is_enabled twice (fed ∷ ended ∷ cleared ∷ went ∷ []) 2 (requests.Input 1) ≡ true
two_counted = refl

-- a setpoint that a zone stopped was not given
abbrev stopped : Event
stopped = record went { answer = answers.Stopped (Own 1) }

not_given : is_enabled gated (cleared ∷ stopped ∷ []) 2 (requests.Input 0) ≡ false
not_given = refl
