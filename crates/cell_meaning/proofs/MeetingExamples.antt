-- Meetings on worked examples.
use Rattle.std.proofs.Common.{◌≡◌, ℕ, true, false, List, [], ◌∷◌, refl}
use Rattle.rapid_model.specs.declared.answer.Answer.{Answer}
use Rattle.rapid_model.specs.declared.answer.Answer.TheVariants as answers
use Rattle.rapid_model.specs.declared.event.Event.{Event}
use Rattle.rapid_model.specs.declared.request.Request.TheVariants as requests
use Rattle.cell_meaning.specs.Answers.{answer_after}
use Rattle.cell_meaning.specs.Changes.{is_change}
use Rattle.cell_meaning.specs.Meetings.{is_waiting}
use Rattle.cell_meaning.proofs.ExampleCell.{cell}
use Rattle.cell_meaning.proofs.MoreEvents.{event}

-- an arrival at the meeting of both tasks, with this answer
abbrev arrival : ℕ → Answer → Event
arrival task answer = event task (requests.Arrive 0 3) answer

abbrev arrives : List Event → ℕ → Answer
arrives history task = answer_after cell history task (requests.Arrive 0 3)

first_waits : arrives [] 0 ≡ answers.Apart
first_waits = refl

second_meets : arrives (arrival 0 answers.Apart ∷ []) 1 ≡ answers.Met
second_meets = refl

first_goes_on : arrives (arrival 0 answers.Apart ∷ arrival 1 answers.Met ∷ []) 0 ≡ answers.Met
first_goes_on = refl

-- a task that waits has come once, however often it asks
comes_once : arrives (arrival 0 answers.Apart ∷ arrival 0 answers.Apart ∷ arrival 1 answers.Met ∷ []) 1 ≡ answers.Apart
comes_once = refl

-- next time both have to come again
next_time : arrives (arrival 0 answers.Apart ∷ arrival 1 answers.Met ∷ arrival 0 answers.Met ∷ []) 0 ≡ answers.Apart
next_time = refl

waits : is_waiting cell (arrival 0 answers.Apart ∷ []) 0 0 ≡ true
waits = refl

met : is_waiting cell (arrival 0 answers.Apart ∷ arrival 0 answers.Met ∷ []) 0 0 ≡ false
met = refl

-- the first arrival is a change; an arrival of a task that waits is not
new_arrival : is_change cell [] (arrival 0 answers.Apart) ≡ true
new_arrival = refl

old_arrival : is_change cell (arrival 0 answers.Apart ∷ []) (arrival 0 answers.Apart) ≡ false
old_arrival = refl
