-- The arrivals of a task at a meeting, from the events of a history alone (RAPID Instructions: WaitSyncTask).
use Rattle.std.specs.Prelude.{ℕ, Bool, false, ◌==◌, List}
use Rattle.rapid_model.specs.declared.answer.Answer.{Answer}
use Rattle.rapid_model.specs.declared.answer.Answer.TheVariants as answers
use Rattle.rapid_model.specs.declared.event.Event.{Event}
use Rattle.rapid_model.specs.declared.request.Request.{Request}
use Rattle.rapid_model.specs.declared.request.Request.TheVariants.{Arrive}
use Rattle.cell_meaning.specs.Since.{IsEvent}

-- the task arrives and does not meet the others
abbrev pub ComesApart : ℕ → ℕ → List Event → Event → Type 0
ComesApart task meeting before e = (tasks : ℕ) × IsEvent task (Arrive meeting tasks) answers.Apart e

-- it arrives, whatever the answer
abbrev pub Comes : ℕ → ℕ → List Event → Event → Type 0
Comes task meeting before e = (tasks : ℕ) × (answer : Answer) × IsEvent task (Arrive meeting tasks) answer e

-- it arrived at this meeting and met the others
abbrev pub is_met_at : ℕ → Request → Answer → Bool
is_met_at meeting (Arrive here tasks) answers.Met = here == meeting
is_met_at meeting _ _ = false
