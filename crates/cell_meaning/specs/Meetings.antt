-- How the tasks stand at their meetings after a history (RAPID Instructions: WaitSyncTask).
use Rattle.std.specs.Prelude.{ℕ, Bool, not, ◌||◌, nat_lt, List, length}
use Rattle.std.specs.List.{fold, list_all, range_with_len}
use Rattle.rapid_model.specs.CellData.{CellData}
use Rattle.rapid_model.specs.declared.answer.Answer.{Answer}
use Rattle.rapid_model.specs.declared.answer.Answer.TheVariants as answers
use Rattle.rapid_model.specs.declared.event.Event.{Event}
use Rattle.rapid_model.specs.declared.request.Request.{Request}
use Rattle.rapid_model.specs.declared.request.Request.TheVariants.{Arrive}
use Rattle.sync_tasks.specs.Meetings.{MeetingsData, before_all, stand_at, arrivals, is_listed, come, gone_on}

-- the states after an event of a task, from those before it
abbrev pub stands_with : MeetingsData → ℕ → Request → Answer → MeetingsData
stands_with stands task (Arrive meeting tasks) answers.Met = gone_on stands task meeting
stands_with stands task (Arrive meeting tasks) answers.Apart = come stands task meeting
stands_with stands task _ _ = stands

abbrev pub stands_after : CellData → List Event → MeetingsData
stands_after cell history = fold (λ stands e. stands_with stands e.actor e.request e.answer) (before_all (length cell.tasks) (length cell.meetings)) history

-- the task waits at the meeting: its last arrival there was answered Apart
abbrev pub is_waiting : CellData → List Event → ℕ → ℕ → Bool
is_waiting cell history task meeting = (stand_at (stands_after cell history) task meeting).waits

-- With the task's arrival each listed task has come more often than the task went on. The task itself always has.
abbrev pub meets : MeetingsData → ℕ → ℕ → ℕ → Bool
meets stands task meeting tasks =
    list_all (λ k. not (is_listed tasks k) || nat_lt (stand_at stands task meeting).passed (arrivals (stand_at (come stands task meeting) k meeting))) (range_with_len 0 stands.tasks)

abbrev pub is_met : CellData → List Event → ℕ → ℕ → ℕ → Bool
is_met cell history task meeting tasks = meets (stands_after cell history) task meeting tasks
