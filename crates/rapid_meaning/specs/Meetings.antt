-- Meetings of tasks (RAPID Instructions: WaitSyncTask).
use Rattle.std.specs.Prelude.{ℕ, zero, suc, ◌+◌, ◌/◌, ◌%◌, ◌^◌, ◌==◌, nat_lt, Bool, true, false, List, Option, None, Some, bytes_eq, position, if◌then◌else◌}
use Rattle.rapid_limits.specs.declared.TheConstants.{MOST_TASKS}
use Rattle.rapid_model.specs.declared.answer.Answer.{Answer}
use Rattle.rapid_model.specs.declared.answer.Answer.TheVariants as answers
use Rattle.rapid_model.specs.declared.fate.Fault.TheVariants.{TaskName}
use Rattle.rapid_model.specs.declared.request.Request.TheVariants.{Arrive}
use Rattle.typed_trees.specs.declared.datum.Lvalue.{Lvalue}
use Rattle.rapid_meaning.specs.Doings.{Doing, Gives, Misfit, Asks, ◌>>=◌, fault}
use Rattle.rapid_meaning.specs.Places.{at_element, read_value}
use Rattle.rapid_meaning.specs.Values.{text_in}

-- a set of tasks with one more; bit k stands for task k
abbrev pub with_task : ℕ → ℕ → ℕ
with_task task set = if (set / 2 ^ task) % 2 == 1 then set else set + 2 ^ task

-- the task of a name that was found; a cell has at most sixteen
abbrev pub task_or_fault : Option ℕ → Doing ℕ
task_or_fault None = fault TaskName
task_or_fault (Some task) = if nat_lt task MOST_TASKS then Gives task else Misfit

-- adds to a set the tasks that `left` elements of a list name, from element `number`; each is read and looked up before
-- the next is read
unfoldable pub with_tasks : List (List ℕ) → Lvalue → ℕ → ℕ → ℕ → Doing ℕ
with_tasks names list zero number set = Gives set
with_tasks names list (suc left) number set = do
  place ← at_element list number
  v ← read_value place
  name ← text_in v
  task ← task_or_fault (position (bytes_eq name) names)
  with_tasks names list left (number + 1) (with_task task set)

abbrev pub tasks_in : List (List ℕ) → Lvalue → Option ℕ → Doing ℕ
tasks_in names list None = Misfit
tasks_in names list (Some len) = with_tasks names list len 1 0

abbrev pub when_arrived : Answer → Doing Bool
when_arrived answers.Met = Gives true
when_arrived answers.Apart = Gives false
when_arrived _ = Misfit

abbrev pub arrive : ℕ → ℕ → Doing Bool
arrive meeting tasks = Asks (Arrive meeting tasks) when_arrived
