-- Meetings of tasks (RAPID Instructions: WaitSyncTask): each task's state at each of them.
use Rattle.std.specs.Prelude.{◌≡◌, ℕ, ◌+◌, ◌*◌, ◌/◌, ◌%◌, ◌^◌, ◌<◌, Bool, true, false, List, length, replicate, slice_index_or, slice_set, if◌then◌else◌, ◌==◌, IsTrue}
use Rattle.sync_tasks.specs.declared.stand.Stand.{Stand}

-- how many tasks and meetings there are, and the state of each task at each meeting, task by task
pub record MeetingsData : Type 0 where
  pub tasks : ℕ
  pub meetings : ℕ
  pub stands : List Stand

-- each task has a state at each meeting
pub record IsEven (m : MeetingsData) : Type 0 where
  pub stands : length m.stands ≡ m.tasks * m.meetings

abbrev pub at_start : Stand
at_start = record { passed = 0; waits = false }

-- no task has come to any meeting
abbrev pub before_all : ℕ → ℕ → MeetingsData
before_all tasks meetings = record { tasks = tasks; meetings = meetings; stands = replicate (tasks * meetings) at_start }

-- the state of a task at a meeting
abbrev pub stand_at : MeetingsData → ℕ → ℕ → Stand
stand_at m task meeting = slice_index_or m.stands (task * m.meetings + meeting) at_start

-- the same with another state of a task at a meeting
abbrev pub with_stand : MeetingsData → ℕ → ℕ → Stand → MeetingsData
with_stand m task meeting s = record m { stands = slice_set m.stands (task * m.meetings + meeting) s }

-- how often a task came: as often as it went on, and once more if it waits
abbrev pub arrivals : Stand → ℕ
arrivals s = if s.waits then s.passed + 1 else s.passed

-- the task is in the set, bit k for task k
abbrev pub is_listed : ℕ → ℕ → Bool
is_listed tasks task = tasks / 2 ^ task % 2 == 1

-- the task has come and waits; if it was already waiting, it has not come again
abbrev pub come : MeetingsData → ℕ → ℕ → MeetingsData
come m task meeting = with_stand m task meeting (record { passed = (stand_at m task meeting).passed; waits = true })

-- with this arrival every listed task has come once more than the task went on
pub record Meets (m : MeetingsData) (task meeting tasks : ℕ) : Type 0 where
  pub all : (k : ℕ) → k < m.tasks → IsTrue (is_listed tasks k) → (stand_at m task meeting).passed < arrivals (stand_at (come m task meeting) k meeting)

-- the task went on
abbrev pub gone_on : MeetingsData → ℕ → ℕ → MeetingsData
gone_on m task meeting = with_stand m task meeting (record { passed = (stand_at m task meeting).passed + 1; waits = false })

-- the state of the tasks after an arrival, by whether it met the others
abbrev pub after_arrival : Bool → MeetingsData → ℕ → ℕ → MeetingsData
after_arrival met m task meeting = if met then gone_on m task meeting else come m task meeting
