use Rattle.std.proofs.Common.{◌<◌, ℕ, IsTrue}
use Rattle.sync_tasks.specs.Meetings.{arrivals, is_listed, stand_at}
use Rattle.sync_tasks.proofs.meetings.Meetings.all_come.Given as goal

-- every listed task so far has come that often
abbrev pub invariant-loop-task : goal.invariant-loop-task
invariant-loop-task l = (k : ℕ) → k < l.task → IsTrue (is_listed l.tasks k) → l.times < arrivals (stand_at l.self k l.meeting)
