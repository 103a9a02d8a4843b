-- How the tasks stand after an arrival, stated twice.
use Rattle.std.proofs.Common.{◌≡◌, ℕ, ◌+◌, ◌*◌, Bool, true, false, if◌then◌else◌, List, ap, refl}
use Rattle.std.proofs.lemmas.List.{set-set}
use Rattle.sync_tasks.specs.declared.stand.Stand.{Stand}
use Rattle.sync_tasks.specs.Meetings.{MeetingsData, after_arrival, come, stand_at, with_stand}

pub settled : (met : Bool) (m : MeetingsData) (task meeting : ℕ) →
    (if met then with_stand (come m task meeting) task meeting (record { passed = (stand_at m task meeting).passed + 1; waits = false }) else come m task meeting)
    ≡ after_arrival met m task meeting
settled true m task meeting = ap (λ (s : List Stand). record m { stands = s }) (set-set m.stands (task * m.meetings + meeting) _ _)
settled false m task meeting = refl
