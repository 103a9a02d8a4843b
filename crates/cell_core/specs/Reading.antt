-- What is read off the boards instead of the history.
use Rattle.std.specs.Prelude.{ℕ, zero, suc, Bool, true, not, ◌&&◌, ◌||◌, nat_le, nat_lt, List, [], ◌∷◌, ◌++◌, Option, Some, None, is_some, slice_index_or, false, if◌then◌else◌}
use Rattle.rapid_model.specs.Limits.{holds_where_there}
use Rattle.rapid_model.specs.Truths.{same_truth}
use Rattle.rapid_model.specs.declared.fate.Fate.{Fate}
use Rattle.rapid_model.specs.declared.fate.Fate.TheVariants.{Held, Cut}
use Rattle.rapid_model.specs.declared.input_row.InputRow.{InputRow}
use Rattle.trap_dispatch.specs.Tasks.{is_due, look_answer}
use Rattle.trap_dispatch.specs.Traps.{task_at}
use Rattle.cell_core.specs.Actors.{actor_at}
use Rattle.cell_core.specs.Boards.{BoardData}
use Rattle.cell_core.specs.Answering.{made_by_others}
use Rattle.cell_core.specs.declared.actor.Actor.{Actor}

-- each of this many tasks, from 0, has ended
abbrev pub all_have_fates : ℕ → List Actor → Bool
all_have_fates zero actors = true
all_have_fates (suc tasks) actors = all_have_fates tasks actors && is_some (actor_at actors tasks).end

-- others have made changes since the task's last Hold, or a trap is due
abbrev pub can_go_on : BoardData → ℕ → Bool
can_go_on boards task = nat_lt (actor_at boards.actors task).seen (made_by_others boards task) || is_due (look_answer (task_at boards.traps task))

-- each of this many tasks, from 0, has ended, or is held and cannot go on
abbrev pub all_stand : ℕ → BoardData → Bool
all_stand zero boards = true
all_stand (suc tasks) boards =
    all_stand tasks boards && (is_some (actor_at boards.actors tasks).end || ((actor_at boards.actors tasks).held && not (can_go_on boards tasks)))

-- every condition in the gate holds
abbrev pub is_passed : BoardData → InputRow → Bool
is_passed boards row =
    holds_where_there (λ w. same_truth (slice_index_or boards.signals w.0 false) w.1) row.when
    && holds_where_there (λ g. nat_le g.1 (actor_at boards.actors g.0).given) row.given
    && holds_where_there (λ count. nat_le count boards.counted) row.after

-- how a task with this end stands, given whether the steps are spent
abbrev pub standing : Bool → Option Fate → Fate
standing spent (Some fate) = fate
standing spent None = if spent then Cut else Held

-- how each of this many tasks stands
abbrev pub fates_of : Bool → ℕ → List Actor → List Fate
fates_of spent zero actors = []
fates_of spent (suc tasks) actors = fates_of spent tasks actors ++ standing spent (actor_at actors tasks).end ∷ []
