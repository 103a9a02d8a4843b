-- Machines during a run: each has asked what its task asks next.
use Rattle.std.specs.Prelude.{◌≡◌, ℕ, List, Option, Some, IsSome, slice_get}
use Rattle.rapid_model.specs.Own.{part_of}
use Rattle.rapid_model.specs.declared.answer.Answer.{Answer}
use Rattle.rapid_model.specs.declared.event.Event.{Event}
use Rattle.rapid_model.specs.declared.request.Request.{Request}
use Rattle.cell_crew.specs.Crew.{answers_before_end}

-- the machine of a task after the task's own events: a request is due, which stays the End once the task has ended
pub record UnderWay {M : Type 0} (stands_for : M → List Answer → Type 0) (due : M → Option Request) (m : M) (mine : List Event) : Type 0 where
  pub stands : stands_for m (answers_before_end mine)
  pub asked : IsSome (due m)

-- each machine is under way for its task after the history
pub record AreUnderWay {M : Type 0} (stands_for : M → List Answer → Type 0) (due : M → Option Request) (machines : List M) (history : List Event) : Type 0 where
  pub each : (task : ℕ) (m : M) → slice_get machines task ≡ Some m → UnderWay stands_for due m (part_of task history)
