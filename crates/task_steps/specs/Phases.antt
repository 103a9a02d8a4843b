-- How far a task has come, as contracts see it.
use Rattle.rapid_model.specs.declared.fate.Fate.{Fate}
use Rattle.rapid_model.specs.declared.request.Request.{Request}
use Rattle.rapid_model.specs.declared.request.Request.TheVariants.{End}
use Rattle.std.specs.Prelude.{◌≡◌, ⊤}
use Rattle.task_steps.specs.declared.requests.pending.Pending.{Pending}
use Rattle.task_steps.specs.declared.steps.stage.Stage.{Stage}
use Rattle.task_steps.specs.declared.steps.stage.Stage.TheVariants as stages

-- it has not begun; it goes on with the operation at its place; it has asked a request, and goes on with the answer; or it
-- has ended
pub data Phase : Type 0 where
  New : Phase
  Going : Phase
  Asking : Request → Pending → Phase
  Over : Fate → Phase

-- the phase of a task at this stage, whose last request was this one, and what it does with the answer
abbrev pub phase_of : Stage → Request → Pending → Phase
phase_of stages.New asked then = New
phase_of stages.Going asked then = Going
phase_of stages.Asking asked then = Asking asked then
phase_of (stages.Over fate) asked then = Over fate

-- a task that has ended has asked its End
abbrev pub AsksItsEnd : Stage → Request → Type 0
AsksItsEnd (stages.Over fate) asked = asked ≡ End fate
AsksItsEnd _ asked = ⊤
