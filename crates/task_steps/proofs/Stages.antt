-- What the stage of a task says of its phase.
use Rattle.std.proofs.Common.{◌≡◌, ◌≢◌, refl, ap, sym, ◌∙◌, Some}
use Rattle.std.specs.Prelude.{IsSome}
use Rattle.std.proofs.lemmas.Bool.{false≢true}
use Rattle.rapid_model.specs.declared.request.Request.{Request}
use Rattle.task_steps.specs.Phases as phases
use Rattle.task_steps.specs.Phases.{AsksItsEnd, Phase, phase_of}
use Rattle.task_steps.specs.Seen.{Seen, request_in}
use Rattle.task_steps.specs.Tasks.{seen_task}
use Rattle.task_steps.specs.declared.task.Task.TheInside.{Inside}
use Rattle.task_steps.specs.declared.requests.pending.Pending.{Pending}
use Rattle.task_steps.specs.declared.steps.stage.Stage.{Stage}
use Rattle.task_steps.specs.declared.steps.stage.Stage.TheVariants as stages

-- the request that is due is the last one
pub due_is : (stage : Stage) (asked : Request) (then : Pending) → AsksItsEnd stage asked → IsSome (request_in (phase_of stage asked then)) → request_in (phase_of stage asked then) ≡ Some asked
due_is stages.New asked then over some = absurd (false≢true some)
due_is stages.Going asked then over some = absurd (false≢true some)
due_is stages.Asking asked then over some = refl
due_is (stages.Over fate) asked then over some = ap (λ (request : Request). Some request) (sym over)

pub not_going : (stage : Stage) (asked : Request) (then : Pending) → stage ≢ stages.Going → phase_of stage asked then ≢ phases.Going
not_going stages.New asked then other = λ same. cc
not_going stages.Going asked then other = absurd (other refl)
not_going stages.Asking asked then other = λ same. cc
not_going (stages.Over fate) asked then other = λ same. cc

-- a task that has asked, and what it waits for
pub asks_with : (s : Seen) (inside : Inside) (then : Pending) → seen_task inside ≡ s → inside.stage ≡ stages.Asking → inside.then ≡ then → s.phase ≡ phases.Asking inside.asked then
asks_with s inside then is asking waits =
    sym (ap (λ (t : Seen). t.phase) is) ∙ ap (λ (stage : Stage). phase_of stage inside.asked inside.then) asking ∙ ap (λ (p : Pending). phases.Asking inside.asked p) waits

-- what a phase waits for
awaited : Phase → Pending → Pending
awaited (phases.Asking request then) other = then
awaited _ other = other

pub awaits : (phase : Phase) (request asked : Request) (then other : Pending) → phase ≡ phases.Asking request then → phase ≡ phases.Asking asked other → then ≡ other
unfolding awaited
awaits phase request asked then other one two = ap (λ (p : Phase). awaited p then) (sym one ∙ two)
