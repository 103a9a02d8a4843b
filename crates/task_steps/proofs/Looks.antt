-- Looks and waits.
use Rattle.std.proofs.Common.{◌≡◌, refl, sym, ap, ◌∙◌, subst, ℕ, Some}
use Rattle.rapid_model.specs.declared.request.Request.TheVariants.{Look, Hold}
use Rattle.rapid_meaning.specs.Answering.{performed}
use Rattle.rapid_meaning.specs.Data.{Data, seen_in}
use Rattle.rapid_meaning.specs.Doings.{after}
use Rattle.stack_code.specs.CodeData.{CodeData}
use Rattle.stack_code.specs.Placed.{Own, own_of, owner_at}
use Rattle.stack_code.specs.Steps.{holds, looks}
use Rattle.stack_code.specs.declared.owner.Owner.{Owner}
use Rattle.task_steps.specs.Alike.{Alike, with_stack}
use Rattle.task_steps.specs.Doing.{effect, here_of}
use Rattle.task_steps.specs.Points.{Point}
use Rattle.task_steps.specs.Seen.{Seen}
use Rattle.task_steps.specs.declared.steps.done.Done.TheVariants as dones
use Rattle.task_steps.proofs.Within.{own_is}
use Rattle.task_steps.specs.declared.requests.pending.Pending.TheVariants as pendings

-- a Look asks, and its place is that of its statement
pub look_asks : (code : CodeData) (c : Point) (d : Data) (owner : Owner) → owner_at code.owners c.pc ≡ Some owner
    → Alike code (looks (here_of code c)) d (effect (here_of code c) (dones.Ask Look pendings.Looked)) (record d { place = Some (own_of owner).at })
unfolding performed after
look_asks code c d owner there =
    subst (λ (own : Own). Alike code (looks (here_of code c)) d (effect (here_of code c) (dones.Ask Look pendings.Looked)) (record d { place = Some own.at })) (own_is code c.pc owner there)
    (record { same = λ left. refl })

-- a wait that is not ready holds with what its own Look found
pub wait_holds : (code : CodeData) (s0 s : Seen) (to seen : ℕ) → s ≡ with_stack s.conf.stack s0 → seen ≡ seen_in s.data'.frames
    → Alike code (holds (here_of code s0.conf) to s.conf.stack) s0.data' (effect (here_of code s.conf) (dones.Ask (Hold seen) (pendings.Held to))) s.data'
unfolding performed after
wait_holds code s0 s to seen same confirmed =
    let first : seen ≡ seen_in s0.data'.frames = confirmed ∙ ap (λ (t : Seen). seen_in t.data'.frames) same in
    subst (λ (t : Seen). Alike code (holds (here_of code s0.conf) to s.conf.stack) s0.data' (effect (here_of code t.conf) (dones.Ask (Hold seen) (pendings.Held to))) t.data') (sym same)
    (rw first (record { same = λ left. refl }))
