use Rattle.std.proofs.Common.{refl, sym, subst}
use Rattle.typed_trees.specs.declared.datum.Root.{Root}
use Rattle.rapid_meaning.specs.Doings.{after}
use Rattle.task_steps.specs.Doing.{here_of}
use Rattle.task_steps.specs.Own.{IsOwn}
use Rattle.task_steps.proofs.Storings.{load_own}
use Rattle.task_steps.proofs.task.Task.load_at.Goals as goal

pub returns-in-Slot : goal.returns-in-Slot
returns-in-Slot c = λ code.
    let s = c.args.self.now in
    let own : IsOwn c.args.place.root = subst (λ (r : Root). IsOwn r) (sym c.in-Slot.is) tt in
    rw c.loaded.ensures (load_own code (here_of code s.conf) s.data' c.args.place.root c.args.place.part c.own_part.result own c.own_part.ensures)

pub returns-in-Frame : goal.returns-in-Frame
returns-in-Frame c = λ code.
    let s = c.args.self.now in
    let own : IsOwn c.args.place.root = subst (λ (r : Root). IsOwn r) (sym c.in-Frame.is) tt in
    rw c.loaded-in-Frame.ensures (load_own code (here_of code s.conf) s.data' c.args.place.root c.args.place.part c.own_part-in-Frame.result own c.own_part-in-Frame.ensures)

pub returns-in-Pers : goal.returns-in-Pers
unfolding after
returns-in-Pers c = λ code. rw c.in-Pers.is (record { same = λ left. refl })
