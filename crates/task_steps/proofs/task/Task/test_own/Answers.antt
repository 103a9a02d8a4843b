use Rattle.std.proofs.Common.{refl}
use Rattle.rapid_meaning.specs.Doings.{Misfit, after}
use Rattle.task_steps.specs.Doing.{came, here_of}
use Rattle.task_steps.proofs.Storings.{test_own}
use Rattle.task_steps.proofs.task.Task.test_own.Goals as goal

pub returns-clause-turns : goal.returns-clause-turns
unfolding after
returns-clause-turns c = λ code.
    let s = c.args.self.now in
    let t = c.set_unless.new.self in
    test_own code (here_of code s.conf) s.data' t.data' c.args.place.root c.args.place.part c.truth_at.result (came (here_of code t.conf) c.set_unless.result) c.requires c.truth_at.ensures (rw c.in_ok-was.was (c.set_unless.ensures.turns code))

pub returns-in_err-was-clause-turns : goal.returns-in_err-was-clause-turns
unfolding after
returns-in_err-was-clause-turns c = λ code.
    let s = c.args.self.now in
    rw c.from_residual.ensures (test_own code (here_of code s.conf) s.data' s.data' c.args.place.root c.args.place.part c.truth_at.result Misfit c.requires c.truth_at.ensures (rw c.in_err-was.was (record { same = λ left. refl })))
