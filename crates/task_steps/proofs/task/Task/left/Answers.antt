use Rattle.std.proofs.Common.{refl}
use Rattle.rapid_meaning.specs.Answering.{performed}
use Rattle.rapid_meaning.specs.Doings.{after}
use Rattle.task_steps.specs.Doing.{here_of}
use Rattle.task_steps.proofs.Keepings.{not_left}
use Rattle.task_steps.proofs.task.Task.left.Goals as goal

pub returns-in-Ok-clause-turns : goal.returns-in-Ok-clause-turns
unfolding after performed
returns-in-Ok-clause-turns c = λ code. rw (c.in-Ok.is, ← c.self.view_is) (record { same = λ left. refl })

pub returns-in_default : goal.returns-in_default
returns-in_default c =
    let s = c.args.self.now in
    record { phase = refl; room = refl; turns = λ code. not_left code (here_of code s.conf) s.data' c.args.answer c.in_default.not-Ok }
