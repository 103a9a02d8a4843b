use Rattle.std.proofs.Common.{refl}
use Rattle.rapid_meaning.specs.Doings.{after}
use Rattle.task_steps.specs.Doing.{here_of}
use Rattle.task_steps.proofs.Keepings.{not_pointed}
use Rattle.task_steps.proofs.task.Task.pointed.Goals as goal

pub returns-in-Given-clause-turns : goal.returns-in-Given-clause-turns
returns-in-Given-clause-turns c = λ code. rw c.in-Given.is (c.move_on.ensures.turns code)

pub returns-in-Stopped-clause-turns : goal.returns-in-Stopped-clause-turns
unfolding after
returns-in-Stopped-clause-turns c = λ code. rw c.in-Stopped.is (record { same = λ left. refl })

pub returns-in_default : goal.returns-in_default
returns-in_default c =
    let s = c.args.self.now in
    record {
      phase = refl;
      room = refl;
      turns = λ code. not_pointed code (here_of code s.conf) s.data' c.args.past c.args.answer c.in_default.not-Given c.in_default.not-Stopped;
    }
