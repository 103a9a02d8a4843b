use Rattle.std.proofs.Common.{refl}
use Rattle.rapid_meaning.specs.Doings.{after}
use Rattle.task_steps.specs.Doing.{here_of}
use Rattle.task_steps.proofs.Keepings.{not_freed}
use Rattle.task_steps.proofs.task.Task.freed.Goals as goal

pub returns-in-Ok-clause-turns : goal.returns-in-Ok-clause-turns
unfolding after
returns-in-Ok-clause-turns c = λ code. rw (c.in-Ok.is, ← c.of_mark.ensures) (c.store_at.ensures.turns code)

pub returns-in-NoZone-clause-turns : goal.returns-in-NoZone-clause-turns
unfolding after
returns-in-NoZone-clause-turns c = λ code. rw c.in-NoZone.is (record { same = λ left. refl })

pub returns-in_default : goal.returns-in_default
returns-in_default c =
    let s = c.args.self.now in
    record {
      phase = refl;
      room = refl;
      turns = λ code. not_freed code (here_of code s.conf) s.data' c.args.place c.args.answer c.in_default.not-Ok c.in_default.not-NoZone;
    }
