use Rattle.std.proofs.Common.{refl}
use Rattle.rapid_meaning.specs.Doings.{after}
use Rattle.task_steps.specs.Doing.{here_of}
use Rattle.task_steps.proofs.Keepings.{not_connected}
use Rattle.task_steps.proofs.task.Task.connected.Goals as goal

pub returns-in-Number-clause-turns : goal.returns-in-Number-clause-turns
returns-in-Number-clause-turns c = λ code. rw (c.in-Number.is, ← c.of_mark.ensures) (c.store_at.ensures.turns code)

pub returns-in-Already-clause-turns : goal.returns-in-Already-clause-turns
unfolding after
returns-in-Already-clause-turns c = λ code. rw c.in-Already.is (record { same = λ left. refl })

pub returns-in-NoMore-clause-turns : goal.returns-in-NoMore-clause-turns
unfolding after
returns-in-NoMore-clause-turns c = λ code. rw c.in-NoMore.is (record { same = λ left. refl })

pub returns-in_default : goal.returns-in_default
returns-in_default c =
    let s = c.args.self.now in
    record {
      phase = refl;
      room = refl;
      turns = λ code. not_connected code (here_of code s.conf) s.data' c.args.place c.args.answer c.in_default.not-Number c.in_default.not-Already c.in_default.not-NoMore;
    }
