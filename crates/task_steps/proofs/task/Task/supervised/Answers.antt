use Rattle.std.proofs.Common.{refl}
use Rattle.rapid_meaning.specs.Doings.{after}
use Rattle.task_steps.specs.Doing.{here_of}
use Rattle.task_steps.proofs.Keepings.{not_supervised}
use Rattle.task_steps.proofs.task.Task.supervised.Goals as goal

pub returns-in-Number-clause-turns : goal.returns-in-Number-clause-turns
returns-in-Number-clause-turns c = λ code. rw (c.in-Number.is, ← c.of_mark.ensures) (c.store_at.ensures.turns code)

pub returns-in-ZoneUsed-clause-turns : goal.returns-in-ZoneUsed-clause-turns
unfolding after
returns-in-ZoneUsed-clause-turns c = λ code. rw c.in-ZoneUsed.is (record { same = λ left. refl })

pub returns-in-ZoneFull-clause-turns : goal.returns-in-ZoneFull-clause-turns
unfolding after
returns-in-ZoneFull-clause-turns c = λ code. rw c.in-ZoneFull.is (record { same = λ left. refl })

pub returns-in-Tied-clause-turns : goal.returns-in-Tied-clause-turns
unfolding after
returns-in-Tied-clause-turns c = λ code. rw c.in-Tied.is (record { same = λ left. refl })

pub returns-in_default : goal.returns-in_default
returns-in_default c =
    let s = c.args.self.now in
    record {
      phase = refl;
      room = refl;
      turns = λ code. not_supervised code (here_of code s.conf) s.data' c.args.place c.args.answer c.in_default.not-Number c.in_default.not-ZoneUsed c.in_default.not-ZoneFull c.in_default.not-Tied;
    }
