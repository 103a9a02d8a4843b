use Rattle.std.proofs.Common.{ap, refl, ◌∙◌}
use Rattle.stack_code.specs.CodeRuns.{fitting_by}
use Rattle.task_steps.specs.Doing.{answered, here_of}
use Rattle.task_steps.specs.Seen.{request_in}
use Rattle.task_steps.specs.Phases.{Phase}
use Rattle.task_steps.proofs.Along.{runs_along}
use Rattle.task_machine.proofs.Looking.{has_place}
use Rattle.task_machine.proofs.Operations.{placed_answered}
use Rattle.task_machine.proofs.Replies.{reply_runs, reply_stands}
use Rattle.task_machine.proofs.course.Course.reply.Goals as goal

pub reply-requires-clause-fits : goal.reply-requires-clause-fits
reply-requires-clause-fits c =
    let asked = c.requires.asking in
    (fitting_by c.args.self.now.code c.args.self.now.task.data'.trapped, asked.0, c.requires.fits asked.0 (ap (λ (p : Phase). request_in p) asked.2), refl)

pub reply-requires-clause-runs : goal.reply-requires-clause-runs
reply-requires-clause-runs c = λ request then e.
    reply_runs c.args.self.now.code c.args.self.now.task c.args.answer request then c.requires.stands.0 (rw c.code.ensures at c.keep_live.ensures) c.requires.stands.1 e (c.requires.fits request (ap (λ (p : Phase). request_in p) e))

pub invariant_of-self : goal.invariant_of-self
invariant_of-self c =
    let asked = c.requires.asking in
    record {
      room = c.reply.ensures.room ∙ c.args.self.now.room;
      runs = runs_along _ _ _ _ _ (c.reply.ensures.on asked.0 asked.1 asked.2)
          (reply_runs c.args.self.now.code c.args.self.now.task c.args.answer asked.0 asked.1 c.requires.stands.0 (rw c.code.ensures at c.keep_live.ensures) c.requires.stands.1 asked.2 (c.requires.fits asked.0 (ap (λ (p : Phase). request_in p) asked.2)));
    }

pub returns-clause-stands : goal.returns-clause-stands
returns-clause-stands c = λ answers stands.
    let asked = c.requires.asking in
    reply_stands c.args.self.now.code c.args.self.now.task c.reply.new.self c.args.answer asked.0 asked.1 answers stands asked.2 (c.requires.fits asked.0 (ap (λ (p : Phase). request_in p) asked.2)) (c.reply.ensures.on asked.0 asked.1 asked.2)

pub returns-clause-place : goal.returns-clause-place
returns-clause-place c =
    let asked = c.requires.asking in
    let code = c.args.self.now.code in
    let s = c.args.self.now.task in
    has_place code (answered (here_of code s.conf) asked.1 c.args.answer) s.data' c.reply.new.self (placed_answered (here_of code s.conf) asked.1 c.args.answer s.data') (c.reply.ensures.on asked.0 asked.1 asked.2)
