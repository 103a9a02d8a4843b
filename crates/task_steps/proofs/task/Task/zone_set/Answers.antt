use Rattle.std.proofs.Common.{refl, ◌∙◌}
use Rattle.rapid_meaning.specs.Doings.{Raises, after}
use Rattle.rapid_meaning.specs.Zones.{defined, supervise}
use Rattle.stack_code.specs.Operands.{on_mark, on_place}
use Rattle.stack_code.specs.Steps.{does}
use Rattle.task_steps.specs.Doing.{here_of}
use Rattle.task_steps.proofs.Popped.{ends_at, with_more}
use Rattle.task_steps.proofs.task.Task.zone_set.Goals as goal

pub returns-clause-on : goal.returns-clause-on
returns-clause-on c = λ code.
    c.in_ok-shape.ensures.on (λ shape rest0. on_mark rest0 (λ old rest1. on_place rest1 (λ place rest. does (here_of code c.args.self.now.conf) rest (after (defined shape) (λ it. supervise place old c.args.temporary it) Raises))))
    ∙ (c.in_ok-old.ensures.on (λ old rest1. on_place rest1 (λ place rest. does (here_of code c.args.self.now.conf) rest (after (defined c.in_ok-shape.shape) (λ it. supervise place old c.args.temporary it) Raises)))
    ∙ (c.in_ok-place.ensures.on (λ place rest. does (here_of code c.args.self.now.conf) rest (after (defined c.in_ok-shape.shape) (λ it. supervise place c.in_ok-old.old c.args.temporary it) Raises))
    ∙ (ends_at code c.args.self.now c.pop_place.new.self (λ h rest. does h rest (after (defined c.in_ok-shape.shape) (λ it. supervise c.in_ok-place.place c.in_ok-old.old c.args.temporary it) Raises)) c.supervised.result (with_more c.args.self.now c.pop_mark.new.self c.pop_place.new.self (with_more c.args.self.now c.pop_shape.new.self c.pop_mark.new.self (c.in_ok-shape.ensures.rest) c.in_ok-old.ensures.rest) c.in_ok-place.ensures.rest) c.supervised.ensures (λ h stack rest. refl))))
