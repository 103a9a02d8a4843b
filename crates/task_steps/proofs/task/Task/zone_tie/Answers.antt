use Rattle.std.proofs.Common.{refl, ◌∙◌}
use Rattle.rapid_meaning.specs.Doings.{Raises, after}
use Rattle.rapid_meaning.specs.Values.{bit_in}
use Rattle.rapid_meaning.specs.Zones.{tie}
use Rattle.stack_code.specs.Operands.{on_mark, on_place, on_shape}
use Rattle.stack_code.specs.Steps.{does}
use Rattle.task_steps.specs.Doing.{here_of}
use Rattle.task_steps.proofs.Popped.{ends_at, with_more}
use Rattle.task_steps.proofs.task.Task.zone_tie.Goals as goal

pub returns-clause-on : goal.returns-clause-on
returns-clause-on c = λ code.
    c.in_ok-value.ensures.on (λ value rest0. on_shape rest0 (λ shape rest1. on_mark rest1 (λ old rest2. on_place rest2 (λ place rest. does (here_of code c.args.self.now.conf) rest (after (bit_in value) (λ bit. tie place old c.args.temporary shape c.args.signal bit) Raises)))))
    ∙ (c.in_ok-shape.ensures.on (λ shape rest1. on_mark rest1 (λ old rest2. on_place rest2 (λ place rest. does (here_of code c.args.self.now.conf) rest (after (bit_in c.in_ok-value.value) (λ bit. tie place old c.args.temporary shape c.args.signal bit) Raises))))
    ∙ (c.in_ok-old.ensures.on (λ old rest2. on_place rest2 (λ place rest. does (here_of code c.args.self.now.conf) rest (after (bit_in c.in_ok-value.value) (λ bit. tie place old c.args.temporary c.in_ok-shape.shape c.args.signal bit) Raises)))
    ∙ (c.in_ok-place.ensures.on (λ place rest. does (here_of code c.args.self.now.conf) rest (after (bit_in c.in_ok-value.value) (λ bit. tie place c.in_ok-old.old c.args.temporary c.in_ok-shape.shape c.args.signal bit) Raises))
    ∙ (ends_at code c.args.self.now c.pop_place.new.self (λ h rest. does h rest (after (bit_in c.in_ok-value.value) (λ bit. tie c.in_ok-place.place c.in_ok-old.old c.args.temporary c.in_ok-shape.shape c.args.signal bit) Raises)) c.tied.result
    (with_more c.args.self.now c.pop_mark.new.self c.pop_place.new.self (with_more c.args.self.now c.pop_shape.new.self c.pop_mark.new.self (with_more c.args.self.now c.pop_value.new.self c.pop_shape.new.self c.in_ok-value.ensures.rest c.in_ok-shape.ensures.rest) c.in_ok-old.ensures.rest) c.in_ok-place.ensures.rest)
    c.tied.ensures (λ h stack rest. refl)))))
