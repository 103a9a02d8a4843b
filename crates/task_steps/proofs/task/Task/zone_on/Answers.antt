use Rattle.std.proofs.Common.{refl, ◌∙◌}
use Rattle.rapid_model.specs.declared.request.Request.TheVariants as requests
use Rattle.rapid_meaning.specs.Zones.{asks_of_zone}
use Rattle.stack_code.specs.Operands.{on_place}
use Rattle.stack_code.specs.Steps.{does}
use Rattle.task_steps.specs.Doing.{here_of}
use Rattle.task_steps.proofs.Popped.{ends_at, with_more}
use Rattle.task_steps.proofs.task.Task.zone_on.Goals as goal

pub returns-clause-on : goal.returns-clause-on
returns-clause-on c = λ code.
    c.in_ok-zone.ensures.on (λ zone rest0. on_place rest0 (λ top rest. does (here_of code c.args.self.now.conf) rest (asks_of_zone (requests.ZoneOn zone))))
    ∙ (c.in_ok-_place.ensures.on (λ top rest. does (here_of code c.args.self.now.conf) rest (asks_of_zone (requests.ZoneOn c.in_ok-zone.zone)))
    ∙ (ends_at code c.args.self.now c.pop_place.new.self (λ h rest. does h rest (asks_of_zone (requests.ZoneOn c.in_ok-zone.zone))) c.zoned.result (with_more c.args.self.now c.pop_mark.new.self c.pop_place.new.self (c.in_ok-zone.ensures.rest) c.in_ok-_place.ensures.rest) c.zoned.ensures (λ h stack rest. refl)))
