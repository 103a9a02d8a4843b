use Rattle.std.proofs.Common.{refl, ◌∙◌}
use Rattle.rapid_model.specs.declared.request.Request.TheVariants as requests
use Rattle.typed_trees.specs.declared.datum.Datum.TheVariants.{Mark}
use Rattle.rapid_meaning.specs.Doings.{Raises, after}
use Rattle.rapid_meaning.specs.Places.{store}
use Rattle.rapid_meaning.specs.Zones.{asks_of_zone}
use Rattle.stack_code.specs.Operands.{on_place}
use Rattle.stack_code.specs.Steps.{does}
use Rattle.task_steps.specs.Doing.{here_of}
use Rattle.task_steps.proofs.Popped.{ends_at, with_more}
use Rattle.task_steps.proofs.task.Task.zone_free.Goals as goal

pub returns-clause-on : goal.returns-clause-on
returns-clause-on c = λ code.
    c.in_ok-zone.ensures.on (λ zone rest0. on_place rest0 (λ place rest. does (here_of code c.args.self.now.conf) rest (after (asks_of_zone (requests.ZoneFree zone)) (λ _. store place (Mark 0)) Raises)))
    ∙ (c.in_ok-place.ensures.on (λ place rest. does (here_of code c.args.self.now.conf) rest (after (asks_of_zone (requests.ZoneFree c.in_ok-zone.zone)) (λ _. store place (Mark 0)) Raises))
    ∙ (ends_at code c.args.self.now c.pop_place.new.self (λ h rest. does h rest (after (asks_of_zone (requests.ZoneFree c.in_ok-zone.zone)) (λ _. store c.in_ok-place.place (Mark 0)) Raises)) c.freed.result (with_more c.args.self.now c.pop_mark.new.self c.pop_place.new.self (c.in_ok-zone.ensures.rest) c.in_ok-place.ensures.rest) c.freed.ensures (λ h stack rest. refl)))
