use Rattle.std.proofs.Common.{◌≡◌, sym, ap, ◌∙◌, ℕ}
use Rattle.rapid_model.specs.declared.answer.Answer.{Answer}
use Rattle.rapid_model.specs.declared.request.Request.TheVariants.{Position}
use Rattle.rapid_meaning.specs.Doings.{Asks, after}
use Rattle.rapid_meaning.specs.Moves.{cap_of, when_located}
use Rattle.stack_code.specs.Steps.{fails, sets_out}
use Rattle.task_steps.specs.Doing.{departs}
use Rattle.task_steps.specs.declared.requests.departure.Departure.{Departure}
use Rattle.task_steps.proofs.Departures.{departs_so}
use Rattle.task_steps.proofs.requests.requests.departing.Goals as goal

pub returns : goal.returns
returns c = λ h same.
    let departure : Departure = record { axes = c.args.axes; target = c.args.target; speed = c.args.speed; reachable = c.requires } in
    let is : (a : Answer) → when_located c.args.axes c.args.target (cap_of c.args.speed) a ≡ departs h.code.axes departure a =
    λ a. sym (departs_so h.code.axes departure a (sym same) ∙ ap (λ (axes : ℕ). when_located axes c.args.target (cap_of c.args.speed) a) same) in
    rw c.ask.ensures (λ i. Asks Position (λ a. after (is a i) (sets_out h h.conf.stack) (fails h)))
