use Rattle.std.proofs.Common.{◌≡◌, Bool, ◌∙◌, ap, arith}
use Rattle.cell_meaning.specs.Fates.{is_spent}
use Rattle.cell_core.specs.Reading.{standing}
use Rattle.cell_core.specs.declared.actor.Actor.{Actor}
use Rattle.cell_core.proofs.Reading.{fate_is}
use Rattle.cell_core.proofs.shared.Core.fate.Goals as goal

pub returns : goal.returns
returns c =
    let core = c.self.inside in
    let spent : c.spent.result ≡ is_spent core.cell core.pages.events = rw (← c.self.view_is) at c.spent.ensures in
    let within = rw (← c.self.view_is) at c.requires in
    rw (← c.self.view_is) (c.standing.ensures ∙ ap (λ (s : Bool). standing s c.actor.result.end) spent
    ∙ ap (λ (a : Actor). standing (is_spent core.cell core.pages.events) a.end) c.actor.ensures
    ∙ fate_is core.cell core.pages.events core.boards core.steps c.args.task c.self.invariant.0 (omega (arith, within)))
