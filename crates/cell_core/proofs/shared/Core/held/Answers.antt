use Rattle.std.proofs.Common.{◌≡◌, sym, ◌∙◌, ap, arith}
use Rattle.rapid_model.specs.Own.{is_held, part_of}
use Rattle.cell_core.specs.declared.actor.Actor.{Actor}
use Rattle.cell_core.proofs.Going.{held_going}
use Rattle.cell_core.proofs.shared.Core.held.Goals as goal

pub returns-clause-going : goal.returns-clause-going
returns-clause-going c =
    let core = c.self.inside in
    let within = rw (← c.self.view_is) at c.requires in
    let same : c.actor.result.held ≡ is_held (part_of c.args.task core.pages.events) = ap (λ (a : Actor). a.held) c.actor.ensures ∙ (c.self.invariant.0.actors c.args.task (omega (arith, within))).held in
    rw (← c.self.view_is) (λ held. held_going core.cell core.pages.events c.args.task within c.self.invariant.0.sound (sym same ∙ held))
