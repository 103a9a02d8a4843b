use Rattle.std.proofs.Common.{ℕ, length, ◌∙◌, ap, arith}
use Rattle.cell_core.specs.Actors.{actor_at}
use Rattle.cell_core.specs.declared.actor.Actor.{Actor}
use Rattle.cell_core.proofs.shared.Core.inputs_done.Goals as goal

pub returns : goal.returns
returns c =
    let core = c.self.inside in
    rw (← c.self.view_is) (ap (λ (a : Actor). a.events) c.actor.ensures ∙ ap (λ (n : ℕ). (actor_at core.boards.actors n).events) c.self.invariant.4
    ∙ (c.self.invariant.0.actors (length core.cell.tasks) (omega arith)).events)
