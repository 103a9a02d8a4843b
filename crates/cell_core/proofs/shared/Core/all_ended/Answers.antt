use Rattle.std.proofs.Common.{ℕ, length, ◌∙◌, ap, arith}
use Rattle.cell_core.specs.Reading.{all_have_fates}
use Rattle.cell_core.proofs.Reading.{all_ended_is}
use Rattle.cell_core.proofs.shared.Core.all_ended.Goals as goal

pub returns : goal.returns
returns c =
    let core = c.self.inside in
    rw (← c.self.view_is) (c.all_have_fates.ensures ∙ ap (λ (n : ℕ). all_have_fates n core.boards.actors) c.self.invariant.4
    ∙ all_ended_is core.cell core.pages.events core.boards core.steps (length core.cell.tasks) c.self.invariant.0 (omega arith))
