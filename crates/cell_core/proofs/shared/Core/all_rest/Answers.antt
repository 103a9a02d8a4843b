use Rattle.std.proofs.Common.{ℕ, length, ◌∙◌, ap, arith}
use Rattle.cell_meaning.proofs.InterruptsKept.{tasks_kept}
use Rattle.cell_core.specs.Reading.{all_stand}
use Rattle.cell_core.proofs.Reading.{all_rest_is}
use Rattle.cell_core.proofs.Changing.{all_answered}
use Rattle.cell_core.proofs.shared.Core.all_rest.Goals as goal

pub all_stand-requires-clause-traps : goal.all_stand-requires-clause-traps
all_stand-requires-clause-traps c =
    let core = c.self.inside in
    let keeps = c.self.invariant.0 in
    omega (arith, c.self.invariant.4, ap length keeps.traps, (tasks_kept core.cell core.pages.events (all_answered core.cell core.pages.events keeps.sound)).count)

pub returns : goal.returns
returns c =
    let core = c.self.inside in
    rw (← c.self.view_is) (c.all_stand.ensures ∙ ap (λ (n : ℕ). all_stand n core.boards) c.self.invariant.4
    ∙ all_rest_is core.cell core.pages.events core.boards core.steps (length core.cell.tasks) c.self.invariant.0 (omega arith))
