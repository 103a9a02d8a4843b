use Rattle.std.proofs.Common.{◌≡◌, ℕ, Bool, length, ◌∙◌, ap, arith}
use Rattle.cell_meaning.specs.Fates.{is_spent}
use Rattle.cell_core.specs.Reading.{fates_of}
use Rattle.cell_core.proofs.Growing.{few_events}
use Rattle.cell_core.proofs.Reading.{fates_are}
use Rattle.cell_core.proofs.shared.Core.into_report.Goals as goal

pub copy_to-requires-clause-room : goal.copy_to-requires-clause-room
copy_to-requires-clause-room c =
    let core = c.self.inside in
    omega (arith, few_events core.cell core.pages.events core.boards core.steps c.self.invariant.0, c.self.invariant.1.events)

pub returns-clause-fates : goal.returns-clause-fates
returns-clause-fates c =
    let core = c.self.inside in
    let spent : c.spent-spent.result ≡ is_spent core.cell core.pages.events = rw (← c.self.view_is) at c.spent-spent.ensures in
    rw (← c.self.view_is) (c.tell.ensures
    ∙ ap (λ (s : Bool). fates_of s core.tasks core.boards.actors) spent
    ∙ ap (λ (n : ℕ). fates_of (is_spent core.cell core.pages.events) n core.boards.actors) c.self.invariant.4
    ∙ fates_are core.cell core.pages.events core.boards core.steps (length core.cell.tasks) c.self.invariant.0 (omega arith))
