use Rattle.std.proofs.Common.{arith}
use Rattle.cell_core.proofs.Growing.{few_events}
use Rattle.cell_core.proofs.shared.Core.len.Goals as goal

pub returns-clause-few : goal.returns-clause-few
returns-clause-few c =
    let core = c.self.inside in
    let few = few_events core.cell core.pages.events core.boards core.steps c.self.invariant.0 in
    rw (← c.self.view_is) (omega (arith, c.len.ensures.same, few))
