use Rattle.cell_core.proofs.Ready.{known}
use Rattle.cell_core.proofs.shared.Core.can_rise.Goals as goal

pub can_go_on-requires-clause-trap : goal.can_go_on-requires-clause-trap
can_go_on-requires-clause-trap c =
    let core = c.self.inside in
    let within = rw (← c.self.view_is) at c.requires in
    (known core.cell core.pages.events core.boards core.steps c.args.task c.self.invariant.0 within).trap
