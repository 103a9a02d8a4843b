use Rattle.std.proofs.Common.{subst}
use Rattle.stack_code.specs.CodeData.{CodeData}
use Rattle.task_code.specs.Live.{IsLive}
use Rattle.cell_state.proofs.TaskStates.{task_reached}
use Rattle.cell_state.proofs.tasks.task_state.Goals as goal

pub returns : goal.returns
returns g c =
    let live : IsLive c.args.machine.now.code = subst (λ (code : CodeData). IsLive code) c.code.ensures c.keep_live.ensures in
    task_reached g.A.Askers.asks c.args.core.now.cell c.args.task c.args.core.now.history c.args.machine.now live c.requires.task c.requires.program c.requires.suits c.requires.legal c.requires.under_way
    c.place.result c.next_request.result c.in_ok-values.values.items c.place.ensures.kept c.in_ok-values.ensures c.next_request.ensures
