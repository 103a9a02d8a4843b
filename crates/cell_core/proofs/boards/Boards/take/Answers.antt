use Rattle.rapid_model.specs.declared.request.Request.TheVariants as requests
use Rattle.cell_core.specs.Ready.{CanAnswer}
use Rattle.cell_core.proofs.boards.Boards.take.Goals as goal

pub look-requires-clause-traps : goal.look-requires-clause-traps
look-requires-clause-traps c =
    let ready : CanAnswer c.args.cell.now c.args.self.now c.args.actor requests.Look = rw c.in-Look.is at c.requires.ready in
    ready.0

pub returns-in-Look : goal.returns-in-Look
returns-in-Look c = record { answer = rw c.in-Look.is c.look.ensures.answer; boards = rw c.in-Look.is (c.look.ensures.boards c.args.cell.now) }
