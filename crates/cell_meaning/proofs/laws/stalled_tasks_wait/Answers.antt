use Rattle.cell_meaning.proofs.Stalls.{stalled_waits}
use Rattle.cell_meaning.proofs.laws.stalled_tasks_wait.Goals as goal

pub returns : goal.returns
returns g c = λ cell history task request within may legal stalled asked. stalled_waits g.A.Askers.asks cell history task request within may legal stalled asked
