use Rattle.sink_lines.proofs.Lists.{take-min}
use Rattle.state_lines.proofs.state.first_of.Goals as goal

pub returns : goal.returns
returns g c = take-min c.args.all.now c.args.count c.min.result c.min.ensures
