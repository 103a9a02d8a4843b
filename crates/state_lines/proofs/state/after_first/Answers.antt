use Rattle.std.proofs.Common.{◌∙◌}
use Rattle.sink_lines.proofs.Lists.{drop-min, take-rest}
use Rattle.state_lines.proofs.state.after_first.Goals as goal

pub returns : goal.returns
returns g c = take-rest c.args.all.now c.min.result ∙ drop-min c.args.all.now c.args.count c.min.result c.min.ensures
