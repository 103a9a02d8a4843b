use Rattle.cell_gate.proofs.Dealing.{made_kept}
use Rattle.cell_gate.proofs.opening.open_gate.Goals as goal

pub vacant-requires : goal.vacant-requires
vacant-requires c = made_kept c.cell.result.now
