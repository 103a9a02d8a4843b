use Rattle.accepted_cells.proofs.TextLabels.{labels_apart}
use Rattle.accepted_cells.proofs.laws.read_labels_stand_apart.Goals as goal

pub returns : goal.returns
returns c = labels_apart
