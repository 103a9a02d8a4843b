use Rattle.accepted_cells.proofs.LabelNumbers.{labels_count}
use Rattle.accepted_cells.proofs.laws.accepted_trees_number_their_labels.Goals as goal

pub returns : goal.returns
returns c = labels_count
