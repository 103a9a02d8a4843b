use Rattle.code_laws.proofs.WellTyped.{orderly}
use Rattle.code_laws.proofs.laws.well_typed_trees_are_orderly.Goals as goal

pub returns : goal.returns
returns c = λ signals tree typed labels. orderly signals tree typed labels
