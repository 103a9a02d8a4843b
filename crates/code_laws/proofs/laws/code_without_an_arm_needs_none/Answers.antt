use Rattle.code_laws.proofs.Armless.{armless}
use Rattle.code_laws.proofs.laws.code_without_an_arm_needs_none.Goals as goal

pub returns : goal.returns
returns c = λ signals tree typed without. armless signals tree typed without
