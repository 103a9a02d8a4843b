use Rattle.rapid_meaning.proofs.EmptyParts.{passes}
use Rattle.rapid_meaning.proofs.laws.empty_error_parts_pass_errors_on.Goals as goal

pub returns : goal.returns
returns c = λ tree n w s error d left. passes tree n w s error d left
