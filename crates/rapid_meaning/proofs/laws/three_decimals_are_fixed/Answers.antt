use Rattle.rapid_meaning.proofs.Texts.{three_decimals}
use Rattle.rapid_meaning.proofs.laws.three_decimals_are_fixed.Goals as goal

pub returns : goal.returns
returns c = λ n. three_decimals n
