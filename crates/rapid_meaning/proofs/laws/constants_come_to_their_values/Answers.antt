use Rattle.rapid_meaning.proofs.ConstantsAgree.{expr_comes}
use Rattle.rapid_meaning.proofs.laws.constants_come_to_their_values.Goals as goal

pub returns : goal.returns
returns c = λ tree routine known d held e v is by run left. expr_comes tree routine known d held e v is by run left
