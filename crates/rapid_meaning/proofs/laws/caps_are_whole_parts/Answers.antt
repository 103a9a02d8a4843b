use Rattle.rapid_meaning.proofs.MoveEnds.{caps}
use Rattle.rapid_meaning.proofs.laws.caps_are_whole_parts.Goals as goal

pub returns : goal.returns
returns c = λ speed. caps speed
