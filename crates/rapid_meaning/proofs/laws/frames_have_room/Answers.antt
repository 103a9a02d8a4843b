use Rattle.rapid_meaning.proofs.Kept.{has_room}
use Rattle.rapid_meaning.proofs.laws.frames_have_room.Goals as goal

pub returns : goal.returns
returns c = λ tree answers d is. has_room tree answers d is
