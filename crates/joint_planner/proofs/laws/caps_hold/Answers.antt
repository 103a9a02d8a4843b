use Rattle.joint_planner.proofs.Caps as caps
use Rattle.joint_planner.proofs.laws.caps_hold.Goals as goal

pub returns-clause-enough : goal.returns-clause-enough
returns-clause-enough c = λ axes start target cap axis from to some goes. caps.enough axes start target cap axis from to some goes

pub returns-clause-needed : goal.returns-clause-needed
returns-clause-needed c = λ axes start target cap some. caps.needed axes start target cap some
