use Rattle.rapid_meaning.proofs.Homes as homes
use Rattle.rapid_meaning.proofs.laws.homes_are_halfway.Goals as goal

pub returns-clause-halfway : goal.returns-clause-halfway
returns-clause-halfway c = λ middle delta low high is_low is_high low_there high_there. homes.halfway middle delta low high is_low is_high low_there high_there

pub returns-clause-none : goal.returns-clause-none
returns-clause-none c = λ middle delta h. homes.none middle delta h

pub returns-clause-axes : goal.returns-clause-axes
returns-clause-axes c = λ bound middles deltas bounds axis middle delta is m d. homes.axes bound middles deltas bounds axis middle delta is m d
