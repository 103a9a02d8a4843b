use Rattle.rapid_meaning.proofs.Setpoints as setpoints
use Rattle.rapid_meaning.proofs.laws.moves_are_planned.Goals as goal

pub returns-clause-asks : goal.returns-clause-asks
returns-clause-asks c = λ tree n w s axes start target speed seens d at reachable fast fewer enough. setpoints.asks tree n w s axes start target speed seens d at reachable fast fewer enough

pub returns-clause-looks : goal.returns-clause-looks
returns-clause-looks c = λ tree n w s axes start target speed seens d at reachable fast fewer enough. setpoints.looks tree n w s axes start target speed seens d at reachable fast fewer enough
