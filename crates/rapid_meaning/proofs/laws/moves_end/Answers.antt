use Rattle.rapid_meaning.proofs.MoveEnds as ends
use Rattle.rapid_meaning.proofs.laws.moves_end.Goals as goal

pub returns-clause-done : goal.returns-clause-done
returns-clause-done c = λ tree n w s axes start target speed seens d left at reachable fast all enough. ends.done tree n w s axes start target speed seens d left at reachable fast all enough

pub returns-clause-stopped : goal.returns-clause-stopped
returns-clause-stopped c = λ tree n w s axes start target speed seens zone d at reachable fast fewer enough.
    ends.stopped tree n w s axes start target speed seens zone d at reachable fast fewer enough

pub returns-clause-out_of_reach : goal.returns-clause-out_of_reach
returns-clause-out_of_reach c = λ by run axes target speed d out. ends.out_of_reach by run axes target speed d out

pub returns-clause-no_speed : goal.returns-clause-no_speed
returns-clause-no_speed c = λ by run axes target speed d reachable slow. ends.no_speed by run axes target speed d reachable slow
