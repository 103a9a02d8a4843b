use Rattle.rapid_meaning.proofs.Turns as loops
use Rattle.rapid_meaning.proofs.laws.loops_turn_by_their_closed_form.Goals as goal

pub returns-clause-done : goal.returns-clause-done
returns-clause-done c = λ tree w at local e f g list answers parts seen first last step count n d left normally counts first_in last_in so_often enough.
    loops.done tree w at local e f g list answers parts seen first last step count n d left normally counts first_in last_in so_often enough

pub returns-clause-for_ever : goal.returns-clause-for_ever
returns-clause-for_ever c = λ tree w at local e f g list answers parts seen first last step count n d normally counts first_in last_in always enough.
    loops.for_ever tree w at local e f g list answers parts seen first last step count n d normally counts first_in last_in always enough
