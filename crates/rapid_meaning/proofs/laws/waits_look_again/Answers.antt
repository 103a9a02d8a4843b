use Rattle.rapid_meaning.proofs.Kept.{carries}
use Rattle.rapid_meaning.proofs.Next as next
use Rattle.rapid_meaning.proofs.OwnLooks.{own}
use Rattle.rapid_meaning.proofs.laws.waits_look_again.Goals as goal

pub returns-clause-holds : goal.returns-clause-holds
returns-clause-holds c = λ tree answers seen d is. carries tree answers seen d is

pub returns-clause-looks : goal.returns-clause-looks
returns-clause-looks c = λ tree answers is. next.looks tree answers is

pub returns-clause-own : goal.returns-clause-own
returns-clause-own c = λ tree before more seen count below d e looks first_many holds many none. own tree before more seen count below d e looks first_many holds many none
