use Rattle.rapid_meaning.proofs.Asking as asking
use Rattle.rapid_meaning.proofs.laws.tasks_ask_one_request.Goals as goal

pub returns-clause-one : goal.returns-clause-one
returns-clause-one c = λ trees actor answers r r' p q. asking.one trees actor answers r r' p q

pub returns-clause-within : goal.returns-clause-within
returns-clause-within c = λ trees actor answers request p. asking.within trees actor answers request p
