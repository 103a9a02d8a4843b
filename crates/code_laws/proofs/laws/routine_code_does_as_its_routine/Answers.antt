use Rattle.code_laws.proofs.Parts.{call_does}
use Rattle.code_laws.proofs.laws.routine_code_does_as_its_routine.Goals as goal

pub returns : goal.returns
returns c = λ tree code number args saved depth orderly has takes. call_does tree code number args saved depth orderly has takes
