-- A machine when it is made and when it comes to a request.
use Rattle.std.proofs.Common.{◌≡◌, List, [], Some, IsSome}
use Rattle.rapid_model.specs.declared.answer.Answer.{Answer}
use Rattle.rapid_model.specs.declared.request.Request.TheVariants.{Look}
use Rattle.stack_code.specs.CodeData.{CodeData}
use Rattle.stack_code.specs.Entering.{initial, started}
use Rattle.task_code.specs.Leads.{Runs}
use Rattle.task_code.specs.Live.{IsLive}
use Rattle.task_code.specs.Reached.{Reached}
use Rattle.task_code.proofs.Fitting.{fits_none}
use Rattle.task_code.proofs.Living.{live_runs}
use Rattle.task_code.proofs.Reaching.{begins}
use Rattle.task_steps.specs.Doing.{doing_of}
use Rattle.task_steps.specs.Seen.{Seen, request_in}
use Rattle.task_steps.specs.Phases as phases
use Rattle.task_machine.specs.Standing.{HasPlace, IsMachine, StandsFor, machine_of}
use Rattle.task_machine.proofs.Stands.{stands_new}

-- live code leads a task that has not begun to its first request
pub runs_new : (code : CodeData) (s : Seen) → IsLive code → s.phase ≡ phases.New → s.data' ≡ initial code → Runs code (doing_of code s.phase s.conf) s.data'
runs_new code s live fresh first = rw (fresh, first) (live_runs code (started code) (initial code) [] live (fits_none code) (begins code))

pub new_machine : (code : CodeData) (s : Seen) → s.phase ≡ phases.New → s.data' ≡ initial code → IsMachine (machine_of code s)
new_machine code s fresh first = record {
  fresh = λ new. first;
  stands = ([], rw (fresh, first) (stands_new code s.conf));
  place = λ due. let none : request_in phases.New ≡ Some Look = rw fresh at due in cc;
}

-- going on to a request leaves the answers as they are
pub stands_settled : (code : CodeData) (s t : Seen) (answers : List Answer) → StandsFor (machine_of code s) answers
    → (Reached code (doing_of code s.phase s.conf) s.data' answers → Reached code (doing_of code t.phase t.conf) t.data' answers) → StandsFor (machine_of code t) answers
stands_settled code s t answers stands on = (stands.0, on stands.1)

pub settled_machine : (code : CodeData) (s : Seen) (answers : List Answer) → IsSome (request_in s.phase) → StandsFor (machine_of code s) answers → HasPlace s.phase s.data' → IsMachine (machine_of code s)
settled_machine code s answers due stands place = record {
  fresh = λ new. let none : IsSome (request_in phases.New) = rw new at due in cc;
  stands = (answers, stands);
  place = place;
}
