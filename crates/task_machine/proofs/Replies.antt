-- What follows an answer that fits.
use Rattle.std.proofs.Common.{◌≡◌, List, [], ◌∷◌, ◌++◌, IsTrue}
use Rattle.rapid_model.specs.Fits.{fits_request}
use Rattle.rapid_model.specs.declared.answer.Answer.{Answer}
use Rattle.rapid_model.specs.declared.request.Request.{Request}
use Rattle.stack_code.specs.CodeData.{CodeData}
use Rattle.stack_code.specs.CodeRuns.{fitting_by}
use Rattle.task_code.specs.Leads.{Runs}
use Rattle.task_code.specs.Live.{IsLive}
use Rattle.task_code.proofs.Living.{live_runs}
use Rattle.task_steps.specs.Alike.{Follows}
use Rattle.task_steps.specs.Doing.{answered, doing_of, here_of}
use Rattle.task_machine.specs.MachineData.{MachineData}
use Rattle.task_steps.specs.Seen.{Seen}
use Rattle.task_machine.specs.Standing.{StandsFor, machine_of}
use Rattle.task_steps.specs.declared.requests.pending.Pending.{Pending}
use Rattle.task_steps.specs.Phases as phases
use Rattle.task_steps.proofs.Along.{reached_along}
use Rattle.task_machine.proofs.Stands.{fits_on, reached_on}

abbrev asking : CodeData → Seen → Request → Pending → MachineData
asking code s request then = record { code = code; phase = phases.Asking request then; conf = s.conf; data' = s.data' }

stands_asking : (code : CodeData) (s : Seen) (request : Request) (then : Pending) (answers : List Answer) → s.phase ≡ phases.Asking request then → StandsFor (machine_of code s) answers → StandsFor (asking code s request then) answers
stands_asking code s request then answers e stands = rw e at stands

pub reply_runs : (code : CodeData) (s : Seen) (a : Answer) (request : Request) (then : Pending) (answers : List Answer) → IsLive code → StandsFor (machine_of code s) answers → s.phase ≡ phases.Asking request then
    → IsTrue (fits_request (fitting_by code s.data'.trapped) request a) → Runs code (answered (here_of code s.conf) then a) s.data'
reply_runs code s a request then answers live stands e fits =
    let here : StandsFor (asking code s request then) answers = stands_asking code s request then answers e stands in
    live_runs code (answered (here_of code s.conf) then a) s.data' (answers ++ a ∷ []) live (fits_on code request then s.conf s.data' answers a here fits) (reached_on code request then s.conf s.data' answers a here fits)

pub reply_stands : (code : CodeData) (s t : Seen) (a : Answer) (request : Request) (then : Pending) (answers : List Answer) → StandsFor (machine_of code s) answers → s.phase ≡ phases.Asking request then
    → IsTrue (fits_request (fitting_by code s.data'.trapped) request a) → Follows code (answered (here_of code s.conf) then a) s.data' t → StandsFor (machine_of code t) (answers ++ a ∷ [])
reply_stands code s t a request then answers stands e fits on =
    let here : StandsFor (asking code s request then) answers = stands_asking code s request then answers e stands in
    (fits_on code request then s.conf s.data' answers a here fits, reached_along code (answered (here_of code s.conf) then a) (doing_of code t.phase t.conf) s.data' t.data' (answers ++ a ∷ []) on (reached_on code request then s.conf s.data' answers a here fits))
