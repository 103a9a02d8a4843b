-- How the answers that a machine stands for go on.
use Rattle.std.proofs.Common.{◌≡◌, ℕ, ◌+◌, List, [], ◌∷◌, ◌++◌, IsTrue, Some}
use Rattle.rapid_model.specs.Fits.{fits_request}
use Rattle.rapid_model.specs.declared.answer.Answer.{Answer}
use Rattle.rapid_model.specs.declared.request.Request.{Request}
use Rattle.rapid_meaning.specs.Answering.{Asking}
use Rattle.rapid_meaning.specs.Data.{Data}
use Rattle.stack_code.specs.CodeData.{CodeData}
use Rattle.stack_code.specs.CodeRuns.{code_after, fitting_by}
use Rattle.task_steps.specs.Points.{Point}
use Rattle.stack_code.specs.Entering.{initial}
use Rattle.task_code.specs.Live.{CodeFits}
use Rattle.task_code.specs.Reached.{Reached}
use Rattle.task_code.proofs.Fitting.{fits_asked, fits_none}
use Rattle.task_code.proofs.Reaching.{answers_on, begins}
use Rattle.task_steps.specs.Doing.{answered, here_of}
use Rattle.task_machine.specs.MachineData.{MachineData, request_of}
use Rattle.task_machine.specs.Standing.{StandsFor}
use Rattle.task_steps.specs.declared.requests.pending.Pending.{Pending}
use Rattle.task_machine.specs.Programs.{asks_with}
use Rattle.task_steps.specs.Phases as phases

-- what is due is what code asks
pub asked : (m : MachineData) (answers : List Answer) (r : Request) → StandsFor m answers → request_of m ≡ Some r → (k : ℕ) × (code_after m.code k answers ≡ Asking r m.data')
asked m answers r stands due = let it = asks_with m answers r stands due in (it.operations + 0, it.asked 0)

-- one that has not begun
pub stands_new : (code : CodeData) (c : Point) → StandsFor (record { code = code; phase = phases.New; conf = c; data' = initial code }) []
stands_new code c = (fits_none code, begins code)

-- an answer that fits
pub fits_on : (code : CodeData) (request : Request) (then : Pending) (c : Point) (d : Data) (answers : List Answer) (a : Answer)
    → StandsFor (record { code = code; phase = phases.Asking request then; conf = c; data' = d }) answers → IsTrue (fits_request (fitting_by code d.trapped) request a)
    → CodeFits code (answers ++ a ∷ [])
fits_on code request then c d answers a stands fits = fits_asked code request (answered (here_of code c) then) d answers a stands.0 stands.1 fits

pub reached_on : (code : CodeData) (request : Request) (then : Pending) (c : Point) (d : Data) (answers : List Answer) (a : Answer)
    → StandsFor (record { code = code; phase = phases.Asking request then; conf = c; data' = d }) answers → IsTrue (fits_request (fitting_by code d.trapped) request a)
    → Reached code (answered (here_of code c) then a) d (answers ++ a ∷ [])
reached_on code request then c d answers a stands fits = answers_on code request (answered (here_of code c) then) d answers a stands.1 fits
