-- What a machine stands for.
use Rattle.std.specs.Prelude.{◌≡◌, List, Some, IsSome}
use Rattle.rapid_model.specs.declared.answer.Answer.{Answer}
use Rattle.rapid_model.specs.declared.request.Request.TheVariants.{Look}
use Rattle.rapid_meaning.specs.Data.{Data}
use Rattle.stack_code.specs.CodeData.{CodeData}
use Rattle.stack_code.specs.Entering.{initial}
use Rattle.task_code.specs.Live.{CodeFits}
use Rattle.task_code.specs.Reached.{Reached}
use Rattle.task_steps.specs.Doing.{doing_of}
use Rattle.task_machine.specs.MachineData.{MachineData}
use Rattle.task_steps.specs.Seen.{Seen, request_in}
use Rattle.task_steps.specs.Phases.{Phase}
use Rattle.task_steps.specs.Phases as phases

-- its code has come there after these answers, which fit step by step
abbrev pub StandsFor : MachineData → List Answer → Type 0
StandsFor m answers = CodeFits m.code answers × Reached m.code (doing_of m.code m.phase m.conf) m.data' answers

-- a task and its code
abbrev pub machine_of : CodeData → Seen → MachineData
machine_of code s = record { code = code; phase = s.phase; conf = s.conf; data' = s.data' }

-- a Look that is due is that of a statement, whose place is kept
abbrev pub HasPlace : Phase → Data → Type 0
HasPlace phase d = request_in phase ≡ Some Look → IsSome d.place

-- A machine that has not begun has the first data; and a machine stands for some answers.
pub record IsMachine (m : MachineData) : Type 0 where
  pub fresh : m.phase ≡ phases.New → m.data' ≡ initial m.code
  pub stands : (answers : List Answer) × StandsFor m answers
  pub place : HasPlace m.phase m.data'
