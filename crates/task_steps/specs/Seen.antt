-- A running task as contracts see it, and the request that is due.
use Rattle.std.specs.Prelude.{ℕ, length, Option, None, Some}
use Rattle.rapid_model.specs.declared.request.Request.{Request}
use Rattle.rapid_model.specs.declared.request.Request.TheVariants.{End}
use Rattle.rapid_meaning.specs.Data.{Data}
use Rattle.stack_code.specs.CodeData.{CodeData}
use Rattle.task_steps.specs.Points.{Point}
use Rattle.task_steps.specs.Phases.{Phase}
use Rattle.task_steps.specs.Phases as phases

-- the most operands of a frame, and the number of module data
pub record Room : Type 0 where
  pub operands : ℕ
  pub slots : ℕ

-- as code needs it
abbrev pub room_of : CodeData → Room
room_of code = record { operands = code.deepest; slots = length code.slots }

-- the phase of a task, its data, and its room
pub record Seen : Type 0 where
  pub phase : Phase
  pub conf : Point
  pub data' : Data
  pub room : Room

-- the request that is due
abbrev pub request_in : Phase → Option Request
request_in (phases.Asking request then) = Some request
request_in (phases.Over fate) = Some (End fate)
request_in _ = None
