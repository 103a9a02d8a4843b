-- A machine as contracts see it.
use Rattle.std.specs.Prelude.{Option}
use Rattle.rapid_model.specs.declared.request.Request.{Request}
use Rattle.rapid_meaning.specs.Data.{Data}
use Rattle.stack_code.specs.CodeData.{CodeData}
use Rattle.task_steps.specs.Points.{Point}
use Rattle.task_steps.specs.Seen.{request_in}
use Rattle.task_steps.specs.Phases.{Phase}

pub record MachineData : Type 0 where
  pub code : CodeData
  pub phase : Phase
  pub conf : Point
  pub data' : Data

-- the request that is due
abbrev pub request_of : MachineData → Option Request
request_of m = request_in m.phase
