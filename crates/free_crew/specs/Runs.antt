-- What the run of a crew needs, and its outcome.
use Rattle.std.specs.Prelude.{List, Option}
use Rattle.rapid_model.specs.declared.answer.Answer.{Answer}
use Rattle.rapid_model.specs.declared.request.Request.{Request}
use Rattle.cell_gate.specs.GateData.{GateData}
use Rattle.free_crew.specs.Amid.{AreAmid, HaveStopped, IsSamePrograms}
use Rattle.free_crew.specs.Crews.{IsEven, IsFed, IsSameSize, IsScript, jobs_of}
use Rattle.free_crew.specs.declared.crew.Crew.{Crew}

-- each task is under way, and the last pass is the input script's
pub record MayRun {M P : Type 0} (program : M → P) (fits : P → List Answer → Type 0) (program_asks : P → List Answer → Request → Type 0) (stands_for : M → List Answer → Type 0) (due : M → Option Request) (gate : GateData) (crew : Crew M) : Type 0 where
  pub even : IsEven crew
  pub amid : AreAmid program fits program_asks stands_for due gate (jobs_of crew)
  pub script : IsScript gate crew.script

-- each task has stopped for a cause, and so has the input script
pub record HasRun {M P : Type 0} (program : M → P) (fits : P → List Answer → Type 0) (program_asks : P → List Answer → Request → Type 0) (stands_for : M → List Answer → Type 0) (due : M → Option Request) (gate : GateData) (old new : Crew M) : Type 0 where
  pub size : IsSameSize old new
  pub amid : AreAmid program fits program_asks stands_for due gate (jobs_of new)
  pub programs : IsSamePrograms program (jobs_of old) (jobs_of new)
  pub stopped : HaveStopped (jobs_of new)
  pub fed : IsFed gate new.script
