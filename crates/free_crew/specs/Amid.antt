-- A task during a run: its machine, its pass, and how it stands.
use Rattle.std.specs.Prelude.{◌≡◌, ℕ, ◌<◌, Bool, true, false, List, length, map, Option, Some, IsSomeAnd, slice_get}
use Rattle.rapid_model.specs.CellData.{CellData}
use Rattle.rapid_model.specs.Own.{has_ended, is_held}
use Rattle.rapid_model.specs.declared.answer.Answer.{Answer}
use Rattle.rapid_model.specs.declared.request.Request.{Request}
use Rattle.cell_meaning.specs.Counted.{can_be_served}
use Rattle.cell_meaning.specs.Stalled.{is_stalled}
use Rattle.cell_gate.specs.GateData.{GateData}
use Rattle.cell_gate.specs.PassData.{PassData}
use Rattle.cell_crew.specs.Courses.{IsCourse, SuitsTask}
use Rattle.cell_crew.specs.UnderWay.{UnderWay}
use Rattle.free_crew.specs.declared.job.Job.{Job}
use Rattle.free_crew.specs.declared.standing.Standing.{Standing}
use Rattle.free_crew.specs.declared.standing.Standing.TheVariants as standings

-- it asks nothing more
abbrev pub is_stopped : Standing → Bool
is_stopped standings.Going = false
is_stopped standings.Waiting = false
is_stopped standings.Ended = true
is_stopped standings.Cut = true
is_stopped standings.Stalled = true

-- the task has not ended, and is held
pub record IsWaiting (pass : PassData) : Type 0 where
  pub going : has_ended pass.mine ≡ false
  pub held : is_held pass.mine ≡ true

-- the task has not ended, and its next request could not be served after what its pass has seen
pub record IsCut (due : Option Request) (cell : CellData) (pass : PassData) : Type 0 where
  pub going : has_ended pass.mine ≡ false
  pub unserved : IsSomeAnd due (λ request. can_be_served cell pass.seen request ≡ false)

-- Why a task stands so: it has not ended, it is held, it has ended, no steps are left for its next request, or the cell
-- was stalled.
abbrev pub HasCause : Option Request → CellData → PassData → Standing → Type 0
HasCause due cell pass standings.Going = has_ended pass.mine ≡ false
HasCause due cell pass standings.Waiting = IsWaiting pass
HasCause due cell pass standings.Ended = has_ended pass.mine ≡ true
HasCause due cell pass standings.Cut = IsCut due cell pass
HasCause due cell pass standings.Stalled = is_stalled cell pass.seen ≡ true

-- The task with this number: its pass is the gate's and its own, its program suits it, its events are a course of the
-- program, its machine stands for them, and it stands as it does for a cause.
pub record IsAmid {M P : Type 0} (program : M → P) (fits : P → List Answer → Type 0) (program_asks : P → List Answer → Request → Type 0) (stands_for : M → List Answer → Type 0) (due : M → Option Request) (gate : GateData) (task : ℕ) (job : Job M) : Type 0 where
  pub gate_is : job.pass.gate ≡ gate
  pub actor_is : job.pass.actor ≡ task
  pub within : task < length gate.cell.tasks
  pub suits : SuitsTask fits program_asks gate.cell task (program job.machine)
  pub course : IsCourse program_asks gate.cell task (program job.machine) job.pass.mine
  pub way : UnderWay stands_for due job.machine job.pass.mine
  pub cause : HasCause (due job.machine) gate.cell job.pass job.standing

-- What a step, a thread or a round makes of a task: it is still under way, and its machine runs the same program.
pub record GoesOnAs {M P : Type 0} (program : M → P) (fits : P → List Answer → Type 0) (program_asks : P → List Answer → Request → Type 0) (stands_for : M → List Answer → Type 0) (due : M → Option Request) (gate : GateData) (task : ℕ) (old new : Job M) : Type 0 where
  pub amid : IsAmid program fits program_asks stands_for due gate task new
  pub program_is : program new.machine ≡ program old.machine

-- it holds of each task, by its number from 0
pub record EachJob {M : Type 0} (Q : ℕ → Job M → Type 0) (jobs : List (Job M)) : Type 0 where
  pub each : (task : ℕ) (job : Job M) → slice_get jobs task ≡ Some job → Q task job

-- the first tasks are under way
abbrev pub AreAmid : {M P : Type 0} → (M → P) → (P → List Answer → Type 0) → (P → List Answer → Request → Type 0) → (M → List Answer → Type 0) → (M → Option Request) → GateData → List (Job M) → Type 0
AreAmid program fits program_asks stands_for due gate jobs = EachJob (λ task job. IsAmid program fits program_asks stands_for due gate task job) jobs

-- no task asks anything more
abbrev pub HaveStopped : {M : Type 0} → List (Job M) → Type 0
HaveStopped jobs = EachJob (λ task job. is_stopped job.standing ≡ true) jobs

-- the machines run the same programs
pub record IsSamePrograms {M P : Type 0} (program : M → P) (old new : List (Job M)) : Type 0 where
  pub same : map (λ job. program job.machine) new ≡ map (λ job. program job.machine) old
