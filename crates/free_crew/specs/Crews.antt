-- The rows of a crew: machines, passes and standings, a task having the same place in each.
use Rattle.std.specs.Prelude.{◌≡◌, ◌<◌, ◌≤◌, true, List, [], ◌∷◌, length, vec_capacity}
use Rattle.rapid_limits.specs.declared.TheConstants.{MOST_TASKS}
use Rattle.cell_gate.specs.GateData.{GateData}
use Rattle.cell_gate.specs.PassData.{PassData}
use Rattle.cell_gate.specs.Causes.{is_over}
use Rattle.free_crew.specs.declared.crew.Crew.{Crew}
use Rattle.free_crew.specs.declared.job.Job.{Job}
use Rattle.free_crew.specs.declared.standing.Standing.{Standing}

-- what each row has at one place
abbrev pub jobs_in : {M : Type 0} → List M → List PassData → List Standing → List (Job M)
jobs_in (m ∷ machines) (p ∷ passes) (s ∷ standings) = record { machine = m; pass = p; standing = s } ∷ jobs_in machines passes standings
jobs_in machines passes standings = []

abbrev pub jobs_of : {M : Type 0} → Crew M → List (Job M)
jobs_of crew = jobs_in crew.machines.items crew.passes.items crew.standings.items

-- The rows have one length, and there are not too many tasks.
pub record IsEven {M : Type 0} (crew : Crew M) : Type 0 where
  pub passes : length crew.passes.items ≡ length crew.machines.items
  pub standings : length crew.standings.items ≡ length crew.machines.items
  pub few : length crew.machines.items ≤ MOST_TASKS

-- there is room for one more task
pub record HasRoom {M : Type 0} (crew : Crew M) : Type 0 where
  pub machines : length crew.machines.items < vec_capacity crew.machines
  pub passes : length crew.passes.items < vec_capacity crew.passes
  pub few : length crew.machines.items < MOST_TASKS

-- in the same room
pub record IsSameRoom {M : Type 0} (old new : Crew M) : Type 0 where
  pub machines : vec_capacity new.machines ≡ vec_capacity old.machines
  pub passes : vec_capacity new.passes ≡ vec_capacity old.passes

-- rows of the same length as before, in the same room
pub record IsSameSize {M : Type 0} (old new : Crew M) : Type 0 where
  pub even : IsEven new
  pub len : length new.machines.items ≡ length old.machines.items
  pub room : IsSameRoom old new

-- The pass is the gate's, for its input script.
pub record IsScript (gate : GateData) (pass : PassData) : Type 0 where
  pub gate_is : pass.gate ≡ gate
  pub script : pass.actor ≡ length gate.cell.tasks

-- The pass is the gate's, for its input script, and has seen that no step of the script will ever be done.
pub record IsFed (gate : GateData) (pass : PassData) : Type 0 where
  pub script : IsScript gate pass
  pub over : is_over gate.cell pass.seen ≡ true
