-- What contracts see of a pass.
use Rattle.std.specs.Prelude.{ℕ, List}
use Rattle.rapid_model.specs.declared.event.Event.{Event}
use Rattle.cell_gate.specs.GateData.{GateData}

-- Its gate; its actor (a task, by its number from 0 in script order, or the input script, which has the next number);
-- the prefix of the history that it has seen; its actor's events; and how often it took the turn. Only that raises this
-- number, and it shows the whole history.
pub record PassData : Type 0 where
  pub gate : GateData
  pub actor : ℕ
  pub seen : List Event
  pub mine : List Event
  pub looks : ℕ
