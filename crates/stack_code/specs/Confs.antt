-- Where code is in its operations. Its data are those of rapid_meaning.
use Rattle.std.specs.Prelude.{ℕ, List, Option, None, Some}
use Rattle.typed_trees.specs.declared.datum.Datum.{Datum}
use Rattle.rapid_meaning.specs.Flows.{Way}
use Rattle.stack_code.specs.Placed.{Own}

-- the statement that failed, and its error
pub record Failed : Type 0 where
  pub own : Own
  pub error : ℕ

-- a routine that is running, and, while it is in its ERROR part, what failed
pub record Running : Type 0 where
  pub routine : ℕ
  pub failed : Option Failed

-- What continues when a routine is left. Started: nothing, the task is done. Called: the caller, after the Call at this
-- place, in this statement, with these operands. Trapped: the interrupted routine, at the Look at this place, in its
-- move if it is in one.
pub data Saved : Type 0 where
  Started : Saved
  Called : ℕ → Own → List Datum → Running → Saved
  Trapped : ℕ → Running → Option Way → Saved

-- the place of the next operation; the operands of the running routine, last one first; that routine; what continues
-- when it is left; and, between two setpoints, the move
pub record Conf : Type 0 where
  pub pc : ℕ
  pub stack : List Datum
  pub frame : Running
  pub saved : List Saved
  pub way : Option Way

-- outside a move
abbrev pub conf : ℕ → List Datum → Running → List Saved → Conf
conf pc stack frame saved = record { pc = pc; stack = stack; frame = frame; saved = saved; way = None }

-- a routine at its start
abbrev pub begun : ℕ → Running
begun routine = record { routine = routine; failed = None }

-- a routine in its ERROR part
abbrev pub in_part : Running → Own → ℕ → Running
in_part frame own error = record frame { failed = Some (record { own = own; error = error }) }

-- a routine that has left its ERROR part
abbrev pub behind_part : Running → Running
behind_part frame = record frame { failed = None }
