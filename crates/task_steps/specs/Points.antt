-- Where a task is in its operations. Error recovery keeps places of operations; the code says which statements own
-- them.
use Rattle.std.specs.Prelude.{ℕ, List, map, Option, None, Some, if◌then◌else◌}
use Rattle.std.specs.Option.{option_map, unwrap_or}
use Rattle.typed_trees.specs.declared.datum.Datum.{Datum}
use Rattle.rapid_meaning.specs.Flows.{Way}
use Rattle.rapid_meaning.specs.Moves.{further, has_next}
use Rattle.stack_code.specs.CodeData.{CodeData}
use Rattle.stack_code.specs.Confs as confs
use Rattle.stack_code.specs.Confs.{Conf, Saved}
use Rattle.stack_code.specs.Placed.{Own, own_of, owner_at}
use Rattle.task_steps.specs.declared.requests.moving.Moving.{Moving}
use Rattle.task_steps.specs.declared.routines.failed.Failed.{Failed}
use Rattle.task_steps.specs.declared.routines.running.Running.{Running}

-- What goes on when a routine is left. Started: nothing, the task is done. Called: the caller, after the Call at this
-- place, with these operands. Trapped: the interrupted routine, at the Look at this place, in its move if it is in one.
pub data Waiting : Type 0 where
  Started : Waiting
  Called : ℕ → List Datum → Running → Waiting
  Trapped : ℕ → Running → Option Way → Waiting

-- the place of the next operation, the operands of the running routine, the last one first, and the routine; what waits
-- below it, the innermost first; and, between two setpoints, the move
pub record Point : Type 0 where
  pub pc : ℕ
  pub stack : List Datum
  pub frame : Running
  pub saved : List Waiting
  pub way : Option Way

-- outside a move
abbrev pub point : ℕ → List Datum → Running → List Waiting → Point
point pc stack frame saved = record { pc = pc; stack = stack; frame = frame; saved = saved; way = None }

-- a routine as it begins
abbrev pub fresh : ℕ → Running
fresh routine = record { routine = routine; failed = None }

-- a routine that has left its ERROR part
abbrev pub behind_part : Running → Running
behind_part frame = record frame { failed = None }

-- moves

abbrev pub way_of : Moving → Way
way_of moving = record { plan = moving.plan; given = moving.given }

-- a move once its next setpoint is given, if one is left then
abbrev pub way_further : Way → Option Way
way_further way = if has_next (further way) then Some (further way) else None

-- in code

-- the owner of a place outside the code
abbrev pub no_own : Own
no_own = record { retry = 0; next = 0; at = record { «module» = 0; byte = 0 } }

abbrev pub own_at : CodeData → ℕ → Own
own_at code pc = unwrap_or (option_map own_of (owner_at code.owners pc)) no_own

abbrev pub failed_in : CodeData → Failed → confs.Failed
failed_in code failed = record { own = own_at code failed.place; error = failed.error }

abbrev pub running_in : CodeData → Running → confs.Running
running_in code frame = record { routine = frame.routine; failed = option_map (failed_in code) frame.failed }

abbrev pub waiting_in : CodeData → Waiting → Saved
waiting_in code Started = confs.Started
waiting_in code (Called at stack frame) = confs.Called at (own_at code at) stack (running_in code frame)
waiting_in code (Trapped at frame way) = confs.Trapped at (running_in code frame) way

unfoldable pub saved_in : CodeData → List Waiting → List Saved
saved_in code saved = map (waiting_in code) saved

abbrev pub conf_in : CodeData → Point → Conf
conf_in code p = record { pc = p.pc; stack = p.stack; frame = running_in code p.frame; saved = saved_in code p.saved; way = p.way }
