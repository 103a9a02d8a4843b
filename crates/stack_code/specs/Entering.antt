-- How routines are entered: by a call, by an interrupt, and main at the start of the task.
use Rattle.std.specs.Prelude.{ℕ, ◌-◌, false, List, [], ◌∷◌, ◌++◌, take, drop, None, slice_get}
use Rattle.typed_trees.specs.declared.datum.Datum.{Datum}
use Rattle.rapid_meaning.specs.Data.{Data, Frame}
use Rattle.rapid_meaning.specs.Doings.{Doing, Gives, ◌>>=◌, ◌>>◌, or_misfit}
use Rattle.rapid_meaning.specs.Frames.{enters}
use Rattle.stack_code.specs.CodeData.{CodeData}
use Rattle.stack_code.specs.Confs.{Conf, Saved, Started, begun, conf}
use Rattle.stack_code.specs.declared.routine_row.RoutineRow.{RoutineRow}

-- the data of a routine at its start
abbrev pub frame_in : CodeData → RoutineRow → List Datum → Frame
frame_in code row args = record { values = args ++ take (row.values - row.args) (drop row.first code.firsts); seen = 0 }

abbrev pub entered : CodeData → ℕ → RoutineRow → List Datum → List Saved → Doing Conf
entered code routine row args saved = enters (frame_in code row args) >> Gives (conf row.entry [] (begun routine) saved)

-- enters a routine, by its number, with its arguments and what continues when it is left
abbrev pub enter : CodeData → ℕ → List Datum → List Saved → Doing Conf
enter code routine args saved = do
  row ← or_misfit (slice_get code.routines routine)
  entered code routine row args saved

-- the start of the task
abbrev pub started : CodeData → Doing Conf
started code = enter code code.main [] (Started ∷ [])

abbrev pub initial : CodeData → Data
initial code = record { slots = code.slots; frames = []; errno = 0; trapped = false; place = None }
