-- How contracts see the routines typed so far.
use Rattle.std.specs.Prelude.{◌≡◌, List, Option, drop, length, map, option_map}
use Rattle.typed_trees.specs.Plain.{TypedLocal, TypedRoutine, TypedStmts, stmts_of}
use Rattle.typed_trees.specs.Views.{view_list, view_routine}
use Rattle.stmt_types.specs.Bodies.{Typed}
use Rattle.task_types.specs.declared.routine_list.RoutineList.{RoutineList}
use Rattle.task_types.specs.declared.typed_handler.TypedHandler.{TypedHandler}

abbrev pub view_routines : RoutineList → List TypedRoutine
view_routines rs = map view_routine rs.typed.items

-- of these rows of data, those of the remaining routines are left
abbrev pub HasLeft : List (List TypedLocal) → RoutineList → Type 0
HasLeft locals rs = rs.left ≡ drop (length (view_routines rs)) locals

abbrev pub view_handler : TypedHandler → Typed (Option TypedStmts)
view_handler h = record { tree = option_map (λ list. stmts_of (view_list list)) h.list; next = h.next }
