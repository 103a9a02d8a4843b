-- Calls of routines (RAPID Kernel, routine declarations), and what each part of a program does.
use Rattle.std.specs.Prelude.{List, Option, None, Some, slice_get}
use Rattle.rapid_model.specs.declared.fate.Fault.TheVariants.{NoReturn}
use Rattle.rapid_model.specs.declared.routine_kind.RoutineKind.{RoutineKind}
use Rattle.rapid_model.specs.declared.routine_kind.RoutineKind.TheVariants as kinds
use Rattle.typed_trees.specs.Plain.{TypedRoutine, TypedStmts, TypedTree}
use Rattle.typed_trees.specs.declared.datum.Datum.{Datum}
use Rattle.rapid_meaning.specs.Doings.{Doing, Gives, Raises, Misfit, ◌>>◌, after, fault}
use Rattle.rapid_meaning.specs.Flows.{Flow, Normal, Returns, Errors, Unguarded, Guarded, Where, Part, Attempt, Turn, Leg, Rest, Call}
use Rattle.rapid_meaning.specs.Frames.{enters, frame_of, leaves}
use Rattle.rapid_meaning.specs.Lists.{rest}
use Rattle.rapid_meaning.specs.Statements.{leg, stmt, turn}

abbrev pub errors_of : Option TypedStmts → Errors
errors_of None = Unguarded
errors_of (Some part) = Guarded part

-- the place of the statements of a routine's list
abbrev pub within : TypedRoutine → Where
within routine = record { routine = routine; errors = errors_of routine.handler }

-- a FUNC must return a value, and reaching its end is a fault; a PROC or a TRAP ends there, or returns
abbrev pub result : RoutineKind → Flow → Doing Flow
result kinds.Func (Returns (Some v)) = leaves >> Gives (Returns (Some v))
result kinds.Func Normal = fault NoReturn
result kinds.Func flow = Misfit
result kind Normal = leaves >> Gives Normal
result kind (Returns None) = leaves >> Gives Normal
result kind flow = Misfit

abbrev pub body : TypedTree → TypedRoutine → Doing Flow
body tree routine = rest tree (within routine) routine.list routine.list

-- A call makes the routine's frame, if there is room, and does its list. An error that leaves the routine is an error
-- of the statement that called it.
abbrev pub called : TypedTree → List Datum → Option TypedRoutine → Doing Flow
called tree args None = Misfit
called tree args (Some routine) = enters (frame_of routine args) >> after (body tree routine) (result routine.kind) (λ error. leaves >> Raises error)

-- what each part of a program does
abbrev pub part : TypedTree → Part → Doing Flow
part tree (Attempt w s) = stmt tree w s
part tree (Turn w s) = turn w s
part tree (Leg w s way) = leg w s way
part tree (Rest w list more) = rest tree w list more
part tree (Call routine args) = called tree args (slice_get tree.routines routine)
