-- Trees of small tasks, for the examples. Signal 0 is an input, signals 1 and 2 are outputs.
use Rattle.std.proofs.Common.{ℕ, ◌*◌, Bool, true, false, pos, List, [], ◌∷◌, Option, None, Some}
use Rattle.std.specs.Prelude.{codes, map, replicate}
use Rattle.rapid_model.specs.declared.instruction.Instruction.{Instruction}
use Rattle.rapid_model.specs.declared.instruction.Instruction.TheVariants as instructions
use Rattle.rapid_model.specs.declared.part_name.PartName.TheVariants as parts
use Rattle.rapid_model.specs.declared.predefined.Predefined.TheVariants as predefineds
use Rattle.rapid_model.specs.declared.sort.Sort.{Sort}
use Rattle.rapid_model.specs.declared.sort.Sort.TheVariants as sorts
use Rattle.rapid_model.specs.declared.value.Value.{Value}
use Rattle.rapid_model.specs.declared.value.Value.TheVariants as values
use Rattle.rapid_model.specs.declared.operator.Operator.{Operator}
use Rattle.rapid_model.specs.declared.mode.Mode.{Mode}
use Rattle.rapid_model.specs.declared.routine_kind.RoutineKind.{RoutineKind}
use Rattle.rapid_model.specs.declared.routine_kind.RoutineKind.TheVariants as kinds
use Rattle.typed_trees.specs.declared.datum.Datum.{Datum}
use Rattle.typed_trees.specs.declared.datum.Datum.TheVariants as datums
use Rattle.typed_trees.specs.declared.expr.TreeRoot.{TreeRoot}
use Rattle.typed_trees.specs.declared.expr.TreeRoot.TheVariants as roots
use Rattle.typed_trees.specs.Plain.{TypedArg, TypedExpr, TypedParam, TypedPers, TypedPlace, TypedRoutine, TypedSlot, TypedStmt, TypedTree, Known, Stored, Aggregate, Chain, NoSteps, MoreSteps, NotHeld, Held, PlaceOf, Given, Itself, Optional, NoArgument, Argument, Assign, Instruct, Call, Raise, If, NoArms, MoreArms, NoElse, args_of, exprs_of, stmts_of}

-- values

abbrev pub thousandths : ℕ → Value
thousandths n = values.Num (pos n)

abbrev pub number : ℕ → Value
number n = thousandths (n * 1_000)

abbrev pub literal : Value → TypedExpr
literal v = Known 0 sorts.Num v

abbrev pub num : ℕ → TypedExpr
num n = literal (number n)

abbrev pub bool : Bool → TypedExpr
bool b = Known 0 sorts.Bool (values.Bool b)

abbrev pub quoted : List ℕ → TypedExpr
quoted text = Known 0 sorts.Text (values.Text text)

-- v1000 and the like
abbrev pub speed : ℕ → TypedExpr
speed n = Known 0 sorts.SpeedData (values.Speed (pos (n * 1_000) ∷ pos 500_000 ∷ pos 5_000_000 ∷ pos 1_000_000 ∷ []))

abbrev pub absent : Value
absent = number 9_000_000_000

-- six axes and no external ones, as brackets
abbrev pub target : List Value → TypedExpr
target axes = Aggregate 0 sorts.JointTarget (exprs_of
    (Aggregate 0 sorts.RobJoint (exprs_of (map literal axes)) ∷ Aggregate 0 sorts.ExtJoint (exprs_of (replicate 6 (literal absent))) ∷ []))

-- the first axis at this many thousandths of a degree; the others at 0, or without a bound
abbrev pub first_at : ℕ → TypedExpr
first_at angle = target (thousandths angle ∷ replicate 5 (number 0))

abbrev pub first_bound : ℕ → TypedExpr
first_bound angle = target (thousandths angle ∷ replicate 5 absent)

-- operators

abbrev pub between : TypedExpr → Operator → TypedExpr → TypedExpr
between left o right = Chain 0 sorts.Num left (MoreSteps o right NoSteps)

-- places

abbrev pub whole_of : TreeRoot → Sort → TypedPlace
whole_of root sort = PlaceOf root NotHeld parts.Whole sort

abbrev pub module_num : ℕ → TypedPlace
module_num row = whole_of (roots.Slot row) sorts.Num

abbrev pub module_bool : ℕ → TypedPlace
module_bool row = whole_of (roots.Slot row) sorts.Bool

abbrev pub module_place : ℕ → Sort → TypedPlace
module_place row sort = whole_of (roots.Slot row) sort

abbrev pub element : ℕ → TypedExpr → TypedPlace
element row index = PlaceOf (roots.Slot row) (Held index) parts.Whole sorts.Num

abbrev pub stored : TypedPlace → TypedExpr
stored p = Stored 0 sorts.Num p

abbrev pub the_num : ℕ → TypedExpr
the_num row = stored (module_num row)

-- statements, in order

abbrev pub does : Instruction → List TypedArg → TypedStmt
does instruction args = Instruct 0 instruction (args_of args)

abbrev pub assigns : TypedPlace → TypedExpr → TypedStmt
assigns p e = Assign 0 p e

abbrev pub moves : TypedExpr → ℕ → TypedStmt
moves to v = does instructions.MoveAbsJ (Given to ∷ Optional (codes "NoEOffs") NoArgument ∷ Given (speed v) ∷ Itself predefineds.Fine ∷ Itself predefineds.Tool0 ∷ [])

abbrev pub says : List ℕ → TypedStmt
says text = does instructions.TPWrite (Given (quoted text) ∷ [])

abbrev pub says_num : List ℕ → TypedExpr → TypedStmt
says_num text e = does instructions.TPWrite (Given (quoted text) ∷ Optional (codes "Num") (Argument (Given e)) ∷ [])

abbrev pub says_bool : List ℕ → TypedExpr → TypedStmt
says_bool text e = does instructions.TPWrite (Given (quoted text) ∷ Optional (codes "Bool") (Argument (Given e)) ∷ [])

abbrev pub calls : ℕ → List TypedArg → TypedStmt
calls routine args = Call 0 routine (args_of args)

abbrev pub raises : ℕ → TypedStmt
raises n = Raise 0 (Some (num n))

abbrev pub when : TypedExpr → List TypedStmt → TypedStmt
when e list = If 0 (MoreArms e (stmts_of list) NoArms) NoElse

-- rows of data

abbrev pub datum_row : Sort → Option ℕ → List Datum → TypedSlot
datum_row sort len first = record { name = codes "x"; variable = true; sort = sort; len = len; first = first }

abbrev pub num_row : ℕ → TypedSlot
num_row n = datum_row sorts.Num None (datums.Plain (number n) ∷ [])

abbrev pub bool_row : TypedSlot
bool_row = datum_row sorts.Bool None (datums.Plain (values.Bool false) ∷ [])

abbrev pub mark_row : Sort → TypedSlot
mark_row sort = datum_row sort None (datums.Mark 0 ∷ [])

abbrev pub shape_row : TypedSlot
shape_row = datum_row sorts.ShapeData None (datums.Shape None ∷ [])

abbrev pub pers_row : Sort → Value → TypedPers
pers_row sort first = record { name = codes "k"; «module» = 0; at = 0; own = false; sort = sort; len = None; first = Some (first ∷ []) }

-- routines

abbrev pub routine : RoutineKind → List TypedStmt → TypedRoutine
routine kind list = record { name = codes "r"; «module» = 0; kind = kind; result = None; params = []; locals = []; list = stmts_of list; handler = None; loops = 0; at = 0 }

abbrev pub proc : List TypedStmt → TypedRoutine
proc list = routine kinds.Proc list

abbrev pub func : List TypedStmt → TypedRoutine
func list = record (routine kinds.Func list) { result = Some sorts.Num }

abbrev pub trap : List TypedStmt → TypedRoutine
trap list = routine kinds.Trap list

abbrev pub with_handler : TypedRoutine → List TypedStmt → TypedRoutine
with_handler r list = record r { handler = Some (stmts_of list) }

abbrev pub param : Mode → TypedParam
param mode = record { name = codes "p"; mode = mode; sort = sorts.Num }

-- a task whose main is the first routine
abbrev pub task_of : List TypedSlot → List TypedRoutine → TypedTree
task_of slots routines = record { modules = 1; tasks = codes "A" ∷ []; slots = slots; pers = []; meetings = []; routines = routines; main = 0; pers_of = []; meeting_of = []; axes = 6 }

abbrev pub with_pers : TypedTree → TypedPers → TypedTree
with_pers tree row = record tree { pers = row ∷ []; pers_of = 0 ∷ [] }
