-- What a machine keeps of the waiting routines, as contracts see it.
use Rattle.std.specs.Prelude.{List, [], ◌∷◌, Option, None, Some}
use Rattle.std.specs.Option.{option_map}
use Rattle.typed_trees.specs.declared.datum.Datum.{Datum}
use Rattle.task_steps.specs.Points.{Point, Waiting, Started, Called, Trapped, way_of}
use Rattle.task_steps.specs.declared.routines.left.Left.{Left}
use Rattle.task_steps.specs.declared.routines.left.Left.TheVariants as lefts
use Rattle.task_steps.specs.declared.routines.row.Row.{Row}
use Rattle.task_steps.specs.declared.routines.row.Row.TheVariants as rows

-- a routine that waits, with its operands
abbrev pub saved_row : Row → List Datum → Waiting
saved_row rows.Started stack = Started
saved_row (rows.Called at frame) stack = Called at stack frame
saved_row (rows.Trapped at frame way) stack = Trapped at frame (option_map way_of way)

-- all of them, the innermost first, with the operands of each
abbrev pub saved_of : List Row → List (List Datum) → List Waiting
saved_of (row ∷ rows) (stack ∷ below) = saved_row row stack ∷ saved_of rows below
saved_of _ _ = []

-- what lay below a routine that was left, by what it returned to
abbrev pub left_by : Option Left → Point → List Waiting
left_by None p = []
left_by (Some lefts.Started) p = Started ∷ p.saved
left_by (Some lefts.Called) p = Called p.pc p.stack p.frame ∷ p.saved
left_by (Some lefts.Trapped) p = Trapped p.pc p.frame p.way ∷ p.saved
