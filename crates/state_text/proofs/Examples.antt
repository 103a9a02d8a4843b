-- The lines on examples worked by hand.
use Rattle.std.proofs.Common.{◌≡◌, refl, ℕ, Bool, pos, neg_ℤ, List, [], ◌∷◌, Option, None, Some, true, false}
use Rattle.std.specs.Prelude.{codes, replicate}
use Rattle.std.specs.Fmt.{digits}
use Rattle.rapid_num.specs.declared.shape.Shape.{Shape}
use Rattle.rapid_model.specs.CellData.{CellData}
use Rattle.rapid_model.specs.declared.answer.Answer.TheVariants.{Go, Ok}
use Rattle.rapid_model.specs.declared.fate.Fate.TheVariants as fates
use Rattle.rapid_model.specs.declared.part_name.PartName.TheVariants as parts
use Rattle.rapid_model.specs.declared.path.Path.{Path}
use Rattle.rapid_model.specs.declared.request.Request.TheVariants.{End, Hold, Input, Look, WriteP}
use Rattle.rapid_model.specs.declared.sort.Sort.{Sort}
use Rattle.rapid_model.specs.declared.sort.Sort.TheVariants as sorts
use Rattle.rapid_model.specs.declared.task_row.TaskRow.{TaskRow}
use Rattle.rapid_model.specs.declared.value.Value.TheVariants as values
use Rattle.typed_trees.specs.Plain.{TypedSlot, TypedTree}
use Rattle.typed_trees.specs.declared.datum.Datum.TheVariants.{Mark, Plain, Shape as ShapeOf}
use Rattle.cell_listing.specs.Listing.{numbered}
use Rattle.cell_state.specs.States.{TaskStateData}
use Rattle.state_text.specs.TraceLines.{no_sources, trace_line}
use Rattle.state_text.specs.StateLines.{SourcesData, datum_line, datum_lines, state_lines, task_line, value_line, value_lines}

tasks : List TaskRow
tasks = record { name = codes "A"; arm = None; axes = 0 } ∷ record { name = codes "B"; arm = None; axes = 0 } ∷ []

-- a persistent that all tasks share, and an element of an array that the second task owns
shared : value_line tasks 0 (record { name = codes "k"; owner = None; sort = sorts.Num; len = None; first = [] }) None (values.Num (neg_ℤ (pos 2_500))) ≡ codes "P0 * k -2.5\n"
unfolding digits tasks
shared = refl

own : value_lines tasks 12 (record { name = codes "Full"; owner = Some 1; sort = sorts.Bool; len = Some 2; first = [] } ∷ []) ((values.Bool true ∷ values.Bool false ∷ []) ∷ [])
    ≡ codes "P12 B Full{1} TRUE\n" ∷ codes "P12 B Full{2} FALSE\n" ∷ []
unfolding digits numbered tasks
own = refl

-- module data: a value, an interrupt's number, a shape that is not defined, and one that is
value : datum_line (codes "A") (codes "Speed") None (Plain (values.Num (pos 500))) ≡ codes "V A Speed 0.5\n"
unfolding digits
value = refl

number : datum_line (codes "A") (codes "door") None (Mark 3) ≡ codes "V A door 3\n"
unfolding digits
number = refl

undefined : datum_line (codes "A") (codes "limits") None (ShapeOf None) ≡ codes "V A limits -\n"
undefined = refl

abbrev narrow : Shape
narrow = record { inside = true; bounds = Some (record { low = pos 10_500; high = pos 11_500 }) ∷ replicate 11 None }

defined : datum_line (codes "A") (codes "limits") None (ShapeOf (Some narrow)) ≡ codes "V A limits Inside 10.5:11.5 - - - - - - - - - - -\n"
unfolding digits
defined = refl

abbrev row_of : List ℕ → Bool → Sort → Option ℕ → TypedSlot
row_of name variable sort len = record { name = name; variable = variable; sort = sort; len = len; first = [] }

-- a constant array and the name of a meeting take their places, but are not shown
rows : datum_lines (codes "A") (row_of (codes "x") true sorts.Num None ∷ row_of (codes "all") false sorts.Num (Some 2) ∷ row_of (codes "meet") true sorts.SyncIdent None
    ∷ row_of (codes "y") true sorts.Num (Some 2) ∷ [])
    (Plain (values.Num (pos 1_000)) ∷ Plain (values.Num (pos 7_000)) ∷ Plain (values.Num (pos 8_000)) ∷ Mark 0 ∷ Plain (values.Num (pos 2_000)) ∷ Plain (values.Num (pos 3_000)) ∷ [])
    ≡ codes "V A x 1\n" ∷ codes "V A y{1} 2\n" ∷ codes "V A y{2} 3\n" ∷ []
unfolding digits numbered
rows = refl

-- two tasks that run one module

abbrev text : List ℕ
text = codes "MODULE M\nPERS bool busy := FALSE;\nPROC main()\nWaitTestAndSet busy;\nbusy := FALSE;\nENDPROC\nENDMODULE\n"

abbrev sources : SourcesData
sources = record { files = codes "sem.mod" ∷ []; texts = text ∷ [] }

abbrev busy : Path
busy = record { index = 0; part = parts.Whole }

abbrev first_task : TaskStateData
first_task = record { place = Some (record { «module» = 0; byte = 67 }); next = Some (WriteP 0 busy (values.Bool false)); values = [] }

abbrev second_task : TaskStateData
second_task = record { place = Some (record { «module» = 0; byte = 46 }); next = Some (Hold 0); values = [] }

abbrev tree : TypedTree
tree = record { modules = 1; tasks = codes "A" ∷ codes "B" ∷ []; slots = []; pers = []; meetings = []; routines = []; main = 0; pers_of = []; meeting_of = []; axes = 0 }

cell : CellData
cell = record {
  steps = 100;
  tasks = tasks;
  signals = [];
  pers = record { name = codes "busy"; owner = None; sort = sorts.Bool; len = None; first = values.Bool false ∷ [] } ∷ [];
  meetings = [];
  zones = [];
  inputs = [];
}

waiting : state_lines cell (tree ∷ tree ∷ []) (sources ∷ sources ∷ []) (record { tasks = first_task ∷ second_task ∷ []; pers = (values.Bool true ∷ []) ∷ [] })
    ≡ codes "P0 * busy TRUE\n" ∷ codes "N A sem.mod 5:1 WriteP P0 FALSE\n" ∷ codes "N B sem.mod 4:1 Hold 0\n" ∷ []
unfolding digits numbered tasks cell
waiting = refl

-- a task that has ended, and one that never looked
ended : task_line (codes "B") sources (record { place = Some (record { «module» = 0; byte = 67 }); next = None; values = [] }) ≡ codes "N B sem.mod 5:1 ended\n"
unfolding digits
ended = refl

placeless : task_line (codes "B") sources (record { place = None; next = Some (End fates.Done); values = [] }) ≡ codes "N B - - End Done\n"
unfolding digits
placeless = refl

-- events with their places: a write of the statement that began last, the Look of another one, the End of a task that
-- never looked, and a step of the input script
written : trace_line tasks sources (Some (record { «module» = 0; byte = 67 })) (record { actor = 0; request = WriteP 0 busy (values.Bool false); answer = Ok })
    ≡ codes "M A sem.mod 5:1 WriteP P0 FALSE > Ok\n"
unfolding digits tasks
written = refl

looked : trace_line tasks sources (Some (record { «module» = 0; byte = 46 })) (record { actor = 1; request = Look; answer = Go 3 }) ≡ codes "M B sem.mod 4:1 Look > Go 3\n"
unfolding digits tasks
looked = refl

over : trace_line tasks sources None (record { actor = 1; request = End fates.Done; answer = Ok }) ≡ codes "M B - - End Done > Ok\n"
unfolding tasks
over = refl

step : trace_line tasks no_sources None (record { actor = 2; request = Input 0; answer = Ok }) ≡ codes "M - - - Input 0 > Ok\n"
unfolding digits tasks
step = refl
