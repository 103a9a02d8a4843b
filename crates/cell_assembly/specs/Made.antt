-- The cell of a script and of its tasks' trees, and the trees with the cell's numbers for what is their own.
use Rattle.std.specs.Prelude.{ℕ, pos, List, [], ◌∷◌, map, replicate, Option, Some, None, Ok}
use Rattle.rapid_model.specs.CellData.{CellData}
use Rattle.rapid_model.specs.ScriptData.{ScriptData, row_of}
use Rattle.rapid_model.specs.Sorts.{width}
use Rattle.rapid_model.specs.declared.pers_cell.PersCell.{PersCell}
use Rattle.rapid_model.specs.declared.sort.Sort.{Sort}
use Rattle.rapid_model.specs.declared.value.Value.{Value}
use Rattle.rapid_model.specs.declared.value.Value.TheVariants as values
use Rattle.rapid_values.specs.Values.{start_value}
use Rattle.typed_trees.specs.Plain.{TypedTree}
use Rattle.rule_checks.specs.Checks.{◌>>=◌}
use Rattle.cell_assembly.specs.Cells.{Making, PersInfo, CellTables, cell_tables}

-- the initial value of an element; each persistent's type has values
abbrev pub start_of : Sort → Value
start_of sort = or_zero (start_value sort)
  where
    or_zero : Option Value → Value
    or_zero (Some v) = v
    or_zero None = values.Num (pos 0)

-- what a declaration gives the elements, otherwise their initial values
abbrev pub declared_values : PersInfo → List Value
declared_values p = or_start p.declared
  where
    or_start : Option (List Value) → List Value
    or_start (Some vs) = vs
    or_start None = replicate (width p.len) (start_of p.sort)

-- what the script gives the elements, in place of these values
abbrev pub over : List (Option Value) → List Value → List Value
over (Some given ∷ more) (v ∷ vs) = given ∷ over more vs
over (None ∷ more) (v ∷ vs) = v ∷ over more vs
over _ _ = []

abbrev pub pers_cell : PersInfo → PersCell
pers_cell p = record { name = p.name; owner = p.owner; sort = p.sort; len = p.len; first = over p.given (declared_values p) }

abbrev pub cell_of : ScriptData → CellTables → CellData
cell_of script tables = record {
  steps = script.steps;
  tasks = map row_of script.tasks;
  signals = script.signals;
  pers = map pers_cell tables.pers;
  meetings = tables.meetings;
  zones = script.zones;
  inputs = script.inputs;
}

abbrev pub with_numbers : TypedTree → List ℕ → List ℕ → TypedTree
with_numbers tree pers_of meeting_of = record {
  modules = tree.modules;
  tasks = tree.tasks;
  slots = tree.slots;
  pers = tree.pers;
  meetings = tree.meetings;
  routines = tree.routines;
  main = tree.main;
  pers_of = pers_of;
  meeting_of = meeting_of;
  axes = tree.axes;
}

abbrev pub numbered : List TypedTree → List (List ℕ) → List (List ℕ) → List TypedTree
numbered (tree ∷ trees) (pers ∷ more_pers) (meetings ∷ more_meetings) =
    with_numbers tree pers meetings ∷ numbered trees more_pers more_meetings
numbered _ _ _ = []

pub record MadeCell : Type 0 where
  pub cell : CellData
  pub trees : List TypedTree

-- the trees are those of the script's tasks, in order
abbrev pub make_cell : ScriptData → List TypedTree → Making MadeCell
make_cell script trees =
    cell_tables script.pers trees >>= (λ t. Ok (record { cell = cell_of script t; trees = numbered trees t.pers_of t.meeting_of }))
