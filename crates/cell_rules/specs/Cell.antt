-- Which cell belongs to a script and its tasks' trees, and which numbers the trees are given.
use Rattle.std.specs.Prelude.{◌≡◌, ℕ, List, length, map, flat_map, Some, slice_get}
use Rattle.rapid_model.specs.CellData.{CellData}
use Rattle.rapid_model.specs.ScriptData.{ScriptData, row_of}
use Rattle.rapid_model.specs.declared.pers_cell.PersCell.{PersCell}
use Rattle.rapid_model.specs.declared.pers_value.PersValue.{PersValue}
use Rattle.rapid_model.specs.Names.{IsOneName}
use Rattle.typed_trees.specs.Plain.{TypedTree}
use Rattle.cell_rules.specs.Declared.{AreOne, declared_by, meetings_of}
use Rattle.cell_rules.specs.First.{IsPersistent}
use Rattle.cell_rules.specs.Given.{IsRight}
use Rattle.cell_rules.specs.Numbering.{AreNumbered, IsFirst}

-- the tree with a number for each of its persistents and meetings
pub record IsNumberedTree (tree numbered : TypedTree) : Type 0 where
  pub same : numbered ≡ record tree { pers_of = numbered.pers_of; meeting_of = numbered.meeting_of }
  pub pers_of : length numbered.pers_of ≡ length tree.pers
  pub meeting_of : length numbered.meeting_of ≡ length tree.meetings

-- the numbers of all trees, in order
abbrev pub pers_numbers : List TypedTree → List ℕ
pers_numbers trees = flat_map (λ tree. tree.pers_of) trees

abbrev pub meeting_numbers : List TypedTree → List ℕ
meeting_numbers trees = flat_map (λ tree. tree.meeting_of) trees

-- The rows of the cell are the script's. Its persistents are those that the trees declare, each once; each value that
-- the script gives keeps the rules; and its meetings are the names of the trees' meetings, each once, as first spelled.
pub record IsCellOf (script : ScriptData) (trees : List TypedTree) (cell : CellData) (numbered : List TypedTree) : Type 0 where
  pub steps : cell.steps ≡ script.steps
  pub tasks : cell.tasks ≡ map row_of script.tasks
  pub signals : cell.signals ≡ script.signals
  pub zones : cell.zones ≡ script.zones
  pub inputs : cell.inputs ≡ script.inputs
  pub as_many : length numbered ≡ length trees
  pub each_tree : (task : ℕ) (tree with_numbers : TypedTree) → slice_get trees task ≡ Some tree → slice_get numbered task ≡ Some with_numbers → IsNumberedTree tree with_numbers
  pub pers_numbered : AreNumbered AreOne (declared_by trees) (pers_numbers numbered) (length cell.pers)
  pub persistents : (k : ℕ) (p : PersCell) → slice_get cell.pers k ≡ Some p → IsPersistent script.pers (declared_by trees) (pers_numbers numbered) k p
  pub given : (number : ℕ) (value : PersValue) → slice_get script.pers number ≡ Some value → IsRight (declared_by trees) script.pers number value
  pub meetings_numbered : AreNumbered IsOneName (meetings_of trees) (meeting_numbers numbered) (length cell.meetings)
  pub meetings : (k : ℕ) (name : List ℕ) → slice_get cell.meetings k ≡ Some name → IsFirst (meetings_of trees) (meeting_numbers numbered) k name
