-- Constant arrays among the data of a task. Expressions that are known before the run read them.
use Rattle.std.specs.Prelude.{◌≡◌, ℕ, ◌+◌, List, length, Some, slice_get}
use Rattle.rapid_model.specs.declared.value.Value.{Value}
use Rattle.constant_meaning.specs.Constants.{Elements, array_of}
use Rattle.typed_trees.specs.Plain.{TypedRoutine, TypedTree}
use Rattle.typed_trees.specs.declared.datum.Datum.TheVariants.{Plain}
use Rattle.typed_trees.specs.declared.datum.Root.{Root}
use Rattle.typed_trees.specs.declared.datum.Root.TheVariants as roots
use Rattle.typed_trees.specs.declared.expr.TreeRoot.{TreeRoot}
use Rattle.typed_trees.specs.declared.expr.TreeRoot.TheVariants as tree_roots
use Rattle.rapid_meaning.specs.Data.{Data, datum_at}
use Rattle.rapid_meaning.specs.Layouts.{length_at, local_start, slot_start}

-- consecutive places hold these values
pub record Holds (d : Data) (place : ℕ → Root) (values : List Value) : Type 0 where
  pub at : (k : ℕ) (v : Value) → slice_get values k ≡ Some v → datum_at (place k) d ≡ Some (Plain v)

-- The data hold the elements of the known constant arrays, those of the module and those of the routine in the
-- innermost frame.
pub record HoldsArrays (tree : TypedTree) (routine : TypedRoutine) (known : Elements) (d : Data) : Type 0 where
  pub lengths : (root : TreeRoot) (values : List Value) → array_of known root ≡ Some values → length_at tree routine root ≡ Some (length values)
  pub slots : (row : ℕ) (values : List Value) → array_of known (tree_roots.Slot row) ≡ Some values → Holds d (λ k. roots.Slot (slot_start tree row + k)) values
  pub below : ℕ
  pub under_way : length d.frames ≡ below + 1
  pub locals : (row : ℕ) (values : List Value) → array_of known (tree_roots.Local row) ≡ Some values → Holds d (λ k. roots.Frame below (local_start routine row + k)) values
