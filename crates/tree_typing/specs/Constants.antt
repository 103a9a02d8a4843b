-- The data of a task hold its constant arrays as declared. A CONST that is not an array has no datum: the tree has its
-- value wherever it is named.
use Rattle.std.specs.Prelude.{◌≡◌, ℕ, ◌+◌, false, length, Some, slice_get}
use Rattle.typed_trees.specs.Plain.{TypedLocal, TypedRoutine, TypedSlot, TypedTree}
use Rattle.typed_trees.specs.declared.datum.Datum.{Datum}
use Rattle.typed_trees.specs.declared.datum.Root.TheVariants as roots
use Rattle.rapid_meaning.specs.Data.{Data, Frame, datum_at, frame_at}
use Rattle.rapid_meaning.specs.Layouts.{local_start, slot_start}

-- the frame with this number belongs to a routine of the tree, and has each element of its constant arrays
pub record KeepsLocals (tree : TypedTree) (d : Data) (number : ℕ) : Type 0 where
  pub index : ℕ
  pub routine : TypedRoutine
  pub there : slice_get tree.routines index ≡ Some routine
  pub elements : (row k : ℕ) (local : TypedLocal) (x : Datum) → slice_get routine.locals row ≡ Some local → local.variable ≡ false → slice_get local.first k ≡ Some x
      → datum_at (roots.Frame number (local_start routine (length routine.params + row) + k)) d ≡ Some x

-- the data have each element of the modules' constant arrays, and of those of each frame's routine
pub record KeepsConstants (tree : TypedTree) (d : Data) : Type 0 where
  pub elements : (row k : ℕ) (slot : TypedSlot) (x : Datum) → slice_get tree.slots row ≡ Some slot → slot.variable ≡ false → slice_get slot.first k ≡ Some x
      → datum_at (roots.Slot (slot_start tree row + k)) d ≡ Some x
  pub locals : (number : ℕ) (frame : Frame) → frame_at d.frames number ≡ Some frame → KeepsLocals tree d number
