-- The data of a task have the types that its tree names. Values are complete, and constants are as declared. A place
-- that is passed by reference has its type and is not a constant's; it is among the modules' data, the data of the
-- frames below, or the persistents.
use Rattle.std.specs.Prelude.{◌≡◌, ℕ, ◌==◌, Bool, true, false, IsTrue, List, [], ◌∷◌, length, Option, Some, None, slice_get, if◌then◌else◌, ⊤}
use Rattle.std.specs.Option.{option_and_then}
use Rattle.rapid_model.specs.Paths.{has_element, part_sort}
use Rattle.rapid_model.specs.declared.sort.Sort.{Sort}
use Rattle.typed_trees.specs.Plain.{TypedPers, TypedRoutine, TypedTree}
use Rattle.typed_trees.specs.declared.datum.Datum.{Datum}
use Rattle.typed_trees.specs.declared.datum.Datum.TheVariants as datums
use Rattle.typed_trees.specs.declared.datum.Lvalue.{Lvalue}
use Rattle.typed_trees.specs.declared.datum.Root.{Root}
use Rattle.typed_trees.specs.declared.datum.Root.TheVariants as roots
use Rattle.rapid_meaning.specs.Data.{Data, Frame}
use Rattle.tree_typing.specs.Kinds.{Cell, Holds, Fixes, Lends, local_cells, slot_cells}
use Rattle.tree_typing.specs.WellTyped.{is_datum_of}

-- the persistent with this number, by a row of the tree
pub record IsPers (tree : TypedTree) (number : ℕ) (p : TypedPers) : Type 0 where
  pub row : ℕ
  pub numbered : slice_get tree.pers_of row ≡ Some number
  pub there : slice_get tree.pers row ≡ Some p

-- the places of the frame with this many frames below it
abbrev pub cells_at : List (List Cell) → ℕ → Option (List Cell)
cells_at [] number = None
cells_at (cells ∷ below) number = if length below == number then Some cells else cells_at below number

-- a place has data of this type; a place that is written is not a constant's
abbrev pub HasType : Bool → Cell → Sort → Type 0
HasType written (Holds own) sort = own ≡ sort
HasType written (Fixes own x) sort = (written ≡ false) × (own ≡ sort)
HasType written (Lends own) sort = ⊥

-- A root has data of this type, to be written or only read; frames are given by their places, innermost frame first.
abbrev pub IsRootOf : TypedTree → List (List Cell) → Bool → Root → Sort → Type 0
IsRootOf tree frames written (roots.Slot slot) sort = (cell : Cell) × (slice_get (slot_cells tree) slot ≡ Some cell) × HasType written cell sort
IsRootOf tree frames written (roots.Frame frame at) sort =
    (cell : Cell) × (option_and_then (λ cells. slice_get cells at) (cells_at frames frame) ≡ Some cell) × HasType written cell sort
IsRootOf tree frames written (roots.Pers pers index) sort = (p : TypedPers) × IsPers tree pers p × IsTrue (has_element p.len index) × (p.sort ≡ sort)

-- a place of this type
abbrev pub IsLvalue : TypedTree → List (List Cell) → Bool → Lvalue → Sort → Type 0
IsLvalue tree frames written place sort = (whole : Sort) × IsRootOf tree frames written place.root whole × (part_sort whole place.part ≡ Some sort)

-- A datum in its place, with these frames below: a constant has the datum of its declaration, and a place that was
-- passed by reference can be written.
abbrev pub IsInCell : TypedTree → List (List Cell) → Cell → Datum → Type 0
IsInCell tree frames (Holds sort) x = IsTrue (is_datum_of sort x)
IsInCell tree frames (Fixes sort fixed) x = (fixed ≡ Some x) × IsTrue (is_datum_of sort x)
IsInCell tree frames (Lends sort) (datums.Place place) = IsLvalue tree frames true place sort
IsInCell tree frames (Lends sort) x = ⊥

abbrev pub AreInCells : TypedTree → List (List Cell) → List Cell → List Datum → Type 0
AreInCells tree frames [] [] = ⊤
AreInCells tree frames (cell ∷ cells) (x ∷ xs) = IsInCell tree frames cell x × AreInCells tree frames cells xs
AreInCells tree frames _ _ = ⊥

-- each frame with those below it
abbrev pub AreFrames : TypedTree → List (List Cell) → List Frame → Type 0
AreFrames tree [] [] = ⊤
AreFrames tree (cells ∷ below) (frame ∷ frames) = AreInCells tree below cells frame.values × AreFrames tree below frames
AreFrames tree _ _ = ⊥

-- these are the places of a routine of the tree
pub record AreCalled (tree : TypedTree) (cells : List Cell) : Type 0 where
  pub number : ℕ
  pub routine : TypedRoutine
  pub there : slice_get tree.routines number ≡ Some routine
  pub are : cells ≡ local_cells routine

-- each frame has the places of a routine of the tree
abbrev pub AreOfRoutines : TypedTree → List (List Cell) → Type 0
AreOfRoutines tree [] = ⊤
AreOfRoutines tree (cells ∷ below) = AreCalled tree cells × AreOfRoutines tree below

-- the data, with frames of these places, in a trap or not
pub record IsState (tree : TypedTree) (trapped : Bool) (frames : List (List Cell)) (d : Data) : Type 0 where
  pub slots : AreInCells tree [] (slot_cells tree) d.slots
  pub frames_are : AreFrames tree frames d.frames
  pub called : AreOfRoutines tree frames
  pub in_trap : d.trapped ≡ trapped
