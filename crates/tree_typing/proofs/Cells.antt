-- Data in their places: reading and writing.
use Rattle.std.proofs.Common.{◌≡◌, refl, sym, ap, ◌∙◌, subst, ℕ, zero, suc, ◌==◌, Bool, true, false, List, [], ◌∷◌, length, Option, Some, None, slice_get, slice_set, if◌then◌else◌, IsTrue, arith, ◌<◌}
use Rattle.std.proofs.lemmas.Bool.{eqb-true, eq-eqb, ne_eqb}
use Rattle.std.specs.Option.{option_and_then}
use Rattle.rapid_model.specs.declared.sort.Sort.{Sort}
use Rattle.typed_trees.specs.Plain.{TypedTree}
use Rattle.typed_trees.specs.declared.datum.Datum.{Datum}
use Rattle.rapid_meaning.specs.Data.{Frame, frame_at, with_datum, with_frame}
use Rattle.tree_typing.specs.Kinds.{Cell, Holds, Fixes, Lends}
use Rattle.tree_typing.specs.States.{HasType, IsInCell, AreInCells, AreFrames, cells_at}
use Rattle.tree_typing.specs.WellTyped.{is_datum_of}

-- a place of a type holds a datum of that type
pub datum_typed : (tree : TypedTree) (frames : List (List Cell)) (written : Bool) (cell : Cell) (sort : Sort) (x : Datum) → HasType written cell sort → IsInCell tree frames cell x
    → IsTrue (is_datum_of sort x)
datum_typed tree frames written (Holds own) sort x has is = subst (λ (y : Sort). IsTrue (is_datum_of y x)) has is
datum_typed tree frames written (Fixes own o) sort x has is = subst (λ (y : Sort). IsTrue (is_datum_of y x)) has.1 is.1
datum_typed tree frames written (Lends own) sort x has is = absurd has

-- a place that is written may hold any datum of its type
pub may_hold : (tree : TypedTree) (frames : List (List Cell)) (cell : Cell) (sort : Sort) (new : Datum) → HasType true cell sort → IsTrue (is_datum_of sort new) → IsInCell tree frames cell new
may_hold tree frames (Holds own) sort new has is = subst (λ (y : Sort). IsTrue (is_datum_of y new)) (sym has) is
may_hold tree frames (Fixes own o) sort new has is = let no : true ≡ false = has.0 in absurd cc
may_hold tree frames (Lends own) sort new has is = absurd has

-- what can be written can be read
pub has_either : (written : Bool) (cell : Cell) (sort : Sort) → HasType true cell sort → HasType written cell sort
has_either written (Holds own) sort has = has
has_either written (Fixes own o) sort has = let no : true ≡ false = has.0 in absurd cc
has_either written (Lends own) sort has = has

-- what a place holds fits the place
pub cell_read : (tree : TypedTree) (frames : List (List Cell)) (cells : List Cell) (xs : List Datum) (at : ℕ) (cell : Cell)
    → AreInCells tree frames cells xs → slice_get cells at ≡ Some cell → (x : Datum) × (slice_get xs at ≡ Some x) × IsInCell tree frames cell x
cell_read tree frames [] [] at cell are e = absurd cc
cell_read tree frames [] (x ∷ xs) at cell are e = absurd are
cell_read tree frames (c ∷ cells) [] at cell are e = absurd are
cell_read tree frames (c ∷ cells) (x ∷ xs) zero cell are e = let same : c ≡ cell = cc in (x, refl, subst (λ (y : Cell). IsInCell tree frames y x) same are.0)
cell_read tree frames (c ∷ cells) (x ∷ xs) (suc at) cell are e = cell_read tree frames cells xs at cell are.1 e

-- data fit their places after one is written
pub cell_written : (tree : TypedTree) (frames : List (List Cell)) (cells : List Cell) (xs : List Datum) (at : ℕ) (cell : Cell) (new : Datum)
    → AreInCells tree frames cells xs → slice_get cells at ≡ Some cell → IsInCell tree frames cell new → AreInCells tree frames cells (slice_set xs at new)
cell_written tree frames [] [] at cell new are e is = absurd cc
cell_written tree frames [] (x ∷ xs) at cell new are e is = absurd are
cell_written tree frames (c ∷ cells) [] at cell new are e is = absurd are
cell_written tree frames (c ∷ cells) (x ∷ xs) zero cell new are e is = let same : cell ≡ c = cc in (subst (λ (y : Cell). IsInCell tree frames y new) same is, are.1)
cell_written tree frames (c ∷ cells) (x ∷ xs) (suc at) cell new are e is = (are.0, cell_written tree frames cells xs at cell new are.1 e is)

pub as_deep : (tree : TypedTree) (frames : List (List Cell)) (fs : List Frame) → AreFrames tree frames fs → length frames ≡ length fs
as_deep tree [] [] are = refl
as_deep tree [] (f ∷ fs) are = absurd are
as_deep tree (cells ∷ frames) [] are = absurd are
as_deep tree (cells ∷ frames) (f ∷ fs) are = ap suc (as_deep tree frames fs are.1)

-- the frame of some cells
pub record HasFrame (tree : TypedTree) (o : Option Frame) (cells : List Cell) : Type 0 where
  pub frame : Frame
  pub below : List (List Cell)
  pub there : o ≡ Some frame
  pub are : AreInCells tree below cells frame.values

frame_here : (tree : TypedTree) (b : Bool) (first cells : List Cell) (o : Option (List Cell)) (below : List (List Cell)) (f : Frame) (p : Option Frame)
    → AreInCells tree below first f.values → (o ≡ Some cells → HasFrame tree p cells) → (if b then Some first else o) ≡ Some cells → HasFrame tree (if b then Some f else p) cells
frame_here tree true first cells o below f p are more e =
    let same : first ≡ cells = cc in record { frame = f; below = below; there = refl; are = subst (λ (x : List Cell). AreInCells tree below x f.values) same are }
frame_here tree false first cells o below f p are more e = more e

pub frame_read : (tree : TypedTree) (frames : List (List Cell)) (fs : List Frame) (k : ℕ) (cells : List Cell) → AreFrames tree frames fs → cells_at frames k ≡ Some cells
    → HasFrame tree (frame_at fs k) cells
unfolding frame_at
frame_read tree [] [] k cells are e = absurd cc
frame_read tree [] (f ∷ fs) k cells are e = absurd are
frame_read tree (first ∷ below) [] k cells are e = absurd are
frame_read tree (first ∷ below) (f ∷ fs) k cells are e =
    frame_here tree (length fs == k) first cells (cells_at below k) below f (frame_at fs k) are.0 (λ there. frame_read tree below fs k cells are.1 there)
    (subst (λ (n : ℕ). (if n == k then Some first else cells_at below k) ≡ Some cells) (as_deep tree below fs are.1) e)

-- the cell of a place in a frame
abbrev InFrame : List (List Cell) → ℕ → ℕ → Cell → Type 0
InFrame frames k at cell = option_and_then (λ cells. slice_get cells at) (cells_at frames k) ≡ Some cell

pub record HasCells (o : Option (List Cell)) (at : ℕ) (cell : Cell) : Type 0 where
  pub cells : List Cell
  pub there : o ≡ Some cells
  pub holds : slice_get cells at ≡ Some cell

pub has_cells : (o : Option (List Cell)) (at : ℕ) (cell : Cell) → option_and_then (λ cells. slice_get cells at) o ≡ Some cell → HasCells o at cell
has_cells None at cell e = absurd cc
has_cells (Some cells) at cell e = record { cells = cells; there = refl; holds = e }

-- for any frames below
abbrev IsInAny : TypedTree → Cell → Datum → Type 0
IsInAny tree cell x = (frames : List (List Cell)) → IsInCell tree frames cell x

written_here : (tree : TypedTree) (b : Bool) (first : List Cell) (below : List (List Cell)) (o : Option (List Cell)) (f g : Frame) (fs : List Frame) (k at : ℕ) (cell : Cell) (new : Datum)
    → AreInCells tree below first f.values → AreFrames tree below fs → IsInAny tree cell new
    → (o ≡ cells_at below k) → (frame_at fs k ≡ Some g → option_and_then (λ cells. slice_get cells at) o ≡ Some cell → AreFrames tree below (with_frame fs k (with_datum g at new)))
    → (if b then Some f else frame_at fs k) ≡ Some g → option_and_then (λ cells. slice_get cells at) (if b then Some first else o) ≡ Some cell
    → AreFrames tree (first ∷ below) (if b then with_datum g at new ∷ fs else f ∷ with_frame fs k (with_datum g at new))
written_here tree true first below o f g fs k at cell new are frames is same more there e =
    let one : f ≡ g = cc in
    (cell_written tree below first g.values at cell new (subst (λ (x : Frame). AreInCells tree below first x.values) one are) e (is below), frames)
written_here tree false first below o f g fs k at cell new are frames is same more there e = (are, more there e)

pub frame_written : (tree : TypedTree) (frames : List (List Cell)) (fs : List Frame) (k at : ℕ) (cell : Cell) (new : Datum) (g : Frame)
    → AreFrames tree frames fs → IsInAny tree cell new → frame_at fs k ≡ Some g → InFrame frames k at cell → AreFrames tree frames (with_frame fs k (with_datum g at new))
unfolding frame_at with_frame
frame_written tree [] [] k at cell new g are is there e = absurd cc
frame_written tree [] (f ∷ fs) k at cell new g are is there e = absurd are
frame_written tree (first ∷ below) [] k at cell new g are is there e = absurd are
frame_written tree (first ∷ below) (f ∷ fs) k at cell new g are is there e =
    written_here tree (length fs == k) first below (cells_at below k) f g fs k at cell new are.0 are.1 is refl
    (λ t i. frame_written tree below fs k at cell new g are.1 is t i) there
    (subst (λ (n : ℕ). option_and_then (λ cells. slice_get cells at) (if n == k then Some first else cells_at below k) ≡ Some cell) (as_deep tree below fs are.1) e)

depth_here : (b : Bool) (first cells : List Cell) (o : Option (List Cell)) (k n : ℕ) → (b ≡ true → k < suc n) → (o ≡ Some cells → k < suc n)
    → (if b then Some first else o) ≡ Some cells → k < suc n
depth_here true first cells o k n here more e = here refl
depth_here false first cells o k n here more e = more e

below_top : (frames : List (List Cell)) (k : ℕ) (cells : List Cell) → cells_at frames k ≡ Some cells → k < length frames
below_top [] k cells e = absurd cc
below_top (first ∷ below) k cells e =
    depth_here (length below == k) first cells (cells_at below k) k (length below)
    (λ same. let is : length below ≡ k = eqb-true (length below) k same in omega (arith, is))
    (λ there. let less : k < length below = below_top below k cells there in omega (arith, less)) e

not_top : (frames : List (List Cell)) (k : ℕ) → k < length frames → (length frames == k) ≡ false
not_top frames k less = ne_eqb (length frames) k (λ (e : length frames ≡ k). omega (arith, e, less))

-- a frame stays when another is pushed on top
pub deeper : (frames : List (List Cell)) (top : List Cell) (k : ℕ) (cells : List Cell) → cells_at frames k ≡ Some cells → cells_at (top ∷ frames) k ≡ Some cells
deeper frames top k cells e = ap (λ (b : Bool). if b then Some top else cells_at frames k) (not_top frames k (below_top frames k cells e)) ∙ e

-- the top frame has its own number
pub top_frame : (frames : List (List Cell)) (top : List Cell) → cells_at (top ∷ frames) (length frames) ≡ Some top
top_frame frames top = ap (λ (b : Bool). if b then Some top else cells_at frames (length frames)) (eq-eqb (length frames) (length frames) refl)
