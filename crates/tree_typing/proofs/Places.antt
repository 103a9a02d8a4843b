-- Places of data, from their typed forms.
use Rattle.std.proofs.Common.{◌≡◌, refl, sym, ap, ◌∙◌, subst, ℕ, ◌+◌, ◌-◌, ◌<◌, ◌≤◌, Bool, true, ℤ, List, [], ◌∷◌, length, Option, Some, None, slice_get, IsTrue, arith}
use Rattle.std.specs.Option.{option_and_then, option_map}
use Rattle.std.proofs.lemmas.Bool.{le-leb}
use Rattle.rapid_model.specs.Sorts.{width}
use Rattle.rapid_model.specs.Paths.{has_element, has_sort, part_sort}
use Rattle.rapid_model.specs.declared.fate.Fault.TheVariants.{IndexRange}
use Rattle.rapid_model.specs.declared.part_name.PartName.{PartName}
use Rattle.rapid_model.specs.declared.sort.Sort.{Sort}
use Rattle.rapid_model.specs.declared.sort.Sort.TheVariants as sorts
use Rattle.rapid_model.specs.declared.value.Value.{Value}
use Rattle.rapid_model.specs.declared.value.Value.TheVariants as values
use Rattle.rapid_values.specs.Elements.{element_number}
use Rattle.rapid_values.proofs.Elements.{element_within}
use Rattle.typed_trees.specs.Plain.{TypedPers, TypedRoutine, TypedSlot, TypedTree}
use Rattle.typed_trees.specs.declared.datum.Datum.{Datum}
use Rattle.typed_trees.specs.declared.datum.Datum.TheVariants as datums
use Rattle.typed_trees.specs.declared.datum.Lvalue.{Lvalue}
use Rattle.typed_trees.specs.declared.datum.Root.{Root}
use Rattle.typed_trees.specs.declared.datum.Root.TheVariants as roots
use Rattle.typed_trees.specs.declared.expr.TreeRoot.{TreeRoot}
use Rattle.typed_trees.specs.declared.expr.TreeRoot.TheVariants as tree_roots
use Rattle.rapid_meaning.specs.Data.{Data, Frame, datum_at}
use Rattle.rapid_meaning.specs.Doings.{Gives, Reads, or_misfit}
use Rattle.rapid_meaning.specs.Layouts.{length_at, local_start, slot_start}
use Rattle.rapid_meaning.specs.Places.{at_element, at_root, element_or_fault, element_root, indexed, kept_place, own_place, part_at, part_within, place_in, place_of_element, rooted, there_in}
use Rattle.rapid_meaning.specs.Values.{num_in}
use Rattle.rapid_meaning.proofs.Begins.{Anything}
use Rattle.tree_typing.specs.Expressions.{IsOwn, IsRoot}
use Rattle.tree_typing.specs.Kinds.{Cell, Holds, Lends, Kind, Refers, Counts, kinds_of, local_cells, slot_kind}
use Rattle.tree_typing.specs.Setting.{Setting}
use Rattle.tree_typing.specs.States.{AreFrames, HasType, IsInCell, IsLvalue, IsRootOf, cells_at}
use Rattle.tree_typing.specs.WellTyped.{is_datum_of}
use Rattle.tree_typing.proofs.Cells.{HasCells, as_deep, cell_read, deeper, has_cells, has_either, top_frame}
use Rattle.tree_typing.proofs.Data.{frame_datum, slot_datum}
use Rattle.tree_typing.proofs.Forms.{num_form}
use Rattle.tree_typing.proofs.Parts.{inner_part}
use Rattle.tree_typing.proofs.Rows.{OwnCell, at_repeated, local_len, local_row, own_cell, slot_len, slot_row}
use Rattle.tree_typing.proofs.Safe.{Safe, safe_any, safe_fault, safe_gives, safe_or, safe_reads, safe_then}
use Rattle.tree_typing.proofs.Scene.{Facts, InScene, Scene}

-- in a routine, with these frames below
pub record Inside : Type 0 where
  pub c : Setting
  pub facts : Facts c
  pub trapped : Bool
  pub routine : TypedRoutine
  pub below : List (List Cell)

abbrev pub scene : Inside → Scene
scene i = record { c = i.c; facts = i.facts; trapped = i.trapped; frames = local_cells i.routine ∷ i.below }

-- a place of this type in a scene, to read or to write
abbrev pub IsThere : Scene → Bool → Lvalue → Sort → Type 0
IsThere s written q sort = IsLvalue s.c.tree s.frames written q sort

-- a datum of this type, or an array of this length with elements of it
abbrev pub IsRooted : Scene → Bool → Lvalue → Sort → Option ℕ → Type 0
IsRooted s written q sort None = IsThere s written q sort
IsRooted s written q sort (Some len) = (number : ℕ) → 1 ≤ number → number ≤ len → IsThere s written (place_of_element q number) sort

own_there : (tree : TypedTree) (cells : List Cell) (below : List (List Cell)) (fs : List Frame) (at : ℕ) → AreFrames tree (cells ∷ below) fs
    → own_place at fs ≡ at_root (roots.Frame (length below) at)
own_there tree cells below [] at are = absurd are
own_there tree cells below (f ∷ fs) at are = ap (λ (n : ℕ). at_root (roots.Frame n at)) (sym (as_deep tree below fs are.1))

-- a place of the routine's own data
pub own_safe : (i : Inside) (P : Lvalue → Type 0) (at : ℕ) → P (at_root (roots.Frame (length i.below) at)) → (d : Data) → InScene (scene i) d
    → Safe (scene i) P (Gives (own_place at d.frames))
own_safe i P at p d is = safe_gives (scene i) P (own_place at d.frames) (subst P (sym (own_there i.c.tree (local_cells i.routine) i.below d.frames at is.frames_are)) p)

top_cell : (i : Inside) (at : ℕ) (written : Bool) (cell : Cell) (sort : Sort) → slice_get (local_cells i.routine) at ≡ Some cell → HasType written cell sort
    → IsThere (scene i) written (at_root (roots.Frame (length i.below) at)) sort
top_cell i at written cell sort e has =
    (sort, (cell, ap (λ (o : Option (List Cell)). option_and_then (λ cells. slice_get cells at) o) (top_frame i.below (local_cells i.routine)) ∙ e, has), refl)

-- a place of a row of the routine
row_cell : (i : Inside) (row k : ℕ) (written : Bool) (kind : Kind) (sort : Sort) (len : Option ℕ) → slice_get (kinds_of i.routine) row ≡ Some kind → IsOwn written kind sort len → k < width len
    → IsThere (scene i) written (at_root (roots.Frame (length i.below) (local_start i.routine row + k))) sort
row_cell i row k written kind sort len e own few =
    let one : OwnCell written kind k sort = own_cell written kind k sort len own few in
    top_cell i (local_start i.routine row + k) written one.cell sort (local_row i.routine row k kind one.cell e one.there one.few) one.has

-- one of the three places of a FOR
pub count_cell : (i : Inside) (row k : ℕ) → slice_get (kinds_of i.routine) row ≡ Some Counts → k < 3
    → IsThere (scene i) true (at_root (roots.Frame (length i.below) (local_start i.routine row + k))) sorts.Num
count_cell i row k e few =
    top_cell i (local_start i.routine row + k) true (Holds sorts.Num) sorts.Num (local_row i.routine row k Counts (Holds sorts.Num) e (at_repeated 3 k (Holds sorts.Num) few) few) refl

own_rooted : (i : Inside) (row : ℕ) (written : Bool) (kind : Kind) (sort : Sort) (len : Option ℕ) → slice_get (kinds_of i.routine) row ≡ Some kind → IsOwn written kind sort len
    → IsRooted (scene i) written (at_root (roots.Frame (length i.below) (local_start i.routine row))) sort len
own_rooted i row written kind sort None e is =
    let same : local_start i.routine row + 0 ≡ local_start i.routine row = omega arith in
    subst (λ (n : ℕ). IsThere (scene i) written (at_root (roots.Frame (length i.below) n)) sort) same (row_cell i row 0 written kind sort None e is (omega arith))
own_rooted i row written kind sort (Some len) e is = λ number low high. row_cell i row (number - 1) written kind sort (Some len) e is (omega (arith, low, high))

-- a place below a frame
deeper_root : (tree : TypedTree) (frames : List (List Cell)) (top : List Cell) (written : Bool) (root : Root) (sort : Sort) → IsRootOf tree frames written root sort
    → IsRootOf tree (top ∷ frames) written root sort
deeper_root tree frames top written (roots.Slot slot) sort is = is
deeper_root tree frames top written (roots.Frame k at) sort is =
    let has : HasCells (cells_at frames k) at is.0 = has_cells (cells_at frames k) at is.0 is.1 in
    (is.0, ap (λ (o : Option (List Cell)). option_and_then (λ cells. slice_get cells at) o) (deeper frames top k has.cells has.there) ∙ has.holds, is.2)
deeper_root tree frames top written (roots.Pers pers index) sort is = is

pub deeper_lvalue : (tree : TypedTree) (frames : List (List Cell)) (top : List Cell) (written : Bool) (q : Lvalue) (sort : Sort) → IsLvalue tree frames written q sort
    → IsLvalue tree (top ∷ frames) written q sort
deeper_lvalue tree frames top written q sort is = (is.0, deeper_root tree frames top written q.root is.0 is.1, is.2)

-- a place that can be written can be read
root_either : (tree : TypedTree) (frames : List (List Cell)) (written : Bool) (root : Root) (sort : Sort) → IsRootOf tree frames true root sort → IsRootOf tree frames written root sort
root_either tree frames written (roots.Slot slot) sort is = (is.0, is.1, has_either written is.0 sort is.2)
root_either tree frames written (roots.Frame k at) sort is = (is.0, is.1, has_either written is.0 sort is.2)
root_either tree frames written (roots.Pers pers index) sort is = is

either : (tree : TypedTree) (frames : List (List Cell)) (written : Bool) (q : Lvalue) (sort : Sort) → IsLvalue tree frames true q sort → IsLvalue tree frames written q sort
either tree frames written q sort is = (is.0, root_either tree frames written q.root is.0 is.1, is.2)

lent_form : (tree : TypedTree) (frames : List (List Cell)) (sort : Sort) (x : Datum) → IsInCell tree frames (Lends sort) x → (q : Lvalue) × (x ≡ datums.Place q) × IsLvalue tree frames true q sort
lent_form tree frames sort (datums.Place q) is = (q, refl, is)
lent_form tree frames sort (datums.Plain v) is = absurd is
lent_form tree frames sort (datums.Mark n) is = absurd is
lent_form tree frames sort (datums.Shape shape) is = absurd is

-- the place that is kept in a frame
kept_there : (tree : TypedTree) (cells : List Cell) (below : List (List Cell)) (fs : List Frame) (at : ℕ) (sort : Sort) → AreFrames tree (cells ∷ below) fs
    → slice_get cells at ≡ Some (Lends sort) → (q : Lvalue) × (kept_place at fs ≡ Some q) × IsLvalue tree below true q sort
kept_there tree cells below [] at sort are e = absurd are
kept_there tree cells below (f ∷ fs) at sort are e =
    let read : (x : Datum) × (slice_get f.values at ≡ Some x) × IsInCell tree below (Lends sort) x = cell_read tree below cells f.values at (Lends sort) are.0 e in
    let form : (q : Lvalue) × (read.0 ≡ datums.Place q) × IsLvalue tree below true q sort = lent_form tree below sort read.0 read.2 in
    (form.0, ap (option_and_then place_in) read.1 ∙ ap place_in form.1, form.2)

ref_safe : (i : Inside) (row : ℕ) (written : Bool) (sort : Sort) → slice_get (kinds_of i.routine) row ≡ Some (Refers sort) → (d : Data) → InScene (scene i) d
    → Safe (scene i) (λ q. IsThere (scene i) written q sort) (or_misfit (kept_place (local_start i.routine row) d.frames))
ref_safe i row written sort e d is =
    let same : local_start i.routine row + 0 ≡ local_start i.routine row = omega arith in
    let cell : slice_get (local_cells i.routine) (local_start i.routine row) ≡ Some (Lends sort) =
    subst (λ (n : ℕ). slice_get (local_cells i.routine) n ≡ Some (Lends sort)) same (local_row i.routine row 0 (Refers sort) (Lends sort) e refl (omega arith)) in
    let kept : (q : Lvalue) × (kept_place (local_start i.routine row) d.frames ≡ Some q) × IsLvalue i.c.tree i.below true q sort =
    kept_there i.c.tree (local_cells i.routine) i.below d.frames (local_start i.routine row) sort is.frames_are cell in
    safe_or (scene i) (λ q. IsThere (scene i) written q sort) (kept_place (local_start i.routine row) d.frames) kept.0 kept.1
    (deeper_lvalue i.c.tree i.below (local_cells i.routine) written kept.0 sort (either i.c.tree i.below written kept.0 sort kept.2))

slot_at : (s : Scene) (row k : ℕ) (written : Bool) (slot : TypedSlot) (sort : Sort) (len : Option ℕ) → slice_get s.c.tree.slots row ≡ Some slot → IsOwn written (slot_kind slot) sort len → k < width len
    → IsThere s written (at_root (roots.Slot (slot_start s.c.tree row + k))) sort
slot_at s row k written slot sort len e own few =
    let one : OwnCell written (slot_kind slot) k sort = own_cell written (slot_kind slot) k sort len own few in
    (sort, (one.cell, slot_row s.c.tree row k slot one.cell e one.there one.few, one.has), refl)

slot_rooted : (s : Scene) (row : ℕ) (written : Bool) (slot : TypedSlot) (sort : Sort) (len : Option ℕ) → slice_get s.c.tree.slots row ≡ Some slot → IsOwn written (slot_kind slot) sort len
    → IsRooted s written (at_root (roots.Slot (slot_start s.c.tree row))) sort len
slot_rooted s row written slot sort None e own =
    let same : slot_start s.c.tree row + 0 ≡ slot_start s.c.tree row = omega arith in
    subst (λ (n : ℕ). IsThere s written (at_root (roots.Slot n)) sort) same (slot_at s row 0 written slot sort None e own (omega arith))
slot_rooted s row written slot sort (Some len) e own = λ number low high. slot_at s row (number - 1) written slot sort (Some len) e own (omega (arith, low, high))

pers_rooted : (s : Scene) (written : Bool) (row number : ℕ) (p : TypedPers) (len : Option ℕ) → slice_get s.c.tree.pers_of row ≡ Some number → slice_get s.c.tree.pers row ≡ Some p → p.len ≡ len
    → IsRooted s written (at_root (roots.Pers number 0)) p.sort len
pers_rooted s written row number p None is e n =
    (p.sort, (p, record { row = row; numbered = is; there = e }, subst (λ (l : Option ℕ). IsTrue (has_element l 0)) (sym n) refl, refl), refl)
pers_rooted s written row number p (Some len) is e n = λ index low high. (
  p.sort,
  (
    p,
    record { row = row; numbered = is; there = e },
    subst (λ (l : Option ℕ). IsTrue (has_element l index)) (sym n) (rw (le-leb 1 index low, le-leb index len high) refl),
    refl,
  ),
  refl,
)

pub rooted_safe : (i : Inside) (written : Bool) (root : TreeRoot) (sort : Sort) (len : Option ℕ) → IsRoot i.c.tree (kinds_of i.routine) written root sort len
    → Safe (scene i) (λ q. IsRooted (scene i) written q sort len) (rooted i.c.tree i.routine root)
rooted_safe i written (tree_roots.Slot row) sort len is =
    safe_gives (scene i) (λ q. IsRooted (scene i) written q sort len) (at_root (roots.Slot (slot_start i.c.tree row))) (slot_rooted (scene i) row written is.0 sort len is.1 is.2)
rooted_safe i written (tree_roots.Local row) sort len is =
    safe_reads (scene i) (λ q. IsRooted (scene i) written q sort len) (λ d. Gives (own_place (local_start i.routine row) d.frames))
    (own_safe i (λ q. IsRooted (scene i) written q sort len) (local_start i.routine row) (own_rooted i row written is.0 sort len is.1 is.2))
rooted_safe i written (tree_roots.Ref row) sort len is =
    subst (λ (l : Option ℕ). Safe (scene i) (λ q. IsRooted (scene i) written q sort l) (rooted i.c.tree i.routine (tree_roots.Ref row))) (sym is.1)
    (safe_reads (scene i) (λ q. IsThere (scene i) written q sort) (λ d. or_misfit (kept_place (local_start i.routine row) d.frames)) (ref_safe i row written sort is.0))
rooted_safe i written (tree_roots.Pers row) sort len is =
    let number : (n : ℕ) × (slice_get i.c.tree.pers_of row ≡ Some n) = i.facts.numbers row is.0 is.1 in
    safe_or (scene i) (λ q. IsRooted (scene i) written q sort len) (option_map (λ pers. at_root (roots.Pers pers 0)) (slice_get i.c.tree.pers_of row)) (at_root (roots.Pers number.0 0))
    (ap (option_map (λ pers. at_root (roots.Pers pers 0))) number.1)
    (subst (λ (x : Sort). IsRooted (scene i) written (at_root (roots.Pers number.0 0)) x len) is.2 (pers_rooted (scene i) written row number.0 is.0 len number.1 is.1 is.3))

pub root_len : (i : Inside) (written : Bool) (root : TreeRoot) (sort : Sort) (len : Option ℕ) → IsRoot i.c.tree (kinds_of i.routine) written root sort len → length_at i.c.tree i.routine root ≡ len
root_len i written (tree_roots.Slot row) sort len is = ap (λ (o : Option TypedSlot). option_and_then (λ s. s.len) o) is.1 ∙ slot_len written is.0 sort len is.2
root_len i written (tree_roots.Local row) sort len is = local_len i.c.tree i.routine written row is.0 sort len is.1 is.2
root_len i written (tree_roots.Ref row) sort len is = sym is.1
root_len i written (tree_roots.Pers row) sort len is = ap (λ (o : Option TypedPers). option_and_then (λ p. p.len) o) is.1 ∙ is.3

pub part_safe : (s : Scene) (written : Bool) (q : Lvalue) (whole sort : Sort) (part : PartName) → IsThere s written q whole → part_sort whole part ≡ Some sort
    → Safe s (λ r. IsThere s written r sort) (part_at part q)
part_safe s written q whole sort part is e =
    let inner : (p : PartName) × (part_within q.part part ≡ Some p) × (part_sort is.0 p ≡ Some sort) = inner_part is.0 whole sort q.part part is.2 e in
    safe_or s (λ r. IsThere s written r sort) (option_map (λ x. record q { part = x }) (part_within q.part part)) (record q { part = inner.0 })
    (ap (option_map (λ x. record q { part = x })) inner.1) (is.0, is.1, inner.2)

-- a place of the scene is among its data
there_safe : (s : Scene) (written : Bool) (q : Lvalue) (root : Root) (whole sort : Sort) → IsRootOf s.c.tree s.frames written root whole → IsThere s written q sort
    → Safe s (λ r. IsThere s written r sort) (Reads (λ d. or_misfit (there_in d q root)))
there_safe s written q (roots.Slot slot) whole sort is there =
    safe_reads s (λ r. IsThere s written r sort) (λ d. or_misfit (there_in d q (roots.Slot slot)))
    (λ d state.
    let held : (x : Datum) × (datum_at (roots.Slot slot) d ≡ Some x) × IsTrue (is_datum_of whole x) = slot_datum s.c.tree s.trapped s.frames d written slot whole state is in
    safe_or s (λ r. IsThere s written r sort) (there_in d q (roots.Slot slot)) q (ap (option_map (λ (x : Datum). q)) held.1) there)
there_safe s written q (roots.Frame k at) whole sort is there =
    safe_reads s (λ r. IsThere s written r sort) (λ d. or_misfit (there_in d q (roots.Frame k at)))
    (λ d state.
    let held : (x : Datum) × (datum_at (roots.Frame k at) d ≡ Some x) × IsTrue (is_datum_of whole x) = frame_datum s.c.tree s.trapped s.frames d written k at whole state is in
    safe_or s (λ r. IsThere s written r sort) (there_in d q (roots.Frame k at)) q (ap (option_map (λ (x : Datum). q)) held.1) there)
there_safe s written q (roots.Pers pers index) whole sort is there =
    safe_reads s (λ r. IsThere s written r sort) (λ d. or_misfit (there_in d q (roots.Pers pers index))) (λ d state. safe_gives s (λ r. IsThere s written r sort) q there)

pub at_element_safe : (s : Scene) (written : Bool) (q : Lvalue) (sort : Sort) (k : ℕ) → IsThere s written (place_of_element q k) sort → Safe s (λ r. IsThere s written r sort) (at_element q k)
at_element_safe s written q sort k is = there_safe s written (place_of_element q k) (element_root q.root k) is.0 sort is.1 is

element_safe : (s : Scene) (written : Bool) (q : Lvalue) (sort : Sort) (len : ℕ) (o : Option ℕ) → IsRooted s written q sort (Some len) → ((k : ℕ) → o ≡ Some k → (1 ≤ k) × (k ≤ len))
    → Safe s (λ r. IsThere s written r sort) (element_or_fault q o)
element_safe s written q sort len None rooted within = safe_fault s (λ r. IsThere s written r sort) IndexRange
element_safe s written q sort len (Some k) rooted within = let is : (1 ≤ k) × (k ≤ len) = within k refl in at_element_safe s written q sort k (rooted k is.0 is.1)

pub num_safe : (s : Scene) (v : Value) → IsTrue (has_sort sorts.Num v) → Safe s Anything (num_in v)
num_safe s v h = let f : (n : ℤ) × (v ≡ values.Num n) = num_form v h in subst (λ (x : Value). Safe s Anything (num_in x)) (sym f.1) (safe_any s f.0)

pub indexed_safe : (s : Scene) (written : Bool) (q : Lvalue) (sort : Sort) (len : ℕ) (o : Option ℕ) (v : Value) → o ≡ Some len → IsRooted s written q sort (Some len) → IsTrue (has_sort sorts.Num v)
    → Safe s (λ r. IsThere s written r sort) (indexed o q v)
indexed_safe s written q sort len o v e rooted h =
    subst (λ (x : Option ℕ). Safe s (λ r. IsThere s written r sort) (indexed x q v)) (sym e)
    (safe_then s Anything (λ r. IsThere s written r sort) (num_in v) (λ n. element_or_fault q (element_number len n)) (num_safe s v h)
    (λ n _. element_safe s written q sort len (element_number len n) rooted (element_within len n)))
