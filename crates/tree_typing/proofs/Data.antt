-- Data with types: their parts, and reading and writing a task's data at a place.
use Rattle.std.proofs.Common.{◌≡◌, ◌⊎◌, inl, inr, ⊎_elim, refl, sym, ap, ◌∙◌, subst, ℕ, Bool, true, false, ◌&&◌, nat_le, nat_lt, List, [], Option, Some, slice_get, IsTrue}
use Rattle.std.specs.Option.{option_and_then, option_map}
use Rattle.rapid_num.specs.declared.shape.Shape.{Shape}
use Rattle.rapid_model.specs.Paths.{has_sort, num_where, part_sort}
use Rattle.rapid_model.specs.Sorts.{has_values}
use Rattle.rapid_model.specs.declared.part_name.PartName.{PartName}
use Rattle.rapid_model.specs.declared.part_name.PartName.TheVariants as parts
use Rattle.rapid_model.specs.declared.sort.Sort.{Sort}
use Rattle.rapid_model.specs.declared.sort.Sort.TheVariants as sorts
use Rattle.rapid_model.specs.declared.value.Value.{Value}
use Rattle.rapid_values.specs.Values.{part_of, put_part}
use Rattle.typed_trees.specs.Plain.{TypedTree}
use Rattle.typed_trees.specs.declared.datum.Datum.{Datum}
use Rattle.typed_trees.specs.declared.datum.Datum.TheVariants as datums
use Rattle.typed_trees.specs.declared.datum.Root.TheVariants as roots
use Rattle.rapid_meaning.specs.Data.{Data, Frame, datum_at, frame_at, put_at, put_in_frame, with_datum, with_frame}
use Rattle.rapid_meaning.specs.Places.{part_in, put_in}
use Rattle.rapid_meaning.proofs.Wholes.{whole_in}
use Rattle.tree_typing.specs.Kinds.{Cell, slot_cells}
use Rattle.tree_typing.specs.States.{AreFrames, IsInCell, IsRootOf, IsState}
use Rattle.tree_typing.specs.WellTyped.{is_datum_of, is_marked}
use Rattle.tree_typing.proofs.Cells.{HasCells, HasFrame, cell_read, cell_written, datum_typed, frame_read, frame_written, has_cells, may_hold}
use Rattle.tree_typing.proofs.Forms.{valued}
use Rattle.tree_typing.proofs.Parts.{value_part, value_put}

-- a part is the whole, or both have values
abbrev pub IsWholeOrValued : Sort → PartName → Sort → Type 0
IsWholeOrValued whole part sort = (part ≡ parts.Whole) × (whole ≡ sort) ⊎ IsTrue (has_values whole) × IsTrue (has_values sort)

num_valued : (b : Bool) (sort : Sort) → num_where b ≡ Some sort → IsTrue (has_values sort)
num_valued true sort e = let same : sorts.Num ≡ sort = cc in subst (λ (x : Sort). IsTrue (has_values x)) same refl
num_valued false sort e = absurd cc

some_valued : (own sort : Sort) → IsTrue (has_values own) → Some own ≡ Some sort → IsTrue (has_values sort)
some_valued own sort h e = let same : own ≡ sort = cc in subst (λ (x : Sort). IsTrue (has_values x)) same h

pub whole_or_valued : (whole : Sort) (part : PartName) (sort : Sort) → part_sort whole part ≡ Some sort → IsWholeOrValued whole part sort
whole_or_valued whole parts.Whole sort e = inl (refl, cc)
whole_or_valued sorts.JointTarget parts.Robax sort e = inr (refl, some_valued sorts.RobJoint sort refl e)
whole_or_valued sorts.JointTarget parts.Extax sort e = inr (refl, some_valued sorts.ExtJoint sort refl e)
whole_or_valued sorts.JointTarget (parts.Axis n) sort e = inr (refl, num_valued (nat_lt n 12) sort e)
whole_or_valued sorts.RobJoint (parts.Axis n) sort e = inr (refl, num_valued (nat_lt n 6) sort e)
whole_or_valued sorts.ExtJoint (parts.Axis n) sort e = inr (refl, num_valued (nat_le 6 n && nat_lt n 12) sort e)
whole_or_valued sorts.SpeedData (parts.SpeedPart n) sort e = inr (refl, num_valued (nat_lt n 4) sort e)
whole_or_valued sorts.Tasks parts.Taskname sort e = inr (refl, some_valued sorts.Text sort refl e)
whole_or_valued whole part sort e = absurd cc

-- a part of a type with values has values
pub part_valued : (whole : Sort) (part : PartName) (sort : Sort) → IsTrue (has_values whole) → part_sort whole part ≡ Some sort → IsTrue (has_values sort)
part_valued whole part sort h e =
    ⊎_elim (λ w. subst (λ (x : Sort). IsTrue (has_values x)) w.1 h) (λ v. v.1) (whole_or_valued whole part sort e)

no_mark : (sort : Sort) → IsTrue (is_marked sort) → IsTrue (has_values sort) → ⊥
no_mark sorts.IntNum marked holds = cc
no_mark sorts.SyncIdent marked holds = cc
no_mark sorts.WzTemporary marked holds = cc
no_mark sorts.WzStationary marked holds = cc
no_mark sort marked holds = cc

shape_sort : (sort : Sort) (s : Option Shape) → IsTrue (is_datum_of sort (datums.Shape s)) → sort ≡ sorts.ShapeData
shape_sort sorts.ShapeData s is = refl
shape_sort sort s is = absurd cc

no_shape : (sort : Sort) → sort ≡ sorts.ShapeData → IsTrue (has_values sort) → ⊥
no_shape sort e holds = let no_values : IsTrue (has_values sorts.ShapeData) = subst (λ (x : Sort). IsTrue (has_values x)) e holds in cc

no_marked_shape : (sort : Sort) → sort ≡ sorts.ShapeData → IsTrue (is_marked sort) → ⊥
no_marked_shape sort e marked = let no_number : IsTrue (is_marked sorts.ShapeData) = subst (λ (x : Sort). IsTrue (is_marked x)) e marked in cc

-- a datum of a type with values is a value
pub plain_form : (sort : Sort) (x : Datum) → IsTrue (has_values sort) → IsTrue (is_datum_of sort x) → (v : Value) × (x ≡ datums.Plain v) × IsTrue (has_sort sort v)
plain_form sort (datums.Plain v) holds is = (v, refl, is)
plain_form sort (datums.Mark n) holds is = absurd (no_mark sort is holds)
plain_form sort (datums.Shape s) holds is = absurd (no_shape sort (shape_sort sort s is) holds)
plain_form sort (datums.Place place) holds is = absurd cc

pub mark_form : (sort : Sort) (x : Datum) → IsTrue (is_marked sort) → IsTrue (is_datum_of sort x) → (n : ℕ) × (x ≡ datums.Mark n)
mark_form sort (datums.Mark n) marked is = (n, refl)
mark_form sort (datums.Plain v) marked is = absurd (no_mark sort marked (valued sort v is))
mark_form sort (datums.Shape s) marked is = absurd (no_marked_shape sort (shape_sort sort s is) marked)
mark_form sort (datums.Place place) marked is = absurd cc

pub shape_form : (x : Datum) → IsTrue (is_datum_of sorts.ShapeData x) → (s : Option Shape) × (x ≡ datums.Shape s)
shape_form (datums.Shape s) is = (s, refl)
shape_form (datums.Plain v) is = absurd cc
shape_form (datums.Mark n) is = absurd cc
shape_form (datums.Place place) is = absurd cc

-- a datum of a type
abbrev HasDatum : Option Datum → Sort → Type 0
HasDatum o sort = (x : Datum) × (o ≡ Some x) × IsTrue (is_datum_of sort x)

valued_in : (whole : Sort) (part : PartName) (sort : Sort) (x : Datum) → IsTrue (has_values whole) → IsTrue (is_datum_of whole x) → part_sort whole part ≡ Some sort → HasDatum (part_in part x) sort
valued_in whole part sort x holds is e =
    let f : (v : Value) × (x ≡ datums.Plain v) × IsTrue (has_sort whole v) = plain_form whole x holds is in
    let found : (w : Value) × (part_of f.0 part ≡ Some w) × IsTrue (has_sort sort w) = value_part whole sort part f.0 f.2 e in
    (datums.Plain found.0, ap (part_in part) f.1 ∙ ap (option_map datums.Plain) found.1, found.2)

pub datum_part : (whole : Sort) (part : PartName) (sort : Sort) (x : Datum) → IsTrue (is_datum_of whole x) → part_sort whole part ≡ Some sort → HasDatum (part_in part x) sort
datum_part whole part sort x is e =
    ⊎_elim
    (λ w. (x, subst (λ (p : PartName). part_in p x ≡ Some x) (sym w.0) (whole_in x), subst (λ (y : Sort). IsTrue (is_datum_of y x)) w.1 is))
    (λ v. valued_in whole part sort x v.0 is e) (whole_or_valued whole part sort e)

-- the whole is replaced
marks_only : (sort : Sort) (n : ℕ) (new : Datum) → IsTrue (is_datum_of sort (datums.Mark n)) → IsTrue (is_datum_of sort new) → put_in parts.Whole new (datums.Mark n) ≡ Some new
marks_only sort n new marked is =
    let f : (m : ℕ) × (new ≡ datums.Mark m) = mark_form sort new marked is in
    subst (λ (x : Datum). put_in parts.Whole x (datums.Mark n) ≡ Some x) (sym f.1) refl

plains_only : (sort : Sort) (v : Value) (new : Datum) → IsTrue (is_datum_of sort (datums.Plain v)) → IsTrue (is_datum_of sort new) → put_in parts.Whole new (datums.Plain v) ≡ Some new
plains_only sort v new plain is =
    let f : (w : Value) × (new ≡ datums.Plain w) × IsTrue (has_sort sort w) = plain_form sort new (valued sort v plain) is in
    subst (λ (x : Datum). put_in parts.Whole x (datums.Plain v) ≡ Some x) (sym f.1) refl

whole_put : (sort : Sort) (x new : Datum) → IsTrue (is_datum_of sort x) → IsTrue (is_datum_of sort new) → put_in parts.Whole new x ≡ Some new
whole_put sort (datums.Plain v) new is also = plains_only sort v new is also
whole_put sort (datums.Mark n) new is also = marks_only sort n new is also
whole_put sort (datums.Shape s) new is also =
    let f : (r : Option Shape) × (new ≡ datums.Shape r) = shape_form new (subst (λ (y : Sort). IsTrue (is_datum_of y new)) (shape_sort sort s is) also) in
    subst (λ (y : Datum). put_in parts.Whole y (datums.Shape s) ≡ Some y) (sym f.1) refl
whole_put sort (datums.Place q) new is also = absurd cc

valued_put : (whole : Sort) (part : PartName) (sort : Sort) (x new : Datum) → IsTrue (has_values whole) → IsTrue (has_values sort) → IsTrue (is_datum_of whole x) → part_sort whole part ≡ Some sort
    → IsTrue (is_datum_of sort new) → HasDatum (put_in part new x) whole
valued_put whole part sort x new hw hs is e also =
    let f : (v : Value) × (x ≡ datums.Plain v) × IsTrue (has_sort whole v) = plain_form whole x hw is in
    let g : (v : Value) × (new ≡ datums.Plain v) × IsTrue (has_sort sort v) = plain_form sort new hs also in
    let found : (w : Value) × (put_part f.0 part g.0 ≡ Some w) × IsTrue (has_sort whole w) = value_put whole sort part f.0 g.0 f.2 e g.2 in
    (datums.Plain found.0, ap (λ (y : Datum). put_in part y x) g.1 ∙ ap (put_in part (datums.Plain g.0)) f.1 ∙ ap (option_map datums.Plain) found.1, found.2)

pub datum_put : (whole : Sort) (part : PartName) (sort : Sort) (x new : Datum) → IsTrue (is_datum_of whole x) → part_sort whole part ≡ Some sort → IsTrue (is_datum_of sort new)
    → HasDatum (put_in part new x) whole
datum_put whole part sort x new is e also =
    ⊎_elim
    (λ w. let own : IsTrue (is_datum_of whole new) = subst (λ (y : Sort). IsTrue (is_datum_of y new)) (sym w.1) also in
    (new, subst (λ (p : PartName). put_in p new x ≡ Some new) (sym w.0) (whole_put whole x new is own), own))
    (λ v. valued_put whole part sort x new v.0 v.1 is e also) (whole_or_valued whole part sort e)

-- what the data hold at a place of their own
pub slot_datum : (tree : TypedTree) (trapped : Bool) (frames : List (List Cell)) (d : Data) (written : Bool) (slot : ℕ) (sort : Sort) → IsState tree trapped frames d
    → IsRootOf tree frames written (roots.Slot slot) sort → HasDatum (datum_at (roots.Slot slot) d) sort
slot_datum tree trapped frames d written slot sort is root =
    let read : (x : Datum) × (slice_get d.slots slot ≡ Some x) × IsInCell tree [] root.0 x = cell_read tree [] (slot_cells tree) d.slots slot root.0 is.slots root.1 in
    (read.0, read.1, datum_typed tree [] written root.0 sort read.0 root.2 read.2)

pub frame_datum : (tree : TypedTree) (trapped : Bool) (frames : List (List Cell)) (d : Data) (written : Bool) (k at : ℕ) (sort : Sort) → IsState tree trapped frames d
    → IsRootOf tree frames written (roots.Frame k at) sort → HasDatum (datum_at (roots.Frame k at) d) sort
frame_datum tree trapped frames d written k at sort is root =
    let has : HasCells _ at root.0 = has_cells _ at root.0 root.1 in
    let frame : HasFrame tree (frame_at d.frames k) has.cells = frame_read tree frames d.frames k has.cells is.frames_are has.there in
    let read : (x : Datum) × (slice_get frame.frame.values at ≡ Some x) × IsInCell tree frame.below root.0 x = cell_read tree frame.below has.cells frame.frame.values at root.0 frame.are has.holds in (
      read.0,
      ap (λ (o : Option Frame). option_and_then (λ f. slice_get f.values at) o) frame.there ∙ read.1,
      datum_typed tree frame.below written root.0 sort read.0 root.2 read.2,
    )

-- data keep their types when one is written
pub slot_put : (tree : TypedTree) (trapped : Bool) (frames : List (List Cell)) (d : Data) (slot : ℕ) (sort : Sort) (new : Datum) → IsState tree trapped frames d
    → IsRootOf tree frames true (roots.Slot slot) sort → IsTrue (is_datum_of sort new) → IsState tree trapped frames (put_at (roots.Slot slot) new d)
slot_put tree trapped frames d slot sort new is root also = record {
  slots = cell_written tree [] (slot_cells tree) d.slots slot root.0 new is.slots root.1 (may_hold tree [] root.0 sort new root.2 also);
  frames_are = is.frames_are;
  called = is.called;
  in_trap = is.in_trap;
}

pub frame_put : (tree : TypedTree) (trapped : Bool) (frames : List (List Cell)) (d : Data) (k at : ℕ) (sort : Sort) (new : Datum) → IsState tree trapped frames d
    → IsRootOf tree frames true (roots.Frame k at) sort → IsTrue (is_datum_of sort new) → IsState tree trapped frames (put_at (roots.Frame k at) new d)
frame_put tree trapped frames d k at sort new is root also =
    let has : HasCells _ at root.0 = has_cells _ at root.0 root.1 in
    let frame : HasFrame tree (frame_at d.frames k) has.cells = frame_read tree frames d.frames k has.cells is.frames_are has.there in
    let put : put_in_frame d.frames k at new (frame_at d.frames k) ≡ with_frame d.frames k (with_datum frame.frame at new) = ap (put_in_frame d.frames k at new) frame.there in
    record {
      slots = is.slots;
      frames_are = subst (λ (fs : List Frame). AreFrames tree frames fs) (sym put)
          (frame_written tree frames d.frames k at root.0 new frame.frame is.frames_are (λ below. may_hold tree below root.0 sort new root.2 also) frame.there root.1);
      called = is.called;
      in_trap = is.in_trap;
    }
