-- The data of a well typed task hold its constants.
use Rattle.std.proofs.Common.{◌≡◌, sym, ap, ◌∙◌, subst, ℕ, ◌+◌, ◌<◌, ◌==◌, Bool, true, false, List, [], ◌∷◌, ◌++◌, length, map, replicate, Option, Some, slice_get, if◌then◌else◌, arith}
use Rattle.std.specs.Option.{option_and_then, option_map}
use Rattle.std.proofs.lemmas.List.{length-map}
use Rattle.std.proofs.lemmas.Option.{slice_get_within, slice_get-map}
use Rattle.rapid_model.specs.Sorts.{width}
use Rattle.rapid_model.specs.CellData.{CellData}
use Rattle.rapid_model.specs.declared.answer.Answer.{Answer}
use Rattle.rapid_model.specs.declared.sort.Sort.{Sort}
use Rattle.rapid_model.proofs.Lists.{at_left}
use Rattle.typed_trees.specs.Plain.{TypedLocal, TypedRoutine, TypedSlot, TypedTree}
use Rattle.typed_trees.specs.declared.datum.Datum.{Datum}
use Rattle.rapid_meaning.specs.Data.{Data, Frame, frame_at}
use Rattle.rapid_meaning.specs.Layouts.{local_start, slot_start}
use Rattle.rapid_meaning.specs.Runs.{data_after}
use Rattle.tree_typing.specs.Constants.{KeepsConstants, KeepsLocals}
use Rattle.tree_typing.specs.Goes.{AreTyped}
use Rattle.tree_typing.specs.Kinds.{Cell, Fixes, Counts, Kind, cells_of, kind_in, kind_of, kinds_of, local_cells, local_kind, slot_cells, slot_kind}
use Rattle.tree_typing.specs.Numbered.{Numbered}
use Rattle.tree_typing.specs.States.{AreCalled, AreFrames, AreInCells, AreOfRoutines, IsInCell}
use Rattle.tree_typing.specs.WellTyped.{AreFirst, IsRoutine, WellTyped}
use Rattle.tree_typing.proofs.Cells.{cell_read}
use Rattle.tree_typing.proofs.Rows.{all_at, at_fixed, at_right, cell_count, fixed_count, local_row, slot_row}
use Rattle.tree_typing.proofs.Whole.{typed_data}

-- the place of an element of a constant
record KeptCell (kind : Kind) (k : ℕ) (sort : Sort) (x : Datum) : Type 0 where
  there : slice_get (cells_of kind) k ≡ Some (Fixes sort (Some x))
  few : k < cell_count kind

kept_cell : (variable : Bool) (sort : Sort) (len : Option ℕ) (first : List Datum) (k : ℕ) (x : Datum) → variable ≡ false → AreFirst sort len first → slice_get first k ≡ Some x
    → KeptCell (kind_in variable sort len first) k sort x
kept_cell true sort len first k x constant are e = absurd cc
kept_cell false sort len first k x constant are e =
    let within : k < length first = slice_get_within first k x e in
    let few : k < width len = omega (arith, within, are.0) in
    let many = fixed_count sort (width len) first in
    record { there = at_fixed sort (width len) k first few ∙ ap (λ (o : Option Datum). Some (Fixes sort o)) e; few = omega (arith, few, many) }

-- what is in such a place
kept_read : (tree : TypedTree) (frames : List (List Cell)) (cells : List Cell) (xs : List Datum) (at : ℕ) (sort : Sort) (x : Datum) → AreInCells tree frames cells xs
    → slice_get cells at ≡ Some (Fixes sort (Some x)) → slice_get xs at ≡ Some x
kept_read tree frames cells xs at sort x are e =
    let read : (y : Datum) × (slice_get xs at ≡ Some y) × IsInCell tree frames (Fixes sort (Some x)) y = cell_read tree frames cells xs at (Fixes sort (Some x)) are e in
    read.1 ∙ sym read.2.0

-- the frame with this many frames below it
record CalledAt (tree : TypedTree) (frame : Frame) : Type 0 where
  below : List (List Cell)
  cells : List Cell
  are : AreInCells tree below cells frame.values
  called : AreCalled tree cells

called_here : (tree : TypedTree) (b : Bool) (first : List Cell) (below : List (List Cell)) (f frame : Frame) (o : Option Frame) → AreInCells tree below first f.values → AreCalled tree first
    → (o ≡ Some frame → CalledAt tree frame) → (if b then Some f else o) ≡ Some frame → CalledAt tree frame
called_here tree true first below f frame o are called deeper e =
    let same : f ≡ frame = cc in
    record { below = below; cells = first; are = subst (λ (x : Frame). AreInCells tree below first x.values) same are; called = called }
called_here tree false first below f frame o are called deeper e = deeper e

called_at : (tree : TypedTree) (frames : List (List Cell)) (fs : List Frame) (number : ℕ) (frame : Frame) → AreFrames tree frames fs → AreOfRoutines tree frames → frame_at fs number ≡ Some frame
    → CalledAt tree frame
unfolding frame_at
called_at tree [] [] number frame are called e = absurd cc
called_at tree [] (f ∷ fs) number frame are called e = absurd are
called_at tree (first ∷ below) [] number frame are called e = absurd are
called_at tree (first ∷ below) (f ∷ fs) number frame are called e =
    called_here tree (length fs == number) first below f frame (frame_at fs number) are.0 called.0 (λ there. called_at tree below fs number frame are.1 called.1 there) e

-- the rows of a routine's own data come after those of its parameters
local_there : (routine : TypedRoutine) (row : ℕ) (local : TypedLocal) → slice_get routine.locals row ≡ Some local → slice_get (kinds_of routine) (length routine.params + row) ≡ Some (local_kind local)
local_there routine row local e =
    let params : List Kind = map kind_of routine.params in
    let own : List Kind = map local_kind routine.locals in
    let within = slice_get_within routine.locals row local e in
    let long = length-map routine.locals local_kind in
    let many = length-map routine.params kind_of in
    let place : length routine.params + row ≡ length params + row = omega (arith, many) in
    ap (slice_get (kinds_of routine)) place
    ∙ at_right params (own ++ replicate routine.loops Counts) row
    ∙ at_left own (replicate routine.loops Counts) row (omega (arith, within, long))
    ∙ slice_get-map local_kind routine.locals row
    ∙ ap (option_map local_kind) e

module _ (signals : ℕ) (tree : TypedTree) (typed : WellTyped signals tree) (d : Data) (is : AreTyped tree d) where
  slots_kept : (row k : ℕ) (slot : TypedSlot) (x : Datum) → slice_get tree.slots row ≡ Some slot → slot.variable ≡ false → slice_get slot.first k ≡ Some x
      → slice_get d.slots (slot_start tree row + k) ≡ Some x
  slots_kept row k slot x e constant there =
      let first : AreFirst slot.sort slot.len slot.first = all_at (λ (r : TypedSlot). AreFirst r.sort r.len r.first) tree.slots row slot typed.slots e in
      let one : KeptCell (slot_kind slot) k slot.sort x = kept_cell slot.variable slot.sort slot.len slot.first k x constant first there in
      kept_read tree [] (slot_cells tree) d.slots (slot_start tree row + k) slot.sort x is.state.slots (slot_row tree row k slot (Fixes slot.sort (Some x)) e one.there one.few)

  frame_kept : (number : ℕ) (frame : Frame) → frame_at d.frames number ≡ Some frame → KeepsLocals tree d number
  frame_kept number frame e =
      let at : CalledAt tree frame = called_at tree is.frames d.frames number frame is.state.frames_are is.state.called e in
      let routine : TypedRoutine = at.called.routine in
      let own : IsRoutine (record { signals = signals; tree = tree }) routine =
      all_at (IsRoutine (record { signals = signals; tree = tree })) tree.routines at.called.number routine typed.routines at.called.there in
      record {
        index = at.called.number;
        routine = routine;
        there = at.called.there;
        elements = λ row k local x is_local constant there.
            let first : AreFirst local.sort local.len local.first = all_at (λ (r : TypedLocal). AreFirst r.sort r.len r.first) routine.locals row local own.locals is_local in
            let one : KeptCell (local_kind local) k local.sort x = kept_cell local.variable local.sort local.len local.first k x constant first there in
            let place : ℕ = local_start routine (length routine.params + row) + k in
            let cell : slice_get (local_cells routine) place ≡ Some (Fixes local.sort (Some x)) =
            local_row routine (length routine.params + row) k (local_kind local) (Fixes local.sort (Some x)) (local_there routine row local is_local) one.there one.few in
            ap (λ (o : Option Frame). option_and_then (λ f. slice_get f.values place) o) e
            ∙ kept_read tree at.below at.cells frame.values place local.sort x at.are (ap (λ (cells : List Cell). slice_get cells place) at.called.are ∙ cell);
      }

  kept : KeepsConstants tree d
  kept = record { elements = slots_kept; locals = frame_kept }

pub constants_kept : (signals : ℕ) (cell : CellData) (number : ℕ) (tree : TypedTree) (answers : List Answer) (d : Data) → WellTyped signals tree → Numbered cell number tree
    → data_after tree answers ≡ Some d → KeepsConstants tree d
constants_kept signals cell number tree answers d typed numbered is = kept signals tree typed d (typed_data signals cell number tree answers d typed numbered is)
