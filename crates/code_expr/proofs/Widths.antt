-- The number of data of the rows of a tree and of a routine.
use Rattle.std.proofs.Common.{◌≡◌, ℕ, zero, suc, ◌-◌, ◌<◌, ◌≤◌, List, [], ◌∷◌, ◌++◌, length, get_or, map, replicate, None, Some, option_map, refl, sym, ap, subst, ◌∙◌, arith}
use Rattle.std.proofs.lemmas.List.{map-append}
use Rattle.std.proofs.lemmas.Option.{slice_get-map, slice_get_read}
use Rattle.std.specs.List.{slice_get}
use Rattle.std.specs.Option.{option_and_then}
use Rattle.rapid_meaning.specs.Layouts.{local_widths}
use Rattle.rapid_model.specs.Sorts.{width}
use Rattle.typed_trees.specs.Plain.{TypedLocal, TypedRoutine}
use Rattle.typed_trees.specs.Views.{view_local, view_slot}
use Rattle.typed_trees.specs.declared.data_rows.SlotRow.{SlotRow}
use Rattle.typed_trees.specs.declared.routine.LocalRow.{LocalRow}

pub slots_as : (slots : List SlotRow) → map (λ slot. width slot.len) slots ≡ map (λ row. width row.len) (map view_slot slots)
slots_as [] = refl
slots_as (slot ∷ slots) = ap (λ more. width slot.len ∷ more) (slots_as slots)

pub locals_as : (locals : List LocalRow) → map (λ local. width local.len) locals ≡ map (λ row. width row.len) (map view_local locals)
locals_as [] = refl
locals_as (local ∷ locals) = ap (λ more. width local.len ∷ more) (locals_as locals)

-- a row that is no array has one datum
ones : (n : ℕ) → map width (replicate n None) ≡ replicate n 1
ones zero = refl
ones (suc n) = ap (λ more. 1 ∷ more) (ones n)

widths : (locals : List TypedLocal) → map width (map (λ row. row.len) locals) ≡ map (λ row. width row.len) locals
widths [] = refl
widths (local ∷ locals) = ap (λ more. width local.len ∷ more) (widths locals)

pub all_rows : (routine : TypedRoutine) (n : ℕ) → n ≡ length routine.params → [] ++ replicate n 1 ++ map (λ row. width row.len) routine.locals ++ replicate routine.loops 3 ≡ local_widths routine
all_rows routine n count = ap (λ rows. rows ++ replicate routine.loops 3)
    (ap (λ k. replicate k 1 ++ map (λ row. width row.len) routine.locals) count
    ∙ (ap (λ front. front ++ map (λ row. width row.len) routine.locals) (sym (ones (length routine.params)))
    ∙ (ap (λ back. map width (replicate (length routine.params) None) ++ back) (sym (widths routine.locals))
    ∙ sym (map-append width (replicate (length routine.params) None) (map (λ row. row.len) routine.locals)))))

-- the length of a datum that a routine declares; its parameters come first
pub local_len : (params : ℕ) (locals : List LocalRow) (row number : ℕ) (local : LocalRow) → params ≤ row → number ≡ row - params → number < length locals → local ≡ get_or locals number local →
    local.len ≡ option_and_then (λ len. len) (slice_get (replicate params None ++ map (λ r. r.len) (map view_local locals)) row)
local_len zero locals row number local behind is within read =
    let there : slice_get locals row ≡ Some local = subst (λ k. slice_get locals k ≡ Some local) (omega arith) (slice_get_read locals (length locals) number local refl within read) in
    sym (ap (option_and_then (λ len. len)) (slice_get-map (λ r. r.len) (map view_local locals) row
    ∙ (ap (option_map (λ (r : TypedLocal). r.len)) (slice_get-map view_local locals row ∙ ap (option_map view_local) there))))
local_len (suc params) locals zero number local behind is within read = absurd (omega arith)
local_len (suc params) locals (suc row) number local behind is within read = local_len params locals row number local (omega arith) (omega arith) within read
