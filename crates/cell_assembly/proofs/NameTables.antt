-- The tables of persistents' and meetings' numbers by name, with one more entry.
use Rattle.std.proofs.Common.{◌≡◌, ℕ, true, false, ◌&&◌, List, [], ◌∷◌, ◌++◌, length, Option, Some, None, is_none, is_some, if◌then◌else◌, refl, ap, sym, ◌∙◌, true≢false}
use Rattle.std.specs.Option.{option_or}
use Rattle.std.specs.Str.{str_eq_ignore_ascii_case}
use Rattle.name_tables.specs.Names.{NameList, found_in, entered, Finds, Enters}
use Rattle.name_tables.proofs.Firsts.{position_cons}
use Rattle.name_tables.proofs.Places.{enters, index_last, index_entered}
use Rattle.cell_assembly.specs.Cells

is_shared : (owner : Option ℕ) → is_some owner ≡ false → is_none owner ≡ true
is_shared None e = refl
is_shared (Some task) e = absurd (true≢false e)

pub enters_global : (table new : NameList ℕ) (p : Cells.PersInfo) (number : ℕ) → is_some p.owner ≡ false → new ≡ entered p.name number table → Enters table new (λ name. Cells.is_global name p) number
enters_global table new p number shared is name =
    ap (found_in name) is ∙ enters p.name number table name ∙ sym (ap (λ none. option_or (found_in name table) (if none && str_eq_ignore_ascii_case name p.name then Some number else None)) (is_shared p.owner shared))

-- one more persistent, and its entry in the table
pub pers_entered : (table new : NameList ℕ) (ps : List Cells.PersInfo) (p : Cells.PersInfo) (number : ℕ) → Finds table (λ name. Cells.global_number name ps) → Enters table new (λ name. Cells.is_global name p) number → number ≡ length ps
    → Finds new (λ name. Cells.global_number name (ps ++ p ∷ []))
pers_entered table new ps p number = index_entered table new Cells.global_number Cells.is_global ps p number (λ name. index_last (Cells.global_number name) (Cells.is_global name) refl (position_cons (Cells.is_global name)) ps p)

-- and one more meeting
pub meeting_entered : (table new : NameList ℕ) (names : List (List ℕ)) (called : List ℕ) (number : ℕ) → Finds table (λ name. Cells.meeting_number name names) → new ≡ entered called number table → number ≡ length names
    → Finds new (λ name. Cells.meeting_number name (names ++ called ∷ []))
meeting_entered table new names called number is last =
    index_entered table new Cells.meeting_number str_eq_ignore_ascii_case names called number (λ name. index_last (Cells.meeting_number name) (str_eq_ignore_ascii_case name) refl (position_cons (str_eq_ignore_ascii_case name)) names called) is
    (λ name. ap (found_in name) last ∙ enters called number table name)
