-- The tasks of a cell have names, and no two have the same one.
use Rattle.std.proofs.Common.{◌≡◌, ℕ, zero, suc, true, false, not, List, [], ◌∷◌, map, Some, refl, sym, ap, ◌∙◌}
use Rattle.std.specs.List.{AllByRecursion, list_all}
use Rattle.std.specs.Prelude.{IsTrue, slice_get}
use Rattle.std.specs.Str.{str_eq_ignore_ascii_case, str_to_ascii_lowercase}
use Rattle.std.proofs.lemmas.Bool.{and_parts, not-true, or_parts}
use Rattle.std.proofs.lemmas.Option.{same_Some}
use Rattle.std.proofs.lemmas.Slice.Eq.{bytes_eq-Decides}
use Rattle.rapid_model.specs.CellData.{CellData, IsCell, starts_well}
use Rattle.rapid_model.specs.Limits.{is_start}
use Rattle.rapid_model.specs.Names.{differ, is_among, is_short_name}
use Rattle.rapid_model.specs.declared.task_row.TaskRow.{TaskRow}
use Rattle.history_text.specs.HistoryText.{AreNamed}

same_name : (name other : List ℕ) → name ≡ other → str_eq_ignore_ascii_case name other ≡ true
same_name name other e = (bytes_eq-Decides (str_to_ascii_lowercase name) (str_to_ascii_lowercase other)).1 (ap str_to_ascii_lowercase e)

-- a name that is not among those of some tasks is none of theirs
not_among : (tasks : List TaskRow) (name : List ℕ) (i : ℕ) (row : TaskRow) → is_among name (map (λ r. r.name) tasks) ≡ false → slice_get tasks i ≡ Some row → name ≡ row.name → ⊥
not_among [] name i row none at same = absurd cc
not_among (r ∷ rs) name zero row none at same =
    let here : r ≡ row = same_Some r row at in
    let test : str_eq_ignore_ascii_case name r.name ≡ true = same_name name r.name (same ∙ ap (λ (t : TaskRow). t.name) (sym here)) in
    let other : str_eq_ignore_ascii_case name r.name ≡ false = (or_parts _ _ none).0 in
    absurd cc
not_among (r ∷ rs) name (suc i) row none at same = not_among rs name i row (or_parts _ _ none).1 at same

apart : (tasks : List TaskRow) (i j : ℕ) (row other : TaskRow) → differ (map (λ r. r.name) tasks) ≡ true → slice_get tasks i ≡ Some row → slice_get tasks j ≡ Some other → row.name ≡ other.name → i ≡ j
apart [] i j row other names at there same = absurd cc
apart (r ∷ rs) zero zero row other names at there same = refl
apart (r ∷ rs) zero (suc j) row other names at there same =
    let parts = and_parts (not (is_among r.name (map (λ t. t.name) rs))) (differ (map (λ t. t.name) rs)) names in
    let here : r ≡ row = same_Some r row at in
    absurd (not_among rs r.name j other (not-true _ parts.0) there (ap (λ (t : TaskRow). t.name) here ∙ same))
apart (r ∷ rs) (suc i) zero row other names at there same =
    let parts = and_parts (not (is_among r.name (map (λ t. t.name) rs))) (differ (map (λ t. t.name) rs)) names in
    let here : r ≡ other = same_Some r other there in
    absurd (not_among rs r.name i row (not-true _ parts.0) at (ap (λ (t : TaskRow). t.name) here ∙ sym same))
apart (r ∷ rs) (suc i) (suc j) row other names at there same =
    let parts = and_parts (not (is_among r.name (map (λ t. t.name) rs))) (differ (map (λ t. t.name) rs)) names in
    ap suc (apart rs i j row other parts.1 at there same)

forms : (tasks : List TaskRow) → list_all starts_well tasks ≡ true → AllByRecursion (λ row. IsTrue (is_short_name row.name)) tasks
forms [] h = tt
forms (r ∷ rs) h =
    let both = and_parts (starts_well r) (list_all starts_well rs) h in
    ((and_parts (is_short_name r.name) (is_start r.axes r.arm) both.0).0, forms rs both.1)

pub cell_is_named : (cell : CellData) → IsCell cell → AreNamed cell.tasks
cell_is_named cell limits = record {
  form = forms cell.tasks limits.starts;
  apart = λ i j row other at there same. apart cell.tasks i j row other limits.task_names at there same;
}
