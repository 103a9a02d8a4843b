-- A table of the numbers of global persistents, while persistents change.
use Rattle.std.proofs.Common.{◌≡◌, ℕ, ◌+◌, not, ◌&&◌, nat_le, List, set, slice_get, Option, Some, None, is_none, Ok, refl, ap, sym, ◌∙◌}
use Rattle.std.specs.Result.{IfOk}
use Rattle.std.specs.Str.{str_eq_ignore_ascii_case}
use Rattle.std.proofs.lemmas.List.{length-set}
use Rattle.std.proofs.lemmas.List.Folds.{position_or_len-set}
use Rattle.std.proofs.lemmas.Option.{get_or_from_slice_get}
use Rattle.std.proofs.lemmas.Result.{IfOk-at_ok}
use Rattle.name_tables.specs.Names.{NameList, Finds}
use Rattle.rapid_model.specs.Sorts.{width}
use Rattle.rapid_model.specs.declared.pers_value.PersValue.{PersValue}
use Rattle.rapid_model.specs.declared.script_rule.ScriptRule.TheVariants.{Kind, Range, Twice}
use Rattle.cell_assembly.specs.Cells.{PersInfo, is_global, global_number, is_script_value, fits_index, element, is_given, with_given, at_value, give_to, give_global}
use Rattle.rule_checks.proofs.Keeps.{Keeps-must}

same_number : (name : List ℕ) (ps : List PersInfo) (k : ℕ) (old new : PersInfo) → slice_get ps k ≡ Some old → is_global name new ≡ is_global name old → global_number name (set ps k new) ≡ global_number name ps
same_number name ps k old new at same =
    let first = position_or_len-set (is_global name) ps k new old (same ∙ ap (is_global name) (sym (get_or_from_slice_get ps k old old at))) in
    rw (first, length-set ps k new) refl

-- a persistent keeps its name and its owner
pub number_kept : (name : List ℕ) (ps : List PersInfo) (k : ℕ) (old new : PersInfo) → slice_get ps k ≡ Some old → new.name ≡ old.name → new.owner ≡ old.owner
    → global_number name (set ps k new) ≡ global_number name ps
number_kept name ps k old new at named owned =
    same_number name ps k old new at
    (ap (λ n. is_none new.owner && str_eq_ignore_ascii_case name n) named ∙ ap (λ o. is_none o && str_eq_ignore_ascii_case name old.name) owned)

give_to_keeps : (name : List ℕ) (ps : List PersInfo) (number : ℕ) (row : PersValue) (k : ℕ) (found : Option PersInfo) → slice_get ps k ≡ found
    → IfOk (give_to ps number row k found) (λ qs. global_number name qs ≡ global_number name ps)
give_to_keeps name ps number row k None at = tt
give_to_keeps name ps number row k (Some p) at =
    let index = element row.index in
    let Same : List PersInfo → Type 0 = λ qs. global_number name qs ≡ global_number name ps in
    Keeps-must Same (is_script_value p.sort row.value && fits_index p.len row.index) (at_value number Kind) _ (λ suits.
    Keeps-must Same (nat_le (index + 1) (width p.len)) (at_value number Range) _ (λ there.
    Keeps-must Same (not (is_given (slice_get p.given index))) (at_value number Twice) _ (λ not_given.
    number_kept name ps k p (with_given p index row.value) at refl refl)))

give_global_keeps : (name : List ℕ) (ps : List PersInfo) (number : ℕ) (row : PersValue) (k : Option ℕ) → IfOk (give_global ps number row k) (λ qs. global_number name qs ≡ global_number name ps)
give_global_keeps name ps number row None = tt
give_global_keeps name ps number row (Some k) = give_to_keeps name ps number row k (slice_get ps k) refl

-- the script's values change no names
pub table_given : (table : NameList ℕ) (ps qs : List PersInfo) (number : ℕ) (row : PersValue) (k : Option ℕ) → Finds table (λ name. global_number name ps) → give_global ps number row k ≡ Ok qs → Finds table (λ name. global_number name qs)
table_given table ps qs number row k is given name =
    is name ∙ sym (IfOk-at_ok (λ qs. global_number name qs ≡ global_number name ps) given (give_global_keeps name ps number row k))
