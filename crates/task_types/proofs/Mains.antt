-- The first main among routines that are searched part by part.
use Rattle.std.proofs.Common.{◌≡◌, ℕ, ◌+◌, suc, Bool, true, false, List, [], ◌∷◌, ◌++◌, length, drop, get_or, map, ◌<◌, Option, Some, None, refl, ap, sym, ◌∙◌, is_some, true≢false, if◌then◌else◌, arith}
use Rattle.std.specs.Option.{option_map, option_or}
use Rattle.std.proofs.lemmas.List.{drop_more}
use Rattle.raw_trees.specs.declared.raw_module.RawItem.{RawItem}
use Rattle.raw_trees.specs.declared.raw_module.RawModule.{RawModule}
use Rattle.raw_trees.specs.Plain.{PlainRoutine}
use Rattle.raw_trees.specs.Views.{view_item, view_module}
use Rattle.task_types.specs.Task.{is_main, main_among, routines_in, routines_of}

-- a number among what follows this one
abbrev pub from : ℕ → Option ℕ → Option ℕ
from first found = option_map (λ n. first + n) found

from_zero : (found : Option ℕ) → from 0 found ≡ found
from_zero None = refl
from_zero (Some n) = ap Some (omega arith)

from_more : (first more : ℕ) (found : Option ℕ) → from first (from more found) ≡ from (first + more) found
from_more first more None = refl
from_more first more (Some n) = ap Some (omega arith)

main_or_later : (r : PlainRoutine) (rs more : List PlainRoutine) (found : Option ℕ) → main_among (rs ++ more) ≡ option_or found (from (length rs) (main_among more)) → (b : Bool) →
    (if b then Some 0 else option_map suc (main_among (rs ++ more))) ≡ option_or (if b then Some 0 else option_map suc found) (from (suc (length rs)) (main_among more))
main_or_later r rs more found later true = refl
main_or_later r rs more (Some n) later false = ap (option_map suc) later
main_or_later r rs more None later false = ap (option_map suc) later ∙ shifted (length rs) (main_among more)
  where
    shifted : (k : ℕ) (found : Option ℕ) → option_map suc (from k found) ≡ from (suc k) found
    shifted k None = refl
    shifted k (Some n) = ap Some (omega arith)

-- a main in the first part comes before one in what follows
main_among-append : (rs more : List PlainRoutine) → main_among (rs ++ more) ≡ option_or (main_among rs) (from (length rs) (main_among more))
main_among-append [] more = sym (from_zero (main_among more))
main_among-append (r ∷ rs) more = main_or_later r rs more (main_among rs) (main_among-append rs more) (is_main r)

-- a main is found in the first part
pub found_here : (first : ℕ) (found : Option ℕ) (rs more : List PlainRoutine) → from first (main_among rs) ≡ found → true ≡ is_some found → from first (main_among (rs ++ more)) ≡ found
found_here first found rs more is some = rw main_among-append (by (main_among rs) is)
  where
    by : (o : Option ℕ) → from first o ≡ found → from first (option_or o (from (length rs) (main_among more))) ≡ found
    by (Some n) same = same
    by None none = absurd (true≢false (some ∙ ap is_some (sym none)))

-- none is found there, and the search goes on at the next number
pub looked_on : (first behind : ℕ) (found : Option ℕ) (rs more : List PlainRoutine) → from first (main_among rs) ≡ found → false ≡ is_some found → first + length rs ≡ behind → from behind (main_among more) ≡ from first (main_among (rs ++ more))
looked_on first behind found rs more is none at = sym (rw main_among-append (by (main_among rs) is))
  where
    by : (o : Option ℕ) → from first o ≡ found → from first (option_or o (from (length rs) (main_among more))) ≡ from behind (main_among more)
    by (Some n) some = absurd (true≢false (ap is_some some ∙ sym none))
    by None same = from_more first (length rs) (main_among more) ∙ ap (λ k. from k (main_among more)) at

-- the routines of a module and of those after it
pub next_module : (modules : List RawModule) (i : ℕ) (unit : RawModule) (items : List RawItem) → i < length modules → unit ≡ get_or modules i unit → items ≡ unit.items.items →
    routines_of (map view_module (drop i modules)) ≡ routines_in (map view_item items) ++ routines_of (map view_module (drop (i + 1) modules))
next_module modules i unit items within here held =
    ap (λ ms. routines_of (map view_module ms)) (drop_more modules i unit within ∙ ap (λ m. m ∷ drop (i + 1) modules) (sym here))
    ∙ ap (λ is. routines_in (map view_item is) ++ routines_of (map view_module (drop (i + 1) modules))) (sym held)
