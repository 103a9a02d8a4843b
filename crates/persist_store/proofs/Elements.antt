-- The elements of a persistent.
use Rattle.std.proofs.Common.{◌≡◌, ℕ, zero, suc, ◌-◌, ◌<◌, ◌≤◌, Bool, true, List, [], ◌∷◌, length, get_or, set, Option, None, Some, nat_le, ◌∙◌, refl, subst, sym, arith}
use Rattle.std.specs.List.{list_all}
use Rattle.std.specs.Prelude.{IsTrue, IsSomeAnd}
use Rattle.std.proofs.lemmas.Bool.{and_parts, leb-true, eqb-true}
use Rattle.std.proofs.lemmas.List.{length-set}
use Rattle.rapid_model.specs.Paths.{fits_part, has_element, has_sort}
use Rattle.rapid_model.specs.Sorts.{width}
use Rattle.rapid_model.specs.declared.part_name.PartName.{PartName}
use Rattle.rapid_model.specs.declared.value.Value.{Value}
use Rattle.rapid_values.specs.Values.{put_part}
use Rattle.persist_store.specs.Stores.{IsKept, PersData, element_of, with_element}
use Rattle.persist_store.proofs.PartsFit.{put_fits}

-- what holds of each item holds of one
pub holds_at : {X : Type 0} (p : X → Bool) (xs : List X) (i : ℕ) (d : X) → list_all p xs ≡ true → i < length xs → p (get_or xs i d) ≡ true
holds_at p [] i d all lt = absurd (omega (arith, lt))
holds_at p (x ∷ xs) zero d all lt = (and_parts _ _ all).0
holds_at p (x ∷ xs) (suc i) d all lt = holds_at p xs i d (and_parts _ _ all).1 (omega (arith, lt))

-- and of each item after one is replaced by another that it holds of
holds_set : {X : Type 0} (p : X → Bool) (xs : List X) (i : ℕ) (a : X) → list_all p xs ≡ true → p a ≡ true → list_all p (set xs i a) ≡ true
holds_set p [] i a all at = refl
holds_set p (x ∷ xs) zero a all at =
    let rest : list_all p xs ≡ true = (and_parts (p x) (list_all p xs) all).1 in
    rw (at, rest) refl
holds_set p (x ∷ xs) (suc i) a all at =
    let parts = and_parts (p x) (list_all p xs) all in
    rw (parts.0, holds_set p xs i a parts.1 at) refl

-- an element that is there, counted from 0
pub counted : (len : Option ℕ) (index : ℕ) → IsTrue (has_element len index) → index - 1 < width len
counted None index there = let none : index ≡ 0 = eqb-true index 0 there in omega arith
counted (Some n) index there =
    let parts = and_parts (nat_le 1 index) (nat_le index n) there in
    let from : 1 ≤ index = leb-true 1 index parts.0 in
    let to : index ≤ n = leb-true index n parts.1 in
    omega arith

pub within_width : (values : List Value) (len : Option ℕ) (index : ℕ) → length values ≡ width len → IsTrue (has_element len index) → index - 1 < length values
within_width values len index count there = subst (λ n. index - 1 < n) (sym count) (counted len index there)

-- an element that is there has the type
of_sort : (row : PersData) (index : ℕ) → IsKept row → IsTrue (has_element row.len index) → IsTrue (has_sort row.sort (element_of row index))
of_sort row index kept there = holds_at (has_sort row.sort) row.values (index - 1) _ kept.sorts (within_width row.values row.len index kept.count there)

-- another value of the type keeps the persistent
kept_with : (row : PersData) (index : ℕ) (value : Value) → IsKept row → IsTrue (has_sort row.sort value) → IsKept (with_element row index value)
kept_with row index value kept fits = record {
  count = length-set row.values (index - 1) value ∙ kept.count;
  sorts = holds_set (has_sort row.sort) row.values (index - 1) value kept.sorts fits;
}

-- and so does a part put in that the value fits
pub kept_put : (row : PersData) (index : ℕ) (p : PartName) (new w : Value) → IsKept row → IsTrue (has_element row.len index) → IsTrue (fits_part row.sort p new)
    → put_part (element_of row index) p new ≡ Some w → IsKept (with_element row index w)
kept_put row index p new w kept there fits is =
    let put = put_fits row.sort (element_of row index) new p (of_sort row index kept there) fits in
    kept_with row index w kept (subst (λ o. IsSomeAnd o (λ w. IsTrue (has_sort row.sort w))) is put)
