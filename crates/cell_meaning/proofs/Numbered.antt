-- Entries by number, counted from 1.
use Rattle.std.proofs.Common.{◌≡◌, inl, inr, ◌<◌, ◌≤◌, ℕ, zero, suc, ◌+◌, ◌-◌, ◌==◌, Bool, List, [], ◌∷◌, length, Option, Some, None, slice_index_or, slice_set, refl, sym, ◌∙◌, ap, arith, if◌then◌else◌}
use Rattle.std.specs.Prelude.{is_none}
use Rattle.std.specs.List.{position_from}
use Rattle.std.proofs.Math.Dec.{eqb-suc-zero}
use Rattle.std.proofs.lemmas.Bool.{cases_eq, eq-eqb, ne_eqb}
use Rattle.std.proofs.lemmas.List.{get_or-set_same, get_or-set_other}

-- the entry of a number; zero has none
abbrev pub entry_at : {A : Type 0} → List (Option A) → ℕ → Option A
entry_at xs number = if number == 0 then None else slice_index_or xs (number - 1) None

pub entry_at-next : {A : Type 0} (xs : List (Option A)) (k : ℕ) → entry_at xs (suc k) ≡ slice_index_or xs k None
entry_at-next xs k = let same : suc k - 1 ≡ k = omega arith in rw (eqb-suc-zero k, same) refl

-- after a write each number keeps its entry, except the one written
written_next : {A : Type 0} (xs : List (Option A)) (i j : ℕ) (x : Option A) → i < length xs → slice_index_or (slice_set xs i x) j None ≡ (if suc i == suc j then x else slice_index_or xs j None)
written_next xs i j x few = elim (cases_eq j i) [
  | inl same ↦
      let both : suc i ≡ suc j = omega (arith, same) in
      ap (λ (k : ℕ). slice_index_or (slice_set xs i x) k None) same ∙ get_or-set_same xs i x None few
      ∙ sym (ap (λ (b : Bool). if b then x else slice_index_or xs j None) (eq-eqb (suc i) (suc j) both))
  | inr other ↦
      get_or-set_other xs i j x None other
      ∙ sym (ap (λ (b : Bool). if b then x else slice_index_or xs j None) (ne_eqb (suc i) (suc j) (λ same. other (omega (arith, same)))))
]

pub entry_written : {A : Type 0} (xs : List (Option A)) (k number : ℕ) (x : Option A) → 1 ≤ k → k - 1 < length xs → entry_at (slice_set xs (k - 1) x) number ≡ (if k == number then x else entry_at xs number)
entry_written xs zero number x some few = absurd (omega (arith, some))
entry_written xs (suc i) zero x some few = sym (ap (λ (b : Bool). if b then x else None) (ne_eqb (suc i) 0 (λ same. absurd (omega (arith, same)))))
entry_written xs (suc i) (suc j) x some few =
    let pred : suc i - 1 ≡ i = omega arith in
    ap (λ (k : ℕ). entry_at (slice_set xs k x) (suc j)) pred ∙ entry_at-next (slice_set xs i x) j ∙ written_next xs i j x (omega (arith, few))
    ∙ ap (λ (o : Option _). if suc i == suc j then x else o) (sym (entry_at-next xs j))

-- a number with an entry is within the list
has_some : {A : Type 0} (xs : List (Option A)) (k : ℕ) (c : A) → slice_index_or xs k None ≡ Some c → k < length xs
has_some [] k c is = cc
has_some (x ∷ xs) zero c is = omega arith
has_some (x ∷ xs) (suc k) c is = let later : k < length xs = has_some xs k c is in omega (arith, later)

pub entry_within : {A : Type 0} (xs : List (Option A)) (number : ℕ) (c : A) → entry_at xs number ≡ Some c → (1 ≤ number) × (number - 1 < length xs)
entry_within xs zero c is = cc
entry_within xs (suc k) c is =
    let few : k < length xs = has_some xs k c (sym (entry_at-next xs k) ∙ is) in
    (omega arith, omega (arith, few))

-- the first empty entry is empty
first_none : {A : Type 0} (xs : List (Option A)) (at index : ℕ) → position_from is_none at xs ≡ Some index → (at ≤ index) × (slice_index_or xs (index - at) None ≡ None)
first_none [] at index is = absurd cc
first_none (None ∷ xs) at index is =
    let same : at ≡ index = cc in
    let start : index - at ≡ 0 = omega (arith, same) in
    (omega (arith, same), ap (λ (k : ℕ). slice_index_or (None ∷ xs) k None) start)
first_none (Some x ∷ xs) at index is =
    let later = first_none xs (at + 1) index is in
    let next : index - at ≡ suc (index - (at + 1)) = omega (arith, later.0) in
    (omega (arith, later.0), ap (λ (k : ℕ). slice_index_or (Some x ∷ xs) k None) next ∙ later.1)

pub none_at : {A : Type 0} (xs : List (Option A)) (index : ℕ) → position_from is_none 0 xs ≡ Some index → entry_at xs (index + 1) ≡ None
none_at xs index is =
    let found = first_none xs 0 index is in
    let same : index + 1 ≡ suc index = omega arith in
    let here : index - 0 ≡ index = omega arith in
    ap (entry_at xs) same ∙ entry_at-next xs index ∙ ap (λ (k : ℕ). slice_index_or xs k None) (sym here) ∙ found.1
