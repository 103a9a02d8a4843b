-- Numbers of owners that tile code in order, from place to place.
use Rattle.std.proofs.Common.{◌≡◌, sym, ap, ◌∙◌, subst, arith, ℕ, zero, suc, ◌+◌, ◌-◌, ◌<◌, ◌≤◌, List, [], ◌∷◌, ◌++◌, length, get_or, Some, inl, inr}
use Rattle.std.proofs.Math.Seq.{get_or-append_seam}
use Rattle.std.proofs.lemmas.Bool.Decides.{leb_tells}
use Rattle.std.proofs.lemmas.List.{get_or_append_left, length-append}
use Rattle.std.proofs.lemmas.Option.{get_or_from_slice_get, slice_get-get_or}
use Rattle.stack_code.specs.declared.owner.Owner.{Owner}
use Rattle.task_code.specs.Owners.{Holds, IsNumberAt, StandsIn, Tiles}
use Rattle.task_code.proofs.Tiling.{named}
use Rattle.task_steps.specs.Loading.{NamesOwners}

-- each owner has an operation
few_rows : (from count : ℕ) (xs : List Owner) (k : ℕ) (d : Owner) → Tiles from count xs → k < length xs → from + k < (get_or xs k d).past
few_rows from count [] k d t within = absurd (omega arith)
few_rows from count (o ∷ more) zero d t within = let here = t.1 in omega arith
few_rows from count (o ∷ more) (suc k) d t within =
    let here = t.1 in
    let deeper = few_rows o.past count more k d t.2 (omega arith) in
    omega arith

-- behind an owner that ends before the last place comes one that begins there
next_row : (from count : ℕ) (xs : List Owner) (k : ℕ) (d : Owner) → Tiles from count xs → k < length xs → (get_or xs k d).past < count
    → (suc k < length xs) × ((get_or xs (suc k) d).first ≡ (get_or xs k d).past) × ((get_or xs k d).past < (get_or xs (suc k) d).past)
next_row from count [] k d t within ends = absurd (omega arith)
next_row from count (o ∷ []) zero d t within ends = let end : o.past ≡ count = t.2 in absurd (omega arith)
next_row from count (o ∷ p ∷ more) zero d t within ends = let next = t.2 in (omega arith, next.0, next.1)
next_row from count (o ∷ more) (suc k) d t within ends =
    let deeper = next_row o.past count more k d t.2 (omega arith) ends in
    let there = deeper.0 in
    (omega arith, deeper.1, deeper.2)

-- an owner that holds a place is the owner there
number_of : (count pc : ℕ) (xs : List Owner) (k : ℕ) → Tiles 0 count xs → k < length xs → ((d : Owner) → Holds (get_or xs k d) pc) → IsNumberAt xs pc k
number_of count pc xs k t within holds = (within, λ d. (named 0 count pc xs k (get_or xs k d) t (slice_get-get_or xs k d within) (holds d), holds d))

-- the first owner has the first place
pub number_first : (count : ℕ) (xs : List Owner) → Tiles 0 count xs → 0 < count → IsNumberAt xs 0 0
number_first count [] t some = let end : 0 ≡ count = t in absurd (omega arith)
number_first count (o ∷ more) t some = let begins = t.0 in let ends = t.1 in number_of count 0 (o ∷ more) 0 t (omega arith) (λ d. (omega arith, omega arith))

-- the owner with a number is one
row_is : (xs : List Owner) (number : ℕ) (o d : Owner) → number < length xs → get_or xs number d ≡ get_or xs number o
row_is xs number o d within = get_or_from_slice_get xs number (get_or xs number o) d (slice_get-get_or xs number o within)

-- there are no more owners before a place than places
pub number_few : (xs : List Owner) (pc number : ℕ) (o : Owner) → StandsIn xs pc → IsNumberAt xs (pc - 1) number → (get_or xs number o).past ≤ pc → number + 1 ≤ pc
number_few xs pc number o stands before ended = let few = few_rows 0 stands.count xs number o stands.tiles before.0 in omega arith

-- from the place before: the same owner, or the next one

pub number_same : (xs : List Owner) (pc number : ℕ) (o : Owner) → StandsIn xs pc → IsNumberAt xs (pc - 1) number → pc < (get_or xs number o).past → IsNumberAt xs pc number
number_same xs pc number o stands before ends =
    number_of stands.count pc xs number stands.tiles before.0
    (λ d.
    let held : Holds (get_or xs number d) (pc - 1) = (before.1 d).1 in
    let low : (get_or xs number d).first ≤ pc - 1 = held.0 in
    let high : pc < (get_or xs number d).past = subst (λ (r : Owner). pc < r.past) (sym (row_is xs number o d before.0)) ends in
    (omega arith, high))

pub number_next : (xs : List Owner) (pc number : ℕ) (o : Owner) → StandsIn xs pc → IsNumberAt xs (pc - 1) number → (get_or xs number o).past ≤ pc → IsNumberAt xs pc (number + 1)
number_next xs pc number o stands before ended =
    let below : pc < stands.count = stands.below in
    let over : (d : Owner) → (get_or xs number d).past ≤ pc = λ d. subst (λ (r : Owner). r.past ≤ pc) (sym (row_is xs number o d before.0)) ended in
    let next : (d : Owner) → (suc number < length xs) × ((get_or xs (suc number) d).first ≡ (get_or xs number d).past) × ((get_or xs number d).past < (get_or xs (suc number) d).past) =
    λ d. let end : (get_or xs number d).past ≤ pc = over d in next_row 0 stands.count xs number d stands.tiles before.0 (omega arith) in
    let after : suc number ≡ number + 1 = omega arith in
    subst (λ (n : ℕ). IsNumberAt xs pc n) after
    (number_of stands.count pc xs (suc number) stands.tiles (next o).0
    (λ d.
    let it = next d in
    let held : Holds (get_or xs number d) (pc - 1) = (before.1 d).1 in
    let high : pc - 1 < (get_or xs number d).past = held.1 in
    let end : (get_or xs number d).past ≤ pc = over d in
    let begins : (get_or xs (suc number) d).first ≡ (get_or xs number d).past = it.1 in
    let ends : (get_or xs number d).past < (get_or xs (suc number) d).past = it.2 in
    (omega arith, omega arith)))

-- one more operation has the number of its owner
pub names_more : (owners : List Owner) (pc number : ℕ) (numbers : List ℕ) → length numbers ≡ pc → NamesOwners owners pc numbers → IsNumberAt owners pc number → NamesOwners owners (pc + 1) (numbers ++ number ∷ [])
names_more owners pc number numbers long named here = λ k below.
    let all : length (numbers ++ number ∷ []) ≡ length numbers + 1 = length-append numbers (number ∷ []) in
    elim (leb_tells (suc k) pc) [
      | inl holds ↦
          let before : suc k ≤ pc = holds.1 in
          let it = named k (omega arith) in
          let same : get_or (numbers ++ number ∷ []) k it.0 ≡ it.0 = get_or_append_left numbers (number ∷ []) it.0 k (omega arith) ∙ get_or_from_slice_get numbers k it.0 it.0 it.1 in
          (it.0, slice_get-get_or (numbers ++ number ∷ []) k it.0 (omega arith) ∙ ap (λ n. Some n) same, it.2)
      | inr fails ↦
          let behind : pc < suc k = fails.1 in
          let last : k ≡ length numbers = omega arith in
          let place : pc ≡ k = omega arith in
          let same : get_or (numbers ++ number ∷ []) k number ≡ number = rw last (get_or-append_seam numbers number [] number) in
          (number, slice_get-get_or (numbers ++ number ∷ []) k number (omega arith) ∙ ap (λ n. Some n) same, subst (λ (n : ℕ). IsNumberAt owners n number) place here)
    ]
