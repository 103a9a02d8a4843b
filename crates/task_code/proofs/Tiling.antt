-- Laws of owners that tile code in order.
use Rattle.std.proofs.Common.{arith, lt-ltb, le-ltb, ◌≡◌, refl, sym, subst, ◌∙◌, ap, ℕ, zero, suc, ◌<◌, ◌≤◌, length, nat_lt, List, [], ◌∷◌, Option, Some, slice_get, slice_index_or, if◌then◌else◌}
use Rattle.stack_code.specs.Placed.{owner_at}
use Rattle.stack_code.specs.declared.owner.Owner.{Owner}
use Rattle.task_code.specs.Owners.{Holds, IsNumberAt, Tiles}

-- each row ends after the place where the tiling begins
pub past_behind : (from count : ℕ) (xs : List Owner) (k : ℕ) (d : Owner) → Tiles from count xs → k < length xs → from < (slice_index_or xs k d).past
past_behind from count [] k d t within = omega arith
past_behind from count (o ∷ more) zero d t within = t.1
past_behind from count (o ∷ more) (suc k) d t within =
    let here = t.1 in
    let deeper = past_behind o.past count more k d t.2 (omega arith) in
    omega arith

-- the ends of the rows increase
pub ends_rise : (from count : ℕ) (xs : List Owner) (i j : ℕ) (d : Owner) → Tiles from count xs → i ≤ j → j < length xs → (slice_index_or xs i d).past ≤ (slice_index_or xs j d).past
ends_rise from count [] i j d t order within = omega arith
ends_rise from count (o ∷ more) zero zero d t order within = omega arith
ends_rise from count (o ∷ more) zero (suc j) d t order within =
    let deeper = past_behind o.past count more j d t.2 (omega arith) in
    omega arith
ends_rise from count (o ∷ more) (suc i) zero d t order within = omega arith
ends_rise from count (o ∷ more) (suc i) (suc j) d t order within = ends_rise o.past count more i j d t.2 (omega arith) (omega arith)

pub chosen : (pc past : ℕ) (owner : Owner) (other : Option Owner) → pc < past → (if nat_lt pc past then Some owner else other) ≡ Some owner
chosen pc past owner other below =
    rw (lt-ltb pc past below) refl

pub passed : (pc past : ℕ) (owner : Owner) (other : Option Owner) → past ≤ pc → (if nat_lt pc past then Some owner else other) ≡ other
passed pc past owner other behind =
    rw (le-ltb pc past behind) refl

-- the first row that does not end before a place is the owner that the code names there
pub first_behind : (from count pc : ℕ) (xs : List Owner) (i : ℕ) → Tiles from count xs → from ≤ pc → pc < count
    → ((k : ℕ) (d : Owner) → k < i → (slice_index_or xs k d).past ≤ pc) → ((k : ℕ) (d : Owner) → i ≤ k → k < length xs → pc < (slice_index_or xs k d).past)
    → i ≤ length xs → IsNumberAt xs pc i
unfolding owner_at
first_behind from count pc [] i t low high before after within =
    let end : from ≡ count = t in
    absurd (omega arith)
first_behind from count pc (o ∷ more) zero t low high before after within =
    let ends = after zero o (omega arith) (omega arith) in
    let begins = t.0 in
    (omega arith, λ d. (chosen pc o.past o _ ends, (omega arith, ends)))
first_behind from count pc (o ∷ more) (suc i) t low high before after within =
    let ended : o.past ≤ pc = before zero o (omega arith) in
    let deeper = first_behind o.past count pc more i t.2 ended high (λ k d below. before (suc k) d (omega arith)) (λ k d above below. after (suc k) d (omega arith) (omega arith)) (omega arith) in
    (omega arith, λ d. let rest = deeper.1 d in (passed pc o.past o _ ended ∙ rest.0, rest.1))

-- each row begins at that place or after it
pub first_after : (from count : ℕ) (xs : List Owner) (k : ℕ) (owner : Owner) → Tiles from count xs → slice_get xs k ≡ Some owner → from ≤ owner.first
first_after from count [] k owner t there = cc
first_after from count (o ∷ more) zero owner t there =
    let e : o ≡ owner = cc in
    let same : o.first ≡ owner.first = ap (λ row. row.first) e in
    let begins = t.0 in
    omega arith
first_after from count (o ∷ more) (suc k) owner t there =
    let deeper = first_after o.past count more k owner t.2 there in
    let here = t.1 in
    omega arith

-- a row that holds a place is the owner that the code names there
pub named : (from count pc : ℕ) (xs : List Owner) (k : ℕ) (owner : Owner) → Tiles from count xs → slice_get xs k ≡ Some owner → Holds owner pc → owner_at xs pc ≡ Some owner
unfolding owner_at
named from count pc [] k owner t there holds = cc
named from count pc (o ∷ more) zero owner t there holds =
    let e : o ≡ owner = cc in
    let ends = subst (λ (x : Owner). pc < x.past) (sym e) holds.1 in
    chosen pc o.past o _ ends ∙ ap Some e
named from count pc (o ∷ more) (suc k) owner t there holds =
    let behind = first_after o.past count more k owner t.2 there in
    let begun = holds.0 in
    passed pc o.past o _ (omega arith) ∙ named o.past count pc more k owner t.2 there holds
