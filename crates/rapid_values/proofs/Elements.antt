-- The element of an array that a num names.
use Rattle.std.proofs.Common.{◌≡◌, refl, subst, ℕ, ◌*◌, ◌/◌, ◌%◌, ◌≤◌, ◌==◌, ◌&&◌, nat_le, Bool, true, false, ℤ, pos, negsuc, Some, None, if◌then◌else◌, arith}
use Rattle.std.proofs.lemmas.Bool.{leb-true, le-leb}
use Rattle.rapid_values.specs.Elements.{element_number}

-- it is the number of an element of the array
pub element_within : (len : ℕ) (n : ℤ) (k : ℕ) → element_number len n ≡ Some k → (1 ≤ k) × (k ≤ len)
element_within len (negsuc n) k e = cc
element_within len (pos n) k e = by (n % 1_000 == 0) (nat_le 1 (n / 1_000)) refl (nat_le (n / 1_000) len) refl e
  where
    by : (a b : Bool) → nat_le 1 (n / 1_000) ≡ b → (c : Bool) → nat_le (n / 1_000) len ≡ c → (if a && b && c then Some (n / 1_000) else None) ≡ Some k → (1 ≤ k) × (k ≤ len)
    by true true first true last is =
        let same : n / 1_000 ≡ k = cc in
        (subst (λ m. 1 ≤ m) same (leb-true 1 (n / 1_000) first), subst (λ m. m ≤ len) same (leb-true (n / 1_000) len last))
    by true true first false last is = cc
    by true false first c last is = cc
    by false b first c last is = cc

no_rest : (n : ℕ) → (n * 1_000) % 1_000 ≡ 0
no_rest n = omega arith

pub thousandths : (n : ℕ) → (n * 1_000) / 1_000 ≡ n
thousandths n = omega arith

-- an integer names the element with that number
pub counted_element : (len number : ℕ) → 1 ≤ number → number ≤ len → element_number len (pos (number * 1_000)) ≡ Some number
counted_element len number first last = rw (no_rest number, thousandths number, le-leb 1 number first, le-leb number len last) refl
