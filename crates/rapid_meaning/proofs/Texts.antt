-- A num with three decimals.
use Rattle.std.proofs.Common.{◌≡◌, refl, ap, ◌∙◌, ℕ, ◌+◌, ◌<◌, ◌/◌, ◌%◌, ◌==◌, Bool, false, ℤ, pos, negsuc, nat_abs, List, [], ◌∷◌, ◌++◌, if◌then◌else◌, arith}
use Rattle.std.specs.Prelude.{decimal}
use Rattle.std.proofs.lemmas.Bool.{ne_eqb}
use Rattle.rapid_num.specs.Arithmetic.{rounded}
use Rattle.rapid_num.specs.NumText as fixed
use Rattle.rapid_num.specs.NumText.{fixed_text, three_digits}
use Rattle.rapid_meaning.specs.Functions.{last_digits, num_text, sign_text, size_text}

digits : (m : ℕ) → m < 1_000 → last_digits 3 m ≡ three_digits m
unfolding last_digits
digits m small = let same : 48 + m / 10 / 10 % 10 ≡ 48 + m / 100 = omega (arith, small) in ap (λ (d : ℕ). d ∷ (48 + m / 10 % 10) ∷ (48 + m % 10) ∷ []) same

by_one : (n : ℕ) → rounded n 1 ≡ n
by_one n = omega arith

signed : (n : ℤ) → sign_text n (rounded (nat_abs n) 1) ≡ fixed.sign_text n
signed (pos n) = refl
signed (negsuc n) =
    let some : (rounded (nat_abs (negsuc n)) 1 == 0) ≡ false = ne_eqb (rounded (nat_abs (negsuc n)) 1) 0 (λ none. absurd (omega arith)) in
    ap (λ (b : Bool). if b then [] else 45 ∷ []) some

written : (sign other : List ℕ) (size m : ℕ) → sign ≡ other → size ≡ m → sign ++ size_text 3 size ≡ other ++ (decimal (m / 1_000) ++ 46 ∷ three_digits (m % 1_000))
written sign other size m s e =
    let small : m % 1_000 < 1_000 = omega arith in
    ap (λ (x : List ℕ). x ++ size_text 3 size) s ∙ ap (λ (k : ℕ). other ++ size_text 3 k) e
    ∙ ap (λ (ds : List ℕ). other ++ (decimal (m / 1_000) ++ 46 ∷ ds)) (digits (m % 1_000) small)

pub three_decimals : (n : ℤ) → num_text n 3 ≡ fixed_text n
three_decimals n = written (sign_text n (rounded (nat_abs n) 1)) (fixed.sign_text n) (rounded (nat_abs n) 1) (nat_abs n) (signed n) (by_one (nat_abs n))
