-- Digits are printable.
use Rattle.std.proofs.Common.{◌≡◌, ℕ, ◌+◌, ◌<◌, ◌^◌, ◌%◌, true, List, [], ◌∷◌, ◌++◌, decimal, refl, arith}
use Rattle.std.specs.List.{list_all}
use Rattle.std.proofs.lemmas.Fmt.{decimal_by_steps}
use Rattle.std.proofs.lemmas.Grind.{common_steps}
use Rattle.rapid_num.specs.Characters.{is_printable}

printable_digit : (n : ℕ) → n < 10 → is_printable (48 + n) ≡ true
printable_digit n small = grind (arith, common_steps)

printable_more : (ds : List ℕ) (b : ℕ) → list_all is_printable ds ≡ true → is_printable b ≡ true → list_all is_printable (ds ++ b ∷ []) ≡ true
printable_more ds b all one = grind (arith, common_steps)

pub printable_decimal : (n : ℕ) → n < 2 ^ 64 → list_all is_printable (decimal n) ≡ true
printable_decimal =
    decimal_by_steps (λ n ds. list_all is_printable ds ≡ true) (λ n small. printable_more [] (48 + n) refl (printable_digit n small))
    (λ n ds big all. printable_more ds (48 + n % 10) all (printable_digit (n % 10) (omega arith)))
