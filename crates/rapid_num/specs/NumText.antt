-- The text of a num.
use Rattle.std.specs.Prelude.{ℕ, ◌+◌, ◌/◌, ◌%◌, ℤ, pos, negsuc, nat_abs, ◌==◌, if◌then◌else◌, List, [], ◌∷◌, ◌++◌, decimal}

-- a minus sign for a negative number
abbrev pub sign_text : ℤ → List ℕ
sign_text (pos n) = []
sign_text (negsuc n) = 45 ∷ []

-- the digits for hundreds, tens and ones
abbrev pub three_digits : ℕ → List ℕ
three_digits n = (48 + n / 100) ∷ (48 + n / 10 % 10) ∷ (48 + n % 10) ∷ []

-- thousandths below one: a decimal point and digits without trailing zeros
abbrev pub fraction_text : ℕ → List ℕ
fraction_text n =
    if n == 0 then []
    else if n % 100 == 0 then 46 ∷ (48 + n / 100) ∷ []
    else if n % 10 == 0 then 46 ∷ (48 + n / 100) ∷ (48 + n / 10 % 10) ∷ []
    else 46 ∷ three_digits n

-- the shortest decimal text of a num, as 5, 2.5 and -0.001
abbrev pub shortest_text : ℤ → List ℕ
shortest_text z = sign_text z ++ (decimal (nat_abs z / 1000) ++ fraction_text (nat_abs z % 1000))

-- the decimal text with three decimals, as 5.000
abbrev pub fixed_text : ℤ → List ℕ
fixed_text z = sign_text z ++ (decimal (nat_abs z / 1000) ++ 46 ∷ three_digits (nat_abs z % 1000))
