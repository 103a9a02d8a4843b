-- What each part of the reader returns.
use Rattle.std.specs.Prelude.{ℕ, ◌+◌, ◌*◌, ℤ, pos, ◌+ℤ◌, ◌-ℤ◌, nat_lt, nat_le, if◌then◌else◌, List, fold, Option, Some, None}
use Rattle.std.specs.List.{list_all}
use Rattle.std.specs.Option.{option_and_then, option_map}
use Rattle.rapid_num.specs.Range.{greatest}
use Rattle.rapid_num.specs.Literal.{digit_value, are_digits, digits_number, mantissa_of, scaled}

-- a natural number that is the absolute value of a num
abbrev pub size_within : ℕ → Option ℕ
size_within n = if nat_le n greatest then Some n else None

abbrev pub within : Option ℕ → Option ℕ
within = option_and_then size_within

-- the value of a number extended by more digits
abbrev pub number_onto : ℕ → ℕ → List ℕ → Option ℕ
number_onto base n ds =
    if list_all (λ b. nat_lt (digit_value b) base) ds then Some (fold (λ n b. n * base + digit_value b) n ds) else None

-- the value of at least one digit
abbrev pub number_of : ℕ → List ℕ → Option ℕ
number_of base ds = if are_digits base ds then Some (digits_number base ds) else None

-- the value of a decimal without an exponent, times ten to the power of e, in thousandths
abbrev pub scaled_mantissa : List ℕ → ℤ → Option ℕ
scaled_mantissa text e = option_map (λ m. scaled m.0 ((e -ℤ pos m.1) +ℤ pos 3)) (mantissa_of text)
