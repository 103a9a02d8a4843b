-- The value of a numerical literal (RAPID Kernel, lexical elements). It is digits, with or without a decimal point, and
-- an optional exponent; or 0x, 0o or 0b and digits of that base. Letters are case-insensitive.
use Rattle.std.specs.Prelude.{ℕ, ◌+◌, ◌-◌, ◌*◌, ◌^◌, ℤ, pos, negsuc, ◌+ℤ◌, ◌-ℤ◌, neg_ℤ, Bool, not, ◌&&◌, ◌||◌, nat_lt, nat_le, ◌==◌, if◌then◌else◌, List, [], ◌∷◌, ◌++◌, length, fold, Option, Some, None}
use Rattle.std.specs.List.{before_first, after_first, list_any, list_all}
use Rattle.std.specs.Option.{option_and_then, option_map}
use Rattle.rapid_limits.specs.declared.TheConstants.{LONGEST_LITERAL}
use Rattle.rapid_num.specs.Range.{greatest}
use Rattle.rapid_num.specs.Arithmetic.{rounded}

-- the value of a digit, 0 to 9, A to F or a to f; 16 for any other byte
abbrev pub digit_value : ℕ → ℕ
digit_value b =
    if nat_le 48 b && nat_le b 57 then b - 48
    else if nat_le 65 b && nat_le b 70 then b - 55
    else if nat_le 97 b && nat_le b 102 then b - 87
    else 16

-- at least one digit, each below the base
abbrev pub are_digits : ℕ → List ℕ → Bool
are_digits base ds = not (length ds == 0) && list_all (λ b. nat_lt (digit_value b) base) ds

-- the value of digits, most significant first
abbrev pub digits_number : ℕ → List ℕ → ℕ
digits_number base ds = fold (λ n b. n * base + digit_value b) 0 ds

abbrev pub is_point : ℕ → Bool
is_point b = b == 46

abbrev pub is_exponent_letter : ℕ → Bool
is_exponent_letter b = b == 69 || b == 101

-- digits with or without a decimal point: their value, and the number of digits after the point
abbrev pub mantissa_of : List ℕ → Option (ℕ × ℕ)
mantissa_of text =
    let digits = before_first is_point text ++ after_first is_point text in
    if are_digits 10 digits then Some (digits_number 10 digits, length (after_first is_point text)) else None

-- an optional sign and digits
abbrev pub exponent_of : List ℕ → Option ℤ
exponent_of [] = None
exponent_of (b ∷ ds) =
    if b == 43 then (if are_digits 10 ds then Some (pos (digits_number 10 ds)) else None)
    else if b == 45 then (if are_digits 10 ds then Some (neg_ℤ (pos (digits_number 10 ds))) else None)
    else if are_digits 10 (b ∷ ds) then Some (pos (digits_number 10 (b ∷ ds))) else None

-- m times ten to the power of the exponent, rounded to an integer, halves up
abbrev pub scaled : ℕ → ℤ → ℕ
scaled m (pos e) = m * 10 ^ e
scaled m (negsuc e) = rounded m (10 ^ (e + 1))

-- the value of a decimal literal, in thousandths
abbrev pub decimal_thousandths : List ℕ → Option ℕ
decimal_thousandths text =
    option_and_then (λ m. option_map (λ e. scaled m.0 ((e -ℤ pos m.1) +ℤ pos 3))
    (if list_any is_exponent_letter text then exponent_of (after_first is_exponent_letter text) else Some (pos 0)))
    (mantissa_of (before_first is_exponent_letter text))

-- the base for the letter after a 0
abbrev pub base_of : ℕ → Option ℕ
base_of b =
    if b == 120 || b == 88 then Some 16
    else if b == 111 || b == 79 then Some 8
    else if b == 98 || b == 66 then Some 2
    else None

abbrev pub based_thousandths : List ℕ → ℕ → Option ℕ
based_thousandths ds base = if are_digits base ds then Some (digits_number base ds * 1000) else None

-- the value of a literal in thousandths, of any size; None if the text is not a literal
abbrev pub spelled_thousandths : List ℕ → Option ℕ
spelled_thousandths [] = None
spelled_thousandths (a ∷ []) = decimal_thousandths (a ∷ [])
spelled_thousandths (a ∷ b ∷ ds) = spelled_by (if a == 48 then base_of b else None)
  where
    spelled_by : Option ℕ → Option ℕ
    spelled_by (Some base) = based_thousandths ds base
    spelled_by None = decimal_thousandths (a ∷ b ∷ ds)

-- the num of a literal of at most 30 bytes whose rounded value is in range
abbrev pub literal_value : List ℕ → Option ℤ
literal_value text =
    option_and_then (λ n. if nat_le (length text) LONGEST_LITERAL && nat_le n greatest then Some (pos n) else None) (spelled_thousandths text)
