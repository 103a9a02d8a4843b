-- The definitions on worked examples.
use Rattle.std.proofs.Common.{◌≡◌, refl, Some, None}
use Rattle.std.specs.Prelude.{codes, pos, neg_ℤ}
use Rattle.std.specs.Fmt.{digits}
use Rattle.rapid_num.specs.Literal.{literal_value}
use Rattle.rapid_num.specs.NumText.{shortest_text, fixed_text}
use Rattle.rapid_num.specs.Arithmetic.{rounded_ratio, sum_of, product_of, quotient_of, whole_quotient_of, remainder_of}
use Rattle.rapid_num.specs.Reading.{size_within, within, number_onto, number_of, scaled_mantissa}

whole : literal_value (codes "5") ≡ Some (pos 5000)
whole = refl

half : literal_value (codes ".5") ≡ Some (pos 500)
half = refl

point_at_end : literal_value (codes "5.") ≡ Some (pos 5000)
point_at_end = refl

no_digit : literal_value (codes ".") ≡ None
no_digit = refl

rounds_up : literal_value (codes "0.0005") ≡ Some (pos 1)
rounds_up = refl

exponent : literal_value (codes "9E9") ≡ Some (pos 9000000000000)
exponent = refl

small : literal_value (codes "15e-4") ≡ Some (pos 2)
small = refl

too_large : literal_value (codes "1e10") ≡ None
too_large = refl

hexadecimal : literal_value (codes "0XfF") ≡ Some (pos 255000)
hexadecimal = refl

no_exponent : literal_value (codes "1e+") ≡ None
no_exponent = refl

shortest : shortest_text (neg_ℤ (pos 1)) ≡ codes "-0.001"
unfolding digits
shortest = refl

shortest_half : shortest_text (pos 2500) ≡ codes "2.5"
unfolding digits
shortest_half = refl

fixed : fixed_text (pos 833) ≡ codes "0.833"
unfolding digits
fixed = refl

away_from_zero : rounded_ratio (neg_ℤ (pos 5)) 2 ≡ neg_ℤ (pos 3)
away_from_zero = refl

greatest_size : size_within 9_999_999_999_999 ≡ Some 9_999_999_999_999
greatest_size = refl

size_too_great : within (Some 10_000_000_000_000) ≡ None
size_too_great = refl

digits_onto_one : number_onto 10 1 (codes "25") ≡ Some 125
digits_onto_one = refl

no_binary_digit : number_onto 2 1 (codes "2") ≡ None
no_binary_digit = refl

octal_digits : number_of 8 (codes "17") ≡ Some 15
octal_digits = refl

digits_missing : number_of 8 (codes "") ≡ None
digits_missing = refl

one_and_a_half_hundred : scaled_mantissa (codes "1.5") (pos 2) ≡ Some 150_000
one_and_a_half_hundred = refl

negative_fixed : fixed_text (neg_ℤ (pos 1010)) ≡ codes "-1.010"
unfolding digits
negative_fixed = refl

shortest_hundredths : shortest_text (pos 1010) ≡ codes "1.01"
unfolding digits
shortest_hundredths = refl

thirty_bytes : literal_value (codes "000000000000000000000000000001") ≡ Some (pos 1000)
thirty_bytes = refl

too_long : literal_value (codes "0000000000000000000000000000001") ≡ None
too_long = refl

-- 9999999999.999 + 0.001
sum_too_great : sum_of (pos 9_999_999_999_999) (pos 1) ≡ None
sum_too_great = refl

-- -9999999999.998 + -0.001
least_sum : sum_of (neg_ℤ (pos 9_999_999_999_998)) (neg_ℤ (pos 1)) ≡ Some (neg_ℤ (pos 9_999_999_999_999))
least_sum = refl

-- -0.001 * 0.5
half_of_the_least : product_of (neg_ℤ (pos 1)) (pos 500) ≡ Some (neg_ℤ (pos 1))
half_of_the_least = refl

-- 0.001 * 0.499
less_than_half : product_of (pos 1) (pos 499) ≡ Some (pos 0)
less_than_half = refl

-- 9E9 * 9E9
product_too_great : product_of (pos 9_000_000_000_000) (pos 9_000_000_000_000) ≡ None
product_too_great = refl

-- 2 / 3, -2 / 3, 2 / -3 and -2 / -3
two_thirds : quotient_of (pos 2000) (pos 3000) ≡ Some (pos 667)
two_thirds = refl

negative_thirds : quotient_of (neg_ℤ (pos 2000)) (pos 3000) ≡ Some (neg_ℤ (pos 667))
negative_thirds = refl

by_negative : quotient_of (pos 2000) (neg_ℤ (pos 3000)) ≡ Some (neg_ℤ (pos 667))
by_negative = refl

both_negative : quotient_of (neg_ℤ (pos 2000)) (neg_ℤ (pos 3000)) ≡ Some (pos 667)
both_negative = refl

-- 0.001 / 2
half_of_a_thousandth : quotient_of (pos 1) (pos 2000) ≡ Some (pos 1)
half_of_a_thousandth = refl

-- 9999999999.999 / 0.001
quotient_too_great : quotient_of (pos 9_999_999_999_999) (pos 1) ≡ None
quotient_too_great = refl

-- 7 DIV -2, -7 DIV -2 and 1 DIV 0.3
whole_by_negative : whole_quotient_of (pos 7000) (neg_ℤ (pos 2000)) ≡ Some (neg_ℤ (pos 3000))
whole_by_negative = refl

whole_of_negatives : whole_quotient_of (neg_ℤ (pos 7000)) (neg_ℤ (pos 2000)) ≡ Some (pos 3000)
whole_of_negatives = refl

whole_thirds : whole_quotient_of (pos 1000) (pos 300) ≡ Some (pos 3000)
whole_thirds = refl

-- 9999999999.999 DIV 0.5
whole_too_great : whole_quotient_of (pos 9_999_999_999_999) (pos 500) ≡ None
whole_too_great = refl

-- -7 MOD 2, 7 MOD -2 and 1 MOD 0.3
left_of_negative : remainder_of (neg_ℤ (pos 7000)) (pos 2000) ≡ neg_ℤ (pos 1000)
left_of_negative = refl

left_by_negative : remainder_of (pos 7000) (neg_ℤ (pos 2000)) ≡ pos 1000
left_by_negative = refl

left_of_thirds : remainder_of (pos 1000) (pos 300) ≡ pos 100
left_of_thirds = refl
