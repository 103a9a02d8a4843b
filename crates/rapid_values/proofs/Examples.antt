-- The definitions on examples worked by hand.
use Rattle.std.proofs.Common.{◌≡◌, refl, true, false, [], ◌∷◌, ◌++◌, replicate}
use Rattle.std.specs.Prelude.{codes, pos, neg_ℤ}
use Rattle.rapid_model.specs.declared.operator.Operator.TheVariants as operators
use Rattle.rapid_model.specs.declared.value.Value.TheVariants as values
use Rattle.rapid_values.specs.declared.applied.Applied.TheVariants.{Gives, Raises, OutOfRange, Unfit}
use Rattle.rapid_values.specs.Equality.{same}
use Rattle.rapid_values.specs.Operators.{apply}

one_by_zero : apply operators.Div (values.Num (pos 1000)) (values.Num (pos 0)) ≡ Raises 101
one_by_zero = refl

whole_by_zero : apply operators.IntDiv (values.Num (pos 0)) (values.Num (pos 0)) ≡ Raises 101
whole_by_zero = refl

two_thirds : apply operators.Div (values.Num (pos 2000)) (values.Num (pos 3000)) ≡ Gives (values.Num (pos 667))
two_thirds = refl

product_too_great : apply operators.Mul (values.Num (pos 9_000_000_000_000)) (values.Num (pos 9_000_000_000_000)) ≡ OutOfRange
product_too_great = refl

sum_too_great : apply operators.Add (values.Num (pos 9_999_999_999_999)) (values.Num (pos 1)) ≡ OutOfRange
sum_too_great = refl

remainder_keeps_the_sign : apply operators.Mod (values.Num (neg_ℤ (pos 7000))) (values.Num (pos 2000)) ≡ Gives (values.Num (neg_ℤ (pos 1000)))
remainder_keeps_the_sign = refl

truncated_toward_zero : apply operators.IntDiv (values.Num (neg_ℤ (pos 7000))) (values.Num (pos 2000)) ≡ Gives (values.Num (neg_ℤ (pos 3000)))
truncated_toward_zero = refl

at_most_itself : apply operators.LessEqual (values.Num (pos 2000)) (values.Num (pos 2000)) ≡ Gives (values.Bool true)
at_most_itself = refl

both_true : apply operators.Xor (values.Bool true) (values.Bool true) ≡ Gives (values.Bool false)
both_true = refl

one_true : apply operators.Xor (values.Bool false) (values.Bool true) ≡ Gives (values.Bool true)
one_true = refl

two_words : apply operators.Add (values.Text (codes "ab")) (values.Text (codes "c")) ≡ Gives (values.Text (codes "abc"))
two_words = refl

eighty_characters : apply operators.Add (values.Text (replicate 40 65)) (values.Text (replicate 40 65)) ≡ Gives (values.Text (replicate 80 65))
eighty_characters = refl

one_character_more : apply operators.Add (values.Text (replicate 41 65)) (values.Text (replicate 40 65)) ≡ Raises 102
one_character_more = refl

num_and_text : apply operators.Add (values.Num (pos 1000)) (values.Text (codes "1")) ≡ Unfit
num_and_text = refl

num_equals_text : apply operators.Equal (values.Num (pos 1000)) (values.Text (codes "1")) ≡ Unfit
num_equals_text = refl

texts_have_no_order : apply operators.Less (values.Text (codes "a")) (values.Text (codes "b")) ≡ Unfit
texts_have_no_order = refl

robjoints_equal : apply operators.Equal (values.Rob (replicate 6 (pos 0))) (values.Rob (replicate 6 (pos 0))) ≡ Gives (values.Bool true)
robjoints_equal = refl

sixth_axis_differs : apply operators.NotEqual (values.Rob (replicate 6 (pos 0))) (values.Rob (replicate 5 (pos 0) ++ pos 1 ∷ [])) ≡ Gives (values.Bool true)
sixth_axis_differs = refl

other_form : same (values.Rob (replicate 6 (pos 0))) (values.Ext (replicate 6 (pos 0))) ≡ false
other_form = refl
