-- When two values are equal.
use Rattle.std.specs.Prelude.{Bool, true, false, ◌&&◌, ℤ, List, [], ◌∷◌, bytes_eq}
use Rattle.std.specs.Ordering.{int_eq}
use Rattle.rapid_model.specs.Truths.{same_truth}
use Rattle.rapid_model.specs.declared.value.Value.{Value}
use Rattle.rapid_model.specs.declared.value.Value.TheVariants as values

abbrev pub same_nums : List ℤ → List ℤ → Bool
same_nums [] [] = true
same_nums (m ∷ ms) (n ∷ ns) = int_eq m n && same_nums ms ns
same_nums _ _ = false

-- they have the same form and are equal in every part
abbrev pub same : Value → Value → Bool
same (values.Num m) (values.Num n) = int_eq m n
same (values.Bool a) (values.Bool b) = same_truth a b
same (values.Text s) (values.Text t) = bytes_eq s t
same (values.Rob ms) (values.Rob ns) = same_nums ms ns
same (values.Ext ms) (values.Ext ns) = same_nums ms ns
same (values.Target j) (values.Target k) = same_nums j.axis k.axis
same (values.Speed ms) (values.Speed ns) = same_nums ms ns
same _ _ = false

-- they have the same form
abbrev pub are_alike : Value → Value → Bool
are_alike (values.Num m) (values.Num n) = true
are_alike (values.Bool a) (values.Bool b) = true
are_alike (values.Text s) (values.Text t) = true
are_alike (values.Rob ms) (values.Rob ns) = true
are_alike (values.Ext ms) (values.Ext ns) = true
are_alike (values.Target j) (values.Target k) = true
are_alike (values.Speed ms) (values.Speed ns) = true
are_alike _ _ = false
