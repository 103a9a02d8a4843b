-- The bounds of a home zone's axis.
use Rattle.std.proofs.Common.{◌≡◌, ◌⊎◌, inl, inr, refl, sym, ap, ◌∙◌, ℕ, zero, suc, Bool, true, false, ℤ, ◌+ℤ◌, ◌-ℤ◌, List, [], ◌∷◌, Option, Some, None, if◌then◌else◌, slice_get, arith}
use Rattle.std.specs.Prelude.{IsTrue, ◌||◌}
use Rattle.std.specs.Option.{option_and_then, option_map}
use Rattle.std.proofs.lemmas.Bool.{true≢false}
use Rattle.std.proofs.lemmas.Int.{ints}
use Rattle.rapid_num.specs.Absent.{absent, is_absent}
use Rattle.rapid_num.specs.Arithmetic.{difference_of, num_of, sum_of}
use Rattle.rapid_num.specs.Range.{is_num}
use Rattle.rapid_meaning.specs.Zones.{home_high, home_low, on_axes}

some_num : (n bound : ℤ) → num_of n ≡ Some bound → n ≡ bound
some_num n bound e = by (is_num n) e
  where
    by : (b : Bool) → (if b then Some n else None) ≡ Some bound → n ≡ bound
    by true is = cc
    by false is = cc

-- a bound that is not 9E9 is the sum or the difference
bound_is : (b : Bool) (n bound : ℤ) → (if b then Some absent else num_of n) ≡ Some bound → is_absent bound ≡ false → n ≡ bound
bound_is true n bound e there = let same : absent ≡ bound = cc in absurd (true≢false (ap is_absent same ∙ there))
bound_is false n bound e there = some_num n bound e

pub halfway : (middle delta low high : ℤ) → home_low middle delta ≡ Some low → home_high middle delta ≡ Some high → is_absent low ≡ false → is_absent high ≡ false
    → (low +ℤ high ≡ middle +ℤ middle) × (low +ℤ delta ≡ middle)
halfway middle delta low high is_low is_high low_there high_there =
    let below : middle -ℤ delta ≡ low = bound_is (is_absent middle || is_absent delta) (middle -ℤ delta) low is_low low_there in
    let above : middle +ℤ delta ≡ high = bound_is (is_absent middle || is_absent delta) (middle +ℤ delta) high is_high high_there in
    (omega (arith, ints), omega (arith, ints))

one_absent : (a b : Bool) → IsTrue a ⊎ IsTrue b → (a || b) ≡ true
one_absent true b h = refl
one_absent false b (inl h) = absurd cc
one_absent false b (inr h) = h

pub none : (middle delta : ℤ) → IsTrue (is_absent middle) ⊎ IsTrue (is_absent delta) → (home_low middle delta ≡ Some absent) × (home_high middle delta ≡ Some absent)
none middle delta h =
    let one : (is_absent middle || is_absent delta) ≡ true = one_absent (is_absent middle) (is_absent delta) h in
    (ap (λ (b : Bool). if b then Some absent else difference_of middle delta) one, ap (λ (b : Bool). if b then Some absent else sum_of middle delta) one)

first_and_more : (o : Option ℤ) (rest : Option (List ℤ)) (bounds : List ℤ) → option_and_then (λ b. option_map (λ bs. b ∷ bs) rest) o ≡ Some bounds
    → (b : ℤ) × (more : List ℤ) × (o ≡ Some b) × (rest ≡ Some more) × (bounds ≡ b ∷ more)
first_and_more None rest bounds e = absurd cc
first_and_more (Some b) None bounds e = absurd cc
first_and_more (Some b) (Some more) bounds e = (b, more, refl, refl, cc)

pub axes : (bound : ℤ → ℤ → Option ℤ) (middles deltas bounds : List ℤ) (axis : ℕ) (middle delta : ℤ) → on_axes bound middles deltas ≡ Some bounds
    → slice_get middles axis ≡ Some middle → slice_get deltas axis ≡ Some delta → slice_get bounds axis ≡ bound middle delta
unfolding on_axes
axes bound [] deltas bounds axis middle delta is m d = absurd cc
axes bound (x ∷ xs) [] bounds axis middle delta is m d = absurd cc
axes bound (x ∷ xs) (y ∷ ys) bounds zero middle delta is m d =
    let parts = first_and_more (bound x y) (on_axes bound xs ys) bounds is in
    let here : slice_get bounds 0 ≡ Some parts.0 = ap (λ (bs : List ℤ). slice_get bs 0) parts.4 in
    let x_is : x ≡ middle = cc in
    let y_is : y ≡ delta = cc in
    here ∙ sym parts.2 ∙ ap (λ (z : ℤ). bound z y) x_is ∙ ap (bound middle) y_is
axes bound (x ∷ xs) (y ∷ ys) bounds (suc axis) middle delta is m d =
    let parts = first_and_more (bound x y) (on_axes bound xs ys) bounds is in
    ap (λ (bs : List ℤ). slice_get bs (suc axis)) parts.4 ∙ axes bound xs ys parts.1 axis middle delta parts.3 m d
