-- A number with one more digit.
use Rattle.std.proofs.Common.{◌≡◌, ℕ, ◌+◌, ◌*◌, ◌^◌, ◌<◌, ◌≤◌, List, ◌∷◌, length, get_or, drop, refl, arith, add-one, drop-cons}
use Rattle.std.proofs.Math.Nat.{one-le-pow, pow-suc, mul-le-mul_right, le-mul_of_pos_right}
use Rattle.std.proofs.lemmas.Bool.Decides.{nat_tests}
use Rattle.rapid_num.specs.Literal.{digit_value}
use Rattle.rapid_num.specs.Reading.{number_onto}

pub number_onto_next : (base n x : ℕ) (xs : List ℕ) → digit_value x < base → number_onto base n (x ∷ xs) ≡ number_onto base (n * base + digit_value x) xs
number_onto_next base n x xs h = grind (arith, nat_tests)

pub number_onto_at : (base n i : ℕ) (ds : List ℕ) → i < length ds → digit_value (get_or ds i 0) < base → number_onto base n (drop i ds) ≡ number_onto base (n * base + digit_value (get_or ds i 0)) (drop (i + 1) ds)
number_onto_at base n i ds l h = rw (add-one, drop-cons ds i 0 l) (number_onto_next base n (get_or ds i 0) _ h)

pub room_next : (base n d j k limit : ℕ) → d < base → j ≡ k + 1 → (n + 1) * base ^ j ≤ limit → (n * base + d + 1) * base ^ k ≤ limit
room_next base n d j k limit h e room =
    let step : base ^ j ≡ base ^ k * base = rw (e, add-one k, pow-suc base k) refl in
    let whole : (n + 1) * base ^ j ≡ (n + 1) * base * base ^ k = rw step (omega arith) in
    let more : (n * base + d + 1) * base ^ k ≤ (n + 1) * base * base ^ k = mul-le-mul_right (base ^ k) (omega arith) in
    omega arith

pub fits_next : (base n d j k limit : ℕ) → d < base → j ≡ k + 1 → (n + 1) * base ^ j ≤ limit → n * base + d + 1 ≤ limit
fits_next base n d j k limit h e room =
    let next : (n * base + d + 1) * base ^ k ≤ limit = room_next base n d j k limit h e room in
    let power : 1 ≤ base ^ k = one-le-pow k base (omega arith) in
    let more : n * base + d + 1 ≤ (n * base + d + 1) * base ^ k = le-mul_of_pos_right _ power in
    omega arith
