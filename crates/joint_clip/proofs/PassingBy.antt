-- An axis that is past the same bound at both ends of a segment is past it all the way.
use Rattle.std.proofs.Common.{◌≤◌, ◌<◌, ℕ, List, length, Option, Some, inl, inr, arith, ℤ, pos, negsuc, ◌-ℤ◌, ◌*ℤ◌, ◌<ℤ◌}
use Rattle.std.specs.List.{slice_index_or}
use Rattle.std.proofs.lemmas.Int.{ints}
use Rattle.std.proofs.lemmas.Option.{slice_get_within}
use Rattle.rapid_num.specs.declared.joints.Joints.{Joints}
use Rattle.rapid_num.specs.declared.shape.Bound.{Bound}
use Rattle.joint_clip.specs.Beside.{IsBeside, PassesBeside}
use Rattle.joint_clip.specs.Touches.{IsWithin, LiesInside, SomeFraction, way_at, point_at}
use Rattle.joint_clip.proofs.NamedAxes.{NoneOf}
use Rattle.joint_clip.proofs.Ways.{times-sub, way_at-least, way_at-most}

-- past a bound at both ends, past it all the way
stays_below : (p q low : ℤ) (k m : ℕ) → 1 ≤ m → k ≤ m → p <ℤ low → q <ℤ low → way_at p q k m <ℤ (low *ℤ pos m)
stays_below p q low k m some way from to =
    let most = way_at-most p q (low -ℤ pos 1) k m way (omega (arith, ints)) (omega (arith, ints)) in
    omega (arith, ints, most, times-sub low (pos 1) m)

stays_above : (p q high : ℤ) (k m : ℕ) → 1 ≤ m → k ≤ m → high <ℤ p → high <ℤ q → (high *ℤ pos m) <ℤ way_at p q k m
stays_above p q high k m some way from to =
    let least = way_at-least p q (high -ℤ negsuc 0) k m way (omega (arith, ints)) (omega (arith, ints)) in
    omega (arith, ints, least, times-sub high (negsuc 0) m)

pub never_within : (bound : Bound) (p q : ℤ) (k m : ℕ) → 1 ≤ m → k ≤ m → IsBeside bound p q → ¬ IsWithin bound (way_at p q k m) m
never_within bound p q k m some way beside within =
    elim beside [
      | inl below ↦ absurd (omega (arith, ints, within.low, stays_below p q bound.low k m some way below.0 below.1))
      | inr above ↦ absurd (omega (arith, ints, within.high, stays_above p q bound.high k m some way above.0 above.1))
    ]

-- a segment that is beside a zone has no point in it
pub none_inside : (bounds : List (Option Bound)) (p q : Joints) → PassesBeside bounds p q → ¬ SomeFraction (λ k m. LiesInside bounds (point_at p q k m) m)
none_inside bounds p q by inside =
    never_within by.bound (slice_index_or p.axis by.axis (pos 0)) (slice_index_or q.axis by.axis (pos 0)) inside.k inside.m inside.whole inside.on_the_way by.beside
    (inside.holds by.axis by.bound by.named)

pub none_beside : (axes : ℕ) (bounds : List (Option Bound)) (p q : Joints) → length bounds ≤ axes → NoneOf IsBeside axes bounds p q → ¬ PassesBeside bounds p q
none_beside axes bounds p q all none by =
    let within : by.axis < length bounds = slice_get_within bounds by.axis (Some by.bound) by.named in
    none by.axis (omega arith) by.bound by.named by.beside
