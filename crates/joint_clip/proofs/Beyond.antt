-- An axis goes past a bound exactly if it is past it at one of the ends.
use Rattle.std.proofs.Common.{◌≡◌, ◌≤◌, ◌<◌, ℕ, Bool, true, false, IsTrue, List, length, Option, Some, inl, inr, subst, refl, arith, ℤ, ◌≤ℤ◌}
use Rattle.std.proofs.lemmas.Int.{ints, by_lt_z}
use Rattle.std.proofs.lemmas.Bool.{false≢true}
use Rattle.std.proofs.lemmas.Option.{slice_get_within}
use Rattle.rapid_num.specs.declared.joints.Joints.{Joints}
use Rattle.rapid_num.specs.declared.shape.Bound.{Bound}
use Rattle.joint_clip.specs.Touches.{IsBeyond, LiesOutside, SomeFraction, way_at, point_at}
use Rattle.joint_clip.proofs.NamedAxes.{NoneOf}
use Rattle.joint_clip.proofs.Ways.{way_at-least, way_at-most}

-- an axis that goes from p to q is somewhere past one of its bounds
abbrev pub PassesBeyond : Bound → ℤ → ℤ → Type 0
PassesBeyond bound p q = SomeFraction (λ k m. IsBeyond bound (way_at p q k m) m)

pub at_start : (p q : ℤ) → p ≡ way_at p q 0 1
at_start p q = omega (arith, ints)

at_end : (p q : ℤ) → q ≡ way_at p q 1 1
at_end p q = omega (arith, ints)

pub beyond_at_start : (bound : Bound) (p q : ℤ) → IsBeyond bound p 1 → PassesBeyond bound p q
beyond_at_start bound p q beyond =
    record { k = 0; m = 1; whole = omega arith; on_the_way = omega arith; holds = subst (λ (x : ℤ). IsBeyond bound x 1) (at_start p q) beyond }

pub beyond_at_end : (bound : Bound) (p q : ℤ) → IsBeyond bound q 1 → PassesBeyond bound p q
beyond_at_end bound p q beyond =
    record { k = 1; m = 1; whole = omega arith; on_the_way = omega arith; holds = subst (λ (x : ℤ). IsBeyond bound x 1) (at_end p q) beyond }

not_below : (bound : Bound) (p : ℤ) → ¬ IsBeyond bound p 1 → bound.low ≤ℤ p
not_below bound p not = by_lt_z p bound.low (λ below. absurd (not (inl (omega (arith, ints))))) (λ above. above)

not_above : (bound : Bound) (p : ℤ) → ¬ IsBeyond bound p 1 → p ≤ℤ bound.high
not_above bound p not = by_lt_z bound.high p (λ above. absurd (not (inr (omega (arith, ints))))) (λ below. below)

pub never_beyond : (bound : Bound) (p q : ℤ) (k m : ℕ) → k ≤ m → ¬ IsBeyond bound p 1 → ¬ IsBeyond bound q 1 → IsBeyond bound (way_at p q k m) m → ⊥
never_beyond bound p q k m way from to beyond =
    elim beyond [
      | inl below ↦ absurd (omega (arith, ints, below, way_at-least p q bound.low k m way (not_below bound p from) (not_below bound q to)))
      | inr above ↦ absurd (omega (arith, ints, above, way_at-most p q bound.high k m way (not_above bound p from) (not_above bound q to)))
    ]

pub beyond_at_an_end : (bound : Bound) (p q : ℤ) → ¬ IsBeyond bound p 1 → ¬ IsBeyond bound q 1 → PassesBeyond bound p q → ⊥
beyond_at_an_end bound p q from to passes = never_beyond bound p q passes.k passes.m passes.on_the_way from to passes.holds

pub end_beyond : (bound : Bound) (p q : ℤ) (answer : Bool) → ¬ IsBeyond bound p 1 → (IsTrue answer → IsBeyond bound q 1) × (IsBeyond bound q 1 → IsTrue answer) → (IsTrue answer → PassesBeyond bound p q) × (PassesBeyond bound p q → IsTrue answer)
end_beyond bound p q true from is = (λ true. beyond_at_end bound p q (is.0 true), λ passes. refl)
end_beyond bound p q false from is =
    (λ true. absurd (false≢true true), λ passes. absurd (beyond_at_an_end bound p q from (λ beyond. false≢true (is.1 beyond)) passes))

pub none_outside : (axes : ℕ) (bounds : List (Option Bound)) (p q : Joints) → length bounds ≤ axes → NoneOf PassesBeyond axes bounds p q → ¬ SomeFraction (λ k m. LiesOutside bounds (point_at p q k m) m)
none_outside axes bounds p q all none passes =
    let out = passes.holds in
    let within : out.axis < length bounds = slice_get_within bounds out.axis (Some out.bound) out.named in
    none out.axis (omega arith) out.bound out.named
    (record { k = passes.k; m = passes.m; whole = passes.whole; on_the_way = passes.on_the_way; holds = out.beyond })
