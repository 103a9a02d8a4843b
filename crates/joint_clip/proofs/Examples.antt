-- The definitions on zones and segments worked out by hand.
use Rattle.std.proofs.Common.{◌≡◌, ◌≤◌, ◌++◌, ℕ, zero, suc, Bool, true, false, ◌∷◌, replicate, Some, None, Ok, Err, inl, inr, refl, sym, subst, arith, ℤ, pos, neg_ℤ}
use Rattle.std.proofs.lemmas.Int.{ints}
use Rattle.rapid_num.specs.Range.{greatest}
use Rattle.rapid_num.specs.Absent.{absent}
use Rattle.rapid_num.specs.declared.joints.Joints.{Joints}
use Rattle.rapid_num.specs.declared.shape.Bound.{Bound}
use Rattle.rapid_num.specs.declared.shape.Shape.{Shape}
use Rattle.joint_clip.specs.declared.shape_fault.ShapeFault.TheVariants as faults
use Rattle.joint_clip.specs.Lying.{lies_in}
use Rattle.joint_clip.specs.Shapes.{made_shape}
use Rattle.joint_clip.specs.Touches.{Names, IsWithin, LiesInside, LiesOutside, IsBeyond, Touches, way_at}
use Rattle.joint_clip.proofs.Axes.{none_named}

-- bounds of axis 1 alone, of axes 1 and 2, and of axes 1 and 7
abbrev on_one : ℤ → Joints
on_one a = record { axis = a ∷ replicate 11 absent }

abbrev on_two : ℤ → ℤ → Joints
on_two a b = record { axis = a ∷ b ∷ replicate 10 absent }

abbrev on_seventh : ℤ → ℤ → Joints
on_seventh a g = record { axis = (a ∷ replicate 5 absent) ++ (g ∷ replicate 5 absent) }

abbrev bound : ℤ → ℤ → Bound
bound low high = record { low = low; high = high }

abbrev zone : Bool → ℤ → ℤ → Shape
zone inside low high = record { inside = inside; bounds = Some (bound low high) ∷ replicate 11 None }

-- 10.5 to 11.5 degrees
limits : made_shape true (on_one (pos 10_500)) (on_one (pos 11_500)) 6 ≡ Ok (zone true (pos 10_500) (pos 11_500))
limits = refl

-- 9E9 means no lower limit, and no upper one
no_low_limit : made_shape true (on_one absent) (on_one (pos 1000)) 6 ≡ Ok (zone true (neg_ℤ (pos greatest)) (pos 1000))
no_low_limit = refl

no_high_limit : made_shape false (on_one (pos 1000)) (on_one absent) 6 ≡ Ok (zone false (pos 1000) (pos greatest))
no_high_limit = refl

-- no axis is named, both bounds are the same angle, or the low one is above the high one
no_limits : made_shape true (on_one absent) (on_one absent) 6 ≡ Err faults.ZoneShape
no_limits = refl

one_angle : made_shape true (on_one (pos 1000)) (on_one (pos 1000)) 6 ≡ Err faults.ZoneShape
one_angle = refl

turned_round : made_shape true (on_two (pos 0) (pos 20_000)) (on_two (pos 1000) (pos 10_000)) 6 ≡ Err faults.ZoneShape
turned_round = refl

-- no num is below the least one
below_the_least : made_shape true (on_one absent) (on_one (neg_ℤ (pos greatest))) 6 ≡ Err faults.ZoneShape
below_the_least = refl

-- axis 7 of an arm with six axes, which takes precedence, and of one with seven
no_such_axis : made_shape true (on_seventh (pos 1000) absent) (on_seventh (pos 1000) (pos 0)) 6 ≡ Err faults.ExtAxis
no_such_axis = refl

seventh_axis : made_shape true (on_seventh absent (pos 0)) (on_seventh absent (pos 1)) 7
    ≡ Ok (record { inside = true; bounds = replicate 6 None ++ (Some (bound (pos 0) (pos 1)) ∷ replicate 5 None) })
seventh_axis = refl

-- an arm at these angles of axes 1 and 2
abbrev arm_at : ℤ → ℤ → Joints
arm_at a b = record { axis = a ∷ b ∷ replicate 10 (pos 0) }

same_some : (a b : Bound) → Some (Some a) ≡ Some (Some b) → a ≡ b
same_some a b same = cc

inside_one : (a : Bound) (point : ℕ → ℤ) (m : ℕ) → IsWithin a (point 0) m → LiesInside (Some a ∷ replicate 11 None) point m
inside_one a point m one zero b named = subst (λ (x : Bound). IsWithin x (point 0) m) (same_some a b named) one
inside_one a point m one (suc axis) b named = absurd (none_named 11 axis b named)

inside_two : (a b : Bound) (point : ℕ → ℤ) (m : ℕ) → IsWithin a (point 0) m → IsWithin b (point 1) m → LiesInside (Some a ∷ Some b ∷ replicate 10 None) point m
inside_two a b point m one two zero x named = subst (λ (y : Bound). IsWithin y (point 0) m) (same_some a x named) one
inside_two a b point m one two (suc zero) x named = subst (λ (y : Bound). IsWithin y (point 1) m) (same_some b x named) two
inside_two a b point m one two (suc (suc axis)) x named = absurd (none_named 10 axis x named)

-- from 6 to 12 degrees through 10.5 to 11.5: after five sixths of the way axis 1 is at 11
passes_through : Touches (arm_at (pos 6000) (pos 0)) (arm_at (pos 12_000) (pos 0)) (zone true (pos 10_500) (pos 11_500))
passes_through = record {
  k = 5;
  m = 6;
  whole = omega arith;
  on_the_way = omega arith;
  holds = inside_one _ _ 6 (record { low = omega (arith, ints); high = omega (arith, ints) });
}

-- a corner of 10 to 20 degrees on both axes, touched half-way at 10, 10, and missed by a thousandth
abbrev square : Shape
square = record { inside = true; bounds = Some (bound (pos 10_000) (pos 20_000)) ∷ Some (bound (pos 10_000) (pos 20_000)) ∷ replicate 10 None }

touches_corner : Touches (arm_at (pos 9000) (pos 11_000)) (arm_at (pos 11_000) (pos 9000)) square
touches_corner = record {
  k = 1;
  m = 2;
  whole = omega arith;
  on_the_way = omega arith;
  holds = inside_two _ _ _ 2 (record { low = omega (arith, ints); high = omega (arith, ints) }) (record { low = omega (arith, ints); high = omega (arith, ints) });
}

on_either_side : (k m : ℕ) → 1 ≤ m → k ≤ m → IsWithin (bound (pos 10_000) (pos 20_000)) (way_at (pos 9000) (pos 11_000) k m) m → IsWithin (bound (pos 10_000) (pos 20_000)) (way_at (pos 10_999) (pos 8999) k m) m → ⊥
on_either_side k m some way one two = omega (arith, ints)

misses_corner : ¬ Touches (arm_at (pos 9000) (pos 10_999)) (arm_at (pos 11_000) (pos 8999)) square
misses_corner touched =
    on_either_side touched.k touched.m touched.whole touched.on_the_way (touched.holds 0 _ refl) (touched.holds 1 _ refl)

-- a move of length zero within the zone, with both limits and with the high one only
stays_inside : Touches (arm_at (pos 0) (pos 0)) (arm_at (pos 0) (pos 0)) (zone true (neg_ℤ (pos 1000)) (pos 1000))
stays_inside = record {
  k = 0;
  m = 1;
  whole = omega arith;
  on_the_way = omega arith;
  holds = inside_one _ _ 1 (record { low = omega (arith, ints); high = omega (arith, ints) });
}

stays_below : Touches (arm_at (pos 0) (pos 0)) (arm_at (pos 0) (pos 0)) (zone true (neg_ℤ (pos greatest)) (pos 1000))
stays_below = record {
  k = 0;
  m = 1;
  whole = omega arith;
  on_the_way = omega arith;
  holds = inside_one _ _ 1 (record { low = omega (arith, ints); high = omega (arith, ints) });
}

-- a move up to the face of an Inside zone touches it at its end; one that ends a thousandth before does not
touches_face : Touches (arm_at (pos 0) (pos 0)) (arm_at (pos 10_000) (pos 0)) (zone true (pos 10_000) (pos 20_000))
touches_face = record {
  k = 1;
  m = 1;
  whole = omega arith;
  on_the_way = omega arith;
  holds = inside_one _ _ 1 (record { low = omega (arith, ints); high = omega (arith, ints) });
}

short_of_face : (k m : ℕ) → 1 ≤ m → k ≤ m → IsWithin (bound (pos 10_000) (pos 20_000)) (way_at (pos 0) (pos 9999) k m) m → ⊥
short_of_face k m some way one = omega (arith, ints)

ends_before_face : ¬ Touches (arm_at (pos 0) (pos 0)) (arm_at (pos 9999) (pos 0)) (zone true (pos 10_000) (pos 20_000))
ends_before_face touched = short_of_face touched.k touched.m touched.whole touched.on_the_way (touched.holds 0 _ refl)

-- a move from face to face does not touch the Outside zone; one that ends a thousandth further does
between_faces : (k m : ℕ) → 1 ≤ m → k ≤ m → IsBeyond (bound (pos 10_000) (pos 20_000)) (way_at (pos 10_000) (pos 20_000) k m) m → ⊥
between_faces k m some way (inl below) = omega (arith, ints)
between_faces k m some way (inr above) = omega (arith, ints)

face_beyond : (a : Bound) (point : ℕ → ℤ) (m : ℕ) → LiesOutside (Some a ∷ replicate 11 None) point m → IsBeyond a (point 0) m
face_beyond a point m out = beyond_first out.axis out.bound out.named out.beyond
  where
    beyond_first : (axis : ℕ) (b : Bound) → Names (Some a ∷ replicate 11 None) axis b → IsBeyond b (point axis) m → IsBeyond a (point 0) m
    beyond_first zero b named beyond = subst (λ (x : Bound). IsBeyond x (point 0) m) (sym (same_some a b named)) beyond
    beyond_first (suc axis) b named beyond = absurd (none_named 11 axis b named)

stays_between : ¬ Touches (arm_at (pos 10_000) (pos 0)) (arm_at (pos 20_000) (pos 0)) (zone false (pos 10_000) (pos 20_000))
stays_between touched =
    between_faces touched.k touched.m touched.whole touched.on_the_way (face_beyond _ _ touched.m touched.holds)

leaves : Touches (arm_at (pos 10_000) (pos 0)) (arm_at (pos 20_001) (pos 0)) (zone false (pos 10_000) (pos 20_000))
leaves = record {
  k = 1;
  m = 1;
  whole = omega arith;
  on_the_way = omega arith;
  holds = record { axis = 0; bound = bound (pos 10_000) (pos 20_000); named = refl; beyond = inr (omega (arith, ints)) };
}

-- an arm on a face lies in an Inside zone and not in an Outside one, and a thousandth further the other way round
on_the_face : lies_in (zone true (pos 10_000) (pos 20_000)) (arm_at (pos 20_000) (pos 0)) ≡ true
on_the_face = refl

past_the_face : lies_in (zone true (pos 10_000) (pos 20_000)) (arm_at (pos 20_001) (pos 0)) ≡ false
past_the_face = refl

on_the_face_of_an_outside : lies_in (zone false (pos 10_000) (pos 20_000)) (arm_at (pos 20_000) (pos 0)) ≡ false
on_the_face_of_an_outside = refl

past_the_face_of_an_outside : lies_in (zone false (pos 10_000) (pos 20_000)) (arm_at (pos 20_001) (pos 0)) ≡ true
past_the_face_of_an_outside = refl

-- one axis is enough to be out of the square
half_in : lies_in square (arm_at (pos 15_000) (pos 9_999)) ≡ false
half_in = refl
