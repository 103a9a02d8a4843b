-- The least distance of a segment, by the lines of the sides.
use Rattle.std.proofs.Common.{◌≡◌, ◌*◌, ◌⊎◌, ℕ, true, false, List, Option, inl, inr, arith, ℤ, pos, ◌*ℤ◌, ◌≤ℤ◌}
use Rattle.std.proofs.lemmas.Int.{ints}
use Rattle.rapid_num.specs.declared.joints.Joints.{Joints}
use Rattle.rapid_num.specs.declared.shape.Bound.{Bound}
use Rattle.rapid_num.specs.declared.shape.Shape.{Shape}
use Rattle.joint_clip.specs.Parts.{IsAtMost}
use Rattle.zone_clearance.specs.Distances.{distance_along}
use Rattle.zone_clearance.specs.Gaps.{IsLeastDistance}
use Rattle.zone_clearance.proofs.Nearness.{IsFarAt, WayOver, WayUnder, WaysOver, WaysUnder, inside_far, inside_near, inside_under, outside_far, outside_near, outside_under}
use Rattle.zone_clearance.proofs.Ways.{OnTheWay}

-- the zone inside or outside the bounds
abbrev pub inner : List (Option Bound) → Shape
inner bounds = record { inside = true; bounds = bounds }

abbrev pub outer : List (Option Bound) → Shape
outer bounds = record { inside = false; bounds = bounds }

equal_scaled : (d : ℤ) (b l : ℕ) → (d *ℤ pos b) ≤ℤ pos l → pos l ≤ℤ (d *ℤ pos b) → d *ℤ pos b ≡ pos l
equal_scaled d b l near far = omega (arith, ints)

near_from_same : (d : ℤ) (b l : ℕ) → d *ℤ pos b ≡ pos l → (d *ℤ pos b) ≤ℤ pos l
near_from_same d b l same = omega (arith, ints, same)

pub least_inside : (p q : Joints) (bounds : List (Option Bound)) (t b k m : ℕ) → OnTheWay k m → ((i n : ℕ) → OnTheWay i n → WayOver true p q bounds t b i n) → WaysUnder true p q bounds t b k m
    → ((i n : ℕ) → OnTheWay i n → WaysUnder true p q bounds t b i n → IsAtMost k m i n) → IsLeastDistance p q (inner bounds) t b k m
least_inside p q bounds t b k m here above under first = record {
  none_nearer = λ i n some way. inside_far p q bounds t b i n way (above i n (record { some = some; whole = way }));
  reached = equal_scaled _ b (t * m) (inside_near p q bounds t b k m here.whole under) (inside_far p q bounds t b k m here.whole (above k m here));
  first = λ i n some way same. first i n (record { some = some; whole = way }) (inside_under p q bounds t b i n way (near_from_same _ b (t * n) same));
}

pub least_outside : (p q : Joints) (bounds : List (Option Bound)) (t b k m : ℕ) → OnTheWay k m → (t ≡ 0) ⊎ ((i n : ℕ) → OnTheWay i n → WaysOver false p q bounds t b i n) → WayUnder false p q bounds t b k m
    → ((i n : ℕ) → OnTheWay i n → WayUnder false p q bounds t b i n → IsAtMost k m i n) → IsLeastDistance p q (outer bounds) t b k m
least_outside p q bounds t b k m here above under first = record {
  none_nearer = λ i n some way. far i n (record { some = some; whole = way });
  reached = equal_scaled _ b (t * m) (outside_near p q bounds t b k m here.whole under) (far k m here);
  first = λ i n some way same.
      first i n (record { some = some; whole = way })
      (outside_under p q bounds t b i n under.side under.start under.end way under.way (near_from_same _ b (t * n) same));
}
  where
    far : (i n : ℕ) → OnTheWay i n → IsFarAt false p q bounds t b i n
    far i n there =
        outside_far p q bounds t b i n under.side under.start under.end there.whole under.way
        (elim above [ inl none ↦ inl none | inr over ↦ inr (over i n there) ])

-- a point that is as near is not before the first one
pub first_near : (p q : Joints) (shape : Shape) (t b k m i n : ℕ) → OnTheWay i n → IsLeastDistance p q shape t b k m → (distance_along p q shape i n *ℤ pos b) ≤ℤ pos (t * n) → IsAtMost k m i n
first_near p q shape t b k m i n here least near =
    least.first i n here.some here.whole (equal_scaled _ b (t * n) near (least.none_nearer i n here.some here.whole))
