-- Sides that prove a gap: no point of the segment is nearer.
use Rattle.std.proofs.Common.{◌≤◌, ◌*◌, ℕ, Bool, true, false, List, Option, Some, None, IsSomeAnd, inl, inr, pos, nat_abs, ◌*ℤ◌, ◌≤ℤ◌}
use Rattle.rapid_num.specs.declared.joints.Joints.{Joints}
use Rattle.rapid_num.specs.declared.shape.Bound.{Bound}
use Rattle.rapid_num.specs.declared.shape.Shape.{Shape}
use Rattle.zone_clearance.specs.declared.gap.Gap.{Gap}
use Rattle.zone_clearance.specs.declared.side.Side.{Side}
use Rattle.zone_clearance.specs.Certificates.{PairProves, SideProves, SidesProve}
use Rattle.zone_clearance.specs.Distances.{distance_along}
use Rattle.zone_clearance.proofs.Holding.{far_ways}
use Rattle.zone_clearance.proofs.LeastDistances.{inner, outer}
use Rattle.zone_clearance.proofs.Nearness.{IsFarAt, inside_far, outside_far}
use Rattle.zone_clearance.proofs.Proving.{first_way, pair_ways, second_way, ways_some_over}
use Rattle.zone_clearance.proofs.SideWays.{way_of}
use Rattle.zone_clearance.proofs.Ways.{OnTheWay, over_from_ends}

pair_far : (p q : Joints) (bounds : List (Option Bound)) (first second : Side) (t b k m : ℕ) → OnTheWay k m → PairProves p q (inner bounds) first second t b → IsFarAt true p q bounds t b k m
pair_far p q bounds first second t b k m here proves =
    let one = first_way p q (inner bounds) first second t b proves in
    let two = second_way p q (inner bounds) first second t b proves in
    inside_far p q bounds t b k m here.whole
    (ways_some_over p q bounds first second one.start one.end two.start two.end t b k m here one.way two.way
    (pair_ways p q (inner bounds) first second one.start one.end two.start two.end t b one.way two.way proves))

side_far : (p q : Joints) (bounds : List (Option Bound)) (first : Side) (t b i n k m : ℕ) → OnTheWay k m → SideProves p q (outer bounds) first t b i n → IsFarAt false p q bounds t b k m
side_far p q bounds first t b i n k m here proves =
    let line = way_of false p q bounds first i n proves.near.line proves.near.there in
    outside_far p q bounds t b k m first line.start line.end here.whole line.way
    (elim proves.far [
      | inl none ↦ inl none
      | inr far ↦
          inr (λ side s e there.
          let ends = far_ways p q bounds t b far side s e there in
          over_from_ends s e t b k m here ends.0 ends.1)
    ])

by_kind : (p q : Joints) (inside : Bool) (bounds : List (Option Bound)) (gap : Gap) (k m : ℕ) → OnTheWay k m → SidesProve p q (record { inside = inside; bounds = bounds }) gap → IsFarAt inside p q bounds (nat_abs gap.top) (nat_abs gap.bottom) k m
by_kind p q true bounds gap k m here proves = by gap.second proves
  where
    by : (o : Option Side) → IsSomeAnd o (λ second. PairProves p q (inner bounds) gap.first second (nat_abs gap.top) (nat_abs gap.bottom)) → IsFarAt true p q bounds (nat_abs gap.top) (nat_abs gap.bottom) k m
    by None none = absurd none
    by (Some second) pair = pair_far p q bounds gap.first second (nat_abs gap.top) (nat_abs gap.bottom) k m here pair
by_kind p q false bounds gap k m here proves =
    side_far p q bounds gap.first (nat_abs gap.top) (nat_abs gap.bottom) (nat_abs gap.at_top) (nat_abs gap.at_bottom) k m here proves.1

pub proves_far : (p q : Joints) (shape : Shape) (gap : Gap) → SidesProve p q shape gap → (k m : ℕ) → 1 ≤ m → k ≤ m → pos (nat_abs gap.top * m) ≤ℤ (distance_along p q shape k m *ℤ pos (nat_abs gap.bottom))
proves_far p q shape gap proves k m some way = by_kind p q shape.inside shape.bounds gap k m (record { some = some; whole = way }) proves
