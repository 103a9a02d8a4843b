-- A gap and what a segment touches.
use Rattle.std.proofs.Common.{◌≡◌, ◌≤◌, ◌-◌, ◌*◌, ◌↔◌, ℕ, zero, suc, Bool, true, false, List, length, Option, Some, None, refl, ap, sym, ◌∙◌, inl, inr, arith, ℤ, pos, nat_abs, ◌-ℤ◌, ◌*ℤ◌, ◌≤ℤ◌}
use Rattle.std.specs.Int.{int_max}
use Rattle.std.proofs.lemmas.Bool.{cases_lt, false≢true}
use Rattle.std.proofs.lemmas.Int.{ints, clamps, by_lt_z}
use Rattle.std.proofs.lemmas.List.{get_or_past}
use Rattle.std.proofs.lemmas.Option.{get_or_from_slice_get, same_Some, slice_get-get_or}
use Rattle.rapid_num.specs.declared.joints.Joints.{Joints}
use Rattle.rapid_num.specs.declared.shape.Bound.{Bound}
use Rattle.rapid_num.specs.declared.shape.Shape.{Shape}
use Rattle.joint_clip.specs.Touches.{IsWithin, LiesIn, LiesInside, LiesOutside, Names, SomeFraction, Touches, point_at}
use Rattle.joint_clip.proofs.Ways.{times-le}
use Rattle.zone_clearance.specs.declared.gap.Gap.{Gap}
use Rattle.zone_clearance.specs.declared.side.Side.{Side}
use Rattle.zone_clearance.specs.declared.side.Side.TheVariants.{Zero, Low, High}
use Rattle.zone_clearance.specs.Distances.{distance_at, distance_along}
use Rattle.zone_clearance.specs.Gaps.{IsGap}
use Rattle.zone_clearance.specs.Lines.{bound_of, high_line, line_at, low_line}
use Rattle.zone_clearance.specs.Premises.{NamesAnAxis}
use Rattle.zone_clearance.specs.Reaches.{IsAtBound, ReachesBound}
use Rattle.zone_clearance.proofs.Distances.{greatest_line, least_line}
use Rattle.zone_clearance.proofs.Finding.{named_way}
use Rattle.zone_clearance.proofs.LeastDistances.{inner, outer}

-- the sides of a named axis, counted from 0
bound_named : (bounds : List (Option Bound)) (axis : ℕ) (bound : Bound) → Names bounds axis bound → bound_of bounds (suc axis) ≡ Some bound
bound_named bounds axis bound named = get_or_from_slice_get bounds axis (Some bound) None named

named_bound : (bounds : List (Option Bound)) (axis : ℕ) (bound : Bound) → bound_of bounds (suc axis) ≡ Some bound → Names bounds axis bound
named_bound bounds axis bound there =
    elim (cases_lt axis (length bounds)) [
      | inl below ↦ slice_get-get_or bounds axis None below ∙ ap Some there
      | inr past ↦ absurd (let none = get_or_past bounds axis None past in let clash = sym none ∙ there in cc)
    ]

before_next : (point : ℕ → ℤ) (axis : ℕ) → point (suc axis - 1) ≡ point axis
before_next point axis = let same : suc axis - 1 ≡ axis = omega arith in ap point same

low_named : (inside : Bool) (bounds : List (Option Bound)) (point : ℕ → ℤ) (m axis : ℕ) (bound : Bound) → bound_of bounds (suc axis) ≡ Some bound → line_at inside bounds point m (Low (suc axis)) ≡ Some (low_line inside bound (point axis) m)
low_named inside bounds point m axis bound there = rw there (ap (λ (x : ℤ). Some (low_line inside bound x m)) (before_next point axis))

high_named : (inside : Bool) (bounds : List (Option Bound)) (point : ℕ → ℤ) (m axis : ℕ) (bound : Bound) → bound_of bounds (suc axis) ≡ Some bound → line_at inside bounds point m (High (suc axis)) ≡ Some (high_line inside bound (point axis) m)
high_named inside bounds point m axis bound there = rw there (ap (λ (x : ℤ). Some (high_line inside bound x m)) (before_next point axis))

-- a line that a side has is 0, or a low or high line of a named axis
data IsLineFrom (inside : Bool) (bounds : List (Option Bound)) (point : ℕ → ℤ) (m : ℕ) (x : ℤ) : Type 0 where
  of_zero : inside ≡ true → x ≡ pos 0 → IsLineFrom inside bounds point m x
  of_low : (axis : ℕ) (bound : Bound) → Names bounds axis bound → x ≡ low_line inside bound (point axis) m → IsLineFrom inside bounds point m x
  of_high : (axis : ℕ) (bound : Bound) → Names bounds axis bound → x ≡ high_line inside bound (point axis) m → IsLineFrom inside bounds point m x

line_from : (inside : Bool) (bounds : List (Option Bound)) (point : ℕ → ℤ) (m : ℕ) (side : Side) (x : ℤ) → line_at inside bounds point m side ≡ Some x → IsLineFrom inside bounds point m x
line_from true bounds point m Zero x is = of_zero refl (sym (same_Some _ _ is))
line_from false bounds point m Zero x is = absurd cc
line_from inside bounds point m (Low zero) x is = absurd cc
line_from inside bounds point m (Low (suc axis)) x is = by (bound_of bounds (suc axis)) refl
  where
    by : (o : Option Bound) → bound_of bounds (suc axis) ≡ o → IsLineFrom inside bounds point m x
    by None none = absurd (let read = rw none at is in cc)
    by (Some bound) there = of_low axis bound (named_bound bounds axis bound there) (same_Some _ _ (sym is ∙ low_named inside bounds point m axis bound there))
line_from inside bounds point m (High zero) x is = absurd cc
line_from inside bounds point m (High (suc axis)) x is = by (bound_of bounds (suc axis)) refl
  where
    by : (o : Option Bound) → bound_of bounds (suc axis) ≡ o → IsLineFrom inside bounds point m x
    by None none = absurd (let read = rw none at is in cc)
    by (Some bound) there = of_high axis bound (named_bound bounds axis bound there) (same_Some _ _ (sym is ∙ high_named inside bounds point m axis bound there))

-- a point lies in an Inside zone exactly if its distance is not above 0
lies_from_near : (bounds : List (Option Bound)) (point : ℕ → ℤ) (m : ℕ) → distance_at true bounds point m ≤ℤ pos 0 → LiesInside bounds point m
lies_from_near bounds point m near axis bound named =
    let d = greatest_line bounds point m in
    let there = bound_named bounds axis bound named in
    within (point axis) (d.each (Low (suc axis)) _ (low_named true bounds point m axis bound there)) (d.each (High (suc axis)) _ (high_named true bounds point m axis bound there)) near
  where
    within : (x : ℤ) {d : ℤ} → ((bound.low *ℤ pos m) -ℤ x) ≤ℤ d → (x -ℤ (bound.high *ℤ pos m)) ≤ℤ d → d ≤ℤ pos 0 → IsWithin bound x m
    within x low high near = record { low = omega (arith, ints, low, high, near); high = omega (arith, ints, low, high, near) }

near_from_lies : (bounds : List (Option Bound)) (point : ℕ → ℤ) (m : ℕ) → LiesInside bounds point m → distance_at true bounds point m ≤ℤ pos 0
near_from_lies bounds point m lies = by (line_from true bounds point m (greatest_line bounds point m).side _ (greatest_line bounds point m).there)
  where
    by : {d : ℤ} → IsLineFrom true bounds point m d → d ≤ℤ pos 0
    by (of_zero inside is) = omega (arith, ints, is)
    by (of_low axis bound named is) = let low = (lies axis bound named).low in omega (arith, ints, is, low)
    by (of_high axis bound named is) = let high = (lies axis bound named).high in omega (arith, ints, is, high)

-- a point is at a bound of an Outside zone exactly if its distance is not above 0
zero_from_least : (d least x : ℤ) → d ≡ int_max (pos 0) least → least ≤ℤ x → x ≤ℤ pos 0 → d ≤ℤ pos 0
zero_from_least d least x is le low = omega (arith, ints, clamps, is, le, low)

least_from_zero : (d least : ℤ) → d ≡ int_max (pos 0) least → d ≤ℤ pos 0 → least ≤ℤ pos 0
least_from_zero d least is low = omega (arith, ints, clamps, is, low)

near_from_bound : (bounds : List (Option Bound)) (point : ℕ → ℤ) (m : ℕ) → IsAtBound bounds point m → distance_at false bounds point m ≤ℤ pos 0
near_from_bound bounds point m bound =
    elim bound.at [
      | inl low ↦ by (Low (suc bound.axis)) _ (low_named false bounds point m bound.axis bound.bound there) (omega (arith, ints, low))
      | inr high ↦ by (High (suc bound.axis)) _ (high_named false bounds point m bound.axis bound.bound there) (omega (arith, ints, high))
    ]
  where
    there : bound_of bounds (suc bound.axis) ≡ Some bound.bound
    there = bound_named bounds bound.axis bound.bound bound.named

    by : (side : Side) (x : ℤ) → line_at false bounds point m side ≡ Some x → x ≤ℤ pos 0 → distance_at false bounds point m ≤ℤ pos 0
    by side x is low =
        let d = least_line bounds point m side x is in
        zero_from_least _ d.least x d.distance (d.each side x is) low

bound_from_near : (bounds : List (Option Bound)) (point : ℕ → ℤ) (m : ℕ) (side : Side) (x : ℤ) → line_at false bounds point m side ≡ Some x → distance_at false bounds point m ≤ℤ pos 0 → IsAtBound bounds point m
bound_from_near bounds point m side x is near =
    let d = least_line bounds point m side x is in
    by d.least (line_from false bounds point m d.side d.least d.there) (least_from_zero _ d.least d.distance near)
  where
    by : (l : ℤ) → IsLineFrom false bounds point m l → l ≤ℤ pos 0 → IsAtBound bounds point m
    by l (of_zero inside is) low = absurd cc
    by l (of_low axis bound named is) low = record { axis = axis; bound = bound; named = named; at = inl (omega (arith, ints, is, low)) }
    by l (of_high axis bound named is) low = record { axis = axis; bound = bound; named = named; at = inr (omega (arith, ints, is, low)) }

-- the least distance against 0
top_zero : (d : ℤ) (t b m : ℕ) → 1 ≤ m → pos (t * m) ≤ℤ (d *ℤ pos b) → d ≤ℤ pos 0 → t ≡ 0
top_zero d zero b m some far near = refl
top_zero d (suc t) b (suc m) some far near = absurd (let none = times-le d (pos 0) b near in omega (arith, ints, far, none))
top_zero d (suc t) b zero some far near = absurd (omega arith)

distance_zero : (d : ℤ) (t b m : ℕ) → 1 ≤ b → t ≡ 0 → d *ℤ pos b ≡ pos (t * m) → d ≤ℤ pos 0
distance_zero d t b m some none same =
    by_lt_z (pos 0) d
    (λ above. absurd (let more = times-le (pos 1) d b (omega (arith, ints, above)) in let nothing : d *ℤ pos b ≡ pos 0 = same ∙ rw none (omega (arith, ints)) in omega (arith, ints, more, nothing)))
    (λ below. below)

size_zero : (top : ℤ) → pos 0 ≤ℤ top → nat_abs top ≡ 0 → top ≡ pos 0
size_zero top some none = omega (arith, ints, none)

size_some : (n : ℤ) → pos 1 ≤ℤ n → 1 ≤ nat_abs n
size_some n some = omega (arith, ints)

size_le : (a b : ℤ) → pos 0 ≤ℤ a → a ≤ℤ b → nat_abs a ≤ nat_abs b
size_le a b some le = omega (arith, ints)

size_of_zero : (top : ℤ) → top ≡ pos 0 → nat_abs top ≡ 0
size_of_zero top none = ap nat_abs none

-- a point of the zone is at the distance 0
near_from_beyond : (bounds : List (Option Bound)) (point : ℕ → ℤ) (m : ℕ) → LiesOutside bounds point m → distance_at false bounds point m ≤ℤ pos 0
near_from_beyond bounds point m lies =
    near_from_bound bounds point m (record {
      axis = lies.axis;
      bound = lies.bound;
      named = lies.named;
      at =
          elim lies.beyond [
            | inl below ↦ inl (omega (arith, ints, below))
            | inr above ↦ inr (omega (arith, ints, above))
          ];
    })

near_from_touch : (inside : Bool) (bounds : List (Option Bound)) (point : ℕ → ℤ) (m : ℕ) → LiesIn (record { inside = inside; bounds = bounds }) point m → distance_at inside bounds point m ≤ℤ pos 0
near_from_touch true bounds point m lies = near_from_lies bounds point m lies
near_from_touch false bounds point m lies = near_from_beyond bounds point m lies

zero_if_near : (p q : Joints) (shape : Shape) (gap : Gap) → IsGap p q shape gap → SomeFraction (λ k m. distance_along p q shape k m ≤ℤ pos 0) → gap.top ≡ pos 0
zero_if_near p q shape gap is near =
    size_zero gap.top is.written.distance.not_negative
    (top_zero (distance_along p q shape near.k near.m) (nat_abs gap.top) (nat_abs gap.bottom) near.m near.whole (is.least.none_nearer near.k near.m near.whole near.on_the_way) near.holds)

near_if_zero : (p q : Joints) (shape : Shape) (gap : Gap) → IsGap p q shape gap → gap.top ≡ pos 0 → SomeFraction (λ k m. distance_along p q shape k m ≤ℤ pos 0)
near_if_zero p q shape gap is none = record {
  k = nat_abs gap.at_top;
  m = nat_abs gap.at_bottom;
  whole = size_some gap.at_bottom is.written.place.positive;
  on_the_way = size_le gap.at_top gap.at_bottom is.written.place.not_negative is.written.on_the_way;
  holds = distance_zero _ (nat_abs gap.top) (nat_abs gap.bottom) (nat_abs gap.at_bottom) (size_some gap.bottom is.written.distance.positive) (size_of_zero gap.top none) is.least.reached;
}

pub touched_zero : (p q : Joints) (shape : Shape) (gap : Gap) → IsGap p q shape gap → Touches p q shape → gap.top ≡ pos 0
touched_zero p q shape gap is touched =
    zero_if_near p q shape gap is (record {
      k = touched.k;
      m = touched.m;
      whole = touched.whole;
      on_the_way = touched.on_the_way;
      holds = near_from_touch shape.inside shape.bounds (point_at p q touched.k touched.m) touched.m touched.holds;
    })

-- above 0, or 0
exactly : (top : ℤ) {Reaches : Type 0} → pos 0 ≤ℤ top → (Reaches → top ≡ pos 0) → (top ≡ pos 0 → Reaches) → (pos 1 ≤ℤ top) ↔ (¬ Reaches)
exactly top {Reaches} some reached_none reaches = (above, apart)
  where
    above : pos 1 ≤ℤ top → ¬ Reaches
    above more reached = let none = reached_none reached in omega (arith, ints, more, none)

    apart : ¬ Reaches → pos 1 ≤ℤ top
    apart never = by_lt_z top (pos 1) (λ less. absurd (never (reaches (omega (arith, ints, some, less))))) (λ more. more)

inside_tells : (p q : Joints) (bounds : List (Option Bound)) (gap : Gap) → IsGap p q (inner bounds) gap → (pos 1 ≤ℤ gap.top) ↔ (¬ Touches p q (inner bounds))
inside_tells p q bounds gap is =
    exactly gap.top is.written.distance.not_negative (touched_zero p q (inner bounds) gap is)
    (λ none.
    let near = near_if_zero p q (inner bounds) gap is none in
    record { k = near.k; m = near.m; whole = near.whole; on_the_way = near.on_the_way; holds = lies_from_near bounds (point_at p q near.k near.m) near.m near.holds })

outside_tells : (p q : Joints) (bounds : List (Option Bound)) (gap : Gap) → NamesAnAxis bounds → IsGap p q (outer bounds) gap → (pos 1 ≤ℤ gap.top) ↔ (¬ ReachesBound p q bounds)
outside_tells p q bounds gap named is =
    exactly gap.top is.written.distance.not_negative
    (λ reached.
    zero_if_near p q (outer bounds) gap is (record {
      k = reached.k;
      m = reached.m;
      whole = reached.whole;
      on_the_way = reached.on_the_way;
      holds = near_from_bound bounds (point_at p q reached.k reached.m) reached.m reached.holds;
    }))
    (λ none.
    let near = near_if_zero p q (outer bounds) gap is none in
    let some = named_way false p q bounds named in
    record {
      k = near.k;
      m = near.m;
      whole = near.whole;
      on_the_way = near.on_the_way;
      holds = bound_from_near bounds (point_at p q near.k near.m) near.m some.side _ (some.way.at near.k near.m near.on_the_way) near.holds;
    })

inside_by : (p q : Joints) (inside : Bool) (bounds : List (Option Bound)) (gap : Gap) → inside ≡ true → IsGap p q (record { inside = inside; bounds = bounds }) gap → (pos 1 ≤ℤ gap.top) ↔ (¬ Touches p q (record { inside = inside; bounds = bounds }))
inside_by p q true bounds gap kind is = inside_tells p q bounds gap is
inside_by p q false bounds gap kind is = absurd (false≢true kind)

outside_by : (p q : Joints) (inside : Bool) (bounds : List (Option Bound)) (gap : Gap) → inside ≡ false → NamesAnAxis bounds → IsGap p q (record { inside = inside; bounds = bounds }) gap → (pos 1 ≤ℤ gap.top) ↔ (¬ ReachesBound p q bounds)
outside_by p q false bounds gap kind named is = outside_tells p q bounds gap named is
outside_by p q true bounds gap kind named is = absurd (false≢true (sym kind))

pub inside_gap_tells : (p q : Joints) (shape : Shape) (gap : Gap) → shape.inside ≡ true → IsGap p q shape gap → (pos 1 ≤ℤ gap.top) ↔ (¬ Touches p q shape)
inside_gap_tells p q shape gap kind is = inside_by p q shape.inside shape.bounds gap kind is

pub outside_gap_tells : (p q : Joints) (shape : Shape) (gap : Gap) → shape.inside ≡ false → NamesAnAxis shape.bounds → IsGap p q shape gap → (pos 1 ≤ℤ gap.top) ↔ (¬ ReachesBound p q shape.bounds)
outside_gap_tells p q shape gap kind named is = outside_by p q shape.inside shape.bounds gap kind named is
