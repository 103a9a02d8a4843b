-- The gap that the search finds.
use Rattle.std.proofs.Common.{◌≡◌, ◌≤◌, ◌<◌, ◌*◌, ◌⊎◌, ℕ, zero, suc, Bool, true, false, List, length, Option, Some, None, is_some, IsSome, IsSomeAnd, Any, refl, sym, ◌∙◌, subst, inl, inr, arith, ℤ, pos, nat_abs, ◌*ℤ◌, ◌≤ℤ◌, ◌<ℤ◌}
use Rattle.std.specs.List.{slice_index_or}
use Rattle.std.proofs.lemmas.Bool.{false≢true}
use Rattle.std.proofs.lemmas.Int.{ints}
use Rattle.std.proofs.lemmas.List.{get_or_default}
use Rattle.std.proofs.lemmas.List.Folds.{Any-from_list_any}
use Rattle.std.proofs.lemmas.Option.{same_Some}
use Rattle.rapid_num.specs.declared.joints.Joints.{Joints}
use Rattle.rapid_num.specs.declared.shape.Bound.{Bound}
use Rattle.joint_clip.specs.Touches.{way_at}
use Rattle.zone_clearance.specs.declared.gap.Gap.{Gap}
use Rattle.zone_clearance.specs.declared.line.Line.{Line}
use Rattle.zone_clearance.specs.declared.place.Place.{Place}
use Rattle.zone_clearance.specs.declared.search.arrival.Arrival.{Arrival}
use Rattle.zone_clearance.specs.declared.search.best.Best.{Best}
use Rattle.zone_clearance.specs.declared.search.level.Level.{Level}
use Rattle.zone_clearance.specs.declared.side.Side.{Side}
use Rattle.zone_clearance.specs.declared.side.Side.TheVariants.{Zero, Low}
use Rattle.zone_clearance.specs.Arrivals.{IsArrival, IsArrivalOf, IsFirstAllUnder, IsLeastEnd}
use Rattle.zone_clearance.specs.Certificates.{IsFirstNear, IsFirstPair, IsNear, PairProves}
use Rattle.zone_clearance.specs.Gaps.{IsGap, IsLeastDistance, IsWritten}
use Rattle.zone_clearance.specs.Levels.{HasLine, IsOver, IsUnder, Over, StayAbove, Under}
use Rattle.zone_clearance.specs.Pairs.{IsBest, IsTop, IsZero}
use Rattle.zone_clearance.specs.Premises.{NamesAnAxis}
use Rattle.zone_clearance.specs.SideLines.{AreLinesOf, HasWay, IsSide}
use Rattle.zone_clearance.specs.Sides.{ComesBefore, order_of}
use Rattle.zone_clearance.proofs.Arriving.{line_known}
use Rattle.zone_clearance.proofs.Ends.{at_start, at_end, over_start, over_end, under_start, under_end}
use Rattle.zone_clearance.proofs.LeastDistances.{inner, outer, least_inside, least_outside}
use Rattle.zone_clearance.proofs.LineWays.{IsLineAlong, IsNumberOf, all_ways_under, numbered_way, side_line, side_of, ways_all_under}
use Rattle.zone_clearance.proofs.Nearness.{WayOver, WaysOver, WaysUnder}
use Rattle.zone_clearance.proofs.Proving.{WaysProve, either_over, first_way, pair_ways, second_way, ways_over, ways_pair}
use Rattle.zone_clearance.proofs.Scaling.{IsSameFraction, moved_at_most, moved_under, same_back, scaled_over, scaled_under}
use Rattle.zone_clearance.proofs.SideWays.{low_has, way_of, zero_has}
use Rattle.zone_clearance.proofs.Ways.{OnTheWay, over_from_ends}

-- of an Inside zone: one line of the best pair is at least its level
some_over : (p q : Joints) (bounds : List (Option Bound)) (lines : List (Option Line)) (number : ℕ) (line : Line) (t b u d i n : ℕ) → AreLinesOf true p q bounds lines → HasLine lines number line → IsSameFraction t b u d → IsOver line.start line.end t b i n
    → WayOver true p q bounds u d i n
some_over p q bounds lines number line t b u d i n are there same over =
    let side = side_of number in
    record {
      side = side.side;
      start = line.start;
      end = line.end;
      way = numbered_way true p q bounds lines side.side number line are side.is side.order there;
      over = scaled_over line.start line.end t b u d i n same over;
    }

all_scaled : (p q : Joints) (bounds : List (Option Bound)) (t b u d i n : ℕ) → IsSameFraction t b u d → WaysUnder true p q bounds t b i n → WaysUnder true p q bounds u d i n
all_scaled p q bounds t b u d i n same under side s e way = scaled_under s e t b u d i n same (under side s e way)

all_moved : (p q : Joints) (bounds : List (Option Bound)) (t b k m x y : ℕ) → OnTheWay k m → OnTheWay x y → IsSameFraction k m x y → WaysUnder true p q bounds t b k m → WaysUnder true p q bounds t b x y
all_moved p q bounds t b k m x y from to same under side s e way = moved_under s e t b k m x y from to same (under side s e way)

pub place_way : (place : Place) → OnTheWay place.top place.bottom
place_way place = record { some = place.some; whole = place.on_the_way }

pub inside_found : (p q : Joints) (bounds : List (Option Bound)) (lines : List (Option Line)) (best : Best) (place : Place) (u d x y : ℕ) → AreLinesOf true p q bounds lines → IsBest lines best → IsFirstAllUnder lines best.level place
    → IsSameFraction best.level.top best.level.bottom u d → IsSameFraction place.top place.bottom x y → OnTheWay x y → IsLeastDistance p q (inner bounds) u d x y
inside_found p q bounds lines best place u d x y are is at level_is place_is here =
    least_inside p q bounds u d x y here
    (λ i n there.
    elim (is.top.above.above i n there.some there.whole) [
      | inl one ↦ some_over p q bounds lines best.first is.top.one best.level.top best.level.bottom u d i n are is.top.pair.first_line level_is one
      | inr two ↦ some_over p q bounds lines best.second is.top.two best.level.top best.level.bottom u d i n are is.top.pair.second_line level_is two
    ])
    (all_scaled p q bounds best.level.top best.level.bottom u d x y level_is
    (all_moved p q bounds best.level.top best.level.bottom place.top place.bottom x y (place_way place) here place_is
    (all_ways_under true p q bounds lines best.level place.top place.bottom are at.under)))
    (λ i n there low.
    moved_at_most place.top place.bottom x y i n place_is
    (at.first i n there.some there.whole
    (ways_all_under true p q bounds lines best.level i n are (all_scaled p q bounds u d best.level.top best.level.bottom i n (same_back best.level.top best.level.bottom u d level_is) low))))

-- the best pair is the first one that proves it
stay_prove : (one two : Line) (level : Level) (u d : ℕ) → StayAbove one two level → IsSameFraction level.top level.bottom u d → WaysProve one.start one.end two.start two.end u d
stay_prove one two level u d stay same = record {
  start = either 0 1 at_start;
  end = either 1 1 at_end;
  crosses = λ k m some way meet. either_over one.start one.end two.start two.end u d k m meet (either k m (record { some = some; whole = way }));
}
  where
    either : (k m : ℕ) → OnTheWay k m → IsOver one.start one.end u d k m ⊎ IsOver two.start two.end u d k m
    either k m here =
        elim (stay.above k m here.some here.whole) [
          | inl first ↦ inl (scaled_over one.start one.end level.top level.bottom u d k m same first)
          | inr second ↦ inr (scaled_over two.start two.end level.top level.bottom u d k m same second)
        ]

below_over : (x : ℤ) (l b : ℕ) → (x *ℤ pos b) <ℤ pos l → pos l ≤ℤ (x *ℤ pos b) → ⊥
below_over x l b below over = omega (arith, ints, below, over)

along_over : (line : Line) (s e : ℤ) (t b k m : ℕ) → IsLineAlong line s e → IsOver s e t b k m → IsOver line.start line.end t b k m
along_over line s e t b k m along over =
    subst (λ (x : ℤ). IsOver x line.end t b k m) (sym along.start_is) (subst (λ (y : ℤ). IsOver s y t b k m) (sym along.end_is) over)

no_dip : (line : Line) (s e : ℤ) (t b u d k m : ℕ) → IsLineAlong line s e → IsSameFraction t b u d → (way_at line.start line.end k m *ℤ pos b) <ℤ pos (t * m) → IsOver s e u d k m → ⊥
no_dip line s e t b u d k m along same below over =
    below_over (way_at line.start line.end k m) (t * m) b below
    (scaled_over line.start line.end u d t b k m (same_back t b u d same) (along_over line s e u d k m along over)).over

earlier_pair : (one two first second i j : ℕ) → first ≡ i → second ≡ j → ComesBefore one two first second → ComesBefore one two i j
earlier_pair one two first second i j same other before =
    subst (λ (n : ℕ). ComesBefore one two n j) same (subst (λ (n : ℕ). ComesBefore one two first n) other before)

pub first_pair : (p q : Joints) (bounds : List (Option Bound)) (lines : List (Option Line)) (best : Best) (first second : Side) (u d : ℕ) → AreLinesOf true p q bounds lines → IsTop lines best → IsSide first → IsSide second → order_of first ≡ best.first → order_of second ≡ best.second
    → IsSameFraction best.level.top best.level.bottom u d → IsFirstPair p q (inner bounds) first second u d
first_pair p q bounds lines best first second u d are is one_side two_side one_order two_order same = record {
  ordered = omega (arith, is.pair.ordered, one_order, two_order);
  proves =
      ways_pair p q (inner bounds) first second is.one.start is.one.end is.two.start is.two.end u d
      (numbered_way true p q bounds lines first best.first is.one are one_side one_order is.pair.first_line)
      (numbered_way true p q bounds lines second best.second is.two are two_side two_order is.pair.second_line)
      (stay_prove is.one is.two best.level u d is.above same);
  none_before = none;
}
  where
    none : (one two : Side) → order_of one ≤ order_of two → ComesBefore (order_of one) (order_of two) (order_of first) (order_of second) → ¬ PairProves p q (inner bounds) one two u d
    none one two ordered before proves =
        let one_way = first_way p q (inner bounds) one two u d proves in
        let two_way = second_way p q (inner bounds) one two u d proves in
        let one_line = side_line true p q bounds lines one one_way.start one_way.end are one_way.way in
        let two_line = side_line true p q bounds lines two two_way.start two_way.end are two_way.way in
        let prove = pair_ways p q (inner bounds) one two one_way.start one_way.end two_way.start two_way.end u d one_way.way two_way.way proves in
        let dip = is.none_before (order_of one) (order_of two) one_line.line two_line.line (earlier_pair _ _ _ _ _ _ one_order two_order before) (record { ordered = ordered; first_line = one_line.there; second_line = two_line.there }) in
        elim (ways_over one_way.start one_way.end two_way.start two_way.end u d dip.k dip.m (record { some = dip.whole; whole = dip.on_the_way }) prove) [
          | inl over ↦ no_dip one_line.line one_way.start one_way.end best.level.top best.level.bottom u d dip.k dip.m one_line.along same dip.holds.0.below over
          | inr over ↦ no_dip two_line.line two_way.start two_way.end best.level.top best.level.bottom u d dip.k dip.m two_line.along same dip.holds.1.below over
        ]

-- of an Outside zone that names an axis: some side has a line
pub record SomeSideWay (inside : Bool) (p q : Joints) (bounds : List (Option Bound)) : Type 0 where
  pub side : Side
  pub start : ℤ
  pub end : ℤ
  pub way : HasWay inside p q bounds side start end

pub named_way : (inside : Bool) (p q : Joints) (bounds : List (Option Bound)) → NamesAnAxis bounds → SomeSideWay inside p q bounds
named_way inside p q bounds named = some (Any-from_list_any is_some bounds named)
  where
    read : (k : ℕ) (o : Option Bound) → slice_index_or bounds k o ≡ o → k < length bounds → is_some o ≡ true → SomeSideWay inside p q bounds
    read k None at below is = absurd (false≢true is)
    read k (Some bound) at below is =
        let there : slice_index_or bounds k None ≡ Some bound = get_or_default bounds k None (Some bound) below ∙ at in
        record { side = Low (suc k); start = _; end = _; way = low_has inside p q bounds (suc k) bound there }

    some : Any (λ (o : Option Bound). is_some o ≡ true) bounds → SomeSideWay inside p q bounds
    some any = read any.0 any.1 any.3 any.2 any.4

-- each line is at least the least end
ends_over : (line : Line) (level : Level) → level.bottom ≡ 1 → (pos level.top ≤ℤ line.start) × (pos level.top ≤ℤ line.end) → (k m : ℕ) → OnTheWay k m → Over line level k m
ends_over line level one ends k m here =
    over_from_ends line.start line.end level.top level.bottom k m here
    (over_start line.start line.end level.top level.bottom (rw one (omega (arith, ints, ends.0))))
    (over_end line.start line.end level.top level.bottom (rw one (omega (arith, ints, ends.1))))

zero_scaled : (t b u d : ℕ) → IsSameFraction t b u d → t ≡ 0 → u ≡ 0
zero_scaled t b zero d same none = refl
zero_scaled t b (suc u) d same none = absurd (let product : suc u * b ≡ 0 = same.same ∙ rw none (omega arith) in omega (arith, same.some, product))

over_along : (line : Line) (s e : ℤ) (t b k m : ℕ) → IsLineAlong line s e → IsOver line.start line.end t b k m → IsOver s e t b k m
over_along line s e t b k m along over =
    subst (λ (x : ℤ). IsOver x e t b k m) along.start_is (subst (λ (y : ℤ). IsOver line.start y t b k m) along.end_is over)

under_along : (line : Line) (s e : ℤ) (t b k m : ℕ) → IsLineAlong line s e → IsUnder s e t b k m → IsUnder line.start line.end t b k m
under_along line s e t b k m along under =
    subst (λ (x : ℤ). IsUnder x line.end t b k m) (sym along.start_is) (subst (λ (y : ℤ). IsUnder s y t b k m) (sym along.end_is) under)

all_over : (p q : Joints) (bounds : List (Option Bound)) (lines : List (Option Line)) (level : Level) (u d : ℕ) → AreLinesOf false p q bounds lines → IsLeastEnd lines level → IsSameFraction level.top level.bottom u d
    → (u ≡ 0) ⊎ ((i n : ℕ) → OnTheWay i n → WaysOver false p q bounds u d i n)
all_over p q bounds lines level u d are least same =
    elim least.least [
      | inl none ↦ inl (zero_scaled level.top level.bottom u d same none)
      | inr each ↦
          inr (λ i n there side s e way.
          let line = side_line false p q bounds lines side s e are way in
          let over = ends_over line.line level least.bottom (each (order_of side) line.line line.there) i n there in
          scaled_over s e level.top level.bottom u d i n same (over_along line.line s e level.top level.bottom i n line.along over))
    ]

counted : (lines : List (Option Line)) (number count : ℕ) (line : Line) → length lines ≤ count → HasLine lines number line → number < count
counted lines number count line room there = let known = line_known lines number line there in omega (arith, known, room)

pub outside_found : (p q : Joints) (bounds : List (Option Bound)) (lines : List (Option Line)) (level : Level) (arrival : Arrival) (count u d x y : ℕ) → AreLinesOf false p q bounds lines → IsLeastEnd lines level → IsArrivalOf lines level count arrival → length lines ≤ count
    → IsSameFraction level.top level.bottom u d → IsSameFraction arrival.place.top arrival.place.bottom x y → OnTheWay x y → IsLeastDistance p q (outer bounds) u d x y
outside_found p q bounds lines level arrival count u d x y are least is all level_is place_is here =
    least_outside p q bounds u d x y here (all_over p q bounds lines level u d are least level_is)
    (record {
      side = side.side;
      start = is.line.start;
      end = is.line.end;
      way = numbered_way false p q bounds lines side.side arrival.number is.line are side.is side.order is.there;
      under =
          scaled_under is.line.start is.line.end level.top level.bottom u d x y level_is
          (moved_under is.line.start is.line.end level.top level.bottom arrival.place.top arrival.place.bottom x y (place_way arrival.place) here place_is is.under);
    })
    (λ i n there low.
    let line = side_line false p q bounds lines low.side low.start low.end are low.way in
    moved_at_most arrival.place.top arrival.place.bottom x y i n place_is
    (is.first (order_of low.side) i n line.line (counted lines (order_of low.side) count line.line all line.there) there.some there.whole line.there
    (scaled_under line.line.start line.line.end u d level.top level.bottom i n (same_back level.top level.bottom u d level_is) (under_along line.line low.start low.end u d i n line.along low.under))))
  where
    side : IsNumberOf arrival.number
    side = side_of arrival.number

-- the first side that is as near
pub first_side : (p q : Joints) (bounds : List (Option Bound)) (lines : List (Option Line)) (level : Level) (arrival : Arrival) (count : ℕ) (first : Side) (u d x y : ℕ) → AreLinesOf false p q bounds lines → IsArrivalOf lines level count arrival → IsSide first → order_of first ≡ arrival.number
    → IsSameFraction level.top level.bottom u d → IsSameFraction arrival.place.top arrival.place.bottom x y → OnTheWay x y → IsFirstNear p q (outer bounds) first u d x y
first_side p q bounds lines level arrival count first u d x y are is side order level_is place_is here = record {
  near = record {
    line = way_at is.line.start is.line.end x y;
    there = way.at x y here.whole;
    near =
        (scaled_under is.line.start is.line.end level.top level.bottom u d x y level_is
        (moved_under is.line.start is.line.end level.top level.bottom arrival.place.top arrival.place.bottom x y (place_way arrival.place) here place_is is.under)).under;
  };
  none_before = none;
}
  where
    way : HasWay false p q bounds first is.line.start is.line.end
    way = numbered_way false p q bounds lines first arrival.number is.line are side order is.there

    none : (other : Side) → order_of other < order_of first → ¬ IsNear p q (outer bounds) other u d x y
    none other before near =
        let along = way_of false p q bounds other x y near.line near.there in
        let line = side_line false p q bounds lines other along.start along.end are along.way in
        let value : near.line ≡ way_at along.start along.end x y = same_Some _ _ (sym near.there ∙ along.way.at x y here.whole) in
        let under : IsUnder along.start along.end u d x y = record { under = subst (λ (z : ℤ). (z *ℤ pos d) ≤ℤ pos (u * y)) value near.near } in
        let back = moved_under along.start along.end u d x y arrival.place.top arrival.place.bottom here (place_way arrival.place) (same_back arrival.place.top arrival.place.bottom x y place_is) under in
        is.none_before (order_of other) line.line (omega (arith, before, order)) line.there
        (under_along line.line along.start along.end level.top level.bottom arrival.place.top arrival.place.bottom line.along
        (scaled_under along.start along.end u d level.top level.bottom arrival.place.top arrival.place.bottom (same_back level.top level.bottom u d level_is) back))

-- some line is at most the least end somewhere
pub some_arrival : (p q : Joints) (bounds : List (Option Bound)) (lines : List (Option Line)) (level : Level) (count : ℕ) → AreLinesOf false p q bounds lines → IsLeastEnd lines level → NamesAnAxis bounds → length lines ≤ count
    → ¬ ((number k m : ℕ) (other : Line) → number < count → 1 ≤ m → k ≤ m → HasLine lines number other → ¬ Under other level k m)
some_arrival p q bounds lines level count are least named room never =
    let some = named_way false p q bounds named in
    let line = side_line false p q bounds lines some.side some.start some.end are some.way in
    let low = least.reached (order_of some.side) line.line line.there in
    let below = counted lines low.number count low.line room low.there in
    elim low.low [
      | inl start ↦ never low.number 0 1 low.line below at_start.some at_start.whole low.there (under_start low.line.start low.line.end level.top level.bottom (rw least.bottom (omega (arith, ints, start))))
      | inr end ↦ never low.number 1 1 low.line below at_end.some at_end.whole low.there (under_end low.line.start low.line.end level.top level.bottom (rw least.bottom (omega (arith, ints, end))))
    ]

pub arrives : (lines : List (Option Line)) (level : Level) (count : ℕ) (o : Option Arrival) → IsArrival lines level count o → ¬ ((number k m : ℕ) (other : Line) → number < count → 1 ≤ m → k ≤ m → HasLine lines number other → ¬ Under other level k m) → IsSome o
arrives lines level count None never some = absurd (some never)
arrives lines level count (Some arrival) is some = refl

pub arrival_is : (lines : List (Option Line)) (level : Level) (count : ℕ) (o : Option Arrival) (arrival : Arrival) → o ≡ Some arrival → IsArrival lines level count o → IsArrivalOf lines level count arrival
arrival_is lines level count o arrival same is = subst (λ (a : Option Arrival). IsArrival lines level count a) same is

-- line 0 of an Inside zone is 0 all the way
pub zero_line : (p q : Joints) (bounds : List (Option Bound)) (lines : List (Option Line)) → AreLinesOf true p q bounds lines → IsZero lines
zero_line p q bounds lines are =
    let line = side_line true p q bounds lines Zero (pos 0) (pos 0) are (zero_has p q bounds) in
    record { line = line.line; there = line.there; start = line.along.start_is; end = line.along.end_is }

-- the gap that is made of a level and a place
pub record IsMadeOf (gap : Gap) (t b k m : ℕ) : Type 0 where
  pub written : IsWritten gap
  pub distance : nat_abs gap.top * b ≡ t * nat_abs gap.bottom
  pub place : nat_abs gap.at_top * m ≡ k * nat_abs gap.at_bottom

size_some : (x : ℤ) → pos 1 ≤ℤ x → 1 ≤ nat_abs x
size_some x some = omega (arith, ints, some)

size_le : (x y : ℤ) → pos 0 ≤ℤ x → x ≤ℤ y → nat_abs x ≤ nat_abs y
size_le x y some le = omega (arith, ints, some, le)

made_level : (gap : Gap) (t b k m : ℕ) → 1 ≤ b → IsMadeOf gap t b k m → IsSameFraction t b (nat_abs gap.top) (nat_abs gap.bottom)
made_level gap t b k m some made = record { some = some; other = size_some gap.bottom made.written.distance.positive; same = made.distance }

made_place : (gap : Gap) (t b k m : ℕ) → 1 ≤ m → IsMadeOf gap t b k m → IsSameFraction k m (nat_abs gap.at_top) (nat_abs gap.at_bottom)
made_place gap t b k m some made = record { some = some; other = size_some gap.at_bottom made.written.place.positive; same = made.place }

made_way : (gap : Gap) (t b k m : ℕ) → IsMadeOf gap t b k m → OnTheWay (nat_abs gap.at_top) (nat_abs gap.at_bottom)
made_way gap t b k m made = record { some = size_some gap.at_bottom made.written.place.positive; whole = size_le gap.at_top gap.at_bottom made.written.place.not_negative made.written.on_the_way }

pub inside_is : (p q : Joints) (inside : Bool) (bounds : List (Option Bound)) (lines : List (Option Line)) (best : Best) (place : Place) (gap : Gap) → inside ≡ true → AreLinesOf true p q bounds lines → IsBest lines best → IsFirstAllUnder lines best.level place
    → IsMadeOf gap best.level.top best.level.bottom place.top place.bottom → IsGap p q (record { inside = inside; bounds = bounds }) gap
inside_is p q true bounds lines best place gap kind are is at made = record {
  written = made.written;
  least =
      inside_found p q bounds lines best place (nat_abs gap.top) (nat_abs gap.bottom) (nat_abs gap.at_top) (nat_abs gap.at_bottom) are is at
      (made_level gap best.level.top best.level.bottom place.top place.bottom best.level.some made) (made_place gap best.level.top best.level.bottom place.top place.bottom place.some made)
      (made_way gap best.level.top best.level.bottom place.top place.bottom made);
}
inside_is p q false bounds lines best place gap kind are is at made = absurd (false≢true kind)

pub record IsNumbered (side : Side) (number : ℕ) : Type 0 where
  pub is : IsSide side
  pub order : order_of side ≡ number

pub inside_sides : (p q : Joints) (inside : Bool) (bounds : List (Option Bound)) (lines : List (Option Line)) (best : Best) (place : Place) (gap : Gap) (first second : Side) → inside ≡ true → AreLinesOf true p q bounds lines → IsBest lines best
    → IsMadeOf gap best.level.top best.level.bottom place.top place.bottom → gap.first ≡ first → gap.second ≡ Some second → IsNumbered first best.first → IsNumbered second best.second
    → IsSomeAnd gap.second (λ other. IsFirstPair p q (record { inside = inside; bounds = bounds }) gap.first other (nat_abs gap.top) (nat_abs gap.bottom))
inside_sides p q true bounds lines best place gap first second kind are is made first_is second_is one two =
    subst (λ (o : Option Side). IsSomeAnd o (λ other. IsFirstPair p q (inner bounds) gap.first other (nat_abs gap.top) (nat_abs gap.bottom))) (sym second_is)
    (subst (λ (side : Side). IsFirstPair p q (inner bounds) side second (nat_abs gap.top) (nat_abs gap.bottom)) (sym first_is)
    (first_pair p q bounds lines best first second (nat_abs gap.top) (nat_abs gap.bottom) are is.top one.is two.is one.order two.order
    (made_level gap best.level.top best.level.bottom place.top place.bottom best.level.some made)))
inside_sides p q false bounds lines best place gap first second kind are is made first_is second_is one two = absurd (false≢true kind)

pub outside_is : (p q : Joints) (inside : Bool) (bounds : List (Option Bound)) (lines : List (Option Line)) (level : Level) (arrival : Arrival) (count : ℕ) (gap : Gap) → inside ≡ false → AreLinesOf false p q bounds lines → IsLeastEnd lines level → IsArrivalOf lines level count arrival → length lines ≤ count
    → IsMadeOf gap level.top level.bottom arrival.place.top arrival.place.bottom → IsGap p q (record { inside = inside; bounds = bounds }) gap
outside_is p q false bounds lines level arrival count gap kind are least is room made = record {
  written = made.written;
  least =
      outside_found p q bounds lines level arrival count (nat_abs gap.top) (nat_abs gap.bottom) (nat_abs gap.at_top) (nat_abs gap.at_bottom) are least is room
      (made_level gap level.top level.bottom arrival.place.top arrival.place.bottom level.some made) (made_place gap level.top level.bottom arrival.place.top arrival.place.bottom arrival.place.some made)
      (made_way gap level.top level.bottom arrival.place.top arrival.place.bottom made);
}
outside_is p q true bounds lines level arrival count gap kind are least is room made = absurd (false≢true (sym kind))

pub outside_side : (p q : Joints) (inside : Bool) (bounds : List (Option Bound)) (lines : List (Option Line)) (level : Level) (arrival : Arrival) (count : ℕ) (gap : Gap) (first : Side) → inside ≡ false → AreLinesOf false p q bounds lines → IsArrivalOf lines level count arrival
    → IsMadeOf gap level.top level.bottom arrival.place.top arrival.place.bottom → gap.first ≡ first → IsNumbered first arrival.number
    → IsFirstNear p q (record { inside = inside; bounds = bounds }) gap.first (nat_abs gap.top) (nat_abs gap.bottom) (nat_abs gap.at_top) (nat_abs gap.at_bottom)
outside_side p q false bounds lines level arrival count gap first kind are is made first_is one =
    subst (λ (side : Side). IsFirstNear p q (outer bounds) side (nat_abs gap.top) (nat_abs gap.bottom) (nat_abs gap.at_top) (nat_abs gap.at_bottom)) (sym first_is)
    (first_side p q bounds lines level arrival count first (nat_abs gap.top) (nat_abs gap.bottom) (nat_abs gap.at_top) (nat_abs gap.at_bottom) are is one.is one.order
    (made_level gap level.top level.bottom arrival.place.top arrival.place.bottom level.some made) (made_place gap level.top level.bottom arrival.place.top arrival.place.bottom arrival.place.some made)
    (made_way gap level.top level.bottom arrival.place.top arrival.place.bottom made))
outside_side p q true bounds lines level arrival count gap first kind are is made first_is one = absurd (false≢true (sym kind))
