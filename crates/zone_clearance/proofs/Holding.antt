-- When the numbers of a gap and its sides hold: what is checked of the lines of the sides.
use Rattle.std.proofs.Common.{◌≡◌, ◌≤◌, ◌<◌, ◌*◌, ◌⊎◌, ℕ, zero, suc, true, false, List, length, Option, Some, None, refl, sym, ◌∙◌, subst, inl, inr, arith, ℤ, pos, ◌*ℤ◌, ◌≤ℤ◌, ◌<ℤ◌}
use Rattle.std.proofs.lemmas.Int.{ints, by_lt_z}
use Rattle.std.proofs.lemmas.Option.{same_Some}
use Rattle.rapid_num.specs.declared.joints.Joints.{Joints}
use Rattle.rapid_num.specs.declared.shape.Bound.{Bound}
use Rattle.joint_clip.specs.Parts.{IsAtMost}
use Rattle.joint_clip.specs.Touches.{point_at, way_at}
use Rattle.zone_clearance.specs.declared.side.Side.{Side}
use Rattle.zone_clearance.specs.declared.side.Side.TheVariants.{Zero, Low, High}
use Rattle.zone_clearance.specs.Certificates.{AreFar, IsNear}
use Rattle.zone_clearance.specs.Gaps.{IsLeastDistance}
use Rattle.zone_clearance.specs.Levels.{IsUnder, IsOver}
use Rattle.zone_clearance.specs.Lines.{line_at}
use Rattle.zone_clearance.specs.SideLines.{HasWay}
use Rattle.zone_clearance.proofs.Axes.{axis_of, known_axis, one_of}
use Rattle.zone_clearance.proofs.Distances.{known_side}
use Rattle.zone_clearance.proofs.Ends.{at_start, at_end, under_start, way_at-start}
use Rattle.zone_clearance.proofs.Entries.{IsEarlier, arrives_first, fall_before}
use Rattle.zone_clearance.proofs.LeastDistances.{inner, outer, first_near, least_inside, least_outside}
use Rattle.zone_clearance.proofs.Levels.{below_not_over}
use Rattle.zone_clearance.proofs.Nearness.{WayUnder, WaysUnder, inside_near, inside_under, outside_near}
use Rattle.zone_clearance.proofs.Proving.{WaysProve, ways_some_over}
use Rattle.zone_clearance.proofs.SideWays.{same_ways, way_of, zero_has}
use Rattle.zone_clearance.proofs.Ways.{OnTheWay, over_from_ends, under_between}

-- a line comes down to the level at a place: it is above it at the start, and not below it there
pub record ComesDown (s e : ℤ) (t b k m : ℕ) : Type 0 where
  pub above : ¬ IsUnder s e t b 0 1
  pub down : IsOver s e t b k m

start_above : (s e : ℤ) (t b : ℕ) → pos t <ℤ (s *ℤ pos b) → pos (t * 1) <ℤ (way_at s e 0 1 *ℤ pos b)
start_above s e t b above = rw (way_at-start s e) (omega (arith, ints, above))

above_start : (s e : ℤ) (t b : ℕ) → ¬ IsUnder s e t b 0 1 → pos t <ℤ (s *ℤ pos b)
above_start s e t b above = by_lt_z (pos t) (s *ℤ pos b) (λ more. more) (λ under. absurd (above (under_start s e t b under)))

pub down_first : (s e : ℤ) (t b k m i n : ℕ) → k ≤ m → OnTheWay i n → ComesDown s e t b k m → IsUnder s e t b i n → IsAtMost k m i n
down_first s e t b k m i n way there comes under = arrives_first s e t b k m i n way there (above_start s e t b comes.above) comes.down under

-- Inside: some line comes down to the level at the place, if that is not the start
pub record WayDown (p q : Joints) (bounds : List (Option Bound)) (t b k m : ℕ) : Type 0 where
  pub side : Side
  pub start : ℤ
  pub end : ℤ
  pub way : HasWay true p q bounds side start end
  pub down : ComesDown start end t b k m

at_once : (k m i n : ℕ) → k ≡ 0 → IsAtMost k m i n
at_once k m i n none = record { across = rw none (omega arith) }

pub holds_inside : (p q : Joints) (bounds : List (Option Bound)) (first second : Side) (s e u v : ℤ) (t b k m : ℕ) → OnTheWay k m → HasWay true p q bounds first s e → HasWay true p q bounds second u v
    → WaysProve s e u v t b → WaysUnder true p q bounds t b k m → (k ≡ 0) ⊎ WayDown p q bounds t b k m → IsLeastDistance p q (inner bounds) t b k m
holds_inside p q bounds first second s e u v t b k m here one two prove under arrives =
    least_inside p q bounds t b k m here (λ i n there. ways_some_over p q bounds first second s e u v t b i n there one two prove) under
    (λ i n there low.
    elim arrives [
      | inl none ↦ at_once k m i n none
      | inr some ↦ down_first some.start some.end t b k m i n here.whole there some.down (low some.side some.start some.end some.way)
    ])

pub under_of_least : (p q : Joints) (bounds : List (Option Bound)) (t b k m : ℕ) → k ≤ m → IsLeastDistance p q (inner bounds) t b k m → WaysUnder true p q bounds t b k m
under_of_least p q bounds t b k m way least = inside_under p q bounds t b k m way (omega (arith, ints, least.reached))

-- otherwise an earlier point would be as near: one at which the lines of all axes, one side after another, are at most
-- the level
record IsSoFar (p q : Joints) (bounds : List (Option Bound)) (t b k m : ℕ) (Seen : Side → Type 0) : Type 0 where
  x : ℕ
  y : ℕ
  here : OnTheWay x y
  before : x * m < k * y
  under : (side : Side) (start end : ℤ) → Seen side → HasWay true p q bounds side start end → IsUnder start end t b x y

under_so_far : (s e : ℤ) (t b i n k m : ℕ) → OnTheWay i n → OnTheWay k m → i * m < k * n → IsUnder s e t b k m → IsUnder s e t b 0 1 → IsUnder s e t b i n
under_so_far s e t b i n k m first last before under start =
    under_between s e t b 0 1 k m i n at_start last first (record { across = omega arith }) (record { across = omega (arith, before) }) start under

not_at_start : (s e : ℤ) (t b i n : ℕ) → pos (t * n) <ℤ (way_at s e i n *ℤ pos b) → (IsUnder s e t b 0 1 → IsUnder s e t b i n) → ¬ IsUnder s e t b 0 1
not_at_start s e t b i n above between low = let there = (between low).under in omega (arith, ints, above, there)

not_down : (s e : ℤ) (t b k m : ℕ) → ¬ IsUnder s e t b 0 1 → ¬ ComesDown s e t b k m → ¬ IsOver s e t b k m
not_down s e t b k m start never over = never (record { above = start; down = over })

earlier : (s e : ℤ) (t b i n k m : ℕ) → OnTheWay i n → OnTheWay k m → i * m < k * n → IsUnder s e t b k m → ¬ ComesDown s e t b k m → IsEarlier s e t b i n k m
earlier s e t b i n k m first last before under never =
    by_lt_z (pos (t * n)) (way_at s e i n *ℤ pos b)
    (λ above.
    let start = not_at_start s e t b i n above (under_so_far s e t b i n k m first last before under) in
    fall_before s e t b i n k m first last (above_start s e t b start) above (below_not_over s e t b k m (not_down s e t b k m start never)))
    (λ low. record { x = i; y = n; here = first; after = record { across = omega arith }; before = before; under = record { under = low } })

one_more : (p q : Joints) (bounds : List (Option Bound)) (t b k m : ℕ) (Seen : Side → Type 0) (side : Side) → OnTheWay k m → WaysUnder true p q bounds t b k m → ¬ WayDown p q bounds t b k m
    → IsSoFar p q bounds t b k m Seen → IsSoFar p q bounds t b k m (λ other. Seen other ⊎ (other ≡ side))
one_more p q bounds t b k m Seen side last low never far = by (line_at true bounds (point_at p q 0 1) 1 side) refl
  where
    by : (o : Option ℤ) → line_at true bounds (point_at p q 0 1) 1 side ≡ o → IsSoFar p q bounds t b k m (λ other. Seen other ⊎ (other ≡ side))
    by None none = record {
      x = far.x;
      y = far.y;
      here = far.here;
      before = far.before;
      under = λ other start end seen way.
          elim seen [
            | inl earlier ↦ far.under other start end earlier way
            | inr same ↦ absurd (let line = way.at 0 1 at_start.whole in let missing = rw same at line in let clash = sym none ∙ missing in cc)
          ];
    }
    by (Some value) some =
        let line = way_of true p q bounds side 0 1 value some in
        let before = earlier line.start line.end t b far.x far.y k m far.here last far.before (low side line.start line.end line.way) (λ comes. never (record { side = side; start = line.start; end = line.end; way = line.way; down = comes })) in
        let after : IsAtMost before.x before.y k m = record { across = omega (arith, before.before) } in
        record {
          x = before.x;
          y = before.y;
          here = before.here;
          before = before.before;
          under = λ other start end seen way.
              elim seen [
                | inl earlier ↦ under_between start end t b far.x far.y k m before.x before.y far.here last before.here before.after after (far.under other start end earlier way) (low other start end way)
                | inr same ↦
                    let here = subst (λ (s : Side). HasWay true p q bounds s start end) same way in
                    let ends = same_ways true p q bounds side line.start line.end start end line.way here in
                    subst (λ (u : ℤ). IsUnder u end t b before.x before.y) ends.0 (subst (λ (v : ℤ). IsUnder line.start v t b before.x before.y) ends.1 before.under)
              ];
        }

zero_under : (t b : ℕ) → IsUnder (pos 0) (pos 0) t b 0 1
zero_under t b = under_start (pos 0) (pos 0) t b (omega (arith, ints))

none_seen : (p q : Joints) (bounds : List (Option Bound)) (t b : ℕ) (side : Side) (start end : ℤ) → axis_of side ≤ 0 → HasWay true p q bounds side start end → IsUnder start end t b 0 1
none_seen p q bounds t b Zero start end known way =
    let ends = same_ways true p q bounds Zero (pos 0) (pos 0) start end (zero_has p q bounds) way in
    subst (λ (u : ℤ). IsUnder u end t b 0 1) ends.0 (subst (λ (v : ℤ). IsUnder (pos 0) v t b 0 1) ends.1 (zero_under t b))
none_seen p q bounds t b (Low zero) start end known way = absurd (let line = way.at 0 1 at_start.whole in cc)
none_seen p q bounds t b (Low (suc axis)) start end known way = absurd (omega arith)
none_seen p q bounds t b (High zero) start end known way = absurd (let line = way.at 0 1 at_start.whole in cc)
none_seen p q bounds t b (High (suc axis)) start end known way = absurd (omega arith)

all_seen : (p q : Joints) (bounds : List (Option Bound)) (t b k m axes : ℕ) → OnTheWay k m → 1 ≤ k → WaysUnder true p q bounds t b k m → ¬ WayDown p q bounds t b k m
    → IsSoFar p q bounds t b k m (λ side. axis_of side ≤ axes)
all_seen p q bounds t b k m zero last some low never = record {
  x = 0;
  y = 1;
  here = at_start;
  before = omega arith;
  under = λ side start end known way. none_seen p q bounds t b side start end known way;
}
all_seen p q bounds t b k m (suc axes) last some low never =
    let before = all_seen p q bounds t b k m axes last some low never in
    let by_low = one_more p q bounds t b k m _ (Low (suc axes)) last low never before in
    let by_high = one_more p q bounds t b k m _ (High (suc axes)) last low never by_low in
    record {
      x = by_high.x;
      y = by_high.y;
      here = by_high.here;
      before = by_high.before;
      under = λ side start end known way. by_high.under side start end (one_of axes (suc axes) side refl known) way;
    }

pub down_of_least : (p q : Joints) (bounds : List (Option Bound)) (t b k m : ℕ) → OnTheWay k m → 1 ≤ k → IsLeastDistance p q (inner bounds) t b k m → ¬ WayDown p q bounds t b k m → ⊥
down_of_least p q bounds t b k m here some least never =
    let all = all_seen p q bounds t b k m (length bounds) here some (under_of_least p q bounds t b k m here.whole least) never in
    let under : WaysUnder true p q bounds t b all.x all.y = λ side start end way.
    all.under side start end (known_axis (length bounds) side (known_side true bounds (point_at p q 0 1) 1 side _ (way.at 0 1 at_start.whole)).known) way
    in
    let first = first_near p q (inner bounds) t b k m all.x all.y all.here least (inside_near p q bounds t b all.x all.y all.here.whole under) in
    omega (arith, all.before, first.across)

-- Outside
abbrev pub FarWays : Joints → Joints → List (Option Bound) → ℕ → ℕ → Type 0
FarWays p q bounds t b = (side : Side) (start end : ℤ) → HasWay false p q bounds side start end → IsOver start end t b 0 1 × IsOver start end t b 1 1

abbrev pub DownWays : Joints → Joints → List (Option Bound) → ℕ → ℕ → ℕ → ℕ → Type 0
DownWays p q bounds t b k m = (side : Side) (start end : ℤ) → HasWay false p q bounds side start end → ComesDown start end t b k m

pub holds_outside : (p q : Joints) (bounds : List (Option Bound)) (t b k m : ℕ) → OnTheWay k m → WayUnder false p q bounds t b k m → (t ≡ 0) ⊎ FarWays p q bounds t b → (k ≡ 0) ⊎ DownWays p q bounds t b k m → IsLeastDistance p q (outer bounds) t b k m
holds_outside p q bounds t b k m here under far arrives =
    least_outside p q bounds t b k m here
    (elim far [
      | inl none ↦ inl none
      | inr ends ↦ inr (λ i n there side start end way. let both = ends side start end way in over_from_ends start end t b i n there both.0 both.1)
    ])
    under
    (λ i n there low.
    elim arrives [
      | inl none ↦ at_once k m i n none
      | inr down ↦ down_first low.start low.end t b k m i n here.whole there (down low.side low.start low.end low.way) low.under
    ])

-- a line of the zone is above the level at the start, and not below it at the place
pub down_outside : (p q : Joints) (bounds : List (Option Bound)) (t b k m : ℕ) (side : Side) (s e : ℤ) → OnTheWay k m → 1 ≤ k → IsLeastDistance p q (outer bounds) t b k m → HasWay false p q bounds side s e → ComesDown s e t b k m
down_outside p q bounds t b k m side s e here some least way = record {
  above = above;
  down =
      by_lt_z (way_at s e k m *ℤ pos b) (pos (t * m))
      (λ below. absurd (never below))
      (λ over. record { over = over });
}
  where
    near_first : (i n : ℕ) → OnTheWay i n → IsUnder s e t b i n → IsAtMost k m i n
    near_first i n there under =
        first_near p q (outer bounds) t b k m i n there least
        (outside_near p q bounds t b i n there.whole (record { side = side; start = s; end = e; way = way; under = under }))

    above : ¬ IsUnder s e t b 0 1
    above low = let first = (near_first 0 1 at_start low).across in omega (arith, first, some)

    never : ¬ ((way_at s e k m *ℤ pos b) <ℤ pos (t * m))
    never below =
        let start = above_start s e t b above in
        let before = fall_before s e t b 0 1 k m at_start here start (start_above s e t b start) below in
        let first = (near_first before.x before.y before.here before.under).across in
        omega (arith, before.before, first)

-- the lines of all sides at both ends
one_times : (t : ℕ) (x : ℤ) → pos t ≤ℤ x → pos (t * 1) ≤ℤ x
one_times t x le = omega (arith, ints, le)

times_one : (t : ℕ) (x : ℤ) → pos (t * 1) ≤ℤ x → pos t ≤ℤ x
times_one t x le = omega (arith, ints, le)

pub far_ways : (p q : Joints) (bounds : List (Option Bound)) (t b : ℕ) → AreFar p q (outer bounds) t b → FarWays p q bounds t b
far_ways p q bounds t b far side start end way = (
  record { over = one_times t _ (far.far 0 side (way_at start end 0 1) (omega arith) (way.at 0 1 at_start.whole)) },
  record { over = one_times t _ (far.far 1 side (way_at start end 1 1) (omega arith) (way.at 1 1 at_end.whole)) },
)

pub ways_far : (p q : Joints) (bounds : List (Option Bound)) (t b : ℕ) → FarWays p q bounds t b → AreFar p q (outer bounds) t b
ways_far p q bounds t b ways = record { far = far }
  where
    over : (end : ℕ) (side : Side) (x : ℤ) (s e : ℤ) → HasWay false p q bounds side s e → end ≤ 1 → line_at false bounds (point_at p q end 1) 1 side ≡ Some x → IsOver s e t b end 1 → pos t ≤ℤ (x *ℤ pos b)
    over end side x s e way within is far =
        let same : way_at s e end 1 ≡ x = same_Some _ _ (sym (way.at end 1 within) ∙ is) in
        times_one t _ (subst (λ (z : ℤ). pos (t * 1) ≤ℤ (z *ℤ pos b)) same far.over)

    far : (end : ℕ) (side : Side) (x : ℤ) → end ≤ 1 → line_at false bounds (point_at p q end 1) 1 side ≡ Some x → pos t ≤ℤ (x *ℤ pos b)
    far zero side x within is = let line = way_of false p q bounds side 0 1 x is in over 0 side x line.start line.end line.way within is (ways side line.start line.end line.way).0
    far (suc zero) side x within is = let line = way_of false p q bounds side 1 1 x is in over 1 side x line.start line.end line.way within is (ways side line.start line.end line.way).1
    far (suc (suc end)) side x within is = absurd (omega arith)

-- a side that is near has a line that is at most the level
pub record SideUnder (p q : Joints) (bounds : List (Option Bound)) (side : Side) (t b k m : ℕ) : Type 0 where
  pub start : ℤ
  pub end : ℤ
  pub way : HasWay false p q bounds side start end
  pub under : IsUnder start end t b k m

pub near_way : (p q : Joints) (bounds : List (Option Bound)) (side : Side) (t b k m : ℕ) → k ≤ m → IsNear p q (outer bounds) side t b k m → SideUnder p q bounds side t b k m
near_way p q bounds side t b k m way near =
    let line = way_of false p q bounds side k m near.line near.there in
    let same : near.line ≡ way_at line.start line.end k m = same_Some _ _ (sym near.there ∙ line.way.at k m way) in
    record {
      start = line.start;
      end = line.end;
      way = line.way;
      under = record { under = subst (λ (z : ℤ). (z *ℤ pos b) ≤ℤ pos (t * m)) same near.near };
    }
