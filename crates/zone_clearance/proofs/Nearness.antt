-- The distance along a segment against a level, by the lines of the sides.
use Rattle.std.proofs.Common.{◌≡◌, ◌≤◌, ◌*◌, ◌⊎◌, ℕ, Bool, true, false, List, Option, sym, ◌∙◌, inl, inr, arith, ℤ, pos, ◌*ℤ◌, ◌≤ℤ◌}
use Rattle.std.specs.Int.{int_max}
use Rattle.std.proofs.lemmas.Int.{ints, clamps, by_lt_z}
use Rattle.std.proofs.lemmas.Option.{same_Some}
use Rattle.rapid_num.specs.declared.joints.Joints.{Joints}
use Rattle.rapid_num.specs.declared.shape.Bound.{Bound}
use Rattle.joint_clip.specs.Touches.{point_at, way_at}
use Rattle.joint_clip.proofs.Ways.{times-le}
use Rattle.zone_clearance.specs.declared.side.Side.{Side}
use Rattle.zone_clearance.specs.Distances.{distance_at}
use Rattle.zone_clearance.specs.Levels.{IsUnder, IsOver}
use Rattle.zone_clearance.specs.SideLines.{HasWay}
use Rattle.zone_clearance.proofs.Distances.{greatest_line, least_line}
use Rattle.zone_clearance.proofs.SideWays.{way_of}

-- the distance at i/n of the way, times n, is at most the level, or at least
abbrev pub IsNearAt : Bool → Joints → Joints → List (Option Bound) → ℕ → ℕ → ℕ → ℕ → Type 0
IsNearAt inside p q bounds t b i n = (distance_at inside bounds (point_at p q i n) n *ℤ pos b) ≤ℤ pos (t * n)

abbrev pub IsFarAt : Bool → Joints → Joints → List (Option Bound) → ℕ → ℕ → ℕ → ℕ → Type 0
IsFarAt inside p q bounds t b i n = pos (t * n) ≤ℤ (distance_at inside bounds (point_at p q i n) n *ℤ pos b)

-- the line of each side is at most the level there, and the line of some side is at most, or at least, the level
abbrev pub WaysUnder : Bool → Joints → Joints → List (Option Bound) → ℕ → ℕ → ℕ → ℕ → Type 0
WaysUnder inside p q bounds t b i n = (side : Side) (start end : ℤ) → HasWay inside p q bounds side start end → IsUnder start end t b i n

abbrev pub WaysOver : Bool → Joints → Joints → List (Option Bound) → ℕ → ℕ → ℕ → ℕ → Type 0
WaysOver inside p q bounds t b i n = (side : Side) (start end : ℤ) → HasWay inside p q bounds side start end → IsOver start end t b i n

pub record WayUnder (inside : Bool) (p q : Joints) (bounds : List (Option Bound)) (t b i n : ℕ) : Type 0 where
  pub side : Side
  pub start : ℤ
  pub end : ℤ
  pub way : HasWay inside p q bounds side start end
  pub under : IsUnder start end t b i n

pub record WayOver (inside : Bool) (p q : Joints) (bounds : List (Option Bound)) (t b i n : ℕ) : Type 0 where
  pub side : Side
  pub start : ℤ
  pub end : ℤ
  pub way : HasWay inside p q bounds side start end
  pub over : IsOver start end t b i n

scaled_under : (x d : ℤ) (t b n : ℕ) → x ≤ℤ d → (d *ℤ pos b) ≤ℤ pos (t * n) → (x *ℤ pos b) ≤ℤ pos (t * n)
scaled_under x d t b n le near = omega (arith, ints, times-le x d b le, near)

scaled_over : (x d : ℤ) (t b n : ℕ) → x ≤ℤ d → pos (t * n) ≤ℤ (x *ℤ pos b) → pos (t * n) ≤ℤ (d *ℤ pos b)
scaled_over x d t b n le far = omega (arith, ints, times-le x d b le, far)

-- of an Inside zone
pub inside_under : (p q : Joints) (bounds : List (Option Bound)) (t b i n : ℕ) → i ≤ n → IsNearAt true p q bounds t b i n → WaysUnder true p q bounds t b i n
inside_under p q bounds t b i n way near side start end line =
    let d = greatest_line bounds (point_at p q i n) n in
    record { under = scaled_under (way_at start end i n) (distance_at true bounds (point_at p q i n) n) t b n (d.each side _ (line.at i n way)) near }

pub inside_near : (p q : Joints) (bounds : List (Option Bound)) (t b i n : ℕ) → i ≤ n → WaysUnder true p q bounds t b i n → IsNearAt true p q bounds t b i n
inside_near p q bounds t b i n way under =
    let d = greatest_line bounds (point_at p q i n) n in
    let line = way_of true p q bounds d.side i n _ d.there in
    let same : distance_at true bounds (point_at p q i n) n ≡ way_at line.start line.end i n = same_Some _ _ (sym d.there ∙ line.way.at i n way) in
    rw same ((under d.side line.start line.end line.way).under)

pub inside_far : (p q : Joints) (bounds : List (Option Bound)) (t b i n : ℕ) → i ≤ n → WayOver true p q bounds t b i n → IsFarAt true p q bounds t b i n
inside_far p q bounds t b i n way over =
    let d = greatest_line bounds (point_at p q i n) n in
    scaled_over (way_at over.start over.end i n) (distance_at true bounds (point_at p q i n) n) t b n (d.each over.side _ (over.way.at i n way)) over.over.over

-- of an Outside zone
least_le : (d least : ℤ) → d ≡ int_max (pos 0) least → least ≤ℤ d
least_le d least is = omega (arith, ints, clamps, is)

zero_le : (d least : ℤ) → d ≡ int_max (pos 0) least → pos 0 ≤ℤ d
zero_le d least is = omega (arith, ints, clamps, is)

zero_far : (d : ℤ) (t b n : ℕ) → t ≡ 0 → pos 0 ≤ℤ d → pos (t * n) ≤ℤ (d *ℤ pos b)
zero_far d t b n none le = rw none (omega (arith, ints, times-le (pos 0) d b le))

least_or_zero : (d least : ℤ) (t b n : ℕ) → d ≡ int_max (pos 0) least → (least *ℤ pos b) ≤ℤ pos (t * n) → (d *ℤ pos b) ≤ℤ pos (t * n)
least_or_zero d least t b n is near =
    by_lt_z (pos 0) least
    (λ above. let same : d ≡ least = is ∙ omega (arith, ints, clamps) in rw same near)
    (λ below. let none : d ≡ pos 0 = is ∙ omega (arith, ints, clamps) in rw none (omega (arith, ints)))

pub outside_near : (p q : Joints) (bounds : List (Option Bound)) (t b i n : ℕ) → i ≤ n → WayUnder false p q bounds t b i n → IsNearAt false p q bounds t b i n
outside_near p q bounds t b i n way under =
    let line = under.way.at i n way in
    let d = least_line bounds (point_at p q i n) n under.side _ line in
    least_or_zero _ d.least t b n d.distance (scaled_under d.least (way_at under.start under.end i n) t b n (d.each under.side _ line) under.under.under)

pub outside_under : (p q : Joints) (bounds : List (Option Bound)) (t b i n : ℕ) (side : Side) (start end : ℤ) → i ≤ n → HasWay false p q bounds side start end → IsNearAt false p q bounds t b i n → WayUnder false p q bounds t b i n
outside_under p q bounds t b i n side start end way there near =
    let d = least_line bounds (point_at p q i n) n side _ (there.at i n way) in
    let line = way_of false p q bounds d.side i n _ d.there in
    let same : d.least ≡ way_at line.start line.end i n = same_Some _ _ (sym d.there ∙ line.way.at i n way) in
    let le = least_le _ d.least d.distance in
    record {
      side = d.side;
      start = line.start;
      end = line.end;
      way = line.way;
      under = record { under = rw (← same) (scaled_under d.least _ t b n le near) };
    }

pub outside_far : (p q : Joints) (bounds : List (Option Bound)) (t b i n : ℕ) (side : Side) (start end : ℤ) → i ≤ n → HasWay false p q bounds side start end
    → (t ≡ 0) ⊎ WaysOver false p q bounds t b i n → IsFarAt false p q bounds t b i n
outside_far p q bounds t b i n side start end way there far =
    let d = least_line bounds (point_at p q i n) n side _ (there.at i n way) in
    elim far [
      | inl none ↦ zero_far _ t b n none (zero_le _ d.least d.distance)
      | inr over ↦
          let line = way_of false p q bounds d.side i n _ d.there in
          let same : d.least ≡ way_at line.start line.end i n = same_Some _ _ (sym d.there ∙ line.way.at i n way) in
          scaled_over d.least _ t b n (least_le _ d.least d.distance) (rw same (over d.side line.start line.end line.way).over)
    ]
