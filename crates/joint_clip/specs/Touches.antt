-- When a segment of a move touches a zone.
use Rattle.std.specs.Prelude.{◌≡◌, ◌≤◌, ◌-◌, ◌⊎◌, ℕ, ℤ, pos, ◌+ℤ◌, ◌*ℤ◌, ◌<ℤ◌, ◌≤ℤ◌, List, Option, Some, MatchBool, slice_get}
use Rattle.std.specs.List.{slice_index_or}
use Rattle.rapid_num.specs.declared.joints.Joints.{Joints}
use Rattle.rapid_num.specs.declared.shape.Bound.{Bound}
use Rattle.rapid_num.specs.declared.shape.Shape.{Shape}

-- an axis at k/m of the way from p to q, times m
abbrev pub way_at : ℤ → ℤ → ℕ → ℕ → ℤ
way_at p q k m = (p *ℤ pos (m - k)) +ℤ (q *ℤ pos k)

-- each axis, counted from 0, at k/m of the way from p to q, times m
abbrev pub point_at : Joints → Joints → ℕ → ℕ → ℕ → ℤ
point_at p q k m axis = way_at (slice_index_or p.axis axis (pos 0)) (slice_index_or q.axis axis (pos 0)) k m

-- an axis, counted from 0, is named: it has these bounds
abbrev pub Names : List (Option Bound) → ℕ → Bound → Type 0
Names bounds axis bound = slice_get bounds axis ≡ Some (Some bound)

-- x/m is within the bounds, which are included
pub record IsWithin (bound : Bound) (x : ℤ) (m : ℕ) : Type 0 where
  pub low : (bound.low *ℤ pos m) ≤ℤ x
  pub high : x ≤ℤ (bound.high *ℤ pos m)

-- x/m is past one of the bounds
abbrev pub IsBeyond : Bound → ℤ → ℕ → Type 0
IsBeyond bound x m = (x <ℤ (bound.low *ℤ pos m)) ⊎ ((bound.high *ℤ pos m) <ℤ x)

-- each named axis is within its bounds
abbrev pub LiesInside : List (Option Bound) → (ℕ → ℤ) → ℕ → Type 0
LiesInside bounds point m = (axis : ℕ) (bound : Bound) → Names bounds axis bound → IsWithin bound (point axis) m

-- some named axis is past one of its bounds
pub record LiesOutside (bounds : List (Option Bound)) (point : ℕ → ℤ) (m : ℕ) : Type 0 where
  pub axis : ℕ
  pub bound : Bound
  pub named : Names bounds axis bound
  pub beyond : IsBeyond bound (point axis) m

-- the point, given times m, lies in the zone: an Inside zone is closed, an Outside zone is open
abbrev pub LiesIn : Shape → (ℕ → ℤ) → ℕ → Type 0
LiesIn shape point m = MatchBool shape.inside (LiesInside shape.bounds point m) (LiesOutside shape.bounds point m)

-- this holds at some fraction k/m of a segment, from 0 to 1
pub record SomeFraction (Holds : ℕ → ℕ → Type 0) : Type 0 where
  pub k : ℕ
  pub m : ℕ
  pub whole : 1 ≤ m
  pub on_the_way : k ≤ m
  pub holds : Holds k m

-- some point of the segment from p to q lies in the zone
abbrev pub Touches : Joints → Joints → Shape → Type 0
Touches p q shape = SomeFraction (λ k m. LiesIn shape (point_at p q k m) m)
