-- A property of bounds and of both ends that none of the first named axes has.
use Rattle.std.proofs.Common.{◌≡◌, ◌<◌, ◌+◌, ℕ, List, Option, Some, None, subst, ℤ, pos}
use Rattle.std.specs.Prelude.{slice_get}
use Rattle.std.specs.List.{slice_index_or}
use borrow.Author.Count.{below_more}
use Rattle.rapid_num.specs.declared.joints.Joints.{Joints}
use Rattle.rapid_num.specs.declared.shape.Bound.{Bound}
use Rattle.joint_clip.specs.Touches.{Names}
use Rattle.joint_clip.proofs.Axes.{same_bound, not_named}

abbrev pub NoneOf : (Bound → ℤ → ℤ → Type 0) → ℕ → List (Option Bound) → Joints → Joints → Type 0
NoneOf Is axes bounds p q = (axis : ℕ) → axis < axes → (bound : Bound) → Names bounds axis bound → ¬ Is bound (slice_index_or p.axis axis (pos 0)) (slice_index_or q.axis axis (pos 0))

pub none_more : (Is : Bound → ℤ → ℤ → Type 0) (axes : ℕ) (bounds : List (Option Bound)) (p q : Joints) (bound : Bound) (from to : ℤ)
    → Names bounds axes bound → from ≡ slice_index_or p.axis axes (pos 0) → to ≡ slice_index_or q.axis axes (pos 0)
    → NoneOf Is axes bounds p q → ¬ Is bound from to → NoneOf Is (axes + 1) bounds p q
none_more Is axes bounds p q bound from to named start end below here =
    below_more (λ axis. (b : Bound) → Names bounds axis b → ¬ Is b (slice_index_or p.axis axis (pos 0)) (slice_index_or q.axis axis (pos 0))) axes below
    (λ b other holds. here (rw (start, end) (subst (λ (x : Bound). Is x (slice_index_or p.axis axes (pos 0)) (slice_index_or q.axis axes (pos 0))) (same_bound bounds axes b bound other named) holds)))

pub none_skip : (Is : Bound → ℤ → ℤ → Type 0) (axes : ℕ) (bounds : List (Option Bound)) (p q : Joints) → slice_get bounds axes ≡ Some None → NoneOf Is axes bounds p q
    → NoneOf Is (axes + 1) bounds p q
none_skip Is axes bounds p q none below =
    below_more (λ axis. (b : Bound) → Names bounds axis b → ¬ Is b (slice_index_or p.axis axis (pos 0)) (slice_index_or q.axis axis (pos 0))) axes below
    (λ b named holds. not_named bounds axes b none named)
