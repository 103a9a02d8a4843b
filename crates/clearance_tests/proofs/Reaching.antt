-- The named axes that are in reach, one axis more at a time.
use Rattle.std.proofs.Common.{◌≡◌, ◌≤◌, ◌<◌, ◌+◌, ℕ, List, length, Option, Some, None, subst, arith, ℤ, pos}
use Rattle.std.specs.Prelude.{slice_get}
use Rattle.std.specs.List.{slice_index_or}
use Rattle.std.proofs.lemmas.Option.{slice_get_within}
use borrow.Author.Count.{below_more}
use Rattle.rapid_num.specs.declared.joints.Joints.{Joints}
use Rattle.rapid_num.specs.declared.shape.Bound.{Bound}
use Rattle.joint_clip.specs.Touches.{Names}
use Rattle.joint_clip.proofs.Axes.{not_named, same_bound}
use Rattle.zone_clearance.specs.Premises.{AreInReach, IsInReach}

abbrev pub FirstInReach : ℕ → List (Option Bound) → Joints → Joints → Type 0
FirstInReach axes bounds p q = (axis : ℕ) → axis < axes → (bound : Bound) → Names bounds axis bound → IsInReach bound (slice_index_or p.axis axis (pos 0)) (slice_index_or q.axis axis (pos 0))

pub reach_more : (axes : ℕ) (bounds : List (Option Bound)) (p q : Joints) (bound : Bound) (from to : ℤ) → Names bounds axes bound → from ≡ slice_index_or p.axis axes (pos 0) → to ≡ slice_index_or q.axis axes (pos 0)
    → FirstInReach axes bounds p q → IsInReach bound from to → FirstInReach (axes + 1) bounds p q
reach_more axes bounds p q bound from to named start end below here =
    below_more (λ axis. (b : Bound) → Names bounds axis b → IsInReach b (slice_index_or p.axis axis (pos 0)) (slice_index_or q.axis axis (pos 0))) axes below
    (λ b other. subst (λ (x : Bound). IsInReach x (slice_index_or p.axis axes (pos 0)) (slice_index_or q.axis axes (pos 0))) (same_bound bounds axes bound b named other) (rw (← start, ← end) here))

pub reach_skip : (axes : ℕ) (bounds : List (Option Bound)) (p q : Joints) → slice_get bounds axes ≡ Some None → FirstInReach axes bounds p q → FirstInReach (axes + 1) bounds p q
reach_skip axes bounds p q none below =
    below_more (λ axis. (b : Bound) → Names bounds axis b → IsInReach b (slice_index_or p.axis axis (pos 0)) (slice_index_or q.axis axis (pos 0))) axes below
    (λ b named. absurd (not_named bounds axes b none named))

pub reach_all : (axes : ℕ) (bounds : List (Option Bound)) (p q : Joints) → length bounds ≤ axes → FirstInReach axes bounds p q → AreInReach p q bounds
reach_all axes bounds p q all first axis bound named =
    let within : axis < length bounds = slice_get_within bounds axis (Some bound) named in
    first axis (omega arith) bound named
