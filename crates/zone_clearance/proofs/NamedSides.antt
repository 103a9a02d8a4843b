-- The bounds and the angles of an axis that is counted from 1.
use Rattle.std.proofs.Common.{◌≡◌, ◌≤◌, ◌<◌, ◌-◌, ℕ, zero, suc, List, length, get_or, Option, Some, None, ap, sym, ◌∙◌, subst, arith, ℤ, pos}
use Rattle.std.specs.List.{slice_index_or}
use Rattle.std.proofs.lemmas.List.{get_or_default, get_or_past}
use Rattle.std.proofs.lemmas.Option.{get_or_from_slice_get}
use Rattle.rapid_num.specs.declared.joints.Joints.{Joints}
use Rattle.rapid_num.specs.declared.shape.Bound.{Bound}
use Rattle.joint_clip.specs.Touches.{Names}
use Rattle.zone_clearance.specs.Lines.{bound_of}
use Rattle.zone_clearance.specs.Premises.{AreInReach, IsInReach}

pub bound_past : (bounds : List (Option Bound)) (axis index : ℕ) → 1 ≤ axis → index ≡ axis - 1 → length bounds ≤ index → bound_of bounds axis ≡ None
bound_past bounds zero index some is past = absurd (omega (arith, some))
bound_past bounds (suc axis) index some is past = get_or_past bounds axis None (omega (arith, is, past))

pub bound_read : (bounds : List (Option Bound)) (axis index : ℕ) (bound : Bound) → 1 ≤ axis → index ≡ axis - 1 → Names bounds index bound → bound_of bounds axis ≡ Some bound
bound_read bounds zero index bound some is named = absurd (omega (arith, some))
bound_read bounds (suc axis) index bound some is named =
    let same : axis ≡ index = omega (arith, is) in
    ap (λ (n : ℕ). slice_index_or bounds n None) same ∙ get_or_from_slice_get bounds index (Some bound) None named

pub angle_read : (angles : List ℤ) (axis index : ℕ) (d : ℤ) → index ≡ axis - 1 → index < length angles → get_or angles index d ≡ slice_index_or angles (axis - 1) (pos 0)
angle_read angles axis index d is below = get_or_default angles index d (pos 0) below ∙ ap (λ (n : ℕ). slice_index_or angles n (pos 0)) is

pub reach_read : (p q : Joints) (bounds : List (Option Bound)) (index : ℕ) (bound : Bound) (start end d e : ℤ) → AreInReach p q bounds → Names bounds index bound → index < length p.axis → index < length q.axis
    → start ≡ get_or p.axis index d → end ≡ get_or q.axis index e → IsInReach bound start end
reach_read p q bounds index bound start end d e reach named below within from to =
    subst (λ (x : ℤ). IsInReach bound x end) (sym (from ∙ get_or_default p.axis index d (pos 0) below))
    (subst (λ (y : ℤ). IsInReach bound (slice_index_or p.axis index (pos 0)) y) (sym (to ∙ get_or_default q.axis index e (pos 0) within)) (reach index bound named))
