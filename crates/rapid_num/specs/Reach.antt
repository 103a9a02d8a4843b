-- The positions that an arm can reach. Axes are numbered from 0: 0 to 5 are axes 1 to 6, and 6 to 11 the external axes.
use Rattle.std.specs.Prelude.{ℕ, ◌+◌, Bool, true, ◌&&◌, nat_le, nat_lt, ℤ, nat_abs, List, [], ◌∷◌, length, replicate, take, drop, ◌==◌, if◌then◌else◌}
use Rattle.std.specs.List.{list_all}
use Rattle.rapid_limits.specs.declared.TheConstants.{EXTERNAL_REACH, MOST_AXES, ROBOT_AXES, ROBOT_REACH}
use Rattle.rapid_num.specs.Absent.{absent, is_absent}
use Rattle.rapid_num.specs.declared.joints.Joints.{Joints}

-- the greatest absolute angle of an axis, in thousandths of a degree: 720 degrees, or 100,000 for an external axis
abbrev pub reach_of : ℕ → ℕ
reach_of axis = if nat_lt axis ROBOT_AXES then ROBOT_REACH else EXTERNAL_REACH

abbrev pub is_in_reach : ℕ → ℤ → Bool
is_in_reach axis angle = nat_le (nat_abs angle) (reach_of axis)

-- the angles of consecutive axes, starting with this one, are each in reach
abbrev pub are_in_reach : ℕ → List ℤ → Bool
are_in_reach axis [] = true
are_in_reach axis (angle ∷ angles) = is_in_reach axis angle && are_in_reach (axis + 1) angles

-- this many axes, each not given
abbrev pub absent_axes : ℕ → List ℤ
absent_axes count = replicate count absent

-- the first axes, this many, are each in reach
abbrev pub is_reachable : ℕ → Joints → Bool
is_reachable axes joints = are_in_reach 0 (take axes joints.axis)

-- a position of an arm with this many axes: twelve angles, those of the arm in reach and the others not given
abbrev pub is_position : ℕ → Joints → Bool
is_position axes joints = length joints.axis == MOST_AXES && is_reachable axes joints && list_all is_absent (drop axes joints.axis)
