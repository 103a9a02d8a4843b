-- Which side of a bound a fraction of a segment is on.
use Rattle.std.specs.Prelude.{ℕ, pos, ◌≤ℤ◌}
use Rattle.joint_clip.specs.declared.side.Side.{Side}
use Rattle.joint_clip.specs.Touches.{way_at}

-- k/m of the way is not past the bound
pub record IsInner (side : Side) (k m : ℕ) : Type 0 where
  pub inner : pos 0 ≤ℤ way_at side.start side.end k m
