-- How far the axes of a joint move go.
use Rattle.std.specs.Prelude.{◌≡◌, ◌<◌, ℕ, ℤ, ◌-ℤ◌, nat_abs, Some, slice_get}
use Rattle.rapid_num.specs.declared.joints.Joints.{Joints}

-- an axis, counted from 0, of an arm with that many axes, that goes from one angle to another
pub record Goes (axes : ℕ) (start target : Joints) (axis : ℕ) (from to : ℤ) : Type 0 where
  pub moved : axis < axes
  pub starts : slice_get start.axis axis ≡ Some from
  pub ends : slice_get target.axis axis ≡ Some to

-- an axis that moves by more than that many thousandths of a degree
pub record Outruns (axes : ℕ) (start target : Joints) (most : ℕ) : Type 0 where
  pub axis : ℕ
  pub from : ℤ
  pub to : ℤ
  pub goes : Goes axes start target axis from to
  pub more : most < nat_abs (to -ℤ from)
