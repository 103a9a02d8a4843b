-- The zone that stops a move.
use Rattle.std.specs.Prelude.{ℕ, nat_lt, Bool, true, false, IsTrue, List, Option, slice_get}
use Rattle.rapid_num.specs.declared.joints.Joints.{Joints}
use Rattle.rapid_num.specs.declared.shape.Shape.{Shape}
use Rattle.rapid_model.specs.declared.zone_name.ZoneName.{ZoneName}
use Rattle.rapid_model.specs.declared.zone_name.ZoneName.TheVariants.{Own, Cell}
use Rattle.world_zones.specs.First.{Stops}
use Rattle.world_zones.specs.Zones.{ZonesData, arm_at, own_shape, shape_of_cell, zone_at}

-- the shape of the named zone, if it watches the task's arm while the cell's signals have these values
abbrev pub supervised : ZonesData → ℕ → List Bool → ZoneName → Option Shape
supervised zones task signals (Own number) = own_shape (zone_at (arm_at zones task) number)
supervised zones task signals (Cell number) = shape_of_cell task signals (slice_get zones.cell number)

-- own zones, by number, come before the cell's, in script order
abbrev pub comes_before : ZoneName → ZoneName → Bool
comes_before (Own m) (Own n) = nat_lt m n
comes_before (Own m) (Cell n) = true
comes_before (Cell m) (Own n) = false
comes_before (Cell m) (Cell n) = nat_lt m n

-- the zone watches the task's arm, and the segment from p to q touches it
abbrev pub IsTouched : ZonesData → ℕ → List Bool → Joints → Joints → ZoneName → Type 0
IsTouched zones task signals p q name = Stops p q (supervised zones task signals name)

-- no zone before it is touched
pub record IsFirstTouched (zones : ZonesData) (task : ℕ) (signals : List Bool) (p q : Joints) (name : ZoneName) : Type 0 where
  pub touched : IsTouched zones task signals p q name
  pub first : (other : ZoneName) → IsTrue (comes_before other name) → ¬ IsTouched zones task signals p q other
