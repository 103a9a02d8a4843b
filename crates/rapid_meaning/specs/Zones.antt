-- World zones (RAPID Instructions: WZLimJointDef, WZHomeJointDef, WZLimSup, WZDOSet, WZDisable, WZEnable, WZFree).
use Rattle.std.specs.Prelude.{ℕ, Bool, ◌||◌, ℤ, List, [], ◌∷◌, Option, None, Some, Result, Ok, Err, if◌then◌else◌}
use Rattle.std.specs.Option.{option_and_then, option_map}
use Rattle.rapid_num.specs.Absent.{absent, is_absent}
use Rattle.rapid_num.specs.Arithmetic.{sum_of, difference_of}
use Rattle.rapid_num.specs.declared.joints.Joints.{Joints}
use Rattle.rapid_num.specs.declared.shape.Shape.{Shape}
use Rattle.rapid_model.specs.declared.answer.Answer.{Answer}
use Rattle.rapid_model.specs.declared.answer.Answer.TheVariants as answers
use Rattle.joint_clip.specs.Shapes.{made_shape}
use Rattle.joint_clip.specs.declared.shape_fault.ShapeFault.{ShapeFault}
use Rattle.joint_clip.specs.declared.shape_fault.ShapeFault.TheVariants as shape_faults
use Rattle.rapid_model.specs.declared.fate.Fault.{Fault}
use Rattle.rapid_model.specs.declared.fate.Fault.TheVariants as faults
use Rattle.rapid_model.specs.declared.request.Request.{Request}
use Rattle.rapid_model.specs.declared.request.Request.TheVariants.{ZoneSet, ZoneTie}
use Rattle.typed_trees.specs.declared.datum.Datum.TheVariants as datums
use Rattle.typed_trees.specs.declared.datum.Lvalue.{Lvalue}
use Rattle.rapid_meaning.specs.Doings.{Doing, Gives, Misfit, Asks, Act, ◌>>=◌, done, fault}
use Rattle.rapid_meaning.specs.Places.{load, store}
use Rattle.rapid_meaning.specs.Values.{shape_in}

abbrev pub fault_of : ShapeFault → Fault
fault_of shape_faults.ExtAxis = faults.ExtAxis
fault_of shape_faults.ZoneShape = faults.ZoneShape

abbrev pub shaped : Lvalue → Result Shape ShapeFault → Act
shaped place (Ok shape) = store place (datums.Shape (Some shape))
shaped place (Err why) = fault (fault_of why)

-- stores the shape between a low and a high position, for an arm with this many axes
abbrev pub define : ℕ → Lvalue → Bool → Joints → Joints → Act
define axes place inside low high = shaped place (made_shape inside low high axes)

-- the bounds of an axis below and above its middle; there are none if the middle or the delta is 9E9
abbrev pub home_low : ℤ → ℤ → Option ℤ
home_low middle delta = if is_absent middle || is_absent delta then Some absent else difference_of middle delta

abbrev pub home_high : ℤ → ℤ → Option ℤ
home_high middle delta = if is_absent middle || is_absent delta then Some absent else sum_of middle delta

-- the bounds of all axes, if each is in range
unfoldable pub on_axes : (ℤ → ℤ → Option ℤ) → List ℤ → List ℤ → Option (List ℤ)
on_axes bound (m ∷ ms) (d ∷ ds) = option_and_then (λ b. option_map (λ bs. b ∷ bs) (on_axes bound ms ds)) (bound m d)
on_axes bound _ _ = Some []

abbrev pub position_or_fault : Option (List ℤ) → Doing Joints
position_or_fault None = fault faults.NumRange
position_or_fault (Some axes) = Gives (record { axis = axes })

-- stores the shape of a home zone, from its middle and deltas
abbrev pub define_home : ℕ → Lvalue → Bool → Joints → Joints → Act
define_home axes place inside middle delta = do
  low ← position_or_fault (on_axes home_low middle.axis delta.axis)
  high ← position_or_fault (on_axes home_high middle.axis delta.axis)
  define axes place inside low high

-- a shape that was defined
abbrev pub defined : Option Shape → Doing Shape
defined None = fault faults.ZoneShape
defined (Some shape) = Gives shape

abbrev pub shape_at : Lvalue → Doing Shape
shape_at place = do
  held ← load place
  shape ← shape_in held
  defined shape

abbrev pub when_numbered : Lvalue → Answer → Act
when_numbered place (answers.Number number) = store place (datums.Mark number)
when_numbered place answers.ZoneUsed = fault faults.ZoneUsed
when_numbered place answers.ZoneFull = fault faults.ZoneFull
when_numbered place answers.Tied = fault faults.TiedOutput
when_numbered place _ = Misfit

-- supervises a shape as the zone of a variable, which holds the old number
abbrev pub supervise : Lvalue → ℕ → Bool → Shape → Act
supervise place old temporary shape = Asks (ZoneSet old temporary shape) (when_numbered place)

-- ties a signal to a shape, if it was defined, as the zone of a variable, which holds the old number
abbrev pub tie : Lvalue → ℕ → Bool → Option Shape → ℕ → Bool → Act
tie place old temporary held signal value = do
  shape ← defined held
  Asks (ZoneTie old temporary shape signal value) (when_numbered place)

abbrev pub when_zoned : Answer → Act
when_zoned answers.Ok = done
when_zoned answers.NoZone = fault faults.NoZone
when_zoned _ = Misfit

-- disables, enables or frees
abbrev pub asks_of_zone : Request → Act
asks_of_zone request = Asks request when_zoned
