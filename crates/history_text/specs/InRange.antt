-- What the types of an event keep beyond its numbers and lists: each number has its type's bits, nums are in range,
-- texts are short and printable, and lists have their type's length. So it holds of every event that a program has.
use Rattle.std.specs.Prelude.{◌≡◌, ℕ, ℤ, ◌≤◌, ◌<◌, ◌^◌, List, length, Option, Some, None}
use Rattle.std.specs.List.{AllByRecursion}
use Rattle.rapid_limits.specs.declared.TheConstants.{LONGEST_STRING, MOST_AXES, ROBOT_AXES}
use Rattle.rapid_num.specs.Range.{IsNum}
use Rattle.rapid_num.specs.declared.shape.Bound.{Bound}
use Rattle.rapid_num.specs.declared.shape.Shape.{Shape}
use Rattle.rapid_model.specs.Printable.{ArePrintable}
use Rattle.rapid_model.specs.declared.answer.Answer.{Answer}
use Rattle.rapid_model.specs.declared.answer.Answer.TheVariants as answers
use Rattle.rapid_model.specs.declared.event.Event.{Event}
use Rattle.rapid_model.specs.declared.fate.Fate.{Fate}
use Rattle.rapid_model.specs.declared.fate.Fate.TheVariants as fates
use Rattle.rapid_model.specs.declared.fate.Fault.{Fault}
use Rattle.rapid_model.specs.declared.fate.Fault.TheVariants as faults
use Rattle.rapid_model.specs.declared.part_name.PartName.{PartName}
use Rattle.rapid_model.specs.declared.part_name.PartName.TheVariants as parts
use Rattle.rapid_model.specs.declared.path.Path.{Path}
use Rattle.rapid_model.specs.declared.request.Request.{Request}
use Rattle.rapid_model.specs.declared.request.Request.TheVariants as requests
use Rattle.rapid_model.specs.declared.tail.Tail.{Tail}
use Rattle.rapid_model.specs.declared.tail.Tail.TheVariants as tails
use Rattle.rapid_model.specs.declared.value.Value.{Value}
use Rattle.rapid_model.specs.declared.value.Value.TheVariants as values
use Rattle.rapid_model.specs.declared.watched.Watched.{Watched}
use Rattle.rapid_model.specs.declared.watched.Watched.TheVariants as watched
use Rattle.rapid_model.specs.declared.zone_name.ZoneName.{ZoneName}
use Rattle.rapid_model.specs.declared.zone_name.ZoneName.TheVariants as zones

abbrev pub IsU8 : ℕ → Type 0
IsU8 n = n < 2 ^ 8

abbrev pub IsU16 : ℕ → Type 0
IsU16 n = n < 2 ^ 16

abbrev pub IsU32 : ℕ → Type 0
IsU32 n = n < 2 ^ 32

pub record IsText (bytes : List ℕ) : Type 0 where
  pub short : length bytes ≤ LONGEST_STRING
  pub printable : ArePrintable bytes

-- this many nums
pub record AreNums (size : ℕ) (nums : List ℤ) : Type 0 where
  pub count : length nums ≡ size
  pub range : AllByRecursion IsNum nums

abbrev pub IsValue : Value → Type 0
IsValue (values.Num n) = IsNum n
IsValue (values.Bool b) = Unit {0}
IsValue (values.Text text) = IsText text
IsValue (values.Rob axes) = AreNums ROBOT_AXES axes
IsValue (values.Ext axes) = AreNums ROBOT_AXES axes
IsValue (values.Target joints) = AreNums MOST_AXES joints.axis
IsValue (values.Speed nums) = AreNums 4 nums

abbrev pub IsPartName : PartName → Type 0
IsPartName (parts.Axis number) = IsU8 number
IsPartName (parts.SpeedPart number) = IsU8 number
IsPartName _ = Unit {0}

pub record IsPath (path : Path) : Type 0 where
  pub element : IsU16 path.index
  pub part : IsPartName path.part

abbrev pub IsBound : Option Bound → Type 0
IsBound None = Unit {0}
IsBound (Some bound) = IsNum bound.low × IsNum bound.high

pub record IsShape (shape : Shape) : Type 0 where
  pub count : length shape.bounds ≡ MOST_AXES
  pub bounds : AllByRecursion IsBound shape.bounds

abbrev pub IsWatched : Watched → Type 0
IsWatched (watched.Signal signal value) = IsU32 signal
IsWatched (watched.Pers pers) = IsU32 pers

abbrev pub IsTail : Tail → Type 0
IsTail (tails.Num n) = IsNum n
IsTail _ = Unit {0}

abbrev pub IsFault : Fault → Type 0
IsFault (faults.Unhandled number) = IsU8 number
IsFault _ = Unit {0}

abbrev pub IsFate : Fate → Type 0
IsFate (fates.Fault fault) = IsFault fault
IsFate _ = Unit {0}

abbrev pub IsZoneName : ZoneName → Type 0
IsZoneName (zones.Own number) = IsU8 number
IsZoneName (zones.Cell number) = IsU8 number

abbrev pub IsRequest : Request → Type 0
IsRequest (requests.ReadP pers path) = IsU32 pers × IsPath path
IsRequest (requests.WriteP pers path value) = IsU32 pers × IsPath path × IsValue value
IsRequest (requests.TestSet pers path) = IsU32 pers × IsPath path
IsRequest (requests.ReadS signal) = IsU32 signal
IsRequest (requests.WriteS signal value) = IsU32 signal
IsRequest (requests.Setpoint to) = AreNums MOST_AXES to.axis
IsRequest (requests.Connect old trap) = IsU8 old × IsU32 trap
IsRequest (requests.Order number on single) = IsU8 number × IsWatched on
IsRequest (requests.Sleep number) = IsU8 number
IsRequest (requests.Watch number) = IsU8 number
IsRequest (requests.Delete number) = IsU8 number
IsRequest (requests.ZoneSet old temporary shape) = IsU8 old × IsShape shape
IsRequest (requests.ZoneTie old temporary shape signal value) = IsU8 old × IsShape shape × IsU32 signal
IsRequest (requests.ZoneOn zone) = IsU8 zone
IsRequest (requests.ZoneOff zone) = IsU8 zone
IsRequest (requests.ZoneFree zone) = IsU8 zone
IsRequest (requests.Arrive meeting tasks) = IsU32 meeting × IsU16 tasks
IsRequest (requests.Hold seen) = IsU32 seen
IsRequest (requests.Input index) = IsU32 index
IsRequest (requests.Say text tail) = IsText text × IsTail tail
IsRequest (requests.End fate) = IsFate fate
IsRequest _ = Unit {0}

abbrev pub IsAnswer : Answer → Type 0
IsAnswer (answers.Go seen) = IsU32 seen
IsAnswer (answers.Trap number trap) = IsU8 number × IsU32 trap
IsAnswer (answers.Val value) = IsValue value
IsAnswer (answers.At place) = AreNums MOST_AXES place.axis
IsAnswer (answers.Stopped zone) = IsZoneName zone
IsAnswer (answers.Number number) = IsU8 number
IsAnswer _ = Unit {0}

pub record IsEvent (e : Event) : Type 0 where
  pub actor : IsU32 e.actor
  pub request : IsRequest e.request
  pub answer : IsAnswer e.answer
