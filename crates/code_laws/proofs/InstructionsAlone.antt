-- Doings of instructions that do no part of a program.
use Rattle.std.proofs.Common.{ℕ, Bool, true, false, ℤ, pos, int_lt, not, List, [], ◌∷◌, Option, None, Some, Result, Ok, Err, if◌then◌else◌}
use Rattle.std.specs.Ordering.{int_eq}
use Rattle.joint_clip.specs.Shapes.{made_shape}
use Rattle.joint_clip.specs.declared.shape_fault.ShapeFault.{ShapeFault}
use Rattle.rapid_num.specs.Reach.{is_reachable}
use Rattle.rapid_num.specs.declared.joints.Joints.{Joints}
use Rattle.rapid_num.specs.declared.shape.Shape.{Shape}
use Rattle.rapid_model.specs.declared.answer.Answer.{Answer}
use Rattle.rapid_model.specs.declared.answer.Answer.TheVariants as answers
use Rattle.rapid_model.specs.declared.fate.Fault.TheVariants as faults
use Rattle.rapid_model.specs.declared.request.Request.{Request}
use Rattle.rapid_model.specs.declared.request.Request.TheVariants.{Position, ZoneTie}
use Rattle.rapid_model.specs.declared.value.Value.{Value}
use Rattle.rapid_model.specs.declared.value.Value.TheVariants as values
use Rattle.typed_trees.specs.declared.datum.Datum.TheVariants as datums
use Rattle.typed_trees.specs.declared.datum.Lvalue.{Lvalue}
use Rattle.rapid_model.specs.declared.watched.Watched.{Watched}
use Rattle.rapid_meaning.specs.Doings.{Gives, Asks, done, fault, tells}
use Rattle.rapid_meaning.specs.Interrupts.{asks_of_number, order, when_known, when_ordered}
use Rattle.rapid_meaning.specs.Meetings.{when_arrived}
use Rattle.rapid_meaning.specs.Moves.{aim, cap_of, still, when_located}
use Rattle.rapid_meaning.specs.Signals.{when_written, write_signal}
use Rattle.rapid_meaning.specs.Values.{bit_in, in_range, tool_speed_in}
use Rattle.rapid_meaning.specs.Zones.{asks_of_zone, define, define_home, defined, home_high, home_low, on_axes, position_or_fault, shaped, supervise, tie, when_numbered, when_zoned}
use Rattle.code_laws.proofs.Alone.{ok_alone, store_alone}
use Rattle.code_laws.proofs.Same.{NoPart, no_part_then}

pub tells_alone : (request : Request) → NoPart (tells request)
tells_alone request a = ok_alone a

written_alone : (a : Answer) → NoPart (when_written a)
written_alone answers.Ok = tt
written_alone answers.Tied = tt
written_alone a = tt

pub write_alone : (signal : ℕ) (value : Bool) → NoPart (write_signal signal value)
write_alone signal value a = written_alone a

pub still_alone : NoPart still
still_alone d = either d.trapped
  where
    either : (b : Bool) → NoPart (if b then fault faults.MoveInTrap else done)
    either true = tt
    either false = tt

pub bit_alone : (v : Value) → NoPart (bit_in v)
bit_alone (values.Num n) = either (int_eq n (pos 0)) (int_eq n (pos 1_000))
  where
    either : (a b : Bool) → NoPart (if a then Gives false else if b then Gives true else fault faults.SignalValue)
    either true b = tt
    either false true = tt
    either false false = tt
bit_alone v = tt

pub tool_alone : (v : Value) → NoPart (tool_speed_in v)
tool_alone (values.Speed (tool ∷ others)) = tt
tool_alone (values.Speed []) = tt
tool_alone v = tt

pub range_alone : (n : Option ℤ) → NoPart (in_range n)
range_alone (Some n) = tt
range_alone None = tt

ordered_alone : (a : Answer) → NoPart (when_ordered a)
ordered_alone answers.Ok = tt
ordered_alone answers.Unknown = tt
ordered_alone answers.Already = tt
ordered_alone a = tt

pub order_alone : (number : ℕ) (on : Watched) (single : Bool) → NoPart (order number on single)
order_alone number on single a = ordered_alone a

known_alone : (a : Answer) → NoPart (when_known a)
known_alone answers.Ok = tt
known_alone answers.Unknown = tt
known_alone a = tt

pub number_alone : (request : Request) → NoPart (asks_of_number request)
number_alone request a = known_alone a

zoned_alone : (a : Answer) → NoPart (when_zoned a)
zoned_alone answers.Ok = tt
zoned_alone answers.NoZone = tt
zoned_alone a = tt

pub zone_alone : (request : Request) → NoPart (asks_of_zone request)
zone_alone request a = zoned_alone a

numbered_alone : (p : Lvalue) (a : Answer) → NoPart (when_numbered p a)
numbered_alone p (answers.Number n) = store_alone p (datums.Mark n)
numbered_alone p answers.ZoneUsed = tt
numbered_alone p answers.ZoneFull = tt
numbered_alone p answers.Tied = tt
numbered_alone p a = tt

pub supervise_alone : (p : Lvalue) (old : ℕ) (temporary : Bool) (shape : Shape) → NoPart (supervise p old temporary shape)
supervise_alone p old temporary shape a = numbered_alone p a

pub defined_alone : (shape : Option Shape) → NoPart (defined shape)
defined_alone None = tt
defined_alone (Some shape) = tt

pub tie_alone : (p : Lvalue) (old : ℕ) (temporary : Bool) (held : Option Shape) (signal : ℕ) (value : Bool) → NoPart (tie p old temporary held signal value)
tie_alone p old temporary held signal value =
    no_part_then (defined held) (λ shape. Asks (ZoneTie old temporary shape signal value) (when_numbered p)) (defined_alone held) (λ shape a. numbered_alone p a)

shaped_alone : (p : Lvalue) (r : Result Shape ShapeFault) → NoPart (shaped p r)
shaped_alone p (Ok shape) = store_alone p (datums.Shape (Some shape))
shaped_alone p (Err why) = tt

pub define_alone : (axes : ℕ) (p : Lvalue) (inside : Bool) (low high : Joints) → NoPart (define axes p inside low high)
define_alone axes p inside low high = shaped_alone p (made_shape inside low high axes)

position_alone : (o : Option (List ℤ)) → NoPart (position_or_fault o)
position_alone None = tt
position_alone (Some axes) = tt

pub home_alone : (axes : ℕ) (p : Lvalue) (inside : Bool) (middle delta : Joints) → NoPart (define_home axes p inside middle delta)
home_alone axes p inside middle delta =
    no_part_then (position_or_fault (on_axes home_low middle.axis delta.axis)) _ (position_alone (on_axes home_low middle.axis delta.axis)) (λ low.
    no_part_then (position_or_fault (on_axes home_high middle.axis delta.axis)) _ (position_alone (on_axes home_high middle.axis delta.axis)) (λ high. define_alone axes p inside low high))

located_alone : (axes : ℕ) (target : Joints) (cap : ℕ) (a : Answer) → NoPart (when_located axes target cap a)
located_alone axes target cap (answers.At start) = tt
located_alone axes target cap a = tt

pub aim_alone : (axes : ℕ) (target : Joints) (speed : ℤ) → NoPart (aim axes target speed)
aim_alone axes target speed = either (not (is_reachable axes target)) (not (int_lt (pos 0) speed))
  where
    either : (a b : Bool) → NoPart (if a then fault faults.JointRange else if b then fault faults.Speed else Asks Position (when_located axes target (cap_of speed)))
    either true b = tt
    either false true = tt
    either false false = located_alone axes target (cap_of speed)

pub arrived_alone : (a : Answer) → NoPart (when_arrived a)
arrived_alone answers.Met = tt
arrived_alone answers.Apart = tt
arrived_alone a = tt
