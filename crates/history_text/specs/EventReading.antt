-- Reading requests, answers and lines. These definitions are internal to proofs.
use Rattle.std.specs.Prelude.{ℕ, ◌^◌, Bool, true, false, nat_lt, if◌then◌else◌, List, [], ◌∷◌, length, take, drop, codes, Option, Some, None, position, ◌==◌}
use Rattle.std.specs.Str.{bytes_eq}
use Rattle.rapid_num.specs.declared.shape.Shape.{Shape}
use Rattle.rapid_model.specs.Paths.{part_sort}
use Rattle.rapid_model.specs.declared.answer.Answer.{Answer}
use Rattle.rapid_model.specs.declared.answer.Answer.TheVariants as answers
use Rattle.rapid_model.specs.declared.event.Event.{Event}
use Rattle.rapid_model.specs.declared.fate.Fate.{Fate}
use Rattle.rapid_model.specs.declared.fate.Fate.TheVariants as fates
use Rattle.rapid_model.specs.declared.fate.Fault.{Fault}
use Rattle.rapid_model.specs.declared.fate.Fault.TheVariants as faults
use Rattle.rapid_model.specs.declared.path.Path.{Path}
use Rattle.rapid_model.specs.declared.request.Request.{Request}
use Rattle.rapid_model.specs.declared.request.Request.TheVariants as requests
use Rattle.rapid_model.specs.declared.sort.Sort.{Sort}
use Rattle.rapid_model.specs.declared.tail.Tail.{Tail}
use Rattle.rapid_model.specs.declared.tail.Tail.TheVariants as tails
use Rattle.rapid_model.specs.declared.task_row.TaskRow.{TaskRow}
use Rattle.rapid_model.specs.declared.value.Value.{Value}
use Rattle.rapid_model.specs.declared.watched.Watched.{Watched}
use Rattle.rapid_model.specs.declared.watched.Watched.TheVariants as watched
use Rattle.rapid_model.specs.declared.zone_name.ZoneName.{ZoneName}
use Rattle.rapid_model.specs.declared.zone_name.ZoneName.TheVariants as zones
use Rattle.history_text.specs.Lines.{fault_name}
use Rattle.history_text.specs.Named.{NamesData, pers_sort}
use Rattle.history_text.specs.Reading.{◌>>=◌, after_word, next_num, or_else, place_of, quoted_at, truth_at, whole_at}
use Rattle.history_text.specs.ValueReading.{path_at, place_at, shape_at, value_at}

abbrev pub u8_at : List ℕ → Option (ℕ × List ℕ)
u8_at text = whole_at (2 ^ 8) text

abbrev pub u16_at : List ℕ → Option (ℕ × List ℕ)
u16_at text = whole_at (2 ^ 16) text

abbrev pub u32_at : List ℕ → Option (ℕ × List ℕ)
u32_at text = whole_at (2 ^ 32) text

unfoldable pub signal_at : List ℕ → Option (ℕ × List ℕ)
signal_at text = after_word (codes "D") text >>= (λ digits. u32_at digits)

unfoldable pub bit_at : List ℕ → Option (Bool × List ℕ)
bit_at text = or_else (after_word (codes "1") text) (λ rest. Some (true, rest)) (after_word (codes "0") text >>= (λ rest. Some (false, rest)))

-- a signal and a value of it
unfoldable pub set_at : List ℕ → Option ((ℕ × Bool) × List ℕ)
set_at text = do
  signal ← signal_at text
  next ← after_word (codes " ") signal.1
  value ← bit_at next
  Some ((signal.0, value.0), value.1)

unfoldable pub watched_at : List ℕ → Option (Watched × List ℕ)
watched_at text =
    or_else (after_word (codes "P") text) (λ digits. u32_at digits >>= (λ n. Some (watched.Pers n.0, n.1)))
    (set_at text >>= (λ s. Some (watched.Signal s.0.0 s.0.1, s.1)))

unfoldable pub single_at : List ℕ → Option (Bool × List ℕ)
single_at text = or_else (after_word (codes " Single") text) (λ rest. Some (true, rest)) (Some (false, text))

unfoldable pub kind_at : List ℕ → Option (Bool × List ℕ)
kind_at text = or_else (after_word (codes "Temp") text) (λ rest. Some (true, rest)) (after_word (codes "Stat") text >>= (λ rest. Some (false, rest)))

-- a zone to be made
unfoldable pub zone_at : List ℕ → Option ((ℕ × Bool × Shape) × List ℕ)
zone_at text = do
  old ← u8_at text
  second ← after_word (codes " ") old.1
  kind ← kind_at second
  third ← after_word (codes " ") kind.1
  shape ← shape_at third
  Some ((old.0, kind.0, shape.0), shape.1)

-- the tail of a text to the operator
unfoldable pub tail_at : List ℕ → Option (Tail × List ℕ)
tail_at text =
    or_else (next_num 32 text) (λ n. Some (tails.Num n.0, n.1))
    (or_else (after_word (codes " TRUE") text) (λ rest. Some (tails.Bool true, rest))
    (or_else (after_word (codes " FALSE") text) (λ rest. Some (tails.Bool false, rest)) (Some (tails.None, text))))

-- the faults without a number
abbrev pub plain_faults : List Fault
plain_faults =
    faults.NumRange ∷ faults.IndexRange ∷ faults.DepthLimit ∷ faults.NoReturn ∷ faults.RaiseRange ∷ faults.SignalValue ∷ faults.TaskName
    ∷ faults.MoveInTrap ∷ faults.JointRange ∷ faults.Speed ∷ faults.ZoneStop ∷ faults.ZoneShape ∷ faults.ZoneFull ∷ faults.ZoneUsed
    ∷ faults.NoZone ∷ faults.ExtAxis ∷ faults.TrapFlood ∷ faults.TiedOutput ∷ []

-- the first fault of a list whose name starts a text
unfoldable pub named_at : List Fault → List ℕ → Option (Fault × List ℕ)
named_at [] text = None
named_at (fault ∷ more) text = or_else (after_word (fault_name fault) text) (λ rest. Some (fault, rest)) (named_at more text)

unfoldable pub unhandled_at : List ℕ → Option (Fault × List ℕ)
unhandled_at text = after_word (codes "Unhandled ") text >>= (λ digits. u8_at digits >>= (λ n. Some (faults.Unhandled n.0, n.1)))

unfoldable pub fault_at : List ℕ → Option (Fault × List ℕ)
fault_at text = or_else (named_at plain_faults text) (λ f. Some f) (unhandled_at text)

unfoldable pub fate_at : List ℕ → Option (Fate × List ℕ)
fate_at text =
    or_else (after_word (codes "Done") text) (λ rest. Some (fates.Done, rest))
    (or_else (after_word (codes "Exit") text) (λ rest. Some (fates.Exit, rest))
    (or_else (after_word (codes "Held") text) (λ rest. Some (fates.Held, rest))
    (or_else (after_word (codes "Cut") text) (λ rest. Some (fates.Cut, rest))
    (after_word (codes "Fault ") text >>= (λ name. fault_at name >>= (λ f. Some (fates.Fault f.0, f.1)))))))

-- the type of a part of a persistent
abbrev pub path_sort : NamesData → ℕ → Path → Option Sort
path_sort names pers path = pers_sort names pers >>= (λ sort. part_sort sort path.part)

-- a value of the type of a part of a persistent
unfoldable pub part_value_at : NamesData → ℕ → Path → List ℕ → Option (Value × List ℕ)
part_value_at names pers path text = path_sort names pers path >>= (λ sort. value_at sort text)

-- two numbers with a space between
unfoldable pub connect_at : List ℕ → Option (Request × List ℕ)
connect_at text = do
  old ← u8_at text
  next ← after_word (codes " ") old.1
  trap ← u32_at next
  Some (requests.Connect old.0 trap.0, trap.1)

unfoldable pub arrive_at : List ℕ → Option (Request × List ℕ)
arrive_at text = do
  meeting ← u32_at text
  next ← after_word (codes " ") meeting.1
  tasks ← u16_at next
  Some (requests.Arrive meeting.0 tasks.0, tasks.1)

unfoldable pub order_at : List ℕ → Option (Request × List ℕ)
order_at text = do
  number ← u8_at text
  next ← after_word (codes " ") number.1
  on ← watched_at next
  single ← single_at on.1
  Some (requests.Order number.0 on.0 single.0, single.1)

unfoldable pub set_zone_at : List ℕ → Option (Request × List ℕ)
set_zone_at text = zone_at text >>= (λ z. Some (requests.ZoneSet z.0.0 z.0.1 z.0.2, z.1))

unfoldable pub tie_at : List ℕ → Option (Request × List ℕ)
tie_at text = do
  zone ← zone_at text
  next ← after_word (codes " ") zone.1
  set ← set_at next
  Some (requests.ZoneTie zone.0.0 zone.0.1 zone.0.2 set.0.0 set.0.1, set.1)

unfoldable pub written_at : NamesData → List ℕ → Option (Request × List ℕ)
written_at names text = do
  path ← path_at text
  next ← after_word (codes " ") path.1
  value ← part_value_at names path.0.0 path.0.1 next
  Some (requests.WriteP path.0.0 path.0.1 value.0, value.1)

unfoldable pub said_at : List ℕ → Option (Request × List ℕ)
said_at text = do
  words ← quoted_at text
  tail ← tail_at words.1
  Some (requests.Say words.0 tail.0, tail.1)

-- requests about zones and meetings
unfoldable pub zone_request_at : List ℕ → Option (Request × List ℕ)
zone_request_at text =
    or_else (after_word (codes "ZoneSet ") text) (λ t. set_zone_at t)
    (or_else (after_word (codes "ZoneTie ") text) (λ t. tie_at t)
    (or_else (after_word (codes "ZoneOn ") text) (λ t. u8_at t >>= (λ n. Some (requests.ZoneOn n.0, n.1)))
    (or_else (after_word (codes "ZoneOff ") text) (λ t. u8_at t >>= (λ n. Some (requests.ZoneOff n.0, n.1)))
    (or_else (after_word (codes "ZoneFree ") text) (λ t. u8_at t >>= (λ n. Some (requests.ZoneFree n.0, n.1)))
    (after_word (codes "Arrive ") text >>= (λ t. arrive_at t))))))

-- those about interrupts, zones or meetings
unfoldable pub interrupt_request_at : List ℕ → Option (Request × List ℕ)
interrupt_request_at text =
    or_else (after_word (codes "Connect ") text) (λ t. connect_at t)
    (or_else (after_word (codes "Order ") text) (λ t. order_at t)
    (or_else (after_word (codes "Sleep ") text) (λ t. u8_at t >>= (λ n. Some (requests.Sleep n.0, n.1)))
    (or_else (after_word (codes "Watch ") text) (λ t. u8_at t >>= (λ n. Some (requests.Watch n.0, n.1)))
    (or_else (after_word (codes "Delete ") text) (λ t. u8_at t >>= (λ n. Some (requests.Delete n.0, n.1)))
    (or_else (after_word (codes "Disable") text) (λ rest. Some (requests.Disable, rest))
    (or_else (after_word (codes "Enable") text) (λ rest. Some (requests.Enable, rest))
    (or_else (after_word (codes "Leave") text) (λ rest. Some (requests.Leave, rest)) (zone_request_at text))))))))

-- those about moves, waits and ends, or one of the others above
unfoldable pub course_request_at : List ℕ → Option (Request × List ℕ)
course_request_at text =
    or_else (after_word (codes "Position") text) (λ rest. Some (requests.Position, rest))
    (or_else (after_word (codes "Setpoint ") text) (λ t. place_at t >>= (λ p. Some (requests.Setpoint p.0, p.1)))
    (or_else (after_word (codes "Hold ") text) (λ t. u32_at t >>= (λ n. Some (requests.Hold n.0, n.1)))
    (or_else (after_word (codes "Rise") text) (λ rest. Some (requests.Rise, rest))
    (or_else (after_word (codes "Input ") text) (λ t. u32_at t >>= (λ n. Some (requests.Input n.0, n.1)))
    (or_else (after_word (codes "Say ") text) (λ t. said_at t)
    (or_else (after_word (codes "End ") text) (λ t. fate_at t >>= (λ f. Some (requests.End f.0, f.1))) (interrupt_request_at text)))))))

unfoldable pub request_at : NamesData → List ℕ → Option (Request × List ℕ)
request_at names text =
    or_else (after_word (codes "Look") text) (λ rest. Some (requests.Look, rest))
    (or_else (after_word (codes "ReadP ") text) (λ t. path_at t >>= (λ p. Some (requests.ReadP p.0.0 p.0.1, p.1)))
    (or_else (after_word (codes "WriteP ") text) (λ t. written_at names t)
    (or_else (after_word (codes "TestSet ") text) (λ t. path_at t >>= (λ p. Some (requests.TestSet p.0.0 p.0.1, p.1)))
    (or_else (after_word (codes "ReadS ") text) (λ t. signal_at t >>= (λ s. Some (requests.ReadS s.0, s.1)))
    (or_else (after_word (codes "WriteS ") text) (λ t. set_at t >>= (λ s. Some (requests.WriteS s.0.0 s.0.1, s.1))) (course_request_at text))))))

unfoldable pub zone_name_at : List ℕ → Option (ZoneName × List ℕ)
zone_name_at text =
    or_else (after_word (codes "Own ") text) (λ t. u8_at t >>= (λ n. Some (zones.Own n.0, n.1)))
    (after_word (codes "Cell ") text >>= (λ t. u8_at t >>= (λ n. Some (zones.Cell n.0, n.1))))

unfoldable pub trap_at : List ℕ → Option (Answer × List ℕ)
trap_at text = do
  number ← u8_at text
  next ← after_word (codes " ") number.1
  trap ← u32_at next
  Some (answers.Trap number.0 trap.0, trap.1)

unfoldable pub zone_answer_at : List ℕ → Option (Answer × List ℕ)
zone_answer_at text =
    or_else (after_word (codes "ZoneUsed") text) (λ rest. Some (answers.ZoneUsed, rest))
    (or_else (after_word (codes "ZoneFull") text) (λ rest. Some (answers.ZoneFull, rest))
    (or_else (after_word (codes "NoZone") text) (λ rest. Some (answers.NoZone, rest))
    (or_else (after_word (codes "Tied") text) (λ rest. Some (answers.Tied, rest))
    (or_else (after_word (codes "Met") text) (λ rest. Some (answers.Met, rest))
    (after_word (codes "Apart") text >>= (λ rest. Some (answers.Apart, rest)))))))

unfoldable pub interrupt_answer_at : List ℕ → Option (Answer × List ℕ)
interrupt_answer_at text =
    or_else (after_word (codes "Trap ") text) (λ t. trap_at t)
    (or_else (after_word (codes "Flood") text) (λ rest. Some (answers.Flood, rest))
    (or_else (after_word (codes "Number ") text) (λ t. u8_at t >>= (λ n. Some (answers.Number n.0, n.1)))
    (or_else (after_word (codes "Already") text) (λ rest. Some (answers.Already, rest))
    (or_else (after_word (codes "Unknown") text) (λ rest. Some (answers.Unknown, rest))
    (or_else (after_word (codes "NoMore") text) (λ rest. Some (answers.NoMore, rest)) (zone_answer_at text))))))

-- an answer that its words alone identify
unfoldable pub plain_answer_at : List ℕ → Option (Answer × List ℕ)
plain_answer_at text =
    or_else (after_word (codes "Ok") text) (λ rest. Some (answers.Ok, rest))
    (or_else (after_word (codes "Go ") text) (λ t. u32_at t >>= (λ n. Some (answers.Go n.0, n.1)))
    (or_else (after_word (codes "Given") text) (λ rest. Some (answers.Given, rest))
    (or_else (after_word (codes "Stopped ") text) (λ t. zone_name_at t >>= (λ z. Some (answers.Stopped z.0, z.1))) (interrupt_answer_at text))))

-- the answer to a request
unfoldable pub answer_at : NamesData → Request → List ℕ → Option (Answer × List ℕ)
answer_at names (requests.ReadP pers path) text = part_value_at names pers path text >>= (λ v. Some (answers.Val v.0, v.1))
answer_at names (requests.TestSet pers path) text = truth_at text >>= (λ b. Some (answers.Yes b.0, b.1))
answer_at names (requests.ReadS signal) text = bit_at text >>= (λ b. Some (answers.Bit b.0, b.1))
answer_at names requests.Position text = place_at text >>= (λ p. Some (answers.At p.0, p.1))
answer_at names _ text = plain_answer_at text

-- the number of a task that has this name
abbrev pub task_named : List TaskRow → List ℕ → Option ℕ
task_named tasks name = position (λ row. bytes_eq name row.name) tasks

-- a number of 32 bits
abbrev pub within_u32 : ℕ → Option ℕ
within_u32 n = if nat_lt n (2 ^ 32) then Some n else None

-- the number of an actor: - is the input script, whose number follows those of the tasks
unfoldable pub actor_of : List TaskRow → List ℕ → Option ℕ
actor_of tasks name = if bytes_eq name (codes "-") then within_u32 (length tasks) else task_named tasks name >>= within_u32

abbrev pub is_space : ℕ → Bool
is_space b = b == 32

-- an actor, up to a space
unfoldable pub actor_at : List TaskRow → List ℕ → Option (ℕ × List ℕ)
actor_at tasks text = do
  actor ← actor_of tasks (take (place_of is_space text) text)
  Some (actor, drop (place_of is_space text) text)

-- an event by its line
unfoldable pub event_at : NamesData → List ℕ → Option Event
event_at names line = do
  first ← after_word (codes "H ") line
  actor ← actor_at names.tasks first
  second ← after_word (codes " ") actor.1
  request ← request_at names second
  third ← after_word (codes " > ") request.1
  answer ← answer_at names request.0 third
  Some (record { actor = actor.0; request = request.0; answer = answer.0 })

-- a fate by the line of a task of this name
unfoldable pub fate_line_at : List ℕ → List ℕ → Option Fate
fate_line_at name line = do
  first ← after_word (codes "E ") line
  second ← after_word name first
  third ← after_word (codes " ") second
  fate ← fate_at third
  Some fate.0
