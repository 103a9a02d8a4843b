-- The words of requests and answers in the line of an event, with one space between. Persistents are named P and their
-- number, signals D and theirs. All other numbers are integers, and nums have no unnecessary digits.
use Rattle.std.specs.Prelude.{ℕ, ℤ, Bool, true, false, List, [], ◌∷◌, ◌++◌, flat_map, Option, Some, None, codes, decimal, ◌==◌, if◌then◌else◌}
use Rattle.std.specs.List.{before_first}
use Rattle.rapid_num.specs.Absent.{is_absent}
use Rattle.rapid_num.specs.NumText.{shortest_text}
use Rattle.rapid_num.specs.declared.joints.Joints.{Joints}
use Rattle.rapid_num.specs.declared.shape.Bound.{Bound}
use Rattle.rapid_num.specs.declared.shape.Shape.{Shape}
use Rattle.rapid_model.specs.declared.answer.Answer.{Answer}
use Rattle.rapid_model.specs.declared.answer.Answer.TheVariants as answers
use Rattle.rapid_model.specs.declared.path.Path.{Path}
use Rattle.rapid_model.specs.declared.request.Request.{Request}
use Rattle.rapid_model.specs.declared.request.Request.TheVariants as requests
use Rattle.rapid_model.specs.declared.tail.Tail.{Tail}
use Rattle.rapid_model.specs.declared.tail.Tail.TheVariants as tails
use Rattle.rapid_model.specs.declared.watched.Watched.{Watched}
use Rattle.rapid_model.specs.declared.watched.Watched.TheVariants as watched
use Rattle.rapid_model.specs.declared.zone_name.ZoneName.{ZoneName}
use Rattle.rapid_model.specs.declared.zone_name.ZoneName.TheVariants as zones
use Rattle.value_text.specs.ValueText.{part_text, quoted_text, truth_text, value_text}
use Rattle.history_text.specs.Lines.{fate_words, tail_words}

-- two numbers with a space between
abbrev pub two_words : ℕ → ℕ → List ℕ
two_words first second = decimal first ++ 32 ∷ decimal second

-- a persistent of the cell
abbrev pub pers_words : ℕ → List ℕ
pers_words pers = 80 ∷ decimal pers

-- the element of an array, from 1, in braces; nothing for the whole
abbrev pub element_words : ℕ → List ℕ
element_words index = if index == 0 then [] else 123 ∷ decimal index ++ 125 ∷ []

-- a part of a persistent, as P2{3}.robax.rax_1
abbrev pub path_words : ℕ → Path → List ℕ
path_words pers path = pers_words pers ++ (element_words path.index ++ part_text path.part)

-- a signal of the cell
abbrev pub signal_words : ℕ → List ℕ
signal_words signal = 68 ∷ decimal signal

-- the value of a signal
abbrev pub bit_words : Bool → List ℕ
bit_words true = codes "1"
bit_words false = codes "0"

-- a signal and a value of it
abbrev pub set_words : ℕ → Bool → List ℕ
set_words signal value = signal_words signal ++ 32 ∷ bit_words value

-- what an interrupt is ordered on: a signal and its value, or a persistent
abbrev pub watched_words : Watched → List ℕ
watched_words (watched.Signal signal value) = set_words signal value
watched_words (watched.Pers pers) = pers_words pers

-- an order that ends when the interrupt fires
abbrev pub single_words : Bool → List ℕ
single_words true = codes " Single"
single_words false = []

-- nums with spaces between
abbrev pub nums_words : List ℤ → List ℕ
nums_words [] = []
nums_words (z ∷ zs) = shortest_text z ++ flat_map (λ y. 32 ∷ shortest_text y) zs

-- the axes of a position: those before the first one that is not given
abbrev pub given_axes : Joints → List ℤ
given_axes place = before_first is_absent place.axis

abbrev pub axes_words : Joints → List ℕ
axes_words place = nums_words (given_axes place)

-- the bounds of an axis, or - if it has none
abbrev pub bound_words : Option Bound → List ℕ
bound_words None = codes "-"
bound_words (Some bound) = shortest_text bound.low ++ 58 ∷ shortest_text bound.high

abbrev pub side_words : Bool → List ℕ
side_words true = codes "Inside"
side_words false = codes "Outside"

-- the side, and then twelve axes, each after a space
abbrev pub shape_words : Shape → List ℕ
shape_words shape = side_words shape.inside ++ flat_map (λ b. 32 ∷ bound_words b) shape.bounds

-- a temporary zone, or a stationary one
abbrev pub kind_words : Bool → List ℕ
kind_words true = codes "Temp"
kind_words false = codes "Stat"

-- a zone to be made: the zone that the variable names, the kind, and the shape
abbrev pub zone_words : ℕ → Bool → Shape → List ℕ
zone_words old temporary shape = decimal old ++ (32 ∷ kind_words temporary ++ 32 ∷ shape_words shape)

-- the tail of a text to the operator, after a space
abbrev pub said_words : Tail → List ℕ
said_words tails.None = []
said_words tail = 32 ∷ tail_words tail

abbrev pub request_words : Request → List ℕ
request_words requests.Look = codes "Look"
request_words (requests.ReadP pers path) = codes "ReadP " ++ path_words pers path
request_words (requests.WriteP pers path value) = codes "WriteP " ++ (path_words pers path ++ 32 ∷ value_text value)
request_words (requests.TestSet pers path) = codes "TestSet " ++ path_words pers path
request_words (requests.ReadS signal) = codes "ReadS " ++ signal_words signal
request_words (requests.WriteS signal value) = codes "WriteS " ++ set_words signal value
request_words requests.Position = codes "Position"
request_words (requests.Setpoint to) = codes "Setpoint " ++ axes_words to
request_words (requests.Connect old trap) = codes "Connect " ++ two_words old trap
request_words (requests.Order number on single) = codes "Order " ++ (decimal number ++ (32 ∷ watched_words on ++ single_words single))
request_words (requests.Sleep number) = codes "Sleep " ++ decimal number
request_words (requests.Watch number) = codes "Watch " ++ decimal number
request_words (requests.Delete number) = codes "Delete " ++ decimal number
request_words requests.Disable = codes "Disable"
request_words requests.Enable = codes "Enable"
request_words requests.Leave = codes "Leave"
request_words (requests.ZoneSet old temporary shape) = codes "ZoneSet " ++ zone_words old temporary shape
request_words (requests.ZoneTie old temporary shape signal value) = codes "ZoneTie " ++ (zone_words old temporary shape ++ 32 ∷ set_words signal value)
request_words (requests.ZoneOn zone) = codes "ZoneOn " ++ decimal zone
request_words (requests.ZoneOff zone) = codes "ZoneOff " ++ decimal zone
request_words (requests.ZoneFree zone) = codes "ZoneFree " ++ decimal zone
request_words (requests.Arrive meeting tasks) = codes "Arrive " ++ two_words meeting tasks
request_words (requests.Hold seen) = codes "Hold " ++ decimal seen
request_words requests.Rise = codes "Rise"
request_words (requests.Input index) = codes "Input " ++ decimal index
request_words (requests.Say text tail) = codes "Say " ++ (quoted_text text ++ said_words tail)
request_words (requests.End fate) = codes "End " ++ fate_words fate

-- a zone of the task's own, from 1, or of the cell's, from 0
abbrev pub zone_name_words : ZoneName → List ℕ
zone_name_words (zones.Own number) = codes "Own " ++ decimal number
zone_name_words (zones.Cell number) = codes "Cell " ++ decimal number

abbrev pub answer_words : Answer → List ℕ
answer_words answers.Ok = codes "Ok"
answer_words (answers.Go seen) = codes "Go " ++ decimal seen
answer_words (answers.Trap number trap) = codes "Trap " ++ two_words number trap
answer_words answers.Flood = codes "Flood"
answer_words (answers.Val value) = value_text value
answer_words (answers.Yes met) = truth_text met
answer_words (answers.Bit bit) = bit_words bit
answer_words (answers.At place) = axes_words place
answer_words answers.Given = codes "Given"
answer_words (answers.Stopped zone) = codes "Stopped " ++ zone_name_words zone
answer_words (answers.Number number) = codes "Number " ++ decimal number
answer_words answers.Already = codes "Already"
answer_words answers.Unknown = codes "Unknown"
answer_words answers.NoMore = codes "NoMore"
answer_words answers.ZoneUsed = codes "ZoneUsed"
answer_words answers.ZoneFull = codes "ZoneFull"
answer_words answers.NoZone = codes "NoZone"
answer_words answers.Tied = codes "Tied"
answer_words answers.Met = codes "Met"
answer_words answers.Apart = codes "Apart"
