-- Lines of events, worked by hand.
use Rattle.std.proofs.Common.{◌≡◌, ℕ, zero, suc, ◌+◌, get_or, refl, sym, ap, ◌∙◌, List, [], ◌∷◌, ◌++◌, append_assoc, map, None, Some, true, false, not, pos, negsuc, arith}
use Rattle.std.proofs.lemmas.Option.{same_Some}
use Rattle.std.specs.Prelude.{IsTrue, codes, replicate, slice_get, ◌==◌}
use Rattle.std.specs.Fmt.{digits}
use Rattle.std.specs.List.{AllByRecursion, concat}
use Rattle.rapid_num.specs.Absent.{absent}
use Rattle.rapid_num.specs.declared.joints.Joints.{Joints}
use Rattle.rapid_num.specs.declared.shape.Shape.{Shape}
use Rattle.rapid_model.specs.declared.answer.Answer.{Answer}
use Rattle.rapid_model.specs.declared.answer.Answer.TheVariants.{Go, Trap, Val, Yes, Bit, At, Given, Stopped, Number, Tied}
use Rattle.rapid_model.specs.declared.answer.Answer.TheVariants as answers
use Rattle.rapid_model.specs.declared.event.Event.{Event}
use Rattle.rapid_model.specs.declared.fate.Fate.{Fate}
use Rattle.rapid_model.specs.declared.fate.Fate.TheVariants.{Done, Fault}
use Rattle.rapid_model.specs.declared.fate.Fault.TheVariants.{Unhandled}
use Rattle.rapid_model.specs.declared.part_name.PartName.TheVariants as parts
use Rattle.rapid_model.specs.declared.path.Path.{Path}
use Rattle.rapid_model.specs.declared.request.Request.{Request}
use Rattle.rapid_model.specs.declared.request.Request.TheVariants.{Look, ReadP, WriteP, TestSet, WriteS, Position, Setpoint, Connect, Order, ZoneSet, ZoneTie, Arrive, Hold, Rise, Input, Say, End}
use Rattle.rapid_model.specs.declared.sort.Sort.TheVariants as sorts
use Rattle.rapid_model.specs.declared.tail.Tail.TheVariants as tails
use Rattle.rapid_model.specs.declared.task_row.TaskRow.{TaskRow}
use Rattle.rapid_model.specs.declared.value.Value.TheVariants as values
use Rattle.rapid_model.specs.declared.watched.Watched.TheVariants as watched
use Rattle.rapid_model.specs.declared.zone_name.ZoneName.TheVariants as zones
use Rattle.history_text.specs.EventLines.{event_line}
use Rattle.history_text.specs.EventWords.{request_words, answer_words}
use Rattle.history_text.specs.HistoryText.{AreNamed, IsFirstFault, Spells, history_lines, lines_in}
use Rattle.history_text.specs.InRange.{AreNums, IsEvent, IsShape, IsText}
use Rattle.history_text.specs.Named.{NamesData, event_fits}
use Rattle.history_text.specs.NextLine.{HasCome, is_inner}
use Rattle.history_text.specs.Lines.{fate_line}
use Rattle.history_text.proofs.HistoryLines.{event_line_is, fate_line_is}
use Rattle.history_text.proofs.LinesIn.{IsLine}
use Rattle.history_text.proofs.NameBytes.{name_at}
use Rattle.history_text.proofs.NextLines.{fault_at}
use Rattle.std.proofs.lemmas.Bool.{and_parts}

-- two tasks that wait for one bool

names : NamesData
names = record {
  tasks = record { name = codes "A"; arm = None; axes = 0 } ∷ record { name = codes "B"; arm = None; axes = 0 } ∷ [];
  signals = [];
  pers = record { name = codes "busy"; owner = None; sort = sorts.Bool; len = None; first = values.Bool false ∷ [] } ∷ [];
}

busy : Path
busy = record { index = 0; part = parts.Whole }

by : ℕ → Request → Answer → Event
by actor request answer = record { actor = actor; request = request; answer = answer }

events : List Event
events =
    by 0 Look (Go 0) ∷ by 1 Look (Go 0) ∷ by 0 (TestSet 0 busy) (Yes true) ∷ by 1 (TestSet 0 busy) (Yes false) ∷ by 0 Look (Go 0)
    ∷ by 1 (Hold 0) answers.Ok ∷ by 0 (WriteP 0 busy (values.Bool false)) answers.Ok ∷ by 1 Rise answers.Ok ∷ by 0 (End Done) answers.Ok
    ∷ by 1 Look (Go 2) ∷ by 1 (TestSet 0 busy) (Yes true) ∷ by 1 Look (Go 2) ∷ by 1 (WriteP 0 busy (values.Bool false)) answers.Ok
    ∷ by 1 (End Done) answers.Ok ∷ []

fates : List Fate
fates = Done ∷ Done ∷ []

lines : List (List ℕ)
lines =
    codes "H A Look > Go 0\n" ∷ codes "H B Look > Go 0\n" ∷ codes "H A TestSet P0 > TRUE\n" ∷ codes "H B TestSet P0 > FALSE\n"
    ∷ codes "H A Look > Go 0\n" ∷ codes "H B Hold 0 > Ok\n" ∷ codes "H A WriteP P0 FALSE > Ok\n" ∷ codes "H B Rise > Ok\n"
    ∷ codes "H A End Done > Ok\n" ∷ codes "H B Look > Go 2\n" ∷ codes "H B TestSet P0 > TRUE\n" ∷ codes "H B Look > Go 2\n"
    ∷ codes "H B WriteP P0 FALSE > Ok\n" ∷ codes "H B End Done > Ok\n" ∷ codes "E A Done\n" ∷ codes "E B Done\n" ∷ []

printed : history_lines names events fates ≡ lines
unfolding digits names busy by events fates lines
printed = refl

split : lines_in (concat lines) ≡ lines
unfolding lines
split = refl

fitting : map (event_fits names) events ≡ replicate 14 true
unfolding names busy by events
fitting = refl

-- a text with a num as its tail

said : event_line names.tasks (by 0 (Say (codes "x=") (tails.Num (pos 250))) answers.Ok) ≡ codes "H A Say \"x=\" 0.25 > Ok\n"
unfolding digits names by
said = refl

quoted : request_words (Say (codes "a\"b\\") tails.None) ≡ codes "Say \"a\"\"b\\\\\""
quoted = refl

-- the input script

input : event_line names.tasks (by 2 (Input 3) answers.Ok) ≡ codes "H - Input 3 > Ok\n"
unfolding digits names by
input = refl

-- positions of an arm

place : Joints
place = record { axis = pos 2_500 ∷ negsuc 0 ∷ pos 0 ∷ pos 0 ∷ pos 0 ∷ pos 90_000 ∷ absent ∷ absent ∷ absent ∷ absent ∷ absent ∷ absent ∷ [] }

setpoint : request_words (Setpoint place) ≡ codes "Setpoint 2.5 -0.001 0 0 0 90"
unfolding digits place
setpoint = refl

position : event_line names.tasks (by 1 Position (At place)) ≡ codes "H B Position > 2.5 -0.001 0 0 0 90\n"
unfolding digits names by place
position = refl

-- a seventh axis
track : Joints
track = record { axis = pos 0 ∷ pos 0 ∷ pos 0 ∷ pos 0 ∷ pos 0 ∷ pos 0 ∷ pos 1_500 ∷ absent ∷ absent ∷ absent ∷ absent ∷ absent ∷ [] }

seventh : request_words (Setpoint track) ≡ codes "Setpoint 0 0 0 0 0 0 1.5"
unfolding digits track
seventh = refl

stopped : answer_words (Stopped (zones.Cell 0)) ≡ codes "Stopped Cell 0"
unfolding digits
stopped = refl

own : answer_words (Stopped (zones.Own 10)) ≡ codes "Stopped Own 10"
unfolding digits
own = refl

-- persistents and signals

element : request_words (ReadP 12 (record { index = 3; part = parts.Axis 6 })) ≡ codes "ReadP P12{3}.extax.eax_a"
unfolding digits
element = refl

speed : request_words (WriteP 1 (record { index = 0; part = parts.SpeedPart 0 }) (values.Num (pos 100_500))) ≡ codes "WriteP P1.v_tcp 100.5"
unfolding digits
speed = refl

value : answer_words (Val (values.Text (codes "T"))) ≡ codes "\"T\""
value = refl

write : request_words (WriteS 7 true) ≡ codes "WriteS D7 1"
unfolding digits
write = refl

bit : answer_words (Bit false) ≡ codes "0"
bit = refl

-- interrupts, zones and meetings

connect : request_words (Connect 0 4) ≡ codes "Connect 0 4"
unfolding digits
connect = refl

order : request_words (Order 2 (watched.Signal 3 true) true) ≡ codes "Order 2 D3 1 Single"
unfolding digits
order = refl

order_pers : request_words (Order 2 (watched.Pers 2) false) ≡ codes "Order 2 P2"
unfolding digits
order_pers = refl

trap : answer_words (Trap 2 4) ≡ codes "Trap 2 4"
unfolding digits
trap = refl

shape : Shape
shape = record { inside = true; bounds = Some (record { low = negsuc 89_999; high = pos 90_500 }) ∷ None ∷ None ∷ None ∷ None ∷ None ∷ None ∷ None ∷ None ∷ None ∷ None ∷ None ∷ [] }

zone : request_words (ZoneSet 0 true shape) ≡ codes "ZoneSet 0 Temp Inside -90:90.5 - - - - - - - - - - -"
unfolding digits shape
zone = refl

tied : request_words (ZoneTie 1 false shape 3 false) ≡ codes "ZoneTie 1 Stat Inside -90:90.5 - - - - - - - - - - - D3 0"
unfolding digits shape
tied = refl

number : answer_words (Number 64) ≡ codes "Number 64"
unfolding digits
number = refl

meeting : request_words (Arrive 0 3) ≡ codes "Arrive 0 3"
unfolding digits
meeting = refl

fault : request_words (End (Fault (Unhandled 41))) ≡ codes "End Fault Unhandled 41"
unfolding digits
fault = refl

-- a history with each of these: a quote and a backslash in a text, negative nums with decimals, a part of an element, a
-- shape with one bound, an order that ends when the interrupt fires, and a setpoint on a track

worked_names : NamesData
worked_names = record {
  tasks = record { name = codes "A"; arm = Some track; axes = 7 } ∷ [];
  signals = record { name = codes "d"; output = false; start = false } ∷ [];
  pers = record { name = codes "t"; owner = None; sort = sorts.JointTarget; len = Some 3; first = [] } ∷ [];
}

axis_two : Path
axis_two = record { index = 3; part = parts.Axis 1 }

worked_events : List Event
worked_events =
    by 0 (Say (codes "a\"b\\") (tails.Num (negsuc 1_499))) answers.Ok ∷ by 0 (ReadP 0 axis_two) (Val (values.Num (negsuc 499)))
    ∷ by 0 (ZoneSet 0 true shape) (Number 1) ∷ by 0 (Order 1 (watched.Signal 0 true) true) answers.Ok ∷ by 0 (Setpoint track) answers.Given ∷ []

worked_lines : List (List ℕ)
worked_lines =
    codes "H A Say \"a\"\"b\\\\\" -1.5 > Ok\n" ∷ codes "H A ReadP P0{3}.robax.rax_2 > -0.5\n"
    ∷ codes "H A ZoneSet 0 Temp Inside -90:90.5 - - - - - - - - - - - > Number 1\n" ∷ codes "H A Order 1 D0 1 Single > Ok\n" ∷ codes "H A Setpoint 0 0 0 0 0 0 1.5 > Given\n"
    ∷ codes "E A Done\n" ∷ []

worked_range : AllByRecursion (λ e. IsEvent e × IsTrue (event_fits worked_names e)) worked_events
unfolding by axis_two shape track worked_names worked_events
worked_range =
    let text : IsText (codes "a\"b\\") = record { short = omega arith; printable = (refl, (refl, (refl, (refl, tt)))) } in
    let angles : AreNums 12 track.axis = record { count = refl; range = (record { size = omega arith }, (record { size = omega arith }, (record { size = omega arith }, (record { size = omega arith }, (record { size = omega arith }, (record { size = omega arith }, (record { size = omega arith }, (record { size = omega arith }, (record { size = omega arith }, (record { size = omega arith }, (record { size = omega arith }, (record { size = omega arith }, tt)))))))))))) } in
    let limits : IsShape shape = record { count = refl; bounds = ((record { size = omega arith }, record { size = omega arith }), (tt, (tt, (tt, (tt, (tt, (tt, (tt, (tt, (tt, (tt, (tt, tt)))))))))))) } in (
      (record { actor = omega arith; request = (text, record { size = omega arith }); answer = tt }, refl),
      (
        (record { actor = omega arith; request = (omega arith, record { element = omega arith; part = omega arith }); answer = record { size = omega arith } }, refl),
        (
          (record { actor = omega arith; request = (omega arith, limits); answer = omega arith }, refl),
          (
            (record { actor = omega arith; request = (omega arith, omega arith); answer = tt }, refl),
            ((record { actor = omega arith; request = angles; answer = tt }, refl), tt),
          ),
        ),
      ),
    )

worked : Spells worked_names (concat worked_lines) worked_events (Done ∷ [])
unfolding digits by axis_two shape track worked_names worked_events worked_lines
worked = record { history = record { events = worked_range; fates = (tt, tt); few = omega arith }; text = refl }

-- the fourth line without its end is the first that is no line of a history

cut : List ℕ
cut = codes "H B TestSet P0 > FALSE"

front : List Event
front = by 0 Look (Go 0) ∷ by 1 Look (Go 0) ∷ by 0 (TestSet 0 busy) (Yes true) ∷ []

front_lines : List (List ℕ)
front_lines = codes "H A Look > Go 0\n" ∷ codes "H B Look > Go 0\n" ∷ codes "H A TestSet P0 > TRUE\n" ∷ []

-- names that start with A and B
initial : (i : ℕ) (row : TaskRow) → slice_get names.tasks i ≡ Some row → get_or row.name 0 0 ≡ 65 + i
unfolding names
initial zero row at = ap (λ (t : TaskRow). get_or t.name 0 0) (sym (same_Some (record { name = codes "A"; arm = None; axes = 0 }) row at))
initial (suc zero) row at = ap (λ (t : TaskRow). get_or t.name 0 0) (sym (same_Some (record { name = codes "B"; arm = None; axes = 0 }) row at))
initial (suc (suc i)) row at = absurd cc

named : AreNamed names.tasks
unfolding names
named = record {
  form = (refl, (refl, tt));
  apart = λ i j row other at there same. omega (arith, initial i row at, initial j other there, ap (λ name. get_or name 0 0) same);
}

front_range : AllByRecursion (λ e. IsEvent e × IsTrue (event_fits names e)) front
unfolding names busy by front
front_range = (
  (record { actor = omega arith; request = tt; answer = omega arith }, refl),
  (
    (record { actor = omega arith; request = tt; answer = omega arith }, refl),
    ((record { actor = omega arith; request = (omega arith, record { element = omega arith; part = tt }); answer = tt }, refl), tt),
  ),
)

come : HasCome names (concat front_lines ++ cut) cut 3 front []
unfolding digits names busy by front front_lines cut
come = record { history = record { events = front_range; fates = tt; few = omega arith }; lines = refl; count = refl; short = omega arith }

-- no whole line starts a text in which no byte ends one

ends_inside : (xs ys : List ℕ) → is_inner (xs ++ 10 ∷ ys) ≡ true → ⊥
ends_inside [] ys h = absurd cc
ends_inside (x ∷ xs) ys h = ends_inside xs ys (and_parts (not (x == 10)) (is_inner (xs ++ 10 ∷ ys)) h).1

no_line : (text line more : List ℕ) → is_inner text ≡ true → IsLine line → text ≡ line ++ more → ⊥
no_line text line more inner is same = ends_inside is.front more (sym (ap is_inner (same ∙ ap (λ w. w ++ more) is.is ∙ append_assoc is.front (10 ∷ []) more)) ∙ inner)

fourth : IsFirstFault names (concat front_lines ++ cut) 4
unfolding cut
fourth =
    fault_at names (concat front_lines ++ cut) cut 3 front [] come (omega arith)
    (λ first e more begins. no_line cut (event_line names.tasks e) more refl (event_line_is names.tasks e named begins.range) begins.same)
    (λ fate more begins. no_line cut (fate_line begins.row.name fate) more refl (fate_line_is begins.row fate (name_at names.tasks 0 begins.row named.form begins.there) begins.range) begins.same)
