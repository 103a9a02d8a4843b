-- The lines that are printed of a run. Each ends with 0A.
use Rattle.std.specs.Prelude.{ℕ, ℤ, List, [], ◌∷◌, ◌++◌, map, Option, Some, None, codes, decimal, take, slice_get, unwrap_or}
use Rattle.std.specs.List.{concat}
use Rattle.std.specs.Option.{option_map}
use Rattle.rapid_num.specs.NumText.{fixed_text, shortest_text}
use Rattle.rapid_num.specs.declared.joints.Joints.{Joints}
use Rattle.rapid_model.specs.CellData.{CellData}
use Rattle.rapid_model.specs.declared.answer.Answer.{Answer}
use Rattle.rapid_model.specs.declared.answer.Answer.TheVariants as answers
use Rattle.rapid_model.specs.declared.event.Event.{Event}
use Rattle.rapid_model.specs.declared.fate.Fate.{Fate}
use Rattle.rapid_model.specs.declared.fate.Fate.TheVariants as fates
use Rattle.rapid_model.specs.declared.fate.Fault.{Fault}
use Rattle.rapid_model.specs.declared.fate.Fault.TheVariants as faults
use Rattle.rapid_model.specs.declared.request.Request.{Request}
use Rattle.rapid_model.specs.declared.request.Request.TheVariants.{Setpoint, Say}
use Rattle.rapid_model.specs.declared.tail.Tail.{Tail}
use Rattle.rapid_model.specs.declared.tail.Tail.TheVariants as tails
use Rattle.rapid_model.specs.declared.task_row.TaskRow.{TaskRow}
use Rattle.value_text.specs.ValueText.{truth_text}

-- numbers with three decimals, each after a space
abbrev pub number_words : List ℤ → List ℕ
number_words [] = []
number_words (z ∷ zs) = 32 ∷ fixed_text z ++ number_words zs

-- the name of a task
abbrev pub task_name : List TaskRow → ℕ → List ℕ
task_name tasks actor = named (slice_get tasks actor)
  where
    named : Option TaskRow → List ℕ
    named (Some row) = row.name
    named None = []

-- the number of axes of a task's arm, 0 without an arm
abbrev pub task_axes : List TaskRow → ℕ → ℕ
task_axes tasks actor = unwrap_or (option_map (λ row. row.axes) (slice_get tasks actor)) 0

-- a setpoint that was given: S, the task, and the axes of its arm, this many, in degrees
abbrev pub setpoint_line : List ℕ → ℕ → Joints → List ℕ
setpoint_line name axes to = codes "S " ++ (name ++ (number_words (take axes to.axis) ++ codes "\n"))

-- the tail of a text to the operator: a num without unnecessary digits, or a truth value
abbrev pub tail_words : Tail → List ℕ
tail_words tails.None = []
tail_words (tails.Num n) = shortest_text n
tail_words (tails.Bool b) = truth_text b

-- a text to the operator: T, the task, the text, and its tail right after it
abbrev pub text_line : List ℕ → List ℕ → Tail → List ℕ
text_line name text tail = codes "T " ++ (name ++ (32 ∷ text ++ (tail_words tail ++ codes "\n")))

-- the line of an event of a task with this name and number of axes, or nothing
abbrev pub line_between : List ℕ → ℕ → Request → Answer → List ℕ
line_between name axes (Setpoint to) answers.Given = setpoint_line name axes to
line_between name axes (Say text tail) answers.Ok = text_line name text tail
line_between name axes _ _ = []

abbrev pub line_of : List TaskRow → Event → List ℕ
line_of tasks e = line_between (task_name tasks e.actor) (task_axes tasks e.actor) e.request e.answer

abbrev pub fault_name : Fault → List ℕ
fault_name faults.NumRange = codes "NumRange"
fault_name faults.IndexRange = codes "IndexRange"
fault_name faults.DepthLimit = codes "DepthLimit"
fault_name faults.NoReturn = codes "NoReturn"
fault_name faults.RaiseRange = codes "RaiseRange"
fault_name faults.SignalValue = codes "SignalValue"
fault_name faults.TaskName = codes "TaskName"
fault_name faults.MoveInTrap = codes "MoveInTrap"
fault_name faults.JointRange = codes "JointRange"
fault_name faults.Speed = codes "Speed"
fault_name faults.ZoneStop = codes "ZoneStop"
fault_name faults.ZoneShape = codes "ZoneShape"
fault_name faults.ZoneFull = codes "ZoneFull"
fault_name faults.ZoneUsed = codes "ZoneUsed"
fault_name faults.NoZone = codes "NoZone"
fault_name faults.ExtAxis = codes "ExtAxis"
fault_name faults.TrapFlood = codes "TrapFlood"
fault_name faults.TiedOutput = codes "TiedOutput"
fault_name (faults.Unhandled number) = codes "Unhandled"

-- a fault by its name, and an unhandled error also by its number
abbrev pub fault_words : Fault → List ℕ
fault_words (faults.Unhandled number) = fault_name (faults.Unhandled number) ++ 32 ∷ decimal number
fault_words fault = fault_name fault

abbrev pub fate_words : Fate → List ℕ
fate_words fates.Done = codes "Done"
fate_words fates.Exit = codes "Exit"
fate_words (fates.Fault fault) = codes "Fault " ++ fault_words fault
fate_words fates.Held = codes "Held"
fate_words fates.Cut = codes "Cut"

-- the fate of a task: E, the task, and its fate
abbrev pub fate_line : List ℕ → Fate → List ℕ
fate_line name fate = codes "E " ++ (name ++ (32 ∷ fate_words fate ++ codes "\n"))

abbrev pub fate_lines : List TaskRow → List Fate → List (List ℕ)
fate_lines [] fates = []
fate_lines (row ∷ rows) [] = []
fate_lines (row ∷ rows) (fate ∷ fates) = fate_line row.name fate ∷ fate_lines rows fates

-- what a run prints: the lines of its events in order, empty for an event that has none, and then those of the tasks in
-- script order
abbrev pub lines_of : CellData → List Event → List Fate → List (List ℕ)
lines_of cell history fates = map (line_of cell.tasks) history ++ fate_lines cell.tasks fates

-- the same as bytes
abbrev pub output_of : CellData → List Event → List Fate → List ℕ
output_of cell history fates = concat (lines_of cell history fates)
