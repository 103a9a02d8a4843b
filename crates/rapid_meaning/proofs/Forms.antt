-- The forms, instructions and functions that the other examples leave out, each with its complete list of requests.
use Rattle.std.proofs.Common.{◌≡◌, refl, ℕ, true, false, ℤ, pos, neg_ℤ, [], ◌∷◌, None, Some}
use Rattle.std.specs.Prelude.{codes, replicate}
use Rattle.std.specs.Fmt.{digits}
use Rattle.rapid_num.specs.declared.shape.Shape.{Shape}
use Rattle.rapid_model.specs.declared.answer.Answer.TheVariants as answers
use Rattle.rapid_model.specs.declared.answer.Answer.TheVariants.{Go, Ok, At}
use Rattle.rapid_model.specs.declared.fate.Fault.TheVariants as faults
use Rattle.rapid_model.specs.declared.fate.Fate.TheVariants as fates
use Rattle.rapid_model.specs.declared.function.Function.TheVariants as functions
use Rattle.rapid_model.specs.declared.instruction.Instruction.TheVariants as instructions
use Rattle.rapid_model.specs.declared.part_name.PartName.TheVariants as parts
use Rattle.rapid_model.specs.declared.path.Path.{Path}
use Rattle.rapid_model.specs.declared.request.Request.TheVariants as requests
use Rattle.rapid_model.specs.declared.request.Request.TheVariants.{Look, ReadP, WriteP, TestSet, ReadS, WriteS, Position, Order, Sleep, Leave, ZoneSet, ZoneTie, Hold, Rise, Say, End}
use Rattle.rapid_model.specs.declared.sort.Sort.TheVariants as sorts
use Rattle.rapid_model.specs.declared.tail.Tail.TheVariants as tails
use Rattle.rapid_model.specs.declared.value.Value.TheVariants as values
use Rattle.rapid_model.specs.declared.watched.Watched.TheVariants as watched
use Rattle.rapid_model.specs.declared.operator.Operator.TheVariants as operators
use Rattle.rapid_model.specs.declared.mode.Mode.TheVariants as modes
use Rattle.typed_trees.specs.Plain.{TypedExpr, TypedPlace, TypedTree, Assign, Known, SignalValue, Group, Builtin, Invoke, Signed, NotHeld, Held, PlaceOf, Given, Lent, OfSignal, OfMeeting, Optional, NoArgument, Connect, Exit, For, Goto, If, Label, Return, Test, TryNext, While, NoArgs, MoreArms, NoArms, MoreCases, NoCases, Else, NoStmts, args_of, exprs_of, stmts_of}
use Rattle.typed_trees.specs.declared.datum.Datum.TheVariants as datums
use Rattle.typed_trees.specs.declared.expr.TreeRoot.TheVariants as roots
use Rattle.rapid_meaning.specs.Runs.{asks, unfit, data_after}
use Rattle.rapid_meaning.proofs.Asked.{asked_along, all_of, done, fault, go, joints}
use Rattle.rapid_meaning.proofs.Trees.{assigns, between, bool, bool_row, calls, datum_row, does, element, first_at, first_bound, func, literal, mark_row, module_bool, module_num, module_place, moves, num, num_row, number, param, pers_row, proc, quoted, raises, says, says_bool, says_num, shape_row, stored, task_of, the_num, thousandths, trap, whole_of, with_handler, with_pers}

-- a loop made with GOTO, with TEST inside it, an IF with ELSEIF and ELSE, and EXIT
abbrev pub jumping : TypedTree
jumping = task_of (num_row 0 ∷ []) (proc (
    Label 0 0
    ∷ does instructions.Incr (Lent (module_num 0) ∷ [])
    ∷ Test 0 (the_num 0) (MoreCases (exprs_of (num 5 ∷ num 1 ∷ [])) (stmts_of (says (codes "one") ∷ Goto 0 0 ∷ []))
    (MoreCases (exprs_of (num 2 ∷ [])) (stmts_of (does instructions.TPErase [] ∷ [])) NoCases)) (Else (stmts_of (says (codes "other") ∷ [])))
    ∷ If 0 (MoreArms (bool false) NoStmts (MoreArms (bool true) (stmts_of (Exit 0 ∷ [])) NoArms)) (Else (stmts_of (says (codes "else") ∷ []))) ∷ []) ∷ [])

jumps_back : asked_along jumping [] (go ∷ go ∷ go ∷ Ok ∷ go ∷ go ∷ go ∷ go ∷ go ∷ go ∷ Ok ∷ [])
    ≡ all_of (Look ∷ Look ∷ Look ∷ Say (codes "one") tails.None ∷ Look ∷ Look ∷ Look ∷ Look ∷ Look ∷ Look ∷ End fates.Exit ∷ [])
unfolding asked_along
jumps_back = refl

-- DEFAULT, and ELSE
abbrev pub choosing : TypedTree
choosing = task_of [] (proc (
    Test 0 (num 3) (MoreCases (exprs_of (num 1 ∷ [])) NoStmts NoCases) (Else (stmts_of (says (codes "default") ∷ [])))
    ∷ If 0 (MoreArms (bool false) NoStmts NoArms) (Else (stmts_of (says (codes "else") ∷ []))) ∷ []) ∷ [])

chooses_the_rest : asked_along choosing [] (go ∷ go ∷ Ok ∷ go ∷ go ∷ Ok ∷ Ok ∷ [])
    ≡ all_of (Look ∷ Look ∷ Say (codes "default") tails.None ∷ Look ∷ Look ∷ Say (codes "else") tails.None ∷ done ∷ [])
unfolding asked_along
chooses_the_rest = refl

-- a function that returns from inside a loop, and one that reaches its end
abbrev pub returning : TypedTree
returning = task_of [] (proc (says_num (codes "f=") (Invoke 0 sorts.Num 1 NoArgs) ∷ says_num (codes "g=") (Invoke 0 sorts.Num 2 NoArgs) ∷ [])
    ∷ func (While 0 (bool true) (stmts_of (Return 0 (Some (num 3)) ∷ [])) ∷ []) ∷ func [] ∷ [])

returns_a_value : asked_along returning [] (go ∷ go ∷ go ∷ Ok ∷ go ∷ Ok ∷ [])
    ≡ all_of (Look ∷ Look ∷ Look ∷ Say (codes "f=") (tails.Num (pos 3_000)) ∷ Look ∷ fault faults.NoReturn ∷ [])
unfolding asked_along
returns_a_value = refl

-- RETURN in a procedure, and in an ERROR part
abbrev pub leaving : TypedTree
leaving = task_of [] (proc (calls 1 [] ∷ calls 2 [] ∷ []) ∷ proc (Return 0 None ∷ says (codes "no") ∷ [])
    ∷ with_handler (proc (raises 1 ∷ says (codes "no") ∷ [])) (Return 0 None ∷ []) ∷ [])

leaves_the_routine : asked_along leaving [] (go ∷ go ∷ go ∷ go ∷ go ∷ Ok ∷ []) ≡ all_of (Look ∷ Look ∷ Look ∷ Look ∷ Look ∷ done ∷ [])
unfolding asked_along
leaves_the_routine = refl

-- a FOR with a step; its variable would pass 5
abbrev pub stepping : TypedTree
stepping = task_of [] (record (proc (For 0 0 (num 1) (num 5) (Some (num 3)) (stmts_of (says_num (codes "i=") (stored (whole_of (roots.Local 0) sorts.Num)) ∷ [])) ∷ [])) { loops = 1 } ∷ [])

steps_by_three : asked_along stepping [] (go ∷ go ∷ go ∷ Ok ∷ go ∷ go ∷ Ok ∷ Ok ∷ [])
    ≡ all_of (Look ∷ Look ∷ Look ∷ Say (codes "i=") (tails.Num (pos 1_000)) ∷ Look ∷ Look ∷ Say (codes "i=") (tails.Num (pos 4_000)) ∷ done ∷ [])
unfolding asked_along
steps_by_three = refl

-- after a trap at an iteration's Look, only the Look is asked again
abbrev pub stepping_trapped : TypedTree
stepping_trapped = task_of [] (record (proc (For 0 0 (num 1) (num 1) None NoStmts ∷ [])) { loops = 1 } ∷ trap [] ∷ [])

turns_after_a_trap : asked_along stepping_trapped [] (go ∷ answers.Trap 1 1 ∷ Ok ∷ go ∷ Ok ∷ []) ≡ all_of (Look ∷ Look ∷ Leave ∷ Look ∷ done ∷ [])
unfolding asked_along
turns_after_a_trap = refl

-- more interrupts than the queue holds
flooded : asked_along stepping [] (answers.Flood ∷ Ok ∷ []) ≡ all_of (Look ∷ fault faults.TrapFlood ∷ [])
unfolding asked_along
flooded = refl

-- an error that leaves a trap
abbrev pub failing_trap : TypedTree
failing_trap = task_of [] (with_handler (proc (says (codes "a") ∷ [])) (TryNext 0 ∷ []) ∷ trap (raises 7 ∷ []) ∷ [])

fails_in_the_trap : asked_along failing_trap [] (answers.Trap 1 1 ∷ go ∷ Ok ∷ []) ≡ all_of (Look ∷ Look ∷ fault (faults.Unhandled 7) ∷ [])
unfolding asked_along
fails_in_the_trap = refl

-- outputs, and a value that is neither 0 nor 1
abbrev pub signalling : TypedTree
signalling = task_of [] (proc (
    does instructions.Set (OfSignal 1 ∷ []) ∷ does instructions.Reset (OfSignal 1 ∷ []) ∷ does instructions.WaitDO (OfSignal 1 ∷ Given (num 0) ∷ [])
    ∷ says_bool (codes "di=") (Builtin 0 sorts.Bool functions.TestDI (args_of (OfSignal 0 ∷ [])))
    ∷ says_num (codes "do=") (Builtin 0 sorts.Num functions.DOutput (args_of (OfSignal 1 ∷ [])))
    ∷ says_num (codes "do=") (SignalValue 0 sorts.Num 2)
    ∷ does instructions.SetDO (OfSignal 1 ∷ Given (num 2) ∷ []) ∷ []) ∷ [])

signals : asked_along signalling [] (go ∷ Ok ∷ go ∷ Ok ∷ go ∷ answers.Bit false ∷ go ∷ answers.Bit true ∷ Ok ∷ go ∷ answers.Bit false ∷ Ok ∷ go ∷ answers.Bit true ∷ Ok ∷ go ∷ Ok ∷ [])
    ≡ all_of (Look ∷ WriteS 1 true ∷ Look ∷ WriteS 1 false ∷ Look ∷ ReadS 1 ∷ Look ∷ ReadS 0 ∷ Say (codes "di=") (tails.Bool true)
    ∷ Look ∷ ReadS 1 ∷ Say (codes "do=") (tails.Num (pos 0)) ∷ Look ∷ ReadS 2 ∷ Say (codes "do=") (tails.Num (pos 1_000)) ∷ Look ∷ fault faults.SignalValue ∷ [])
unfolding asked_along
signals = refl

-- a bool that only one task at a time can take, and one of the task's own
abbrev pub taking : TypedTree
taking = with_pers (task_of (bool_row ∷ []) (proc (
    does instructions.WaitTestAndSet (Lent (whole_of (roots.Pers 0) sorts.Bool) ∷ []) ∷ assigns (whole_of (roots.Pers 0) sorts.Bool) (bool false)
    ∷ does instructions.WaitTime (Given (num 1) ∷ [])
    ∷ says_bool (codes "first=") (Builtin 0 sorts.Bool functions.TestAndSet (args_of (Lent (module_bool 0) ∷ [])))
    ∷ says_bool (codes "second=") (Builtin 0 sorts.Bool functions.TestAndSet (args_of (Lent (module_bool 0) ∷ []))) ∷ []) ∷ []))
    (pers_row sorts.Bool (values.Bool false))

abbrev whole_path : Path
whole_path = record { index = 0; part = parts.Whole }

takes_in_turn : asked_along taking [] (go ∷ answers.Yes false ∷ Ok ∷ Ok ∷ Go 2 ∷ answers.Yes true ∷ Go 2 ∷ Ok ∷ Go 2 ∷ Go 2 ∷ Ok ∷ Go 2 ∷ Ok ∷ Ok ∷ [])
    ≡ all_of (Look ∷ TestSet 0 whole_path ∷ Hold 0 ∷ Rise ∷ Look ∷ TestSet 0 whole_path ∷ Look ∷ WriteP 0 whole_path (values.Bool false) ∷ Look
    ∷ Look ∷ Say (codes "first=") (tails.Bool true) ∷ Look ∷ Say (codes "second=") (tails.Bool false) ∷ done ∷ [])
unfolding asked_along
takes_in_turn = refl

-- orders on an output and on a persistent, and each operation on an interrupt
abbrev pub ordering : TypedTree
ordering = with_pers (task_of (mark_row sorts.IntNum ∷ []) (proc (
    Connect 0 (module_place 0 sorts.IntNum) 1
    ∷ does instructions.ISignalDO (Optional (codes "Single") NoArgument ∷ OfSignal 1 ∷ Given (num 0) ∷ Lent (module_place 0 sorts.IntNum) ∷ [])
    ∷ does instructions.ISleep (Lent (module_place 0 sorts.IntNum) ∷ []) ∷ does instructions.IWatch (Lent (module_place 0 sorts.IntNum) ∷ [])
    ∷ does instructions.IDelete (Lent (module_place 0 sorts.IntNum) ∷ [])
    ∷ does instructions.IPers (Lent (whole_of (roots.Pers 0) sorts.Num) ∷ Lent (module_place 0 sorts.IntNum) ∷ []) ∷ []) ∷ trap [] ∷ []))
    (pers_row sorts.Num (number 0))

orders : asked_along ordering [] (go ∷ answers.Number 2 ∷ go ∷ Ok ∷ go ∷ Ok ∷ go ∷ Ok ∷ go ∷ Ok ∷ go ∷ answers.Unknown ∷ Ok ∷ [])
    ≡ all_of (Look ∷ requests.Connect 0 1 ∷ Look ∷ Order 2 (watched.Signal 1 false) true ∷ Look ∷ Sleep 2 ∷ Look ∷ requests.Watch 2 ∷ Look ∷ requests.Delete 2
    ∷ Look ∷ Order 2 (watched.Pers 0) false ∷ fault (faults.Unhandled 104) ∷ [])
unfolding asked_along
orders = refl

-- a zone around a home position is disabled, enabled and freed; then its variable names no zone
abbrev pub homing : TypedTree
homing = task_of (shape_row ∷ mark_row sorts.WzTemporary ∷ []) (proc (
    does instructions.WZHomeJointDef (Optional (codes "Outside") NoArgument ∷ Lent (module_place 0 sorts.ShapeData) ∷ Given (first_bound 10_000) ∷ Given (first_bound 2_500) ∷ [])
    ∷ does instructions.WZLimSup (Optional (codes "Temp") NoArgument ∷ Lent (module_place 1 sorts.WzTemporary) ∷ Lent (module_place 0 sorts.ShapeData) ∷ [])
    ∷ does instructions.WZDisable (Lent (module_place 1 sorts.WzTemporary) ∷ []) ∷ does instructions.WZEnable (Lent (module_place 1 sorts.WzTemporary) ∷ [])
    ∷ does instructions.WZFree (Lent (module_place 1 sorts.WzTemporary) ∷ []) ∷ does instructions.WZFree (Lent (module_place 1 sorts.WzTemporary) ∷ []) ∷ []) ∷ [])

abbrev home : Shape
home = record { inside = false; bounds = Some (record { low = pos 7_500; high = pos 12_500 }) ∷ replicate 11 None }

homes : asked_along homing [] (go ∷ go ∷ answers.Number 3 ∷ go ∷ Ok ∷ go ∷ Ok ∷ go ∷ Ok ∷ go ∷ answers.NoZone ∷ Ok ∷ [])
    ≡ all_of (Look ∷ Look ∷ ZoneSet 0 true home ∷ Look ∷ requests.ZoneOff 3 ∷ Look ∷ requests.ZoneOn 3 ∷ Look ∷ requests.ZoneFree 3
    ∷ Look ∷ requests.ZoneFree 0 ∷ fault faults.NoZone ∷ [])
unfolding asked_along
homes = refl

-- a shape that was never defined, one whose low bound is not below its high bound, and one on an external axis
abbrev pub shapeless : TypedTree
shapeless = task_of (shape_row ∷ mark_row sorts.WzStationary ∷ []) (proc (
    does instructions.WZLimSup (Optional (codes "Stat") NoArgument ∷ Lent (module_place 1 sorts.WzStationary) ∷ Lent (module_place 0 sorts.ShapeData) ∷ []) ∷ []) ∷ [])

abbrev pub shaping : TypedExpr → TypedExpr → TypedTree
shaping low high = task_of (shape_row ∷ []) (proc (
    does instructions.WZLimJointDef (Optional (codes "Inside") NoArgument ∷ Lent (module_place 0 sorts.ShapeData) ∷ Given low ∷ Given high ∷ []) ∷ []) ∷ [])

abbrev pub homing_at : TypedExpr → TypedExpr → TypedTree
homing_at middle delta = task_of (shape_row ∷ []) (proc (
    does instructions.WZHomeJointDef (Optional (codes "Inside") NoArgument ∷ Lent (module_place 0 sorts.ShapeData) ∷ Given middle ∷ Given delta ∷ []) ∷ []) ∷ [])

needs_a_shape : asked_along shapeless [] (go ∷ Ok ∷ []) ≡ all_of (Look ∷ fault faults.ZoneShape ∷ [])
unfolding asked_along
needs_a_shape = refl

needs_room : asked_along (shaping (first_bound 1_000) (first_bound 1_000)) [] (go ∷ Ok ∷ []) ≡ all_of (Look ∷ fault faults.ZoneShape ∷ [])
unfolding asked_along
needs_room = refl

takes_no_external_axis : asked_along (shaping (first_bound 1_000) (Known 0 sorts.JointTarget (values.Target (record { axis = replicate 12 (pos 2_000) })))) [] (go ∷ Ok ∷ [])
    ≡ all_of (Look ∷ fault faults.ExtAxis ∷ [])
unfolding asked_along
takes_no_external_axis = refl

-- the greatest num as middle and as delta
leaves_the_range : asked_along (homing_at (first_bound 9_999_999_999_999) (first_bound 9_999_999_999_999)) [] (go ∷ Ok ∷ []) ≡ all_of (Look ∷ fault faults.NumRange ∷ [])
unfolding asked_along
leaves_the_range = refl

-- counters on a variable and on an element of an array; an index outside the array
abbrev pub tallying : TypedTree
tallying = task_of (datum_row sorts.Num (Some 2) (datums.Plain (number 1) ∷ datums.Plain (number 2) ∷ []) ∷ num_row 2 ∷ []) (proc (
    does instructions.Add (Lent (element 0 (the_num 1)) ∷ Given (num 5) ∷ [])
    ∷ does instructions.Decr (Lent (element 0 (num 1)) ∷ [])
    ∷ says_num (codes "a=") (stored (element 0 (num 1))) ∷ says_num (codes "b=") (stored (element 0 (num 2)))
    ∷ does instructions.Clear (Lent (module_num 1) ∷ [])
    ∷ assigns (element 0 (the_num 1)) (num 1) ∷ []) ∷ [])

tallies : asked_along tallying [] (go ∷ go ∷ go ∷ Ok ∷ go ∷ Ok ∷ go ∷ go ∷ Ok ∷ [])
    ≡ all_of (Look ∷ Look ∷ Look ∷ Say (codes "a=") (tails.Num (pos 0)) ∷ Look ∷ Say (codes "b=") (tails.Num (pos 7_000)) ∷ Look ∷ Look ∷ fault faults.IndexRange ∷ [])
unfolding asked_along
tallies = refl

-- functions of values
abbrev pub computing : TypedTree
computing = task_of (datum_row sorts.Num (Some 4) (replicate 4 (datums.Plain (number 0))) ∷ []) (proc (
    says_num (codes "Abs ") (Builtin 0 sorts.Num functions.Abs (args_of (Given (Signed 0 sorts.Num true (literal (thousandths 2_500))) ∷ [])))
    ∷ says_num (codes "Trunc ") (Builtin 0 sorts.Num functions.Trunc (args_of (Given (Signed 0 sorts.Num true (literal (thousandths 2_500))) ∷ [])))
    ∷ says_num (codes "StrLen ") (Builtin 0 sorts.Num functions.StrLen (args_of (Given (quoted (codes "abc")) ∷ [])))
    ∷ says_num (codes "Dim ") (Builtin 0 sorts.Num functions.Dim (args_of (Lent (module_place 0 sorts.Num) ∷ Given (num 1) ∷ []))) ∷ []) ∷ [])

computes : asked_along computing [] (go ∷ Ok ∷ go ∷ Ok ∷ go ∷ Ok ∷ go ∷ Ok ∷ Ok ∷ [])
    ≡ all_of (Look ∷ Say (codes "Abs ") (tails.Num (pos 2_500)) ∷ Look ∷ Say (codes "Trunc ") (tails.Num (neg_ℤ (pos 2_000)))
    ∷ Look ∷ Say (codes "StrLen ") (tails.Num (pos 3_000)) ∷ Look ∷ Say (codes "Dim ") (tails.Num (pos 4_000)) ∷ done ∷ [])
unfolding asked_along
computes = refl

-- numbers as text: -2.5 with no decimal, 2 with one, -0.4 with none, 0.0625 (rounded when it was read) with two
abbrev pub written : ℤ → ℕ → TypedExpr
written n count = Builtin 0 sorts.Text functions.NumToStr (args_of (Given (literal (values.Num n)) ∷ Given (num count) ∷ []))

abbrev pub writing : TypedTree
writing = task_of [] (proc (
    does instructions.TPWrite (Given (written (neg_ℤ (pos 2_500)) 0) ∷ []) ∷ does instructions.TPWrite (Given (written (pos 2_000) 1) ∷ [])
    ∷ does instructions.TPWrite (Given (written (neg_ℤ (pos 400)) 0) ∷ []) ∷ does instructions.TPWrite (Given (written (pos 63) 2) ∷ [])
    ∷ does instructions.TPWrite (Given (written (pos 1_234_567) 9) ∷ []) ∷ []) ∷ [])

writes : asked_along writing [] (go ∷ Ok ∷ go ∷ Ok ∷ go ∷ Ok ∷ go ∷ Ok ∷ go ∷ Ok ∷ Ok ∷ [])
    ≡ all_of (Look ∷ Say (codes "-3") tails.None ∷ Look ∷ Say (codes "2.0") tails.None ∷ Look ∷ Say (codes "0") tails.None
    ∷ Look ∷ Say (codes "0.06") tails.None ∷ Look ∷ Say (codes "1234.567") tails.None ∷ done ∷ [])
unfolding asked_along digits
writes = refl

-- the arm's position in a variable; one axis through a reference
abbrev pub reading : TypedTree
reading = task_of (datum_row sorts.JointTarget None (datums.Plain (values.Target (record { axis = replicate 12 (pos 0) })) ∷ []) ∷ []) (
    proc (assigns (module_place 0 sorts.JointTarget) (Builtin 0 sorts.JointTarget functions.CJointT NoArgs)
    ∷ calls 1 (Lent (PlaceOf (roots.Slot 0) NotHeld parts.Robax sorts.RobJoint) ∷ [])
    ∷ says_num (codes "x=") (stored (PlaceOf (roots.Slot 0) NotHeld (parts.Axis 0) sorts.Num)) ∷ [])
    ∷ record (proc (does instructions.Incr (Lent (PlaceOf (roots.Ref 0) NotHeld (parts.Axis 0) sorts.Num) ∷ []) ∷ [])) { params = param modes.Inout ∷ [] } ∷ [])

reads_parts : asked_along reading [] (go ∷ At (joints (pos 7)) ∷ go ∷ go ∷ go ∷ Ok ∷ Ok ∷ [])
    ≡ all_of (Look ∷ Position ∷ Look ∷ Look ∷ Look ∷ Say (codes "x=") (tails.Num (pos 1_007)) ∷ done ∷ [])
unfolding asked_along
reads_parts = refl

-- AND and OR skip their right operand if the left one decides, XOR does not; strings are joined, up to 80 characters
abbrev pub deciding : TypedTree
deciding = task_of [] (proc (
    says_bool (codes "") (between (between (bool true) operators.Or (SignalValue 0 sorts.Bool 0)) operators.And (bool false))
    ∷ says_bool (codes "") (between (bool true) operators.Xor (Builtin 0 sorts.Bool functions.TestDI (args_of (OfSignal 0 ∷ []))))
    ∷ does instructions.TPWrite (Given (Group 0 sorts.Text (between (quoted (codes "a")) operators.Add (quoted (codes "b")))) ∷ [])
    ∷ does instructions.TPWrite (Given (between (quoted (replicate 80 65)) operators.Add (quoted (codes "b"))) ∷ []) ∷ []) ∷ [])

decides : asked_along deciding [] (go ∷ Ok ∷ go ∷ answers.Bit true ∷ Ok ∷ go ∷ Ok ∷ go ∷ Ok ∷ [])
    ≡ all_of (Look ∷ Say [] (tails.Bool false) ∷ Look ∷ ReadS 0 ∷ Say [] (tails.Bool false) ∷ Look ∷ Say (codes "ab") tails.None ∷ Look ∷ fault (faults.Unhandled 102) ∷ [])
unfolding asked_along
decides = refl

-- targets out of reach, and a speed of zero
out_of_reach : asked_along (task_of [] (proc (moves (first_at 720_001) 1_000 ∷ []) ∷ [])) [] (go ∷ Ok ∷ []) ≡ all_of (Look ∷ fault faults.JointRange ∷ [])
unfolding asked_along
out_of_reach = refl

not_given : asked_along (task_of [] (proc (moves (first_bound 0) 1_000 ∷ []) ∷ [])) [] (go ∷ Ok ∷ []) ≡ all_of (Look ∷ fault faults.JointRange ∷ [])
unfolding asked_along
not_given = refl

without_speed : asked_along (task_of [] (proc (moves (first_at 0) 0 ∷ []) ∷ [])) [] (go ∷ Ok ∷ []) ≡ all_of (Look ∷ fault faults.Speed ∷ [])
unfolding asked_along
without_speed = refl

-- an element of a list that names no task is a fault before the next element is read
abbrev pub misnaming : TypedTree
misnaming = record (task_of [] (proc (does instructions.WaitSyncTask (OfMeeting 0 ∷ Lent (whole_of (roots.Pers 0) sorts.Tasks) ∷ []) ∷ []) ∷ []))
    { meetings = codes "s1" ∷ []; meeting_of = 0 ∷ []; pers = record (pers_row sorts.Tasks (values.Text [])) { len = Some 3 } ∷ []; pers_of = 0 ∷ [] }

abbrev element_path : ℕ → Path
element_path index = record { index = index; part = parts.Whole }

misnames : asked_along misnaming [] (go ∷ answers.Val (values.Text (codes "A")) ∷ answers.Val (values.Text (codes "a")) ∷ Ok ∷ [])
    ≡ all_of (Look ∷ ReadP 0 (element_path 1) ∷ ReadP 0 (element_path 2) ∷ fault faults.TaskName ∷ [])
unfolding asked_along
misnames = refl

-- an answer of a form that the request does not have, and a value of another type than the persistent's
not_fitting : asked_along stepping [] (answers.Met ∷ []) ≡ asks Look ∷ unfit ∷ []
unfolding asked_along
not_fitting = refl

not_its_type : asked_along misnaming [] (go ∷ answers.Val (number 1) ∷ []) ≡ asks Look ∷ asks (ReadP 0 (element_path 1)) ∷ unfit ∷ []
unfolding asked_along
not_its_type = refl

-- the place of the last Look, and the module data at that time
abbrev pub placed : TypedTree
placed = task_of (num_row 0 ∷ []) (proc (Assign 17 (module_num 0) (num 2) ∷ Exit 25 ∷ []) ∷ [])

place_at_look : data_after placed (go ∷ []) ≡ Some (record { slots = datums.Plain (number 2) ∷ []; frames = record { values = []; seen = 0 } ∷ []; errno = 0; trapped = false; place = Some (record { «module» = 0; byte = 25 }) })
unfolding asked_along
place_at_look = refl

-- an interrupt is asleep: the output is set, and the task waits
abbrev pub dozing : TypedTree
dozing = task_of (mark_row sorts.IntNum ∷ num_row 0 ∷ []) (proc (
    Connect 0 (module_place 0 sorts.IntNum) 1
    ∷ does instructions.ISignalDI (OfSignal 0 ∷ Given (num 1) ∷ Lent (module_place 0 sorts.IntNum) ∷ [])
    ∷ does instructions.ISleep (Lent (module_place 0 sorts.IntNum) ∷ [])
    ∷ does instructions.SetDO (OfSignal 1 ∷ Given (num 1) ∷ [])
    ∷ does instructions.WaitUntil (Given (between (the_num 1) operators.Equal (num 2)) ∷ []) ∷ [])
    ∷ trap (assigns (module_num 1) (between (the_num 1) operators.Add (num 1)) ∷ []) ∷ [])

dozes : asked_along dozing [] (go ∷ answers.Number 1 ∷ go ∷ Ok ∷ go ∷ Ok ∷ go ∷ Ok ∷ Go 3 ∷ Ok ∷ [])
    ≡ asks Look ∷ asks (requests.Connect 0 1) ∷ asks Look ∷ asks (Order 1 (watched.Signal 0 true) false) ∷ asks Look ∷ asks (Sleep 1) ∷ asks Look ∷ asks (WriteS 1 true)
    ∷ asks Look ∷ asks (Hold 3) ∷ asks Rise ∷ []
unfolding asked_along
dozes = refl

-- what the cell refuses: an eleventh zone, a zone that exists, an output that a zone sets, more than 64 interrupts
abbrev pub supervising : TypedTree
supervising = task_of (shape_row ∷ mark_row sorts.WzTemporary ∷ []) (proc (
    does instructions.WZLimJointDef (Optional (codes "Inside") NoArgument ∷ Lent (module_place 0 sorts.ShapeData) ∷ Given (first_bound 1_000) ∷ Given (first_bound 2_000) ∷ [])
    ∷ does instructions.WZLimSup (Optional (codes "Temp") NoArgument ∷ Lent (module_place 1 sorts.WzTemporary) ∷ Lent (module_place 0 sorts.ShapeData) ∷ []) ∷ []) ∷ [])

abbrev low_zone : Shape
low_zone = record { inside = true; bounds = Some (record { low = pos 1_000; high = pos 2_000 }) ∷ replicate 11 None }

has_ten_zones : asked_along supervising [] (go ∷ go ∷ answers.ZoneFull ∷ Ok ∷ []) ≡ all_of (Look ∷ Look ∷ ZoneSet 0 true low_zone ∷ fault faults.ZoneFull ∷ [])
unfolding asked_along
has_ten_zones = refl

has_the_zone : asked_along supervising [] (go ∷ go ∷ answers.ZoneUsed ∷ Ok ∷ []) ≡ all_of (Look ∷ Look ∷ ZoneSet 0 true low_zone ∷ fault faults.ZoneUsed ∷ [])
unfolding asked_along
has_the_zone = refl

-- a zone sets an output, if its shape was defined and the output's value is one
abbrev pub opening : TypedExpr → TypedTree
opening value = task_of (shape_row ∷ mark_row sorts.WzStationary ∷ []) (proc (
    does instructions.WZLimJointDef (Optional (codes "Inside") NoArgument ∷ Lent (module_place 0 sorts.ShapeData) ∷ Given (first_bound 1_000) ∷ Given (first_bound 2_000) ∷ [])
    ∷ does instructions.WZDOSet (Optional (codes "Stat") NoArgument ∷ Optional (codes "Inside") NoArgument ∷ Lent (module_place 1 sorts.WzStationary) ∷ Lent (module_place 0 sorts.ShapeData) ∷ OfSignal 1 ∷ Given value ∷ []) ∷ []) ∷ [])

abbrev pub opening_shapeless : TypedTree
opening_shapeless = task_of (shape_row ∷ mark_row sorts.WzStationary ∷ []) (proc (
    does instructions.WZDOSet (Optional (codes "Stat") NoArgument ∷ Optional (codes "Inside") NoArgument ∷ Lent (module_place 1 sorts.WzStationary) ∷ Lent (module_place 0 sorts.ShapeData) ∷ OfSignal 1 ∷ Given (num 1) ∷ []) ∷ []) ∷ [])

opens : asked_along (opening (num 1)) [] (go ∷ go ∷ answers.Number 4 ∷ Ok ∷ []) ≡ all_of (Look ∷ Look ∷ ZoneTie 0 false low_zone 1 true ∷ done ∷ [])
unfolding asked_along
opens = refl

opens_by_one : asked_along (opening (num 2)) [] (go ∷ go ∷ Ok ∷ []) ≡ all_of (Look ∷ Look ∷ fault faults.SignalValue ∷ [])
unfolding asked_along
opens_by_one = refl

opens_a_shape : asked_along opening_shapeless [] (go ∷ Ok ∷ []) ≡ all_of (Look ∷ fault faults.ZoneShape ∷ [])
unfolding asked_along
opens_a_shape = refl

opens_alone : asked_along (opening (num 0)) [] (go ∷ go ∷ answers.Tied ∷ Ok ∷ []) ≡ all_of (Look ∷ Look ∷ ZoneTie 0 false low_zone 1 false ∷ fault faults.TiedOutput ∷ [])
unfolding asked_along
opens_alone = refl

is_tied : asked_along signalling [] (go ∷ answers.Tied ∷ Ok ∷ []) ≡ all_of (Look ∷ WriteS 1 true ∷ fault faults.TiedOutput ∷ [])
unfolding asked_along
is_tied = refl

has_no_more_interrupts : asked_along ordering [] (go ∷ answers.NoMore ∷ Ok ∷ []) ≡ all_of (Look ∷ requests.Connect 0 1 ∷ fault (faults.Unhandled 105) ∷ [])
unfolding asked_along
has_no_more_interrupts = refl

has_its_order : asked_along ordering [] (go ∷ answers.Number 2 ∷ go ∷ answers.Already ∷ Ok ∷ [])
    ≡ all_of (Look ∷ requests.Connect 0 1 ∷ Look ∷ Order 2 (watched.Signal 1 false) true ∷ fault (faults.Unhandled 103) ∷ [])
unfolding asked_along
has_its_order = refl

-- one axis of the second of two persistent targets is read and written alone
abbrev pub turning : TypedTree
turning = with_pers (task_of [] (proc (assigns axis (between (stored axis) operators.Add (num 10)) ∷ []) ∷ [])) (record (pers_row sorts.JointTarget (number 0)) { len = Some 2; first = None })
  where
    axis : TypedPlace
    axis = PlaceOf (roots.Pers 0) (Held (num 2)) (parts.Axis 0) sorts.Num

abbrev pub axis_path : Path
axis_path = record { index = 2; part = parts.Axis 0 }

turns_an_axis : asked_along turning [] (go ∷ answers.Val (number 5) ∷ Ok ∷ Ok ∷ []) ≡ all_of (Look ∷ ReadP 0 axis_path ∷ WriteP 0 axis_path (number 15) ∷ done ∷ [])
unfolding asked_along
turns_an_axis = refl
