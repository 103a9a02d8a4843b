-- Small tasks, each with its complete list of requests for some answers: moves, errors, interrupts, waits, loops,
-- calls.
use Rattle.std.proofs.Common.{◌≡◌, refl, true, false, pos, neg_ℤ, [], ◌∷◌, ◌++◌, None, Some}
use Rattle.std.specs.Prelude.{codes, replicate}
use Rattle.rapid_num.specs.declared.shape.Shape.{Shape}
use Rattle.rapid_model.specs.declared.answer.Answer.TheVariants as answers
use Rattle.rapid_model.specs.declared.answer.Answer.TheVariants.{Go, Ok, At, Given as Let}
use Rattle.rapid_model.specs.declared.fate.Fault.TheVariants as faults
use Rattle.rapid_model.specs.declared.instruction.Instruction.TheVariants as instructions
use Rattle.rapid_model.specs.declared.part_name.PartName.TheVariants as parts
use Rattle.rapid_model.specs.declared.path.Path.{Path}
use Rattle.rapid_model.specs.declared.request.Request.TheVariants as requests
use Rattle.rapid_model.specs.declared.request.Request.TheVariants.{Look, ReadP, WriteP, ReadS, WriteS, Position, Setpoint, Order, Sleep, Leave, ZoneSet, Arrive, Hold, Rise, Say}
use Rattle.rapid_model.specs.declared.sort.Sort.TheVariants as sorts
use Rattle.rapid_model.specs.declared.tail.Tail.TheVariants as tails
use Rattle.rapid_model.specs.declared.value.Value.TheVariants as values
use Rattle.rapid_model.specs.declared.watched.Watched.TheVariants as watched
use Rattle.rapid_model.specs.declared.zone_name.ZoneName.TheVariants as zone_names
use Rattle.rapid_model.specs.declared.operator.Operator.TheVariants as operators
use Rattle.rapid_model.specs.declared.mode.Mode.TheVariants as modes
use Rattle.typed_trees.specs.Plain.{TypedTree, ErrorNumber, Stored, Invoke, Not, Signed, Given, Lent, OfSignal, OfMeeting, Optional, NoArgument, Connect, For, IfOne, Raise, Retry, TryNext, While, NoArgs, NoStmts, stmts_of}
use Rattle.typed_trees.specs.declared.datum.Datum.TheVariants as datums
use Rattle.typed_trees.specs.declared.expr.TreeRoot.TheVariants as roots
use Rattle.rapid_meaning.specs.Runs.{asks}
use Rattle.rapid_meaning.proofs.Asked.{asked_along, all_of, done, fault, go, joints}
use Rattle.rapid_meaning.proofs.Trees.{assigns, between, bool, bool_row, calls, datum_row, does, first_at, first_bound, func, mark_row, module_bool, module_num, module_place, moves, num, num_row, number, param, pers_row, proc, raises, says, says_bool, says_num, shape_row, stored, task_of, the_num, trap, when, whole_of, with_handler, with_pers}

-- a move of 2.5 degrees, at most one degree a setpoint; a Look stands before the second and the third
abbrev pub moving : TypedTree
moving = task_of [] (proc (moves (first_at 2_500) 1_000 ∷ []) ∷ [])

moves_in_steps : asked_along moving [] (go ∷ At (joints (pos 0)) ∷ Let ∷ go ∷ Let ∷ go ∷ Let ∷ Ok ∷ [])
    ≡ all_of (Look ∷ Position ∷ Setpoint (joints (pos 833)) ∷ Look ∷ Setpoint (joints (pos 1_667)) ∷ Look ∷ Setpoint (joints (pos 2_500)) ∷ done ∷ [])
unfolding asked_along
moves_in_steps = refl

-- a zone from 10.5 to 11.5 degrees, and a move through it, at most seven degrees a setpoint
abbrev pub zoned : TypedTree
zoned = task_of (shape_row ∷ mark_row sorts.WzStationary ∷ []) (proc (
    does instructions.WZLimJointDef (Optional (codes "Inside") NoArgument ∷ Lent (module_place 0 sorts.ShapeData) ∷ Given (first_bound 10_500) ∷ Given (first_bound 11_500) ∷ [])
    ∷ does instructions.WZLimSup (Optional (codes "Stat") NoArgument ∷ Lent (module_place 1 sorts.WzStationary) ∷ Lent (module_place 0 sorts.ShapeData) ∷ [])
    ∷ moves (first_at 30_000) 7_000 ∷ []) ∷ [])

abbrev narrow : Shape
narrow = record { inside = true; bounds = Some (record { low = pos 10_500; high = pos 11_500 }) ∷ replicate 11 None }

stops_before_a_zone : asked_along zoned [] (go ∷ go ∷ answers.Number 1 ∷ go ∷ At (joints (pos 0)) ∷ Let ∷ go ∷ answers.Stopped (zone_names.Own 1) ∷ Ok ∷ [])
    ≡ all_of (Look ∷ Look ∷ ZoneSet 0 false narrow ∷ Look ∷ Position ∷ Setpoint (joints (pos 6_000)) ∷ Look ∷ Setpoint (joints (pos 12_000)) ∷ fault faults.ZoneStop ∷ [])
unfolding asked_along
stops_before_a_zone = refl

-- a move of four setpoints, and an interrupt whose trap supervises a zone from 2.5 to 3 degrees
abbrev pub trapped_on_the_way : TypedTree
trapped_on_the_way = task_of (shape_row ∷ mark_row sorts.WzStationary ∷ mark_row sorts.IntNum ∷ []) (proc (
    does instructions.WZLimJointDef (Optional (codes "Inside") NoArgument ∷ Lent (module_place 0 sorts.ShapeData) ∷ Given (first_bound 2_500) ∷ Given (first_bound 3_000) ∷ [])
    ∷ Connect 0 (module_place 2 sorts.IntNum) 1
    ∷ does instructions.ISignalDI (OfSignal 0 ∷ Given (num 1) ∷ Lent (module_place 2 sorts.IntNum) ∷ [])
    ∷ moves (first_at 4_000) 1_000 ∷ [])
    ∷ trap (does instructions.WZLimSup (Optional (codes "Stat") NoArgument ∷ Lent (module_place 1 sorts.WzStationary) ∷ Lent (module_place 0 sorts.ShapeData) ∷ []) ∷ []) ∷ [])

abbrev ahead : Shape
ahead = record { inside = true; bounds = Some (record { low = pos 2_500; high = pos 3_000 }) ∷ replicate 11 None }

-- the trap runs before the second setpoint, whose Look is then asked again; the third is stopped
traps_on_the_way : asked_along trapped_on_the_way [] (go ∷ go ∷ answers.Number 1 ∷ go ∷ Ok ∷ go ∷ At (joints (pos 0)) ∷ Let
    ∷ answers.Trap 1 1 ∷ go ∷ answers.Number 1 ∷ Ok ∷ go ∷ Let ∷ go ∷ answers.Stopped (zone_names.Own 1) ∷ Ok ∷ [])
    ≡ all_of (Look ∷ Look ∷ requests.Connect 0 1 ∷ Look ∷ Order 1 (watched.Signal 0 true) false ∷ Look ∷ Position ∷ Setpoint (joints (pos 1_000))
    ∷ Look ∷ Look ∷ ZoneSet 0 false ahead ∷ Leave ∷ Look ∷ Setpoint (joints (pos 2_000)) ∷ Look ∷ Setpoint (joints (pos 3_000)) ∷ fault faults.ZoneStop ∷ [])
unfolding asked_along
traps_on_the_way = refl

-- a division by zero; the ERROR part corrects the divisor and retries the statement
abbrev pub retrying : TypedTree
retrying = task_of (num_row 0 ∷ num_row 0 ∷ []) (with_handler (proc (
    assigns (module_num 0) (between (num 1) operators.Div (the_num 1)) ∷ says_num (codes "x=") (the_num 0) ∷ []))
    (assigns (module_num 1) (num 4) ∷ Retry 0 ∷ []) ∷ [])

does_it_again : asked_along retrying [] (go ∷ go ∷ go ∷ go ∷ go ∷ Ok ∷ Ok ∷ [])
    ≡ all_of (Look ∷ Look ∷ Look ∷ Look ∷ Look ∷ Say (codes "x=") (tails.Num (pos 250)) ∷ done ∷ [])
unfolding asked_along
does_it_again = refl

-- a function that raises, in an assignment and in the condition of an IF; the ERROR part skips each of them
abbrev pub skipping : TypedTree
skipping = task_of (num_row 5 ∷ []) (with_handler (proc (
    assigns (module_num 0) (between (num 1) operators.Add (Invoke 0 sorts.Num 1 NoArgs)) ∷ says_num (codes "x=") (the_num 0)
    ∷ when (between (Invoke 0 sorts.Num 1 NoArgs) operators.Equal (num 1)) (says (codes "in") ∷ []) ∷ says (codes "out") ∷ []))
    (TryNext 0 ∷ []) ∷ func (raises 7 ∷ []) ∷ [])

goes_on_behind : asked_along skipping [] (go ∷ go ∷ go ∷ go ∷ Ok ∷ go ∷ go ∷ go ∷ go ∷ Ok ∷ Ok ∷ [])
    ≡ all_of (Look ∷ Look ∷ Look ∷ Look ∷ Say (codes "x=") (tails.Num (pos 5_000)) ∷ Look ∷ Look ∷ Look ∷ Look ∷ Say (codes "out") tails.None ∷ done ∷ [])
unfolding asked_along
goes_on_behind = refl

-- RAISE in an ERROR part, and a division by zero instead
abbrev pub raising_again : TypedTree
raising_again = task_of [] (proc (calls 1 [] ∷ []) ∷ with_handler (proc (raises 7 ∷ [])) (Raise 0 None ∷ []) ∷ [])

leaves_with_its_error : asked_along raising_again [] (go ∷ go ∷ go ∷ Ok ∷ []) ≡ all_of (Look ∷ Look ∷ Look ∷ fault (faults.Unhandled 7) ∷ [])
unfolding asked_along
leaves_with_its_error = refl

abbrev pub failing_again : TypedTree
failing_again = task_of (num_row 0 ∷ []) (proc (calls 1 [] ∷ [])
    ∷ with_handler (proc (raises 7 ∷ [])) (assigns (module_num 0) (between (num 1) operators.Div (the_num 0)) ∷ []) ∷ [])

leaves_with_the_new_error : asked_along failing_again [] (go ∷ go ∷ go ∷ Ok ∷ []) ≡ all_of (Look ∷ Look ∷ Look ∷ fault (faults.Unhandled 101) ∷ [])
unfolding asked_along
leaves_with_the_new_error = refl

-- an interrupt on an input, whose trap counts; the task waits for the second
abbrev pub interrupted : TypedTree
interrupted = task_of (mark_row sorts.IntNum ∷ num_row 0 ∷ []) (proc (
    Connect 0 (module_place 0 sorts.IntNum) 1
    ∷ does instructions.ISignalDI (OfSignal 0 ∷ Given (num 1) ∷ Lent (module_place 0 sorts.IntNum) ∷ [])
    ∷ does instructions.SetDO (OfSignal 1 ∷ Given (num 1) ∷ [])
    ∷ does instructions.WaitUntil (Given (between (the_num 1) operators.Equal (num 2)) ∷ [])
    ∷ says_num (codes "k=") (the_num 1) ∷ [])
    ∷ trap (assigns (module_num 1) (between (the_num 1) operators.Add (num 1)) ∷ []) ∷ [])

runs_traps_at_looks : asked_along interrupted [] (go ∷ answers.Number 1 ∷ go ∷ Ok ∷ go ∷ Ok
    ∷ answers.Trap 1 1 ∷ go ∷ Ok ∷ Go 3 ∷ Ok ∷ Ok ∷ answers.Trap 1 1 ∷ Go 4 ∷ Ok ∷ Go 4 ∷ Go 4 ∷ Ok ∷ Ok ∷ [])
    ≡ all_of (Look ∷ requests.Connect 0 1 ∷ Look ∷ Order 1 (watched.Signal 0 true) false ∷ Look ∷ WriteS 1 true
    ∷ Look ∷ Look ∷ Leave ∷ Look ∷ Hold 3 ∷ Rise ∷ Look ∷ Look ∷ Leave ∷ Look ∷ Look ∷ Say (codes "k=") (tails.Num (pos 2_000)) ∷ done ∷ [])
unfolding asked_along
runs_traps_at_looks = refl

-- the same with interrupts disabled until the input is 1
abbrev pub disabled : TypedTree
disabled = task_of (mark_row sorts.IntNum ∷ num_row 0 ∷ []) (proc (
    Connect 0 (module_place 0 sorts.IntNum) 1 ∷ does instructions.IDisable [] ∷ does instructions.WaitDI (OfSignal 0 ∷ Given (num 1) ∷ [])
    ∷ says_num (codes "k=") (the_num 1) ∷ does instructions.IEnable [] ∷ says_num (codes "k=") (the_num 1) ∷ [])
    ∷ trap (assigns (module_num 1) (between (the_num 1) operators.Add (num 1)) ∷ []) ∷ [])

holds_traps_back : asked_along disabled [] (go ∷ answers.Number 1 ∷ go ∷ Ok ∷ go ∷ answers.Bit true ∷ go ∷ Ok ∷ go ∷ Ok ∷ answers.Trap 1 1 ∷ go ∷ Ok ∷ go ∷ Ok ∷ Ok ∷ [])
    ≡ all_of (Look ∷ requests.Connect 0 1 ∷ Look ∷ requests.Disable ∷ Look ∷ ReadS 0 ∷ Look ∷ Say (codes "k=") (tails.Num (pos 0))
    ∷ Look ∷ requests.Enable ∷ Look ∷ Look ∷ Leave ∷ Look ∷ Say (codes "k=") (tails.Num (pos 1_000)) ∷ done ∷ [])
unfolding asked_along
holds_traps_back = refl

-- two meetings of three tasks named by a constant array; the first time, the others have not arrived
abbrev pub meeting : TypedTree
meeting = record (task_of (datum_row sorts.Tasks (Some 3) (datums.Plain (values.Text (codes "A")) ∷ datums.Plain (values.Text (codes "B")) ∷ datums.Plain (values.Text (codes "C")) ∷ []) ∷ [])
    (proc (
    does instructions.WaitSyncTask (OfMeeting 0 ∷ Lent (module_place 0 sorts.Tasks) ∷ []) ∷ does instructions.WaitSyncTask (OfMeeting 0 ∷ Lent (module_place 0 sorts.Tasks) ∷ [])
    ∷ says (codes "ok") ∷ []) ∷ []))
    { tasks = codes "A" ∷ codes "B" ∷ codes "C" ∷ []; meetings = codes "s1" ∷ []; meeting_of = 4 ∷ [] }

meets_twice : asked_along meeting [] (go ∷ answers.Apart ∷ Ok ∷ Ok ∷ Go 2 ∷ answers.Met ∷ Go 2 ∷ answers.Met ∷ Go 2 ∷ Ok ∷ Ok ∷ [])
    ≡ all_of (Look ∷ Arrive 4 7 ∷ Hold 0 ∷ Rise ∷ Look ∷ Arrive 4 7 ∷ Look ∷ Arrive 4 7 ∷ Look ∷ Say (codes "ok") tails.None ∷ done ∷ [])
unfolding asked_along
meets_twice = refl

-- an endless loop asks one Look an iteration
abbrev pub looping : TypedTree
looping = task_of [] (proc (While 0 (bool true) NoStmts ∷ []) ∷ [])

looks_each_turn : asked_along looping [] (replicate 10 go) ≡ replicate 11 (asks Look)
unfolding asked_along
looks_each_turn = refl

-- NOT a AND b, 2/3, -7 MOD 2, 9E9*9E9
abbrev pub reckoning : TypedTree
reckoning = task_of (bool_row ∷ bool_row ∷ []) (proc (
    says_bool (codes "r=") (Not 0 sorts.Bool (between (Stored 0 sorts.Bool (module_bool 0)) operators.And (Stored 0 sorts.Bool (module_bool 1))))
    ∷ says_num (codes "n=") (between (num 2) operators.Div (num 3))
    ∷ says_num (codes "n=") (Signed 0 sorts.Num true (between (num 7) operators.Mod (num 2)))
    ∷ says_num (codes "n=") (between (num 9_000_000_000) operators.Mul (num 9_000_000_000)) ∷ []) ∷ [])

reckons : asked_along reckoning [] (go ∷ Ok ∷ go ∷ Ok ∷ go ∷ Ok ∷ go ∷ Ok ∷ [])
    ≡ all_of (Look ∷ Say (codes "r=") (tails.Bool true) ∷ Look ∷ Say (codes "n=") (tails.Num (pos 667))
    ∷ Look ∷ Say (codes "n=") (tails.Num (neg_ℤ (pos 1_000))) ∷ Look ∷ fault faults.NumRange ∷ [])
unfolding asked_along
reckons = refl

-- main calls itself
abbrev pub diving : TypedTree
diving = task_of [] (proc (calls 0 [] ∷ []) ∷ [])

dives_to_the_limit : asked_along diving [] (replicate 32 go ++ Ok ∷ []) ≡ all_of (replicate 32 Look ++ fault faults.DepthLimit ∷ [])
unfolding asked_along
dives_to_the_limit = refl

-- a persistent is read and written by requests
abbrev pub counting : TypedTree
counting = with_pers (task_of [] (proc (
    assigns (whole_of (roots.Pers 0) sorts.Num) (between (stored (whole_of (roots.Pers 0) sorts.Num)) operators.Add (num 1))
    ∷ says_num (codes "k=") (stored (whole_of (roots.Pers 0) sorts.Num)) ∷ []) ∷ [])) (pers_row sorts.Num (number 7))

abbrev pub whole_path : Path
whole_path = record { index = 0; part = parts.Whole }

counts_on : asked_along counting [] (go ∷ answers.Val (values.Num (neg_ℤ (pos 2_500))) ∷ Ok ∷ go ∷ answers.Val (values.Num (neg_ℤ (pos 1_500))) ∷ Ok ∷ Ok ∷ [])
    ≡ all_of (Look ∷ ReadP 0 whole_path ∷ WriteP 0 whole_path (values.Num (neg_ℤ (pos 1_500))) ∷ Look ∷ ReadP 0 whole_path
    ∷ Say (codes "k=") (tails.Num (neg_ℤ (pos 1_500))) ∷ done ∷ [])
unfolding asked_along
counts_on = refl

-- a FOR that counts down and calls a procedure, by reference and by value
abbrev pub adding : TypedTree
adding = task_of (num_row 1 ∷ []) (
    record (proc (For 0 0 (num 3) (num 1) None (stmts_of (calls 1 (Lent (module_num 0) ∷ Given (stored (whole_of (roots.Local 0) sorts.Num)) ∷ []) ∷ []))
    ∷ says_num (codes "x=") (the_num 0) ∷ [])) { loops = 1 }
    ∷ record (proc (assigns (whole_of (roots.Ref 0) sorts.Num) (between (stored (whole_of (roots.Ref 0) sorts.Num)) operators.Add (stored (whole_of (roots.Local 1) sorts.Num)))
    ∷ assigns (whole_of (roots.Local 1) sorts.Num) (num 9) ∷ [])) { params = param modes.Inout ∷ param modes.Value ∷ [] } ∷ [])

adds_by_reference : asked_along adding [] (replicate 14 go ++ Ok ∷ Ok ∷ [])
    ≡ all_of (replicate 14 Look ++ Say (codes "x=") (tails.Num (pos 7_000)) ∷ done ∷ [])
unfolding asked_along
adds_by_reference = refl

-- a wait for an input
abbrev pub waiting : TypedTree
waiting = task_of [] (proc (does instructions.WaitDI (OfSignal 0 ∷ Given (num 1) ∷ []) ∷ says (codes "go") ∷ []) ∷ [])

waits_until_it_comes : asked_along waiting [] (go ∷ answers.Bit false ∷ Ok ∷ Ok ∷ Go 1 ∷ answers.Bit true ∷ Go 1 ∷ Ok ∷ Ok ∷ [])
    ≡ all_of (Look ∷ ReadS 0 ∷ Hold 0 ∷ Rise ∷ Look ∷ ReadS 0 ∷ Look ∷ Say (codes "go") tails.None ∷ done ∷ [])
unfolding asked_along
waits_until_it_comes = refl

-- a procedure that raises until its third call; the caller retries only for this error
abbrev pub trying : TypedTree
trying = task_of (num_row 0 ∷ []) (with_handler (proc (calls 1 [] ∷ says_num (codes "n=") (the_num 0) ∷ []))
    (IfOne 0 (between (ErrorNumber 0 sorts.Num) operators.Equal (num 5)) (Retry 0) ∷ TryNext 0 ∷ [])
    ∷ proc (assigns (module_num 0) (between (the_num 0) operators.Add (num 1)) ∷ IfOne 0 (between (the_num 0) operators.Less (num 3)) (raises 5) ∷ []) ∷ [])

tries_three_times : asked_along trying [] (replicate 16 go ++ Ok ∷ Ok ∷ [])
    ≡ all_of (replicate 16 Look ++ Say (codes "n=") (tails.Num (pos 3_000)) ∷ done ∷ [])
unfolding asked_along
tries_three_times = refl

-- the numbers that RAISE takes
abbrev pub raising : TypedTree
raising = task_of [] (proc (raises 90 ∷ []) ∷ [])

abbrev pub raising_too_high : TypedTree
raising_too_high = task_of [] (proc (raises 91 ∷ []) ∷ [])

raises_to_90 : asked_along raising [] (go ∷ Ok ∷ []) ≡ all_of (Look ∷ fault (faults.Unhandled 90) ∷ [])
unfolding asked_along
raises_to_90 = refl

raises_no_91 : asked_along raising_too_high [] (go ∷ Ok ∷ []) ≡ all_of (Look ∷ fault faults.RaiseRange ∷ [])
unfolding asked_along
raises_no_91 = refl

-- a move in a trap
abbrev pub moving_in_trap : TypedTree
moving_in_trap = task_of (mark_row sorts.IntNum ∷ []) (proc (
    Connect 0 (module_place 0 sorts.IntNum) 1
    ∷ does instructions.ISignalDI (OfSignal 0 ∷ Given (num 1) ∷ Lent (module_place 0 sorts.IntNum) ∷ [])
    ∷ does instructions.WaitDI (OfSignal 0 ∷ Given (num 1) ∷ []) ∷ [])
    ∷ trap (moves (first_at 1_000) 1_000 ∷ []) ∷ [])

moves_not_in_traps : asked_along moving_in_trap [] (go ∷ answers.Number 1 ∷ go ∷ Ok ∷ answers.Trap 1 1 ∷ go ∷ Ok ∷ [])
    ≡ all_of (Look ∷ requests.Connect 0 1 ∷ Look ∷ Order 1 (watched.Signal 0 true) false ∷ Look ∷ Look ∷ fault faults.MoveInTrap ∷ [])
unfolding asked_along
moves_not_in_traps = refl

moves_without_the_input : asked_along moving_in_trap [] (go ∷ answers.Number 1 ∷ go ∷ Ok ∷ go ∷ answers.Bit true ∷ Ok ∷ [])
    ≡ all_of (Look ∷ requests.Connect 0 1 ∷ Look ∷ Order 1 (watched.Signal 0 true) false ∷ Look ∷ ReadS 0 ∷ done ∷ [])
unfolding asked_along
moves_without_the_input = refl

-- CONNECT of a connected interrupt, and ISleep of one that is not connected
abbrev pub connecting_twice : TypedTree
connecting_twice = task_of (mark_row sorts.IntNum ∷ []) (proc (
    Connect 0 (module_place 0 sorts.IntNum) 1 ∷ Connect 0 (module_place 0 sorts.IntNum) 1 ∷ []) ∷ trap [] ∷ [])

connects_once : asked_along connecting_twice [] (go ∷ answers.Number 1 ∷ go ∷ answers.Already ∷ Ok ∷ [])
    ≡ all_of (Look ∷ requests.Connect 0 1 ∷ Look ∷ requests.Connect 1 1 ∷ fault (faults.Unhandled 103) ∷ [])
unfolding asked_along
connects_once = refl

abbrev pub sleeping : TypedTree
sleeping = task_of (mark_row sorts.IntNum ∷ []) (proc (does instructions.ISleep (Lent (module_place 0 sorts.IntNum) ∷ []) ∷ []) ∷ [])

sleeps_when_connected : asked_along sleeping [] (go ∷ answers.Unknown ∷ Ok ∷ []) ≡ all_of (Look ∷ Sleep 0 ∷ fault (faults.Unhandled 104) ∷ [])
unfolding asked_along
sleeps_when_connected = refl
