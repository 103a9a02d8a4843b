-- What instructions do with places, numbers, signals, zones and moves.
use Rattle.std.proofs.Common.{◌≡◌, refl, sym, ap, ◌∙◌, subst, ℕ, zero, suc, ◌+◌, ◌-◌, ◌/◌, ◌^◌, ◌<◌, ◌≤◌, max, Bool, true, false, not, ℤ, pos, int_lt, List, [], ◌∷◌, length, Option, Some, None, Result, Ok, Err, slice_get, position, bytes_eq, if◌then◌else◌, IsTrue, arith}
use Rattle.std.specs.Prelude.{⊤}
use Rattle.std.specs.Option.{option_map}
use Rattle.std.proofs.lemmas.Bool.{lt-ltb, not-false}
use Rattle.std.proofs.lemmas.List.Quantifiers.{position-Some}
use Rattle.std.specs.Ordering.{int_eq}
use Rattle.rapid_num.specs.Reach.{is_position, is_reachable}
use Rattle.rapid_num.specs.declared.joints.Joints.{Joints}
use Rattle.rapid_num.specs.declared.shape.Shape.{Shape}
use Rattle.joint_planner.specs.Setpoints.{greatest_change, setpoint}
use Rattle.joint_planner.proofs.Setpoints.{setpoint_position}
use Rattle.rapid_model.specs.declared.answer.Answer.TheVariants as answers
use Rattle.rapid_model.specs.declared.fate.Fault.TheVariants as faults
use Rattle.rapid_model.specs.declared.part_name.PartName.TheVariants as parts
use Rattle.rapid_model.specs.declared.request.Request.TheVariants as requests
use Rattle.rapid_model.specs.declared.sort.Sort.{Sort}
use Rattle.rapid_model.specs.declared.sort.Sort.TheVariants as sorts
use Rattle.rapid_model.specs.declared.tail.Tail.{Tail}
use Rattle.rapid_model.specs.declared.value.Value.{Value}
use Rattle.rapid_model.specs.declared.value.Value.TheVariants as values
use Rattle.rapid_model.specs.declared.watched.Watched.{Watched}
use Rattle.typed_trees.specs.Plain.{TypedExpr, TypedPers, TypedPlace, NotHeld, Held, PlaceOf}
use Rattle.typed_trees.specs.declared.datum.Datum.{Datum}
use Rattle.typed_trees.specs.declared.datum.Datum.TheVariants as datums
use Rattle.typed_trees.specs.declared.datum.Lvalue.{Lvalue}
use Rattle.typed_trees.specs.declared.datum.Root.{Root}
use Rattle.typed_trees.specs.declared.datum.Root.TheVariants as roots
use Rattle.typed_trees.specs.declared.expr.TreeRoot.TheVariants as tree_roots
use Rattle.rapid_meaning.specs.Answering.{is_trap_row}
use Rattle.rapid_meaning.specs.Doings.{Asks, Doing, Gives, Misfit, ◌>>=◌, ◌>>◌, done, fault, tells, when_ok}
use Rattle.rapid_meaning.specs.Expressions.{expr, lent_length, place}
use Rattle.rapid_meaning.specs.Flows.{Way}
use Rattle.rapid_meaning.specs.Functions.{read_signal}
use Rattle.rapid_meaning.specs.Instructions.{bit, num, ready, target, text, truth}
use Rattle.rapid_meaning.specs.Interrupts.{asks_of_number, connect, number_at, order, pers_at, when_connected, when_known, when_ordered}
use Rattle.rapid_meaning.specs.Meetings.{arrive, task_or_fault, tasks_in, when_arrived, with_task, with_tasks}
use Rattle.rapid_meaning.specs.Moves.{aim, cap_of, next_setpoint, point, still, way_from, when_given, when_located}
use Rattle.rapid_meaning.specs.Places.{at_element, at_root, load, part_at, part_within, read_value, rooted}
use Rattle.rapid_meaning.specs.Signals.{has_value, when_written, write_signal}
use Rattle.rapid_meaning.specs.Values.{bit_in, mark_in, num_in, shape_in, target_in, text_in, tool_speed_in, truth_in}
use Rattle.joint_clip.specs.Shapes.{made_shape}
use Rattle.joint_clip.specs.declared.shape_fault.ShapeFault.{ShapeFault}
use Rattle.rapid_meaning.specs.Zones.{fault_of, asks_of_zone, define, define_home, defined, home_high, home_low, on_axes, position_or_fault, shape_at, shaped, supervise, tie, when_numbered, when_zoned}
use Rattle.rapid_model.specs.Truths.{same_truth}
use Rattle.rapid_meaning.proofs.Wholes.{whole_within}
use Rattle.rapid_meaning.proofs.TaskSets.{positive, with_task_below}
use Rattle.rapid_meaning.proofs.Begins.{Anything}
use Rattle.tree_typing.specs.Asked.{CanWatch}
use Rattle.tree_typing.specs.Expressions.{IsArray, IsExpr, IsPersName}
use Rattle.tree_typing.specs.Kinds.{kinds_of}
use Rattle.tree_typing.specs.Setting.{Setting, has_arm}
use Rattle.tree_typing.specs.States.{IsPers}
use Rattle.tree_typing.specs.WellTyped.{is_datum_of, is_marked}
use Rattle.tree_typing.proofs.Data.{shape_form}
use Rattle.tree_typing.proofs.Expressions.{HasSort, expr_safe, signal_safe, text_safe}
use Rattle.tree_typing.proofs.Forms.{num_form, speed_form, target_form, tasks_form}
use Rattle.tree_typing.proofs.Loads.{load_safe, mark_safe, read_safe, store_safe, truth_safe}
use Rattle.tree_typing.proofs.Places.{Inside, IsRooted, IsThere, at_element_safe, num_safe, root_len, rooted_safe, scene}
use Rattle.tree_typing.proofs.Safe.{Answered, Safe, safe_any, safe_asks, safe_asks_in, safe_done, safe_fault, safe_gives, safe_or, safe_raises, safe_reads, safe_then}
use Rattle.tree_typing.proofs.Scene.{IsWay, Scene}

pub when_safe : {A : Type 0} (s : Scene) (P : A → Type 0) (b : Bool) (m n : Doing A) → (b ≡ true → Safe s P m) → (b ≡ false → Safe s P n) → Safe s P (if b then m else n)
when_safe s P true m n first second = first refl
when_safe s P false m n first second = second refl

pub then_ready : {A : Type 0} (s : Scene) (m : Doing A) → Safe s Anything m → Safe s Anything (m >> ready)
then_ready s m safe = safe_then s Anything Anything m (λ _. ready) safe (λ _ _. safe_any s true)

-- the value of an expression of a known type
pub num_expr : (i : Inside) (e : TypedExpr) → IsExpr i.c (kinds_of i.routine) e sorts.Num → Safe (scene i) Anything (num i.c.tree i.routine e)
num_expr i e is = safe_then (scene i) (HasSort sorts.Num) Anything (expr i.c.tree i.routine e) num_in (expr_safe i e sorts.Num is) (λ v h. num_safe (scene i) v h)

pub truth_expr : (i : Inside) (e : TypedExpr) → IsExpr i.c (kinds_of i.routine) e sorts.Bool → Safe (scene i) Anything (truth i.c.tree i.routine e)
truth_expr i e is = safe_then (scene i) (HasSort sorts.Bool) Anything (expr i.c.tree i.routine e) truth_in (expr_safe i e sorts.Bool is) (λ v h. truth_safe (scene i) v h)

pub text_expr : (i : Inside) (e : TypedExpr) → IsExpr i.c (kinds_of i.routine) e sorts.Text → Safe (scene i) Anything (text i.c.tree i.routine e)
text_expr i e is = safe_then (scene i) (HasSort sorts.Text) Anything (expr i.c.tree i.routine e) text_in (expr_safe i e sorts.Text is) (λ v h. text_safe (scene i) v h)

target_safe : (s : Scene) (v : Value) → HasSort sorts.JointTarget v → Safe s Anything (target_in v)
target_safe s v h =
    let f : (j : Joints) × (v ≡ values.Target j) × (length j.axis ≡ 12) = target_form v h in subst (λ (x : Value). Safe s Anything (target_in x)) (sym f.1) (safe_any s f.0)

pub target_expr : (i : Inside) (e : TypedExpr) → IsExpr i.c (kinds_of i.routine) e sorts.JointTarget → Safe (scene i) Anything (target i.c.tree i.routine e)
target_expr i e is = safe_then (scene i) (HasSort sorts.JointTarget) Anything (expr i.c.tree i.routine e) target_in (expr_safe i e sorts.JointTarget is) (λ v h. target_safe (scene i) v h)

pub speed_safe : (s : Scene) (v : Value) → HasSort sorts.SpeedData v → Safe s Anything (tool_speed_in v)
speed_safe s v h =
    let f : (tool : ℤ) × (others : List ℤ) × (v ≡ values.Speed (tool ∷ others)) = speed_form v h in subst (λ (x : Value). Safe s Anything (tool_speed_in x)) (sym f.2) (safe_any s f.0)

bit_safe : (s : Scene) (v : Value) → HasSort sorts.Num v → Safe s Anything (bit_in v)
bit_safe s v h =
    let f : (n : ℤ) × (v ≡ values.Num n) = num_form v h in
    subst (λ (x : Value). Safe s Anything (bit_in x)) (sym f.1)
    (when_safe s Anything (int_eq f.0 (pos 0)) (Gives false) (if int_eq f.0 (pos 1_000) then Gives true else fault faults.SignalValue) (λ _. safe_any s false)
    (λ _. when_safe s Anything (int_eq f.0 (pos 1_000)) (Gives true) (fault faults.SignalValue) (λ _. safe_any s true) (λ _. safe_fault {A = Bool} s Anything faults.SignalValue)))

pub bit_expr : (i : Inside) (e : TypedExpr) → IsExpr i.c (kinds_of i.routine) e sorts.Num → Safe (scene i) Anything (bit i.c.tree i.routine e)
bit_expr i e is = safe_then (scene i) (HasSort sorts.Num) Anything (expr i.c.tree i.routine e) bit_in (expr_safe i e sorts.Num is) (λ v h. bit_safe (scene i) v h)

-- signals
written_answered : (s : Scene) (signal : ℕ) (value : Bool) → Answered s Anything (requests.WriteS signal value) when_written
written_answered s signal value trapped answers.Ok fits = (refl, safe_done s)
written_answered s signal value trapped answers.Tied fits = (refl, safe_fault {A = ⊤} s Anything faults.TiedOutput)
written_answered s signal value trapped a fits = absurd cc

pub write_safe : (s : Scene) (signal : ℕ) (value : Bool) → signal < s.c.signals → Safe s Anything (write_signal signal value)
write_safe s signal value few = safe_asks s Anything (requests.WriteS signal value) when_written (record { no_rise = refl; no_hold = refl; no_leave = refl; no_end = refl }) (λ d. few) (written_answered s signal value)

pub value_safe : (s : Scene) (signal : ℕ) (value : Bool) → signal < s.c.signals → Safe s Anything (has_value signal value)
value_safe s signal value few = safe_then s Anything Anything (read_signal signal) (λ bit. Gives (same_truth value bit)) (signal_safe s signal few) (λ bit _. safe_any s (same_truth value bit))

-- requests whose only answer is Ok
pub say_safe : (s : Scene) (said : List ℕ) (tail : Tail) → Safe s Anything (tells (requests.Say said tail))
say_safe s said tail = safe_asks s Anything (requests.Say said tail) when_ok (record { no_rise = refl; no_hold = refl; no_leave = refl; no_end = refl }) (λ d. tt) answered
  where
    answered : Answered s Anything (requests.Say said tail) when_ok
    answered trapped answers.Ok fits = (refl, safe_done s)
    answered trapped a fits = absurd cc

pub disable_safe : (s : Scene) → Safe s Anything (tells requests.Disable)
disable_safe s = safe_asks s Anything requests.Disable when_ok (record { no_rise = refl; no_hold = refl; no_leave = refl; no_end = refl }) (λ d. tt) answered
  where
    answered : Answered s Anything requests.Disable when_ok
    answered trapped answers.Ok fits = (refl, safe_done s)
    answered trapped a fits = absurd cc

pub enable_safe : (s : Scene) → Safe s Anything (tells requests.Enable)
enable_safe s = safe_asks s Anything requests.Enable when_ok (record { no_rise = refl; no_hold = refl; no_leave = refl; no_end = refl }) (λ d. tt) answered
  where
    answered : Answered s Anything requests.Enable when_ok
    answered trapped answers.Ok fits = (refl, safe_done s)
    answered trapped a fits = absurd cc

-- interrupts
pub number_safe : (s : Scene) (written : Bool) (q : Lvalue) (sort : Sort) → IsTrue (is_marked sort) → IsThere s written q sort → Safe s Anything (number_at q)
number_safe s written q sort marked is =
    safe_then s (λ x. IsTrue (is_datum_of sort x)) Anything (load q) mark_in (load_safe s written q sort is) (λ x typed. mark_safe s sort x marked typed)

ordered_answered : (s : Scene) (number : ℕ) (on : Watched) (single : Bool) → Answered s Anything (requests.Order number on single) when_ordered
ordered_answered s number on single trapped answers.Ok fits = (refl, safe_done s)
ordered_answered s number on single trapped answers.Unknown fits = (refl, safe_raises {A = ⊤} s Anything 104)
ordered_answered s number on single trapped answers.Already fits = (refl, safe_raises {A = ⊤} s Anything 103)
ordered_answered s number on single trapped a fits = absurd cc

pub order_safe : (s : Scene) (number : ℕ) (on : Watched) (single : Bool) → CanWatch s.c on → Safe s Anything (order number on single)
order_safe s number on single can = safe_asks s Anything (requests.Order number on single) when_ordered (record { no_rise = refl; no_hold = refl; no_leave = refl; no_end = refl }) (λ d. can) (ordered_answered s number on single)

pub sleep_safe : (s : Scene) (number : ℕ) → Safe s Anything (asks_of_number (requests.Sleep number))
sleep_safe s number = safe_asks s Anything (requests.Sleep number) when_known (record { no_rise = refl; no_hold = refl; no_leave = refl; no_end = refl }) (λ d. tt) answered
  where
    answered : Answered s Anything (requests.Sleep number) when_known
    answered trapped answers.Ok fits = (refl, safe_done s)
    answered trapped answers.Unknown fits = (refl, safe_raises {A = ⊤} s Anything 104)
    answered trapped a fits = absurd cc

pub watch_safe : (s : Scene) (number : ℕ) → Safe s Anything (asks_of_number (requests.Watch number))
watch_safe s number = safe_asks s Anything (requests.Watch number) when_known (record { no_rise = refl; no_hold = refl; no_leave = refl; no_end = refl }) (λ d. tt) answered
  where
    answered : Answered s Anything (requests.Watch number) when_known
    answered trapped answers.Ok fits = (refl, safe_done s)
    answered trapped answers.Unknown fits = (refl, safe_raises {A = ⊤} s Anything 104)
    answered trapped a fits = absurd cc

pub delete_safe : (s : Scene) (number : ℕ) → Safe s Anything (asks_of_number (requests.Delete number))
delete_safe s number = safe_asks s Anything (requests.Delete number) when_known (record { no_rise = refl; no_hold = refl; no_leave = refl; no_end = refl }) (λ d. tt) answered
  where
    answered : Answered s Anything (requests.Delete number) when_known
    answered trapped answers.Ok fits = (refl, safe_done s)
    answered trapped answers.Unknown fits = (refl, safe_raises {A = ⊤} s Anything 104)
    answered trapped a fits = absurd cc

connected_answered : (s : Scene) (q : Lvalue) (old trap : ℕ) → IsThere s true q sorts.IntNum → Answered s Anything (requests.Connect old trap) (when_connected q)
connected_answered s q old trap is trapped (answers.Number number) fits = (refl, store_safe s q sorts.IntNum (datums.Mark number) is refl)
connected_answered s q old trap is trapped answers.Already fits = (refl, safe_raises {A = ⊤} s Anything 103)
connected_answered s q old trap is trapped answers.NoMore fits = (refl, safe_raises {A = ⊤} s Anything 105)
connected_answered s q old trap is trapped a fits = absurd cc

pub connect_safe : (s : Scene) (q : Lvalue) (old trap : ℕ) → IsTrue (is_trap_row (slice_get s.c.tree.routines trap)) → IsThere s true q sorts.IntNum → Safe s Anything (connect q old trap)
connect_safe s q old trap there is = safe_asks s Anything (requests.Connect old trap) (when_connected q) (record { no_rise = refl; no_hold = refl; no_leave = refl; no_end = refl }) (λ d. there) (connected_answered s q old trap is)

-- the whole of a persistent
abbrev pub IsPersAt : Scene → Lvalue → Type 0
IsPersAt s q = (number : ℕ) × (index : ℕ) × (q.root ≡ roots.Pers number index) × (p : TypedPers) × IsPers s.c.tree number p

pub name_safe : (i : Inside) (p : TypedPlace) → IsPersName i.c p → Safe (scene i) (IsPersAt (scene i)) (place i.c.tree i.routine p)
name_safe i (PlaceOf (tree_roots.Pers row) NotHeld parts.Whole own) is =
    let number : (n : ℕ) × (slice_get i.c.tree.pers_of row ≡ Some n) = i.facts.numbers row is.0 is.1 in
    safe_then (scene i) (λ q. q ≡ at_root (roots.Pers number.0 0)) (IsPersAt (scene i)) (rooted i.c.tree i.routine (tree_roots.Pers row)) (part_at parts.Whole)
    (safe_or (scene i) (λ q. q ≡ at_root (roots.Pers number.0 0)) (option_map (λ pers. at_root (roots.Pers pers 0)) (slice_get i.c.tree.pers_of row)) (at_root (roots.Pers number.0 0))
    (ap (option_map (λ pers. at_root (roots.Pers pers 0))) number.1) refl)
    (λ q same. subst (λ (x : Lvalue). Safe (scene i) (IsPersAt (scene i)) (part_at parts.Whole x)) (sym same)
    (safe_gives (scene i) (IsPersAt (scene i)) (at_root (roots.Pers number.0 0)) (number.0, 0, refl, is.0, record { row = row; numbered = number.1; there = is.1 })))
name_safe i (PlaceOf root held part own) is = absurd is

pub pers_safe : (s : Scene) (q : Lvalue) → IsPersAt s q → Safe s (λ number. (p : TypedPers) × IsPers s.c.tree number p) (pers_at q.root)
pers_safe s q is =
    subst (λ (r : Root). Safe s (λ number. (p : TypedPers) × IsPers s.c.tree number p) (pers_at r)) (sym is.2) (safe_gives s (λ number. (p : TypedPers) × IsPers s.c.tree number p) is.0 (is.3, is.4))

-- meetings
pub array_place : (i : Inside) (p : TypedPlace) (sort : Sort) → IsArray i.c (kinds_of i.routine) p sort
    → (len : ℕ) × (lent_length i.c.tree i.routine p ≡ Some len) × Safe (scene i) (λ q. IsRooted (scene i) false q sort (Some len)) (place i.c.tree i.routine p)
array_place i (PlaceOf root NotHeld parts.Whole own) sort are = (
  are.1,
  root_len i false root sort (Some are.1) are.2,
  safe_then (scene i) (λ q. IsRooted (scene i) false q sort (Some are.1)) (λ q. IsRooted (scene i) false q sort (Some are.1)) (rooted i.c.tree i.routine root) (part_at parts.Whole)
      (rooted_safe i false root sort (Some are.1) are.2)
      (λ q is. safe_or (scene i) (λ r. IsRooted (scene i) false r sort (Some are.1)) (option_map (λ x. record q { part = x }) (part_within q.part parts.Whole)) q
      (ap (option_map (λ x. record q { part = x })) (whole_within q.part)) is),
)
array_place i (PlaceOf root NotHeld part own) sort are = absurd are
array_place i (PlaceOf root (Held e) part own) sort are = absurd are

task_safe : (s : Scene) (o : Option ℕ) (n : ℕ) → n ≤ 16 → ((k : ℕ) → o ≡ Some k → k < n) → Safe s (λ task. task < n) (task_or_fault o)
task_safe s None n few is = safe_fault s (λ (task : ℕ). task < n) faults.TaskName
task_safe s (Some task) n few is =
    let low : task < n = is task refl in
    subst (λ (b : Bool). Safe s (λ (k : ℕ). k < n) (if b then Gives task else Misfit)) (sym (lt-ltb task 16 (omega (arith, few, low)))) (safe_gives s (λ (k : ℕ). k < n) task low)

name_text : (s : Scene) (v : Value) → HasSort sorts.Tasks v → Safe s Anything (text_in v)
name_text s v h = let f : (t : List ℕ) × (v ≡ values.Text t) = tasks_form v h in subst (λ (x : Value). Safe s Anything (text_in x)) (sym f.1) (safe_any s f.0)

-- what follows the name of a task
named_safe : (s : Scene) (names : List (List ℕ)) (set : ℕ) (next : ℕ → Doing ℕ) → length names ≤ 16 → set < 2 ^ length names
    → ((more : ℕ) → more < 2 ^ length names → Safe s (λ tasks. tasks < 2 ^ length names) (next more)) → (v : Value) → HasSort sorts.Tasks v
    → Safe s (λ tasks. tasks < 2 ^ length names) (text_in v >>= λ name. task_or_fault (position (bytes_eq name) names) >>= λ task. next (with_task task set))
named_safe s names set next few under goes v h =
    safe_then s Anything (λ (tasks : ℕ). tasks < 2 ^ length names) (text_in v) (λ name. task_or_fault (position (bytes_eq name) names) >>= λ task. next (with_task task set)) (name_text s v h)
    (λ name _. safe_then s (λ (task : ℕ). task < length names) (λ (tasks : ℕ). tasks < 2 ^ length names) (task_or_fault (position (bytes_eq name) names)) (λ task. next (with_task task set))
    (task_safe s (position (bytes_eq name) names) (length names) few (λ k e. (position-Some (bytes_eq name) names k [] e).0))
    (λ task low. goes (with_task task set) (with_task_below (length names) task set low under)))

listed_safe : (s : Scene) (names : List (List ℕ)) (q : Lvalue) (len : ℕ) → length names ≤ 16 → IsRooted s false q sorts.Tasks (Some len) → (left number set : ℕ) → 1 ≤ number → number + left ≤ len + 1
    → set < 2 ^ length names → Safe s (λ tasks. tasks < 2 ^ length names) (with_tasks names q left number set)
unfolding with_tasks
listed_safe s names q len few is zero number set low high under = safe_gives s (λ (tasks : ℕ). tasks < 2 ^ length names) set under
listed_safe s names q len few is (suc left) number set low high under =
    safe_then s (λ r. IsThere s false r sorts.Tasks) (λ (tasks : ℕ). tasks < 2 ^ length names) (at_element q number)
    (λ r. read_value r >>= λ v. text_in v >>= λ name. task_or_fault (position (bytes_eq name) names) >>= λ task. with_tasks names q left (number + 1) (with_task task set))
    (at_element_safe s false q sorts.Tasks number (is number low (omega (arith, high))))
    (λ r there. safe_then s (HasSort sorts.Tasks) (λ (tasks : ℕ). tasks < 2 ^ length names) (read_value r)
    (λ v. text_in v >>= λ name. task_or_fault (position (bytes_eq name) names) >>= λ task. with_tasks names q left (number + 1) (with_task task set))
    (read_safe s false r sorts.Tasks refl there)
    (named_safe s names set (λ more. with_tasks names q left (number + 1) more) few under
    (λ more below. listed_safe s names q len few is left (number + 1) more (omega (arith, low)) (omega (arith, high)) below)))

pub tasks_safe : (s : Scene) (names : List (List ℕ)) (q : Lvalue) (o : Option ℕ) (len : ℕ) → length names ≤ 16 → o ≡ Some len → IsRooted s false q sorts.Tasks (Some len)
    → Safe s (λ tasks. tasks < 2 ^ length names) (tasks_in names q o)
tasks_safe s names q o len few e is =
    subst (λ (x : Option ℕ). Safe s (λ tasks. tasks < 2 ^ length names) (tasks_in names q x)) (sym e)
    (listed_safe s names q len few is len 1 0 (omega arith) (omega arith) (positive (length names)))

pub arrive_safe : (s : Scene) (row meeting tasks : ℕ) → slice_get s.c.tree.meeting_of row ≡ Some meeting → tasks < 2 ^ length s.c.tree.tasks → Safe s Anything (arrive meeting tasks)
arrive_safe s row meeting tasks e under = safe_asks s Anything (requests.Arrive meeting tasks) when_arrived (record { no_rise = refl; no_hold = refl; no_leave = refl; no_end = refl }) (λ d. (row, e, under)) answered
  where
    answered : Answered s Anything (requests.Arrive meeting tasks) when_arrived
    answered trapped answers.Met fits = (refl, safe_any s true)
    answered trapped answers.Apart fits = (refl, safe_any s false)
    answered trapped a fits = absurd cc

-- zones
shaped_safe : (s : Scene) (q : Lvalue) (r : Result Shape ShapeFault) → IsThere s true q sorts.ShapeData → Safe s Anything (shaped q r)
shaped_safe s q (Ok shape) is = store_safe s q sorts.ShapeData (datums.Shape (Some shape)) is refl
shaped_safe s q (Err why) is = safe_fault {A = ⊤} s Anything (fault_of why)

pub define_safe : (s : Scene) (q : Lvalue) (inside : Bool) (low high : Joints) → IsThere s true q sorts.ShapeData → Safe s Anything (define s.c.tree.axes q inside low high)
define_safe s q inside low high is = shaped_safe s q (made_shape inside low high s.c.tree.axes) is

position_safe : (s : Scene) (o : Option (List ℤ)) → Safe s Anything (position_or_fault o)
position_safe s None = safe_fault {A = Joints} s Anything faults.NumRange
position_safe s (Some axes) = safe_any {A = Joints} s (record { axis = axes })

pub home_safe : (s : Scene) (q : Lvalue) (inside : Bool) (middle delta : Joints) → IsThere s true q sorts.ShapeData → Safe s Anything (define_home s.c.tree.axes q inside middle delta)
home_safe s q inside middle delta is =
    safe_then s Anything Anything (position_or_fault (on_axes home_low middle.axis delta.axis)) (λ low. position_or_fault (on_axes home_high middle.axis delta.axis) >>= λ high. define s.c.tree.axes q inside low high)
    (position_safe s (on_axes home_low middle.axis delta.axis))
    (λ low _. safe_then s Anything Anything (position_or_fault (on_axes home_high middle.axis delta.axis)) (λ high. define s.c.tree.axes q inside low high) (position_safe s (on_axes home_high middle.axis delta.axis))
    (λ high _. define_safe s q inside low high is))

defined_safe : (s : Scene) (o : Option Shape) → Safe s Anything (defined o)
defined_safe s None = safe_fault {A = Shape} s Anything faults.ZoneShape
defined_safe s (Some shape) = safe_any s shape

pub shape_safe : (s : Scene) (x : Datum) → IsTrue (is_datum_of sorts.ShapeData x) → Safe s Anything (shape_in x)
shape_safe s x is = let f : (o : Option Shape) × (x ≡ datums.Shape o) = shape_form x is in subst (λ (y : Datum). Safe s Anything (shape_in y)) (sym f.1) (safe_any s f.0)

pub shape_at_safe : (s : Scene) (q : Lvalue) → IsThere s false q sorts.ShapeData → Safe s Anything (shape_at q)
shape_at_safe s q is =
    safe_then s (λ x. IsTrue (is_datum_of sorts.ShapeData x)) Anything (load q) (λ x. shape_in x >>= defined) (load_safe s false q sorts.ShapeData is)
    (λ x typed. safe_then s Anything Anything (shape_in x) defined (shape_safe s x typed) (λ o _. defined_safe s o))

marked_zone : (sort : Sort) (n : ℕ) → IsTrue (is_marked sort) → IsTrue (is_datum_of sort (datums.Mark n))
marked_zone sort n marked = marked

numbered_answered : (s : Scene) (q : Lvalue) (sort : Sort) (old : ℕ) (temporary : Bool) (shape : Shape) → IsTrue (is_marked sort) → IsThere s true q sort
    → Answered s Anything (requests.ZoneSet old temporary shape) (when_numbered q)
numbered_answered s q sort old temporary shape marked is trapped (answers.Number number) fits = (refl, store_safe s q sort (datums.Mark number) is (marked_zone sort number marked))
numbered_answered s q sort old temporary shape marked is trapped answers.ZoneUsed fits = (refl, safe_fault {A = ⊤} s Anything faults.ZoneUsed)
numbered_answered s q sort old temporary shape marked is trapped answers.ZoneFull fits = (refl, safe_fault {A = ⊤} s Anything faults.ZoneFull)
numbered_answered s q sort old temporary shape marked is trapped a fits = absurd cc

pub supervise_safe : (s : Scene) (q : Lvalue) (sort : Sort) (old : ℕ) (temporary : Bool) (shape : Shape) → IsTrue (has_arm s.c) → IsTrue (is_marked sort) → IsThere s true q sort
    → Safe s Anything (supervise q old temporary shape)
supervise_safe s q sort old temporary shape arm marked is =
    safe_asks s Anything (requests.ZoneSet old temporary shape) (when_numbered q) (record { no_rise = refl; no_hold = refl; no_leave = refl; no_end = refl }) (λ d. arm) (numbered_answered s q sort old temporary shape marked is)

tie_answered : (s : Scene) (q : Lvalue) (sort : Sort) (old : ℕ) (temporary : Bool) (shape : Shape) (signal : ℕ) (value : Bool) → IsTrue (is_marked sort) → IsThere s true q sort
    → Answered s Anything (requests.ZoneTie old temporary shape signal value) (when_numbered q)
tie_answered s q sort old temporary shape signal value marked is trapped (answers.Number number) fits = (refl, store_safe s q sort (datums.Mark number) is (marked_zone sort number marked))
tie_answered s q sort old temporary shape signal value marked is trapped answers.ZoneUsed fits = (refl, safe_fault {A = ⊤} s Anything faults.ZoneUsed)
tie_answered s q sort old temporary shape signal value marked is trapped answers.ZoneFull fits = (refl, safe_fault {A = ⊤} s Anything faults.ZoneFull)
tie_answered s q sort old temporary shape signal value marked is trapped answers.Tied fits = (refl, safe_fault {A = ⊤} s Anything faults.TiedOutput)
tie_answered s q sort old temporary shape signal value marked is trapped a fits = absurd cc

pub tie_safe : (s : Scene) (q : Lvalue) (sort : Sort) (old : ℕ) (temporary : Bool) (held : Option Shape) (signal : ℕ) (value : Bool) → IsTrue (has_arm s.c) → signal < s.c.signals → IsTrue (is_marked sort)
    → IsThere s true q sort → Safe s Anything (tie q old temporary held signal value)
tie_safe s q sort old temporary held signal value arm few marked is =
    safe_then s Anything Anything (defined held) (λ shape. Asks (requests.ZoneTie old temporary shape signal value) (when_numbered q)) (defined_safe s held)
    (λ shape _. safe_asks s Anything (requests.ZoneTie old temporary shape signal value) (when_numbered q) (record { no_rise = refl; no_hold = refl; no_leave = refl; no_end = refl }) (λ d. (arm, few))
    (tie_answered s q sort old temporary shape signal value marked is))

pub zone_off_safe : (s : Scene) (zone : ℕ) → IsTrue (has_arm s.c) → Safe s Anything (asks_of_zone (requests.ZoneOff zone))
zone_off_safe s zone arm = safe_asks s Anything (requests.ZoneOff zone) when_zoned (record { no_rise = refl; no_hold = refl; no_leave = refl; no_end = refl }) (λ d. arm) answered
  where
    answered : Answered s Anything (requests.ZoneOff zone) when_zoned
    answered trapped answers.Ok fits = (refl, safe_done s)
    answered trapped answers.NoZone fits = (refl, safe_fault {A = ⊤} s Anything faults.NoZone)
    answered trapped a fits = absurd cc

pub zone_on_safe : (s : Scene) (zone : ℕ) → IsTrue (has_arm s.c) → Safe s Anything (asks_of_zone (requests.ZoneOn zone))
zone_on_safe s zone arm = safe_asks s Anything (requests.ZoneOn zone) when_zoned (record { no_rise = refl; no_hold = refl; no_leave = refl; no_end = refl }) (λ d. arm) answered
  where
    answered : Answered s Anything (requests.ZoneOn zone) when_zoned
    answered trapped answers.Ok fits = (refl, safe_done s)
    answered trapped answers.NoZone fits = (refl, safe_fault {A = ⊤} s Anything faults.NoZone)
    answered trapped a fits = absurd cc

pub zone_free_safe : (s : Scene) (zone : ℕ) → IsTrue (has_arm s.c) → Safe s Anything (asks_of_zone (requests.ZoneFree zone))
zone_free_safe s zone arm = safe_asks s Anything (requests.ZoneFree zone) when_zoned (record { no_rise = refl; no_hold = refl; no_leave = refl; no_end = refl }) (λ d. arm) answered
  where
    answered : Answered s Anything (requests.ZoneFree zone) when_zoned
    answered trapped answers.Ok fits = (refl, safe_done s)
    answered trapped answers.NoZone fits = (refl, safe_fault {A = ⊤} s Anything faults.NoZone)
    answered trapped a fits = absurd cc

-- moves, which a trap must not make
pub still_safe : (s : Scene) → Safe s (λ _. s.trapped ≡ false) still
still_safe s = safe_reads s (λ _. s.trapped ≡ false) (λ d. if d.trapped then fault faults.MoveInTrap else done)
    (λ d is. when_safe s (λ _. s.trapped ≡ false) d.trapped (fault faults.MoveInTrap) done (λ _. safe_fault {A = ⊤} s (λ _. s.trapped ≡ false) faults.MoveInTrap)
    (λ untrapped. safe_gives {A = ⊤} s (λ _. s.trapped ≡ false) tt (sym is.in_trap ∙ untrapped)))

given_answered : {A : Type 0} (s : Scene) (P : A → Type 0) (to : Joints) (next : Doing A) → Safe s P next → Answered s P (requests.Setpoint to) (when_given next)
given_answered s P to next safe trapped answers.Given fits = (refl, safe)
given_answered {A = A} s P to next safe trapped (answers.Stopped zone) fits = (refl, safe_fault {A = A} s P faults.ZoneStop)
given_answered s P to next safe trapped a fits = absurd cc

-- the next setpoint of a move is a position of the arm
next_position : (c : Setting) (trapped : Bool) (way : Way) → IsWay c trapped way → IsTrue (is_position c.tree.axes (next_setpoint way))
next_position c trapped way on =
    subst (λ (axes : ℕ). IsTrue (is_position c.tree.axes (setpoint axes way.plan.start way.plan.target way.plan.count (way.given + 1)))) (sym on.axes)
    (setpoint_position c.tree.axes way.plan.start way.plan.target way.plan.count (way.given + 1) on.start on.target (omega arith) (omega (arith, on.left)))

pub point_safe : {A : Type 0} (s : Scene) (P : A → Type 0) (way : Way) (next : Doing A) → IsWay s.c s.trapped way → Safe s P next → Safe s P (point way next)
point_safe s P way next on safe =
    safe_asks_in s P (requests.Setpoint (next_setpoint way)) (when_given next) (record { no_rise = refl; no_hold = refl; no_leave = refl; no_end = refl })
    (λ d is. (on.arm, next_position s.c s.trapped way on, is.in_trap ∙ on.untrapped)) (given_answered s P (next_setpoint way) next safe)

at_least_one : (n : ℕ) → 0 < max 1 n
at_least_one n = omega arith

located_answered : (s : Scene) (target : Joints) (cap : ℕ) → IsTrue (has_arm s.c) → s.trapped ≡ false → IsTrue (is_reachable s.c.tree.axes target)
    → Answered s (IsWay s.c s.trapped) requests.Position (when_located s.c.tree.axes target cap)
located_answered s target cap arm untrapped to trapped (answers.At start) fits = (
  refl,
  safe_gives s (IsWay s.c s.trapped) (way_from s.c.tree.axes start target cap)
      (record { arm = arm; untrapped = untrapped; axes = refl; start = fits; target = to; left = at_least_one ((greatest_change s.c.tree.axes start.axis target.axis + (cap - 1)) / cap) }),
)
located_answered s target cap arm untrapped to trapped a fits = absurd cc

pub aim_safe : (s : Scene) (target : Joints) (speed : ℤ) → IsTrue (has_arm s.c) → s.trapped ≡ false → Safe s (IsWay s.c s.trapped) (aim s.c.tree.axes target speed)
aim_safe s target speed arm untrapped =
    when_safe s (IsWay s.c s.trapped) (not (is_reachable s.c.tree.axes target)) (fault faults.JointRange)
    (if not (int_lt (pos 0) speed) then fault faults.Speed else Asks requests.Position (when_located s.c.tree.axes target (cap_of speed)))
    (λ _. safe_fault {A = Way} s (IsWay s.c s.trapped) faults.JointRange)
    (λ there. when_safe s (IsWay s.c s.trapped) (not (int_lt (pos 0) speed)) (fault faults.Speed) (Asks requests.Position (when_located s.c.tree.axes target (cap_of speed)))
    (λ _. safe_fault {A = Way} s (IsWay s.c s.trapped) faults.Speed)
    (λ _. safe_asks s (IsWay s.c s.trapped) requests.Position (when_located s.c.tree.axes target (cap_of speed)) (record { no_rise = refl; no_hold = refl; no_leave = refl; no_end = refl }) (λ d. arm)
    (located_answered s target (cap_of speed) arm untrapped (not-false (is_reachable s.c.tree.axes target) there))))
