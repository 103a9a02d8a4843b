-- Instructions.
use Rattle.std.proofs.Common.{◌≡◌, ⊎_elim, refl, sym, ap, ◌∙◌, subst, ℕ, ◌^◌, ◌<◌, ◌≤◌, Bool, true, false, ℤ, pos, List, [], ◌∷◌, codes, length, Option, Some, slice_get, IsTrue, arith, ◌||◌, not}
use Rattle.std.specs.Prelude.{⊤}
use Rattle.rapid_num.specs.Arithmetic.{sum_of, difference_of}
use Rattle.rapid_model.specs.declared.instruction.Instruction.{Instruction}
use Rattle.rapid_model.specs.declared.instruction.Instruction.TheVariants as instructions
use Rattle.rapid_model.specs.declared.request.Request.TheVariants as requests
use Rattle.rapid_model.specs.declared.sort.Sort.{Sort}
use Rattle.rapid_model.specs.declared.sort.Sort.TheVariants as sorts
use Rattle.rapid_model.specs.declared.tail.Tail.TheVariants as tails
use Rattle.rapid_model.specs.declared.watched.Watched.TheVariants as watched
use Rattle.rapid_builtins.specs.Calls as builtins
use Rattle.rapid_builtins.specs.Calls.{instruction_needs, needs_arm}
use Rattle.rapid_builtins.specs.declared.need.Need.TheVariants as needs
use Rattle.typed_trees.specs.Plain.{TypedArg, TypedArgument, TypedExpr, TypedPers, TypedPlace, Given, Lent, OfSignal, OfMeeting, Itself, Optional, NoArgument, Argument}
use Rattle.typed_trees.specs.declared.datum.Datum.TheVariants as datums
use Rattle.typed_trees.specs.declared.datum.Lvalue.{Lvalue}
use Rattle.rapid_meaning.specs.Doings.{Doing, Gives, ◌>>=◌, ◌>>◌, or_misfit, tells}
use Rattle.rapid_meaning.specs.Expressions.{expr, lent_length, place}
use Rattle.rapid_meaning.specs.Instructions.{aimed, bit, has, instructed, num, ready, tail, target, text, truth}
use Rattle.rapid_meaning.specs.Interrupts.{asks_of_number, number_at, order, pers_at}
use Rattle.rapid_meaning.specs.Meetings.{arrive, tasks_in}
use Rattle.rapid_meaning.specs.Moves.{aim, still}
use Rattle.rapid_meaning.specs.Places.{load, read_value, store, test_and_set, write_value}
use Rattle.rapid_meaning.specs.Signals.{has_value, write_signal}
use Rattle.rapid_meaning.specs.Values.{in_range, num_in, shape_in, tool_speed_in, whole}
use Rattle.rapid_meaning.specs.Zones.{asks_of_zone, define, define_home, shape_at, supervise, tie}
use Rattle.rapid_meaning.proofs.Begins.{Anything}
use Rattle.rapid_meaning.proofs.Moves.{IsOther}
use Rattle.tree_typing.specs.Expressions.{IsArray, IsExpr, IsPlace, is_zone}
use Rattle.tree_typing.specs.Instructions.{AreChosen, AreNeeded, AreOptions, IsOptionArg}
use Rattle.tree_typing.specs.Kinds.{kinds_of}
use Rattle.tree_typing.specs.Setting.{has_arm}
use Rattle.tree_typing.specs.States.{IsPers}
use Rattle.tree_typing.specs.WellTyped.{is_datum_of, is_marked}
use Rattle.tree_typing.proofs.Acts.{IsPersAt, aim_safe, arrive_safe, array_place, bit_expr, define_safe, delete_safe, disable_safe, enable_safe, home_safe, name_safe, num_expr, number_safe, order_safe, pers_safe, say_safe, shape_at_safe, shape_safe, sleep_safe, speed_safe, still_safe, supervise_safe, target_expr, tasks_safe, text_expr, then_ready, tie_safe, truth_expr, value_safe, watch_safe, write_safe, zone_free_safe, zone_off_safe, zone_on_safe}
use Rattle.tree_typing.proofs.Expressions.{HasSort, expr_safe, place_safe}
use Rattle.tree_typing.proofs.Loads.{load_safe, read_safe, store_safe, test_safe}
use Rattle.tree_typing.proofs.Operators.{range_safe}
use Rattle.tree_typing.proofs.Places.{Inside, IsRooted, IsThere, num_safe, scene}
use Rattle.tree_typing.proofs.Safe.{Safe, safe_any, safe_or, safe_then}
use Rattle.tree_typing.proofs.Scene.{IsWay}
use Rattle.tree_typing.proofs.Shapes.{fine_needed, four_needed, meeting_needed, name_needed, none_needed, one_needed, pers_needed, place_needed, signal_needed, tasks_needed, three_needed, tool_needed, two_needed, value_needed, var_needed, written_needed, zone_needed}

-- an instruction with these arguments and options
abbrev Does : Inside → Instruction → List TypedArg → List TypedArg → Type 0
Does i instruction given args = Safe (scene i) Anything (instructed i.c.tree i.routine instruction args given)

-- a place, and what follows it
at_place : {A : Type 0} (i : Inside) (written : Bool) (p : TypedPlace) (sort : Sort) (k : Lvalue → Doing A) → IsPlace i.c (kinds_of i.routine) written p sort
    → ((q : Lvalue) → IsThere (scene i) written q sort → Safe (scene i) Anything (k q)) → Safe (scene i) Anything (place i.c.tree i.routine p >>= k)
at_place i written p sort k is more = safe_then (scene i) (λ q. IsThere (scene i) written q sort) Anything (place i.c.tree i.routine p) k (place_safe i written p sort is) more

-- a doing with any result, and what follows it
on : {A B : Type 0} (i : Inside) (m : Doing A) (k : A → Doing B) → Safe (scene i) Anything m → ((v : A) → Safe (scene i) Anything (k v)) → Safe (scene i) Anything (m >>= k)
on i m k safe more = safe_then (scene i) Anything Anything m k safe (λ v _. more v)

wait_signal : (i : Inside) (signal : ℕ) (e : TypedExpr) → signal < i.c.signals → IsExpr i.c (kinds_of i.routine) e sorts.Num → Safe (scene i) Anything (bit i.c.tree i.routine e >>= has_value signal)
wait_signal i signal e few is = on i (bit i.c.tree i.routine e) (has_value signal) (bit_expr i e is) (λ b. value_safe (scene i) signal b few)

order_signal : (i : Inside) (signal : ℕ) (e : TypedExpr) (p : TypedPlace) (single : Bool) → signal < i.c.signals → IsExpr i.c (kinds_of i.routine) e sorts.Num → IsPlace i.c (kinds_of i.routine) false p sorts.IntNum
    → Safe (scene i) Anything (bit i.c.tree i.routine e >>= λ b. place i.c.tree i.routine p >>= λ q. number_at q >>= λ number. order number (watched.Signal signal b) single >> ready)
order_signal i signal e p single few is there =
    on i (bit i.c.tree i.routine e) (λ b. place i.c.tree i.routine p >>= λ q. number_at q >>= λ number. order number (watched.Signal signal b) single >> ready) (bit_expr i e is)
    (λ b. at_place i false p sorts.IntNum (λ q. number_at q >>= λ number. order number (watched.Signal signal b) single >> ready) there
    (λ q at. on i (number_at q) (λ number. order number (watched.Signal signal b) single >> ready) (number_safe (scene i) false q sorts.IntNum refl at)
    (λ number. then_ready (scene i) (order number (watched.Signal signal b) single) (order_safe (scene i) number (watched.Signal signal b) single few))))

of_number : (i : Inside) (written : Bool) (p : TypedPlace) (sort : Sort) (k : ℕ → Doing ⊤) → IsTrue (is_marked sort) → IsPlace i.c (kinds_of i.routine) written p sort → ((n : ℕ) → Safe (scene i) Anything (k n))
    → Safe (scene i) Anything (place i.c.tree i.routine p >>= λ q. number_at q >>= λ number. k number >> ready)
of_number i written p sort k marked is more =
    at_place i written p sort (λ q. number_at q >>= λ number. k number >> ready) is
    (λ q at. on i (number_at q) (λ number. k number >> ready) (number_safe (scene i) written q sort marked at) (λ number. then_ready (scene i) (k number) (more number)))

stored_num : (i : Inside) (q : Lvalue) (o : Option ℤ) → IsThere (scene i) true q sorts.Num → Safe (scene i) Anything (in_range o >>= λ w. write_value q w >> ready)
stored_num i q o at =
    safe_then (scene i) (HasSort sorts.Num) Anything (in_range o) (λ w. write_value q w >> ready) (range_safe (scene i) o)
    (λ w h. then_ready (scene i) (write_value q w) (store_safe (scene i) q sorts.Num (datums.Plain w) at h))

counted_num : (i : Inside) (q : Lvalue) (f : ℤ → Option ℤ) → IsThere (scene i) true q sorts.Num
    → Safe (scene i) Anything (read_value q >>= λ v. num_in v >>= λ n. in_range (f n) >>= λ w. write_value q w >> ready)
counted_num i q f at =
    safe_then (scene i) (HasSort sorts.Num) Anything (read_value q) (λ v. num_in v >>= λ n. in_range (f n) >>= λ w. write_value q w >> ready) (read_safe (scene i) true q sorts.Num refl at)
    (λ v h. on i (num_in v) (λ n. in_range (f n) >>= λ w. write_value q w >> ready) (num_safe (scene i) v h) (λ n. stored_num i q (f n) at))

zone_marked : (sort : Sort) → IsTrue (is_zone sort) → IsTrue (is_marked sort)
zone_marked sorts.WzTemporary is = refl
zone_marked sorts.WzStationary is = refl
zone_marked sort is = absurd cc

-- what WZDOSet does once its zone is found
abbrev ties : (i : Inside) → TypedPlace → ℕ → TypedExpr → Bool → Lvalue → ℕ → Doing Bool
ties i shape signal e temporary q old =
    place i.c.tree i.routine shape >>= λ p. load p >>= λ v. shape_in v >>= λ held. bit i.c.tree i.routine e >>= λ b. tie q old temporary held signal b >> ready

ties_safe : (i : Inside) (shape : TypedPlace) (signal : ℕ) (e : TypedExpr) (temporary : Bool) (q : Lvalue) (sort : Sort) (old : ℕ) → IsTrue (has_arm i.c) → signal < i.c.signals → IsTrue (is_zone sort)
    → IsPlace i.c (kinds_of i.routine) false shape sorts.ShapeData → IsExpr i.c (kinds_of i.routine) e sorts.Num → IsThere (scene i) true q sort
    → Safe (scene i) Anything (ties i shape signal e temporary q old)
ties_safe i shape signal e temporary q sort old arm few zoned is ie at =
    at_place i false shape sorts.ShapeData (λ p. load p >>= λ v. shape_in v >>= λ held. bit i.c.tree i.routine e >>= λ b. tie q old temporary held signal b >> ready) is
    (λ p there. safe_then (scene i) (λ x. IsTrue (is_datum_of sorts.ShapeData x)) Anything (load p) (λ v. shape_in v >>= λ held. bit i.c.tree i.routine e >>= λ b. tie q old temporary held signal b >> ready)
    (load_safe (scene i) false p sorts.ShapeData there)
    (λ v typed. on i (shape_in v) (λ held. bit i.c.tree i.routine e >>= λ b. tie q old temporary held signal b >> ready) (shape_safe (scene i) v typed)
    (λ held. on i (bit i.c.tree i.routine e) (λ b. tie q old temporary held signal b >> ready) (bit_expr i e ie)
    (λ b. then_ready (scene i) (tie q old temporary held signal b) (tie_safe (scene i) q sort old temporary held signal b arm few (zone_marked sort zoned) at)))))

-- MoveAbsJ before its first setpoint
abbrev Aims : Inside → List TypedArg → Type 0
Aims i args = Safe (scene i) (IsWay i.c i.trapped) (aimed i.c.tree i.routine args)

aims : (i : Inside) (to speed : TypedExpr) → IsTrue (has_arm i.c) → IsExpr i.c (kinds_of i.routine) to sorts.JointTarget → IsExpr i.c (kinds_of i.routine) speed sorts.SpeedData
    → Safe (scene i) (IsWay i.c i.trapped) (still >> (target i.c.tree i.routine to >>= λ joints. expr i.c.tree i.routine speed >>= λ v. tool_speed_in v >>= λ n. aim i.c.tree.axes joints n))
aims i to speed arm ist iss =
    safe_then (scene i) (λ _. (scene i).trapped ≡ false) (IsWay i.c i.trapped) still (λ _. target i.c.tree i.routine to >>= λ joints. expr i.c.tree i.routine speed >>= λ v. tool_speed_in v >>= λ n. aim i.c.tree.axes joints n)
    (still_safe (scene i))
    (λ _ untrapped. safe_then (scene i) Anything (IsWay i.c i.trapped) (target i.c.tree i.routine to) (λ joints. expr i.c.tree i.routine speed >>= λ v. tool_speed_in v >>= λ n. aim i.c.tree.axes joints n) (target_expr i to ist)
    (λ joints _. safe_then (scene i) (HasSort sorts.SpeedData) (IsWay i.c i.trapped) (expr i.c.tree i.routine speed) (λ v. tool_speed_in v >>= λ n. aim i.c.tree.axes joints n) (expr_safe i speed sorts.SpeedData iss)
    (λ v h. safe_then (scene i) Anything (IsWay i.c i.trapped) (tool_speed_in v) (λ n. aim i.c.tree.axes joints n) (speed_safe (scene i) v h) (λ n _. aim_safe (scene i) joints n arm untrapped))))

pub aimed_safe : (i : Inside) (args : List TypedArg) → IsTrue (has_arm i.c) → AreNeeded i.c (kinds_of i.routine) args (instruction_needs instructions.MoveAbsJ) → Aims i args
aimed_safe i args arm are =
    four_needed i.c (kinds_of i.routine) (Aims i) (needs.Value sorts.JointTarget) (needs.Value sorts.SpeedData) needs.Fine needs.Tool
    (λ a b x y ia ib ix iy.
    value_needed i.c (kinds_of i.routine) (λ z. Aims i (z ∷ b ∷ x ∷ y ∷ [])) sorts.JointTarget
    (λ to ist. value_needed i.c (kinds_of i.routine) (λ z. Aims i (Given to ∷ z ∷ x ∷ y ∷ [])) sorts.SpeedData
    (λ speed iss. fine_needed i.c (kinds_of i.routine) (λ z. Aims i (Given to ∷ Given speed ∷ z ∷ y ∷ []))
    (λ fine. tool_needed i.c (kinds_of i.routine) (λ z. Aims i (Given to ∷ Given speed ∷ Itself fine ∷ z ∷ []))
    (λ tool. aims i to speed arm ist iss) y iy) x ix) b ib) a ia) args are

meets : (i : Inside) (number : ℕ) (list : TypedPlace) → number < length i.c.tree.meetings → IsArray i.c (kinds_of i.routine) list sorts.Tasks
    → Safe (scene i) Anything (or_misfit (slice_get i.c.tree.meeting_of number) >>= λ meeting. place i.c.tree i.routine list >>= λ q. tasks_in i.c.tree.tasks q (lent_length i.c.tree i.routine list) >>= arrive meeting)
meets i number list few are =
    let named : (n : ℕ) × (slice_get i.c.tree.meeting_of number ≡ Some n) = i.facts.meetings number few in
    let array : (len : ℕ) × (lent_length i.c.tree i.routine list ≡ Some len) × Safe (scene i) (λ q. IsRooted (scene i) false q sorts.Tasks (Some len)) (place i.c.tree i.routine list) = array_place i list sorts.Tasks are in
    safe_then (scene i) (λ m. m ≡ named.0) Anything (or_misfit (slice_get i.c.tree.meeting_of number))
    (λ meeting. place i.c.tree i.routine list >>= λ q. tasks_in i.c.tree.tasks q (lent_length i.c.tree i.routine list) >>= arrive meeting)
    (safe_or (scene i) (λ m. m ≡ named.0) (slice_get i.c.tree.meeting_of number) named.0 named.1 refl)
    (λ meeting same. safe_then (scene i) (λ q. IsRooted (scene i) false q sorts.Tasks (Some array.0)) Anything (place i.c.tree i.routine list)
    (λ q. tasks_in i.c.tree.tasks q (lent_length i.c.tree i.routine list) >>= arrive meeting) array.2
    (λ q rooted. safe_then (scene i) (λ (tasks : ℕ). tasks < 2 ^ length i.c.tree.tasks) Anything (tasks_in i.c.tree.tasks q (lent_length i.c.tree i.routine list)) (arrive meeting)
    (tasks_safe (scene i) i.c.tree.tasks q (lent_length i.c.tree i.routine list) array.0 i.facts.few_tasks array.1 rooted)
    (λ tasks under. arrive_safe (scene i) number meeting tasks (named.1 ∙ ap Some (sym same)) under)))

-- what follows the text of TPWrite
shown_num : (i : Inside) (e : TypedExpr) → IsExpr i.c (kinds_of i.routine) e sorts.Num → (name : List ℕ) → name ≡ codes "Num"
    → Safe (scene i) Anything (tail i.c.tree i.routine (Optional name (Argument (Given e)) ∷ []))
shown_num i e is name same =
    subst (λ (x : List ℕ). Safe (scene i) Anything (tail i.c.tree i.routine (Optional x (Argument (Given e)) ∷ []))) (sym same)
    (on i (num i.c.tree i.routine e) (λ n. Gives (tails.Num n)) (num_expr i e is) (λ n. safe_any (scene i) (tails.Num n)))

shown_truth : (i : Inside) (e : TypedExpr) → IsExpr i.c (kinds_of i.routine) e sorts.Bool → (name : List ℕ) → name ≡ codes "Bool"
    → Safe (scene i) Anything (tail i.c.tree i.routine (Optional name (Argument (Given e)) ∷ []))
shown_truth i e is name same =
    subst (λ (x : List ℕ). Safe (scene i) Anything (tail i.c.tree i.routine (Optional x (Argument (Given e)) ∷ []))) (sym same)
    (on i (truth i.c.tree i.routine e) (λ b. Gives (tails.Bool b)) (truth_expr i e is) (λ b. safe_any (scene i) (tails.Bool b)))

num_option : (i : Inside) (name : List ℕ) (value : TypedArgument) → name ≡ codes "Num" → IsOptionArg i.c (kinds_of i.routine) value (Some (needs.Value sorts.Num))
    → Safe (scene i) Anything (tail i.c.tree i.routine (Optional name value ∷ []))
num_option i name (Argument (Given e)) same is = shown_num i e is name same
num_option i name (Argument arg) same is = absurd is
num_option i name NoArgument same is = absurd is

truth_option : (i : Inside) (name : List ℕ) (value : TypedArgument) → name ≡ codes "Bool" → IsOptionArg i.c (kinds_of i.routine) value (Some (needs.Value sorts.Bool))
    → Safe (scene i) Anything (tail i.c.tree i.routine (Optional name value ∷ []))
truth_option i name (Argument (Given e)) same is = shown_truth i e is name same
truth_option i name (Argument arg) same is = absurd is
truth_option i name NoArgument same is = absurd is

no_option : {A : Type 0} → ⊥ → A
no_option no_such = absurd no_such

tail_safe : (i : Inside) (given : List TypedArg) → AreOptions i.c (kinds_of i.routine) given (builtins.options instructions.TPWrite) → length given ≤ 1
    → Safe (scene i) Anything (tail i.c.tree i.routine given)
tail_safe i [] are few = safe_any (scene i) tails.None
tail_safe i (Optional name value ∷ []) are few =
    ⊎_elim (λ n. num_option i name value n.0 n.1) (λ other. ⊎_elim (λ b. truth_option i name value b.0 b.1) (λ no_such. no_option no_such) other) are.0
tail_safe i (Optional name value ∷ x ∷ more) are few = absurd (omega (arith, few))
tail_safe i (arg ∷ more) are few = absurd are

pub instructed_safe : (i : Inside) (instruction : Instruction) (args given : List TypedArg) → IsOther instruction → IsTrue (not (needs_arm instruction) || has_arm i.c)
    → AreNeeded i.c (kinds_of i.routine) args (instruction_needs instruction) → AreOptions i.c (kinds_of i.routine) given (builtins.options instruction) → AreChosen (builtins.choice instruction) given
    → Does i instruction given args
instructed_safe i instructions.MoveAbsJ args given other arm are options chosen = absurd other
instructed_safe i instructions.Set args given other arm are options chosen =
    one_needed i.c (kinds_of i.routine) (Does i instructions.Set given) (needs.Signal true)
    (λ a ia. signal_needed i.c (kinds_of i.routine) (λ z. Does i instructions.Set given (z ∷ [])) true
    (λ signal few. then_ready (scene i) (write_signal signal true) (write_safe (scene i) signal true few)) a ia) args are
instructed_safe i instructions.Reset args given other arm are options chosen =
    one_needed i.c (kinds_of i.routine) (Does i instructions.Reset given) (needs.Signal true)
    (λ a ia. signal_needed i.c (kinds_of i.routine) (λ z. Does i instructions.Reset given (z ∷ [])) true
    (λ signal few. then_ready (scene i) (write_signal signal false) (write_safe (scene i) signal false few)) a ia) args are
instructed_safe i instructions.SetDO args given other arm are options chosen =
    two_needed i.c (kinds_of i.routine) (Does i instructions.SetDO given) (needs.Signal true) (needs.Value sorts.Num)
    (λ a b ia ib. signal_needed i.c (kinds_of i.routine) (λ z. Does i instructions.SetDO given (z ∷ b ∷ [])) true
    (λ signal few. value_needed i.c (kinds_of i.routine) (λ z. Does i instructions.SetDO given (OfSignal signal ∷ z ∷ [])) sorts.Num
    (λ e is. on i (bit i.c.tree i.routine e) (λ v. write_signal signal v >> ready) (bit_expr i e is) (λ v. then_ready (scene i) (write_signal signal v) (write_safe (scene i) signal v few))) b ib) a ia) args are
instructed_safe i instructions.WaitDI args given other arm are options chosen =
    two_needed i.c (kinds_of i.routine) (Does i instructions.WaitDI given) (needs.Signal false) (needs.Value sorts.Num)
    (λ a b ia ib. signal_needed i.c (kinds_of i.routine) (λ z. Does i instructions.WaitDI given (z ∷ b ∷ [])) false
    (λ signal few. value_needed i.c (kinds_of i.routine) (λ z. Does i instructions.WaitDI given (OfSignal signal ∷ z ∷ [])) sorts.Num (λ e is. wait_signal i signal e few is) b ib) a ia) args are
instructed_safe i instructions.WaitDO args given other arm are options chosen =
    two_needed i.c (kinds_of i.routine) (Does i instructions.WaitDO given) (needs.Signal true) (needs.Value sorts.Num)
    (λ a b ia ib. signal_needed i.c (kinds_of i.routine) (λ z. Does i instructions.WaitDO given (z ∷ b ∷ [])) true
    (λ signal few. value_needed i.c (kinds_of i.routine) (λ z. Does i instructions.WaitDO given (OfSignal signal ∷ z ∷ [])) sorts.Num (λ e is. wait_signal i signal e few is) b ib) a ia) args are
instructed_safe i instructions.WaitUntil args given other arm are options chosen =
    one_needed i.c (kinds_of i.routine) (Does i instructions.WaitUntil given) (needs.Value sorts.Bool)
    (λ a ia. value_needed i.c (kinds_of i.routine) (λ z. Does i instructions.WaitUntil given (z ∷ [])) sorts.Bool (λ e is. truth_expr i e is) a ia) args are
instructed_safe i instructions.WaitTime args given other arm are options chosen =
    one_needed i.c (kinds_of i.routine) (Does i instructions.WaitTime given) (needs.Value sorts.Num)
    (λ a ia. value_needed i.c (kinds_of i.routine) (λ z. Does i instructions.WaitTime given (z ∷ [])) sorts.Num (λ e is. then_ready (scene i) (num i.c.tree i.routine e) (num_expr i e is)) a ia) args are
instructed_safe i instructions.WaitTestAndSet args given other arm are options chosen =
    one_needed i.c (kinds_of i.routine) (Does i instructions.WaitTestAndSet given) (needs.Pers sorts.Bool)
    (λ a ia. pers_needed i.c (kinds_of i.routine) (λ z. Does i instructions.WaitTestAndSet given (z ∷ [])) sorts.Bool
    (λ p is. at_place i true p sorts.Bool test_and_set is (λ q at. test_safe (scene i) q at)) a ia) args are
instructed_safe i instructions.WaitSyncTask args given other arm are options chosen =
    two_needed i.c (kinds_of i.routine) (Does i instructions.WaitSyncTask given) needs.Meeting needs.TaskList
    (λ a b ia ib. meeting_needed i.c (kinds_of i.routine) (λ z. Does i instructions.WaitSyncTask given (z ∷ b ∷ []))
    (λ number few. tasks_needed i.c (kinds_of i.routine) (λ z. Does i instructions.WaitSyncTask given (OfMeeting number ∷ z ∷ [])) (λ list array. meets i number list few array) b ib) a ia) args are
instructed_safe i instructions.TPWrite args given other arm are options chosen =
    one_needed i.c (kinds_of i.routine) (Does i instructions.TPWrite given) (needs.Value sorts.Text)
    (λ a ia. value_needed i.c (kinds_of i.routine) (λ z. Does i instructions.TPWrite given (z ∷ [])) sorts.Text
    (λ e is. on i (text i.c.tree i.routine e) (λ said. tail i.c.tree i.routine given >>= λ more. tells (requests.Say said more) >> ready) (text_expr i e is)
    (λ said. on i (tail i.c.tree i.routine given) (λ more. tells (requests.Say said more) >> ready) (tail_safe i given options chosen)
    (λ more. then_ready (scene i) (tells (requests.Say said more)) (say_safe (scene i) said more)))) a ia) args are
instructed_safe i instructions.TPErase args given other arm are options chosen =
    none_needed i.c (kinds_of i.routine) (Does i instructions.TPErase given) (safe_any (scene i) true) args are
instructed_safe i instructions.ISignalDI args given other arm are options chosen =
    three_needed i.c (kinds_of i.routine) (Does i instructions.ISignalDI given) (needs.Signal false) (needs.Value sorts.Num) (needs.Place sorts.IntNum)
    (λ a b x ia ib ix. signal_needed i.c (kinds_of i.routine) (λ z. Does i instructions.ISignalDI given (z ∷ b ∷ x ∷ [])) false
    (λ signal few. value_needed i.c (kinds_of i.routine) (λ z. Does i instructions.ISignalDI given (OfSignal signal ∷ z ∷ x ∷ [])) sorts.Num
    (λ e is. place_needed i.c (kinds_of i.routine) (λ z. Does i instructions.ISignalDI given (OfSignal signal ∷ Given e ∷ z ∷ [])) sorts.IntNum
    (λ p there. order_signal i signal e p (has (codes "Single") given) few is there) x ix) b ib) a ia) args are
instructed_safe i instructions.ISignalDO args given other arm are options chosen =
    three_needed i.c (kinds_of i.routine) (Does i instructions.ISignalDO given) (needs.Signal true) (needs.Value sorts.Num) (needs.Place sorts.IntNum)
    (λ a b x ia ib ix. signal_needed i.c (kinds_of i.routine) (λ z. Does i instructions.ISignalDO given (z ∷ b ∷ x ∷ [])) true
    (λ signal few. value_needed i.c (kinds_of i.routine) (λ z. Does i instructions.ISignalDO given (OfSignal signal ∷ z ∷ x ∷ [])) sorts.Num
    (λ e is. place_needed i.c (kinds_of i.routine) (λ z. Does i instructions.ISignalDO given (OfSignal signal ∷ Given e ∷ z ∷ [])) sorts.IntNum
    (λ p there. order_signal i signal e p (has (codes "Single") given) few is there) x ix) b ib) a ia) args are
instructed_safe i instructions.IPers args given other arm are options chosen =
    two_needed i.c (kinds_of i.routine) (Does i instructions.IPers given) needs.PersName (needs.Place sorts.IntNum)
    (λ a b ia ib. name_needed i.c (kinds_of i.routine) (λ z. Does i instructions.IPers given (z ∷ b ∷ []))
    (λ w iw. place_needed i.c (kinds_of i.routine) (λ z. Does i instructions.IPers given (Lent w ∷ z ∷ [])) sorts.IntNum
    (λ p is. safe_then (scene i) (IsPersAt (scene i)) Anything (place i.c.tree i.routine w)
    (λ q. pers_at q.root >>= λ pers. place i.c.tree i.routine p >>= λ r. number_at r >>= λ number. order number (watched.Pers pers) (has (codes "Single") given) >> ready) (name_safe i w iw)
    (λ q at. safe_then (scene i) (λ number. (r : TypedPers) × IsPers i.c.tree number r) Anything (pers_at q.root)
    (λ pers. place i.c.tree i.routine p >>= λ r. number_at r >>= λ number. order number (watched.Pers pers) (has (codes "Single") given) >> ready) (pers_safe (scene i) q at)
    (λ pers there. of_number i false p sorts.IntNum (λ number. order number (watched.Pers pers) (has (codes "Single") given)) refl is
    (λ number. order_safe (scene i) number (watched.Pers pers) (has (codes "Single") given) there)))) b ib) a ia) args are
instructed_safe i instructions.ISleep args given other arm are options chosen =
    one_needed i.c (kinds_of i.routine) (Does i instructions.ISleep given) (needs.Place sorts.IntNum)
    (λ a ia. place_needed i.c (kinds_of i.routine) (λ z. Does i instructions.ISleep given (z ∷ [])) sorts.IntNum
    (λ p is. of_number i false p sorts.IntNum (λ number. asks_of_number (requests.Sleep number)) refl is (λ number. sleep_safe (scene i) number)) a ia) args are
instructed_safe i instructions.IWatch args given other arm are options chosen =
    one_needed i.c (kinds_of i.routine) (Does i instructions.IWatch given) (needs.Place sorts.IntNum)
    (λ a ia. place_needed i.c (kinds_of i.routine) (λ z. Does i instructions.IWatch given (z ∷ [])) sorts.IntNum
    (λ p is. of_number i false p sorts.IntNum (λ number. asks_of_number (requests.Watch number)) refl is (λ number. watch_safe (scene i) number)) a ia) args are
instructed_safe i instructions.IDelete args given other arm are options chosen =
    one_needed i.c (kinds_of i.routine) (Does i instructions.IDelete given) (needs.Place sorts.IntNum)
    (λ a ia. place_needed i.c (kinds_of i.routine) (λ z. Does i instructions.IDelete given (z ∷ [])) sorts.IntNum
    (λ p is. of_number i false p sorts.IntNum (λ number. asks_of_number (requests.Delete number)) refl is (λ number. delete_safe (scene i) number)) a ia) args are
instructed_safe i instructions.IDisable args given other arm are options chosen =
    none_needed i.c (kinds_of i.routine) (Does i instructions.IDisable given) (then_ready (scene i) (tells requests.Disable) (disable_safe (scene i))) args are
instructed_safe i instructions.IEnable args given other arm are options chosen =
    none_needed i.c (kinds_of i.routine) (Does i instructions.IEnable given) (then_ready (scene i) (tells requests.Enable) (enable_safe (scene i))) args are
instructed_safe i instructions.WZLimJointDef args given other arm are options chosen =
    three_needed i.c (kinds_of i.routine) (Does i instructions.WZLimJointDef given) (needs.Var sorts.ShapeData) (needs.Value sorts.JointTarget) (needs.Value sorts.JointTarget)
    (λ a b x ia ib ix. var_needed i.c (kinds_of i.routine) (λ z. Does i instructions.WZLimJointDef given (z ∷ b ∷ x ∷ [])) sorts.ShapeData
    (λ p is. value_needed i.c (kinds_of i.routine) (λ z. Does i instructions.WZLimJointDef given (Lent p ∷ z ∷ x ∷ [])) sorts.JointTarget
    (λ low il. value_needed i.c (kinds_of i.routine) (λ z. Does i instructions.WZLimJointDef given (Lent p ∷ Given low ∷ z ∷ [])) sorts.JointTarget
    (λ high ih. at_place i true p sorts.ShapeData (λ q. target i.c.tree i.routine low >>= λ l. target i.c.tree i.routine high >>= λ h. define i.c.tree.axes q (has (codes "Inside") given) l h >> ready) is
    (λ q at. on i (target i.c.tree i.routine low) (λ l. target i.c.tree i.routine high >>= λ h. define i.c.tree.axes q (has (codes "Inside") given) l h >> ready) (target_expr i low il)
    (λ l. on i (target i.c.tree i.routine high) (λ h. define i.c.tree.axes q (has (codes "Inside") given) l h >> ready) (target_expr i high ih)
    (λ h. then_ready (scene i) (define i.c.tree.axes q (has (codes "Inside") given) l h) (define_safe (scene i) q (has (codes "Inside") given) l h at))))) x ix) b ib) a ia) args are
instructed_safe i instructions.WZHomeJointDef args given other arm are options chosen =
    three_needed i.c (kinds_of i.routine) (Does i instructions.WZHomeJointDef given) (needs.Var sorts.ShapeData) (needs.Value sorts.JointTarget) (needs.Value sorts.JointTarget)
    (λ a b x ia ib ix. var_needed i.c (kinds_of i.routine) (λ z. Does i instructions.WZHomeJointDef given (z ∷ b ∷ x ∷ [])) sorts.ShapeData
    (λ p is. value_needed i.c (kinds_of i.routine) (λ z. Does i instructions.WZHomeJointDef given (Lent p ∷ z ∷ x ∷ [])) sorts.JointTarget
    (λ low il. value_needed i.c (kinds_of i.routine) (λ z. Does i instructions.WZHomeJointDef given (Lent p ∷ Given low ∷ z ∷ [])) sorts.JointTarget
    (λ high ih. at_place i true p sorts.ShapeData (λ q. target i.c.tree i.routine low >>= λ l. target i.c.tree i.routine high >>= λ h. define_home i.c.tree.axes q (has (codes "Inside") given) l h >> ready) is
    (λ q at. on i (target i.c.tree i.routine low) (λ l. target i.c.tree i.routine high >>= λ h. define_home i.c.tree.axes q (has (codes "Inside") given) l h >> ready) (target_expr i low il)
    (λ l. on i (target i.c.tree i.routine high) (λ h. define_home i.c.tree.axes q (has (codes "Inside") given) l h >> ready) (target_expr i high ih)
    (λ h. then_ready (scene i) (define_home i.c.tree.axes q (has (codes "Inside") given) l h) (home_safe (scene i) q (has (codes "Inside") given) l h at))))) x ix) b ib) a ia) args are
instructed_safe i instructions.WZLimSup args given other arm are options chosen =
    two_needed i.c (kinds_of i.routine) (Does i instructions.WZLimSup given) needs.WorldZone (needs.Place sorts.ShapeData)
    (λ a b ia ib. zone_needed i.c (kinds_of i.routine) (λ z. Does i instructions.WZLimSup given (z ∷ b ∷ []))
    (λ zone sort zoned iz. place_needed i.c (kinds_of i.routine) (λ z. Does i instructions.WZLimSup given (Lent zone ∷ z ∷ [])) sorts.ShapeData
    (λ shape is. at_place i true zone sort
    (λ q. number_at q >>= λ old. place i.c.tree i.routine shape >>= λ p. shape_at p >>= λ s. supervise q old (has (codes "Temp") given) s >> ready) iz
    (λ q at. on i (number_at q) (λ old. place i.c.tree i.routine shape >>= λ p. shape_at p >>= λ s. supervise q old (has (codes "Temp") given) s >> ready)
    (number_safe (scene i) true q sort (zone_marked sort zoned) at)
    (λ old. at_place i false shape sorts.ShapeData (λ p. shape_at p >>= λ s. supervise q old (has (codes "Temp") given) s >> ready) is
    (λ p there. on i (shape_at p) (λ s. supervise q old (has (codes "Temp") given) s >> ready) (shape_at_safe (scene i) p there)
    (λ s. then_ready (scene i) (supervise q old (has (codes "Temp") given) s) (supervise_safe (scene i) q sort old (has (codes "Temp") given) s arm (zone_marked sort zoned) at)))))) b ib) a ia) args are
instructed_safe i instructions.WZDOSet args given other arm are options chosen =
    four_needed i.c (kinds_of i.routine) (Does i instructions.WZDOSet given) needs.WorldZone (needs.Place sorts.ShapeData) (needs.Signal true) (needs.Value sorts.Num)
    (λ a b x y ia ib ix iy. zone_needed i.c (kinds_of i.routine) (λ z. Does i instructions.WZDOSet given (z ∷ b ∷ x ∷ y ∷ []))
    (λ zone sort zoned iz. place_needed i.c (kinds_of i.routine) (λ z. Does i instructions.WZDOSet given (Lent zone ∷ z ∷ x ∷ y ∷ [])) sorts.ShapeData
    (λ shape is. signal_needed i.c (kinds_of i.routine) (λ z. Does i instructions.WZDOSet given (Lent zone ∷ Lent shape ∷ z ∷ y ∷ [])) true
    (λ signal few. value_needed i.c (kinds_of i.routine) (λ z. Does i instructions.WZDOSet given (Lent zone ∷ Lent shape ∷ OfSignal signal ∷ z ∷ [])) sorts.Num
    (λ e ie. at_place i true zone sort (λ q. number_at q >>= λ old. ties i shape signal e (has (codes "Temp") given) q old) iz
    (λ q at. on i (number_at q) (λ old. ties i shape signal e (has (codes "Temp") given) q old) (number_safe (scene i) true q sort (zone_marked sort zoned) at)
    (λ old. ties_safe i shape signal e (has (codes "Temp") given) q sort old arm few zoned is ie at))) y iy) x ix) b ib) a ia) args are
instructed_safe i instructions.WZDisable args given other arm are options chosen =
    one_needed i.c (kinds_of i.routine) (Does i instructions.WZDisable given) (needs.Var sorts.WzTemporary)
    (λ a ia. var_needed i.c (kinds_of i.routine) (λ z. Does i instructions.WZDisable given (z ∷ [])) sorts.WzTemporary
    (λ p is. of_number i true p sorts.WzTemporary (λ number. asks_of_zone (requests.ZoneOff number)) refl is (λ number. zone_off_safe (scene i) number arm)) a ia) args are
instructed_safe i instructions.WZEnable args given other arm are options chosen =
    one_needed i.c (kinds_of i.routine) (Does i instructions.WZEnable given) (needs.Var sorts.WzTemporary)
    (λ a ia. var_needed i.c (kinds_of i.routine) (λ z. Does i instructions.WZEnable given (z ∷ [])) sorts.WzTemporary
    (λ p is. of_number i true p sorts.WzTemporary (λ number. asks_of_zone (requests.ZoneOn number)) refl is (λ number. zone_on_safe (scene i) number arm)) a ia) args are
instructed_safe i instructions.WZFree args given other arm are options chosen =
    one_needed i.c (kinds_of i.routine) (Does i instructions.WZFree given) (needs.Var sorts.WzTemporary)
    (λ a ia. var_needed i.c (kinds_of i.routine) (λ z. Does i instructions.WZFree given (z ∷ [])) sorts.WzTemporary
    (λ p is. at_place i true p sorts.WzTemporary (λ q. number_at q >>= λ number. asks_of_zone (requests.ZoneFree number) >> (store q (datums.Mark 0) >> ready)) is
    (λ q at. on i (number_at q) (λ number. asks_of_zone (requests.ZoneFree number) >> (store q (datums.Mark 0) >> ready)) (number_safe (scene i) true q sorts.WzTemporary refl at)
    (λ number. on i (asks_of_zone (requests.ZoneFree number)) (λ _. store q (datums.Mark 0) >> ready) (zone_free_safe (scene i) number arm)
    (λ _. then_ready (scene i) (store q (datums.Mark 0)) (store_safe (scene i) q sorts.WzTemporary (datums.Mark 0) at refl))))) a ia) args are
instructed_safe i instructions.Incr args given other arm are options chosen =
    one_needed i.c (kinds_of i.routine) (Does i instructions.Incr given) (needs.Written sorts.Num)
    (λ a ia. written_needed i.c (kinds_of i.routine) (λ z. Does i instructions.Incr given (z ∷ [])) sorts.Num
    (λ p is. at_place i true p sorts.Num (λ q. read_value q >>= λ v. num_in v >>= λ n. in_range (sum_of n (pos 1_000)) >>= λ w. write_value q w >> ready) is
    (λ q at. counted_num i q (λ n. sum_of n (pos 1_000)) at)) a ia) args are
instructed_safe i instructions.Decr args given other arm are options chosen =
    one_needed i.c (kinds_of i.routine) (Does i instructions.Decr given) (needs.Written sorts.Num)
    (λ a ia. written_needed i.c (kinds_of i.routine) (λ z. Does i instructions.Decr given (z ∷ [])) sorts.Num
    (λ p is. at_place i true p sorts.Num (λ q. read_value q >>= λ v. num_in v >>= λ n. in_range (difference_of n (pos 1_000)) >>= λ w. write_value q w >> ready) is
    (λ q at. counted_num i q (λ n. difference_of n (pos 1_000)) at)) a ia) args are
instructed_safe i instructions.Clear args given other arm are options chosen =
    one_needed i.c (kinds_of i.routine) (Does i instructions.Clear given) (needs.Written sorts.Num)
    (λ a ia. written_needed i.c (kinds_of i.routine) (λ z. Does i instructions.Clear given (z ∷ [])) sorts.Num
    (λ p is. at_place i true p sorts.Num (λ q. write_value q (whole 0) >> ready) is
    (λ q at. then_ready (scene i) (write_value q (whole 0)) (store_safe (scene i) q sorts.Num (datums.Plain (whole 0)) at refl))) a ia) args are
instructed_safe i instructions.Add args given other arm are options chosen =
    two_needed i.c (kinds_of i.routine) (Does i instructions.Add given) (needs.Written sorts.Num) (needs.Value sorts.Num)
    (λ a b ia ib. written_needed i.c (kinds_of i.routine) (λ z. Does i instructions.Add given (z ∷ b ∷ [])) sorts.Num
    (λ p is. value_needed i.c (kinds_of i.routine) (λ z. Does i instructions.Add given (Lent p ∷ z ∷ [])) sorts.Num
    (λ e ie. at_place i true p sorts.Num (λ q. num i.c.tree i.routine e >>= λ m. read_value q >>= λ v. num_in v >>= λ n. in_range (sum_of n m) >>= λ w. write_value q w >> ready) is
    (λ q at. on i (num i.c.tree i.routine e) (λ m. read_value q >>= λ v. num_in v >>= λ n. in_range (sum_of n m) >>= λ w. write_value q w >> ready) (num_expr i e ie)
    (λ m. counted_num i q (λ n. sum_of n m) at))) b ib) a ia) args are
