-- Statements and lists of them.
use Rattle.std.proofs.Common.{◌≡◌, ◌⊎◌, ⊎_elim, refl, sym, ap, ◌∙◌, subst, ℕ, ◌+◌, ◌<◌, ◌/◌, ◌%◌, ◌==◌, ◌&&◌, nat_le, Bool, true, false, ℤ, pos, negsuc, List, [], ◌∷◌, map, flat_map, Option, Some, None, is_some, slice_get, if◌then◌else◌, IsTrue, arith}
use Rattle.std.specs.Prelude.{⊤}
use Rattle.std.proofs.lemmas.Bool.{ltb-true}
use Rattle.rapid_num.specs.Arithmetic.{sum_of}
use Rattle.rapid_model.specs.declared.fate.Fate.TheVariants as fates
use Rattle.rapid_model.specs.declared.fate.Fault.TheVariants.{RaiseRange}
use Rattle.rapid_model.specs.declared.instruction.Instruction.{Instruction}
use Rattle.rapid_model.specs.declared.instruction.Instruction.TheVariants as instructions
use Rattle.rapid_model.specs.declared.sort.Sort.{Sort}
use Rattle.rapid_model.specs.declared.sort.Sort.TheVariants as sorts
use Rattle.rapid_model.specs.declared.value.Value.{Value}
use Rattle.rapid_model.specs.declared.value.Value.TheVariants as values
use Rattle.rapid_model.specs.Sorts.{is_compared}
use Rattle.rapid_model.specs.declared.operator.Operator.TheVariants as operators
use Rattle.rapid_values.specs.Operators.{apply}
use Rattle.typed_trees.specs.Plain as trees
use Rattle.typed_trees.specs.Plain.{TypedArgs, TypedArms, TypedCases, TypedElse, TypedExpr, TypedExprs, TypedRoutine, TypedStmt, TypedStmts, NoExprs, MoreExprs, NoStmts, MoreStmts, NoArms, MoreArms, NoCases, MoreCases, NoElse, Else}
use Rattle.typed_trees.specs.declared.datum.Datum.TheVariants as datums
use Rattle.rapid_meaning.specs.Answering.{is_trap_kind, is_trap_row}
use Rattle.rapid_meaning.specs.Doings.{Doing, Gives, Raises, ◌>>=◌, after, calls, change, fault, goes_to}
use Rattle.rapid_meaning.specs.Errors.{failed, failed_in, header, parted, raised_again}
use Rattle.rapid_meaning.specs.Expressions.{arguments, expr, place}
use Rattle.rapid_meaning.specs.Flows.{Flow, Normal, Jumps, Returns, Retries, Skips, Errors, Unguarded, Guarded, InPart, Way, Where, Attempt, Turn, Leg, Rest}
use Rattle.rapid_meaning.specs.Instructions.{aimed, instructed, needed, num, options, truth}
use Rattle.rapid_meaning.specs.Interrupts.{connect, number_at}
use Rattle.rapid_meaning.specs.Layouts.{local_start}
use Rattle.rapid_meaning.specs.Lists.{behind, ended, items, jumped, rest}
use Rattle.rapid_meaning.specs.Looks.{look}
use Rattle.rapid_meaning.specs.Loops.{bounds, counted, counter, counter_place, counts_on, direction, has_passed, set_counter, step_value, turn_due}
use Rattle.rapid_meaning.specs.Moves.{further, has_next}
use Rattle.rapid_meaning.specs.Places.{own_place, read_value, write_value}
use Rattle.rapid_meaning.specs.Statements.{again_behind, and_then, assign, byte_of, call, chosen, connects, done_or_held, follows, goes_on, inner, inner_or_not, instructs, is_among, leg, points, raised, selected, stmt, turn, turned}
use Rattle.rapid_meaning.specs.Values.{applied, num_in, truth_in}
use Rattle.rapid_meaning.specs.Doings as doings
use Rattle.rapid_meaning.proofs.Begins.{Anything}
use Rattle.tree_typing.specs.Expressions.{AreArgs, IsExpr, IsPlace}
use Rattle.tree_typing.specs.Instructions.{IsInstruction}
use Rattle.tree_typing.specs.Kinds.{Counts, Kind, cells_of, kind_of, kinds_of, need_of}
use Rattle.tree_typing.specs.Setting.{Setting}
use Rattle.tree_typing.specs.Statements.{Around, AreArms, AreCaseValues, AreCases, AreStmts, IsElse, IsStep, IsStmt, Sees, into}
use Rattle.tree_typing.proofs.Acts.{connect_safe, number_safe, num_expr, point_safe, truth_expr, when_safe}
use Rattle.tree_typing.proofs.Expressions.{AreArgsOf, HasSort, all_safe, args_safe, call_safe, expr_safe, place_safe}
use Rattle.tree_typing.proofs.Forms.{num_form}
use Rattle.tree_typing.proofs.Instructions.{aimed_safe, instructed_safe}
use Rattle.tree_typing.proofs.Loads.{read_safe, store_safe, truth_safe}
use Rattle.tree_typing.proofs.Looks.{hold_safe, look_safe}
use Rattle.tree_typing.proofs.Operators.{apply_is, applied_safe}
use Rattle.tree_typing.proofs.Places.{Inside, IsThere, num_safe, count_cell, own_safe, scene}
use Rattle.tree_typing.proofs.Safe.{Safe, safe_after, safe_any, safe_change, safe_does, safe_ends, safe_fault, safe_gives, safe_goes, safe_raises, safe_reads, safe_then}
use Rattle.tree_typing.proofs.Scene.{AreErrors, Facts, Ghost, IsFlow, IsFor, IsPart, IsResult, IsWay, Scene, around_of, is_in_part}

-- in the routine of a part
abbrev pub inside_of : (c : Setting) → Facts c → Ghost → TypedRoutine → Inside
inside_of c facts g routine = record { c = c; facts = facts; trapped = g.trapped; routine = routine; below = g.frames }

abbrev pub place_of : (c : Setting) → Facts c → Ghost → Where → Scene
place_of c facts g w = scene (inside_of c facts g w.routine)

-- ends as a statement does
abbrev pub Flows : (c : Setting) → Facts c → Ghost → Where → Doing Flow → Type 0
Flows c facts g w m = Safe (place_of c facts g w) (IsFlow (around_of w g.lists)) m

goes_normal : (c : Setting) (facts : Facts c) (g : Ghost) (w : Where) → Flows c facts g w (Gives Normal)
goes_normal c facts g w = safe_gives (place_of c facts g w) (IsFlow (around_of w g.lists)) Normal tt

-- the ERROR part ends for the statement that failed
parted_safe : (c : Setting) (facts : Facts c) (g : Ghost) (w : Where) (s : TypedStmt) (error : ℕ) (flow : Flow) → IsPart c g (Attempt w s)
    → IsFlow (around_of (record w { errors = InPart error }) []) flow → Flows c facts g w (parted w s error flow)
parted_safe c facts g w s error Normal part is = safe_raises (place_of c facts g w) (IsFlow (around_of w g.lists)) error
parted_safe c facts g w s error (Jumps label) part is = absurd is
parted_safe c facts g w s error (Returns None) part is = safe_gives (place_of c facts g w) (IsFlow (around_of w g.lists)) (Returns None) is
parted_safe c facts g w s error (Returns (Some v)) part is = safe_gives (place_of c facts g w) (IsFlow (around_of w g.lists)) (Returns (Some v)) is
parted_safe c facts g w s error Retries part is = safe_goes c facts g (Attempt w s) part
parted_safe c facts g w s error Skips part is = goes_normal c facts g w

failed_by : (c : Setting) (facts : Facts c) (g : Ghost) (w : Where) (s : TypedStmt) (errors : Errors) (error : ℕ) → IsPart c g (Attempt w s) → AreErrors c w.routine errors
    → Flows c facts g w (failed_in errors w s error)
failed_by c facts g w s Unguarded error part are = safe_raises (place_of c facts g w) (IsFlow (around_of w g.lists)) error
failed_by c facts g w s (InPart entered) error part are = safe_raises (place_of c facts g w) (IsFlow (around_of w g.lists)) error
failed_by c facts g w s (Guarded list) error part are =
    safe_then (place_of c facts g w) Anything (IsFlow (around_of w g.lists)) (change (λ d. record d { errno = error }))
    (λ _. doings.Does (Rest (record w { errors = InPart error }) list list) (parted w s error) Raises)
    (safe_change (place_of c facts g w) (λ d. record d { errno = error }) (λ d is. record { slots = is.slots; frames_are = is.frames_are; called = is.called; in_trap = is.in_trap }))
    (λ _ _. safe_does c facts (record { trapped = g.trapped; frames = g.frames; lists = [] }) (Rest (record w { errors = InPart error }) list list) (IsFlow (around_of w g.lists)) (parted w s error) Raises
    (tt, are, are) (λ flow ends. parted_safe c facts g w s error flow part ends) (safe_raises (place_of c facts g w) (IsFlow (around_of w g.lists))))

pub header_safe : {A : Type 0} (c : Setting) (facts : Facts c) (g : Ghost) (w : Where) (s : TypedStmt) (P : A → Type 0) (own : Doing A) (next : A → Doing Flow) → IsPart c g (Attempt w s)
    → Safe (place_of c facts g w) P own → ((v : A) → P v → Flows c facts g w (next v)) → Flows c facts g w (header w s own next)
header_safe c facts g w s P own next part safe more =
    safe_after (place_of c facts g w) P (IsFlow (around_of w g.lists)) own next (failed w s) safe more (λ n. failed_by c facts g w s w.errors n part part.0)

-- a list inside a statement
inner_safe : (c : Setting) (facts : Facts c) (g : Ghost) (w : Where) (list : TypedStmts) → AreErrors c w.routine w.errors → AreStmts c (into (around_of w g.lists) list) list
    → Flows c facts g w (inner w list)
inner_safe c facts g w list errors are = safe_goes c facts g (Rest w list list) (errors, are, are)

other_safe : (c : Setting) (facts : Facts c) (g : Ghost) (w : Where) (other : TypedElse) → AreErrors c w.routine w.errors → IsElse c (around_of w g.lists) other → Flows c facts g w (inner_or_not w other)
other_safe c facts g w NoElse errors is = goes_normal c facts g w
other_safe c facts g w (Else list) errors is = inner_safe c facts g w list errors is

then_safe : (c : Setting) (facts : Facts c) (g : Ghost) (w : Where) (next : Doing Flow) (flow : Flow) → Flows c facts g w next → IsFlow (around_of w g.lists) flow → Flows c facts g w (and_then next flow)
then_safe c facts g w next Normal safe is = safe
then_safe c facts g w next (Jumps label) safe is = safe_gives (place_of c facts g w) (IsFlow (around_of w g.lists)) (Jumps label) is
then_safe c facts g w next (Returns v) safe is = safe_gives (place_of c facts g w) (IsFlow (around_of w g.lists)) (Returns v) is
then_safe c facts g w next Retries safe is = safe_gives (place_of c facts g w) (IsFlow (around_of w g.lists)) Retries is
then_safe c facts g w next Skips safe is = safe_gives (place_of c facts g w) (IsFlow (around_of w g.lists)) Skips is

assign_safe : (i : Inside) (p : trees.TypedPlace) (e : TypedExpr) (sort : Sort) → IsPlace i.c (kinds_of i.routine) true p sort → IsExpr i.c (kinds_of i.routine) e sort → Safe (scene i) Anything (assign i.c.tree i.routine p e)
assign_safe i p e sort ip ie =
    safe_then (scene i) (λ q. IsThere (scene i) true q sort) Anything (place i.c.tree i.routine p) (λ q. expr i.c.tree i.routine e >>= write_value q) (place_safe i true p sort ip)
    (λ q at. safe_then (scene i) (HasSort sort) Anything (expr i.c.tree i.routine e) (write_value q) (expr_safe i e sort ie) (λ v h. store_safe (scene i) q sort (datums.Plain v) at h))

call_stmt : (i : Inside) (called : ℕ) (routine : TypedRoutine) (args : trees.TypedArgs) → slice_get i.c.tree.routines called ≡ Some routine
    → AreArgs i.c (kinds_of i.routine) args (map need_of routine.params) → Safe (scene i) Anything (call i.c.tree i.routine called args)
unfolding after
call_stmt i called routine args e are =
    safe_then (scene i) (AreArgsOf (scene i) (flat_map cells_of (map kind_of routine.params))) Anything (arguments i.c.tree i.routine args) (λ xs. calls called xs)
    (args_safe i routine.params args (all_safe i args) are)
    (λ xs held. safe_then (scene i) (λ flow. IsResult (slice_get i.c.tree.routines called) flow) Anything (calls called xs) Gives (call_safe i called routine xs e held) (λ flow _. safe_any (scene i) flow))

raised_num : (s : Scene) (n : ℤ) → Safe s Anything (raised (values.Num n))
raised_num s (pos n) =
    when_safe s Anything (n % 1_000 == 0 && nat_le 1 (n / 1_000) && nat_le (n / 1_000) 90) (Raises (n / 1_000)) (fault RaiseRange) (λ _. safe_raises {A = ⊤} s Anything (n / 1_000)) (λ _. safe_fault {A = ⊤} s Anything RaiseRange)
raised_num s (negsuc n) = safe_fault {A = ⊤} s Anything RaiseRange

raised_safe : (s : Scene) (v : Value) → HasSort sorts.Num v → Safe s Anything (raised v)
raised_safe s v h = let f : (n : ℤ) × (v ≡ values.Num n) = num_form v h in subst (λ (x : Value). Safe s Anything (raised x)) (sym f.1) (raised_num s f.0)

again_safe : (c : Setting) (facts : Facts c) (g : Ghost) (w : Where) (errors : Errors) → IsTrue (is_in_part errors) → Flows c facts g w (raised_again errors)
again_safe c facts g w (InPart entered) is = safe_raises (place_of c facts g w) (IsFlow (around_of w g.lists)) entered
again_safe c facts g w Unguarded is = absurd cc
again_safe c facts g w (Guarded list) is = absurd cc

connects_safe : (i : Inside) (p : trees.TypedPlace) (trap : ℕ) → IsTrue (is_trap_row (slice_get i.c.tree.routines trap)) → IsPlace i.c (kinds_of i.routine) true p sorts.IntNum → Safe (scene i) Anything (connects i.c.tree i.routine p trap)
connects_safe i p trap there is =
    safe_then (scene i) (λ q. IsThere (scene i) true q sorts.IntNum) Anything (place i.c.tree i.routine p) (λ q. number_at q >>= λ old. connect q old trap) (place_safe i true p sorts.IntNum is)
    (λ q at. safe_then (scene i) Anything Anything (number_at q) (λ old. connect q old trap) (number_safe (scene i) true q sorts.IntNum refl at) (λ old _. connect_safe (scene i) q old trap there at))

-- IF and TEST choose a list
chosen_safe : (i : Inside) (around : Around) (arms : TypedArms) (other : TypedElse) → around.places ≡ kinds_of i.routine → AreArms i.c around arms → IsElse i.c around other
    → Safe (scene i) (IsElse i.c around) (chosen i.c.tree i.routine arms other)
chosen_safe i around NoArms other same are is = safe_gives (scene i) (IsElse i.c around) other is
chosen_safe i around (MoreArms e list more) other same are is =
    safe_then (scene i) Anything (IsElse i.c around) (truth i.c.tree i.routine e) (λ b. if b then Gives (Else list) else chosen i.c.tree i.routine more other)
    (truth_expr i e (subst (λ (ks : List Kind). IsExpr i.c ks e sorts.Bool) same are.0))
    (λ b _. when_safe (scene i) (IsElse i.c around) b (Gives (Else list)) (chosen i.c.tree i.routine more other) (λ _. safe_gives (scene i) (IsElse i.c around) (Else list) are.1)
    (λ _. chosen_safe i around more other same are.2 is))

among_safe : (i : Inside) (sort : Sort) (v : Value) (es : TypedExprs) → IsTrue (is_compared sort) → HasSort sort v → AreCaseValues i.c (kinds_of i.routine) es sort
    → Safe (scene i) Anything (is_among i.c.tree i.routine v es)
among_safe i sort v NoExprs compared h are = safe_any (scene i) false
among_safe i sort v (MoreExprs e es) compared h are =
    safe_then (scene i) (HasSort sort) Anything (expr i.c.tree i.routine e)
    (λ w. applied (apply operators.Equal v w) >>= λ equal. truth_in equal >>= λ b. if b then Gives true else is_among i.c.tree i.routine v es) (expr_safe i e sort are.0)
    (λ w hw. safe_then (scene i) (HasSort sorts.Bool) Anything (applied (apply operators.Equal v w)) (λ equal. truth_in equal >>= λ b. if b then Gives true else is_among i.c.tree i.routine v es)
    (applied_safe (scene i) sorts.Bool (apply operators.Equal v w) (apply_is operators.Equal sort sorts.Bool v w (compared, refl) h hw))
    (λ equal he. safe_then (scene i) Anything Anything (truth_in equal) (λ b. if b then Gives true else is_among i.c.tree i.routine v es) (truth_safe (scene i) equal he)
    (λ b _. when_safe (scene i) Anything b (Gives true) (is_among i.c.tree i.routine v es) (λ _. safe_any (scene i) true) (λ _. among_safe i sort v es compared h are.1))))

selected_safe : (i : Inside) (around : Around) (sort : Sort) (v : Value) (cases : TypedCases) (other : TypedElse) → around.places ≡ kinds_of i.routine → IsTrue (is_compared sort) → HasSort sort v
    → AreCases i.c around cases sort → IsElse i.c around other → Safe (scene i) (IsElse i.c around) (selected i.c.tree i.routine v cases other)
selected_safe i around sort v NoCases other same compared h are is = safe_gives (scene i) (IsElse i.c around) other is
selected_safe i around sort v (MoreCases es list more) other same compared h are is =
    safe_then (scene i) Anything (IsElse i.c around) (is_among i.c.tree i.routine v es) (λ b. if b then Gives (Else list) else selected i.c.tree i.routine v more other)
    (among_safe i sort v es compared h (subst (λ (ks : List Kind). AreCaseValues i.c ks es sort) same are.0))
    (λ b _. when_safe (scene i) (IsElse i.c around) b (Gives (Else list)) (selected i.c.tree i.routine v more other) (λ _. safe_gives (scene i) (IsElse i.c around) (Else list) are.1)
    (λ _. selected_safe i around sort v more other same compared h are.2 is))

-- the three data of a FOR
counter_place_safe : (i : Inside) (local which : ℕ) → slice_get (kinds_of i.routine) local ≡ Some Counts → which < 3 → Safe (scene i) (λ q. IsThere (scene i) true q sorts.Num) (counter_place i.routine local which)
counter_place_safe i local which e few =
    safe_reads (scene i) (λ q. IsThere (scene i) true q sorts.Num) (λ d. Gives (own_place (local_start i.routine local + which) d.frames))
    (own_safe i (λ q. IsThere (scene i) true q sorts.Num) (local_start i.routine local + which) (count_cell i local which e few))

counter_safe : (i : Inside) (local which : ℕ) → slice_get (kinds_of i.routine) local ≡ Some Counts → which < 3 → Safe (scene i) Anything (counter i.routine local which)
counter_safe i local which e few =
    safe_then (scene i) (λ q. IsThere (scene i) true q sorts.Num) Anything (counter_place i.routine local which) (λ p. read_value p >>= num_in) (counter_place_safe i local which e few)
    (λ q at. safe_then (scene i) (HasSort sorts.Num) Anything (read_value q) num_in (read_safe (scene i) true q sorts.Num refl at) (λ v h. num_safe (scene i) v h))

set_safe : (i : Inside) (local which : ℕ) (n : ℤ) → slice_get (kinds_of i.routine) local ≡ Some Counts → which < 3 → Safe (scene i) Anything (set_counter i.routine local which n)
set_safe i local which n e few =
    safe_then (scene i) (λ q. IsThere (scene i) true q sorts.Num) Anything (counter_place i.routine local which) (λ p. write_value p (values.Num n)) (counter_place_safe i local which e few)
    (λ q at. store_safe (scene i) q sorts.Num (datums.Plain (values.Num n)) at refl)

step_value_safe : (i : Inside) (first last : ℤ) (step : Option TypedExpr) → IsStep i.c (kinds_of i.routine) step → Safe (scene i) Anything (step_value i.c.tree i.routine first last step)
step_value_safe i first last None is = safe_any (scene i) (direction first last)
step_value_safe i first last (Some step) is = num_expr i step is

bounds_safe : (i : Inside) (local : ℕ) (first last : TypedExpr) (step : Option TypedExpr) → slice_get (kinds_of i.routine) local ≡ Some Counts → IsExpr i.c (kinds_of i.routine) first sorts.Num
    → IsExpr i.c (kinds_of i.routine) last sorts.Num → IsStep i.c (kinds_of i.routine) step → Safe (scene i) Anything (bounds i.c.tree i.routine local first last step)
bounds_safe i local first last step e ifirst ilast istep =
    safe_then (scene i) Anything Anything (num i.c.tree i.routine first) _ (num_expr i first ifirst)
    (λ from _. safe_then (scene i) Anything Anything (num i.c.tree i.routine last) _ (num_expr i last ilast)
    (λ to _. safe_then (scene i) Anything Anything (step_value i.c.tree i.routine from to step) _ (step_value_safe i from to step istep)
    (λ by _. safe_then (scene i) Anything Anything (set_counter i.routine local 0 from) _ (set_safe i local 0 from e (omega arith))
    (λ _ _. safe_then (scene i) Anything Anything (set_counter i.routine local 1 to) _ (set_safe i local 1 to e (omega arith))
    (λ _ _. set_safe i local 2 by e (omega arith))))))

-- the next iteration of a FOR
due_safe : (c : Setting) (facts : Facts c) (g : Ghost) (w : Where) (s : TypedStmt) (local : ℕ) → slice_get (kinds_of w.routine) local ≡ Some Counts → IsPart c g (Turn w s)
    → Flows c facts g w (turn_due w.routine local (Turn w s))
due_safe c facts g w s local e part =
    safe_then (place_of c facts g w) Anything (IsFlow (around_of w g.lists)) (counter w.routine local 0)
    (λ variable. counter w.routine local 1 >>= λ last. counter w.routine local 2 >>= λ step. if has_passed variable last step then Gives Normal else goes_to (Turn w s))
    (counter_safe (inside_of c facts g w.routine) local 0 e (omega arith))
    (λ variable _. safe_then (place_of c facts g w) Anything (IsFlow (around_of w g.lists)) (counter w.routine local 1)
    (λ last. counter w.routine local 2 >>= λ step. if has_passed variable last step then Gives Normal else goes_to (Turn w s)) (counter_safe (inside_of c facts g w.routine) local 1 e (omega arith))
    (λ last _. safe_then (place_of c facts g w) Anything (IsFlow (around_of w g.lists)) (counter w.routine local 2)
    (λ step. if has_passed variable last step then Gives Normal else goes_to (Turn w s)) (counter_safe (inside_of c facts g w.routine) local 2 e (omega arith))
    (λ step _. when_safe (place_of c facts g w) (IsFlow (around_of w g.lists)) (has_passed variable last step) (Gives Normal) (goes_to (Turn w s)) (λ _. goes_normal c facts g w)
    (λ _. safe_goes c facts g (Turn w s) part))))

counted_safe : (c : Setting) (facts : Facts c) (g : Ghost) (w : Where) (s : TypedStmt) (local : ℕ) (o : Option ℤ) → slice_get (kinds_of w.routine) local ≡ Some Counts → IsPart c g (Turn w s)
    → Flows c facts g w (counted w.routine local (Turn w s) o)
counted_safe c facts g w s local None e part = goes_normal c facts g w
counted_safe c facts g w s local (Some n) e part =
    safe_then (place_of c facts g w) Anything (IsFlow (around_of w g.lists)) (set_counter w.routine local 0 n) (λ _. turn_due w.routine local (Turn w s)) (set_safe (inside_of c facts g w.routine) local 0 n e (omega arith))
    (λ _ _. due_safe c facts g w s local e part)

counts_safe : (c : Setting) (facts : Facts c) (g : Ghost) (w : Where) (s : TypedStmt) (local : ℕ) → slice_get (kinds_of w.routine) local ≡ Some Counts → IsPart c g (Turn w s)
    → Flows c facts g w (counts_on w.routine local (Turn w s))
counts_safe c facts g w s local e part =
    safe_then (place_of c facts g w) Anything (IsFlow (around_of w g.lists)) (counter w.routine local 0) (λ variable. counter w.routine local 2 >>= λ step. counted w.routine local (Turn w s) (sum_of variable step))
    (counter_safe (inside_of c facts g w.routine) local 0 e (omega arith))
    (λ variable _. safe_then (place_of c facts g w) Anything (IsFlow (around_of w g.lists)) (counter w.routine local 2) (λ step. counted w.routine local (Turn w s) (sum_of variable step))
    (counter_safe (inside_of c facts g w.routine) local 2 e (omega arith)) (λ step _. counted_safe c facts g w s local (sum_of variable step) e part))

turned_safe : (c : Setting) (facts : Facts c) (g : Ghost) (w : Where) (s t : TypedStmt) → IsPart c g (Turn w s) → IsFor t → IsStmt c (around_of w g.lists) t → Flows c facts g w (turned w (Turn w s) t)
turned_safe c facts g w s (trees.For at local first last step list) part loops is =
    safe_then (place_of c facts g w) (IsFlow (around_of w g.lists)) (IsFlow (around_of w g.lists)) (inner w list) (and_then (counts_on w.routine local (Turn w s))) (inner_safe c facts g w list part.0 is.4)
    (λ flow ends. then_safe c facts g w (counts_on w.routine local (Turn w s)) flow (counts_safe c facts g w s local is.0 part) ends)
turned_safe c facts g w s t part loops is = absurd loops

pub turn_safe : (c : Setting) (facts : Facts c) (g : Ghost) (w : Where) (s : TypedStmt) → IsPart c g (Turn w s) → Flows c facts g w (turn w s)
turn_safe c facts g w s part = look_safe c facts g (Turn w s) w (byte_of s) (turned w (Turn w s) s) part (turned_safe c facts g w s s part part.1 part.2)

-- a move once its next setpoint is given
on_further : (c : Setting) (trapped : Bool) (way : Way) → IsWay c trapped way → has_next (further way) ≡ true → IsWay c trapped (further way)
on_further c trapped way on more = record {
  arm = on.arm;
  untrapped = on.untrapped;
  axes = on.axes;
  start = on.start;
  target = on.target;
  left = ltb-true (way.given + 1) way.plan.count more;
}

points_safe : (c : Setting) (facts : Facts c) (g : Ghost) (w : Where) (s : TypedStmt) (way : Way) → IsWay c g.trapped way → Flows c facts g w (points w s way)
points_safe c facts g w s way on =
    point_safe (place_of c facts g w) (IsFlow (around_of w g.lists)) way (if has_next (further way) then goes_to (Leg w s (further way)) else Gives Normal) on
    (when_safe (place_of c facts g w) (IsFlow (around_of w g.lists)) (has_next (further way)) (goes_to (Leg w s (further way))) (Gives Normal)
    (λ more. safe_goes c facts g (Leg w s (further way)) (on_further c g.trapped way on more)) (λ _. goes_normal c facts g w))

pub leg_safe : (c : Setting) (facts : Facts c) (g : Ghost) (w : Where) (s : TypedStmt) (way : Way) → IsPart c g (Leg w s way) → Flows c facts g w (leg w s way)
leg_safe c facts g w s way on = look_safe c facts g (Leg w s way) w (byte_of s) (points w s way) on (points_safe c facts g w s way on)

held_safe : (c : Setting) (facts : Facts c) (g : Ghost) (w : Where) (s : TypedStmt) (is_done : Bool) → IsPart c g (Attempt w s) → Flows c facts g w (done_or_held (Attempt w s) is_done)
held_safe c facts g w s true part = goes_normal c facts g w
held_safe c facts g w s false part = hold_safe c facts g (Attempt w s) part

-- an instruction
instructs_safe : (c : Setting) (facts : Facts c) (g : Ghost) (w : Where) (s : TypedStmt) (instruction : Instruction) (args : TypedArgs) → IsPart c g (Attempt w s) → IsInstruction c (kinds_of w.routine) instruction args
    → Flows c facts g w (instructs c.tree w s instruction (needed args) (options args))
instructs_safe c facts g w s instructions.MoveAbsJ args part is =
    header_safe c facts g w s (IsWay c g.trapped) (aimed c.tree w.routine (needed args)) (points w s) part (aimed_safe (inside_of c facts g w.routine) (needed args) is.arm is.are_needed)
    (points_safe c facts g w s)
instructs_safe c facts g w s instruction args part is =
    header_safe c facts g w s Anything (instructed c.tree w.routine instruction (needed args) (options args)) (done_or_held (Attempt w s)) part
    (instructed_safe (inside_of c facts g w.routine) instruction (needed args) (options args) tt is.arm is.are_needed is.are_options is.chosen) (λ b _. held_safe c facts g w s b part)

-- what follows the Look of a statement, by its form
follows_safe : (c : Setting) (facts : Facts c) (g : Ghost) (w : Where) (s t : TypedStmt) → IsPart c g (Attempt w s) → IsStmt c (around_of w g.lists) t → (IsFor t → IsFor s) → Flows c facts g w (follows c.tree w s t)
follows_safe c facts g w s (trees.Assign at p e) part is loops =
    header_safe c facts g w s Anything (assign c.tree w.routine p e) goes_on part (assign_safe (inside_of c facts g w.routine) p e is.0 is.2 is.3) (λ _ _. goes_normal c facts g w)
follows_safe c facts g w s (trees.Instruct at instruction args) part is loops = instructs_safe c facts g w s instruction args part is
follows_safe c facts g w s (trees.Call at called args) part is loops =
    header_safe c facts g w s Anything (call c.tree w.routine called args) goes_on part (call_stmt (inside_of c facts g w.routine) called is.0 args is.1 is.3) (λ _ _. goes_normal c facts g w)
follows_safe c facts g w s (trees.Label at label) part is loops = goes_normal c facts g w
follows_safe c facts g w s (trees.Goto at label) part is loops = safe_gives (place_of c facts g w) (IsFlow (around_of w g.lists)) (Jumps label) is
follows_safe c facts g w s (trees.Return at None) part is loops = safe_gives (place_of c facts g w) (IsFlow (around_of w g.lists)) (Returns None) is
follows_safe c facts g w s (trees.Return at (Some e)) part is loops =
    header_safe c facts g w s (HasSort is.0) (expr c.tree w.routine e) (λ v. Gives (Returns (Some v))) part (expr_safe (inside_of c facts g w.routine) e is.0 is.3)
    (λ v h. safe_gives (place_of c facts g w) (IsFlow (around_of w g.lists)) (Returns (Some v)) (is.0, is.1, is.2, h))
follows_safe c facts g w s (trees.Exit at) part is loops = safe_ends (place_of c facts g w) (IsFlow (around_of w g.lists)) fates.Exit refl
follows_safe c facts g w s (trees.Raise at None) part is loops = again_safe c facts g w w.errors is
follows_safe c facts g w s (trees.Raise at (Some e)) part is loops =
    header_safe c facts g w s Anything (expr c.tree w.routine e >>= raised) goes_on part
    (safe_then (place_of c facts g w) (HasSort sorts.Num) Anything (expr c.tree w.routine e) raised (expr_safe (inside_of c facts g w.routine) e sorts.Num is) (λ v h. raised_safe (place_of c facts g w) v h))
    (λ _ _. goes_normal c facts g w)
follows_safe c facts g w s (trees.Retry at) part is loops = safe_gives (place_of c facts g w) (IsFlow (around_of w g.lists)) Retries is
follows_safe c facts g w s (trees.TryNext at) part is loops = safe_gives (place_of c facts g w) (IsFlow (around_of w g.lists)) Skips is
follows_safe c facts g w s (trees.Connect at p trap) part is loops =
    header_safe c facts g w s Anything (connects c.tree w.routine p trap) goes_on part (connects_safe (inside_of c facts g w.routine) p trap (ap is_trap_row is.2 ∙ ap is_trap_kind is.3) is.0) (λ _ _. goes_normal c facts g w)
follows_safe c facts g w s (trees.If at arms other) part is loops =
    header_safe c facts g w s (IsElse c (around_of w g.lists)) (chosen c.tree w.routine arms other) (inner_or_not w) part
    (chosen_safe (inside_of c facts g w.routine) (around_of w g.lists) arms other refl is.0 is.1) (λ list typed. other_safe c facts g w list part.0 typed)
follows_safe c facts g w s (trees.IfOne at e one) part is loops =
    header_safe c facts g w s Anything (truth c.tree w.routine e) (λ b. if b then goes_to (Attempt w one) else Gives Normal) part (truth_expr (inside_of c facts g w.routine) e is.0)
    (λ b _. when_safe (place_of c facts g w) (IsFlow (around_of w g.lists)) b (goes_to (Attempt w one)) (Gives Normal) (λ _. safe_goes c facts g (Attempt w one) (part.0, is.1)) (λ _. goes_normal c facts g w))
follows_safe c facts g w s (trees.For at local first last step list) part is loops =
    header_safe c facts g w s Anything (bounds c.tree w.routine local first last step) (λ _. turn_due w.routine local (Turn w s)) part
    (bounds_safe (inside_of c facts g w.routine) local first last step is.0 is.1 is.2 is.3) (λ _ _. due_safe c facts g w s local is.0 (part.0, loops tt, part.1))
follows_safe c facts g w s (trees.While at e list) part is loops =
    header_safe c facts g w s Anything (truth c.tree w.routine e) (λ b. if b then again_behind w (Attempt w s) list else Gives Normal) part (truth_expr (inside_of c facts g w.routine) e is.0)
    (λ b _. when_safe (place_of c facts g w) (IsFlow (around_of w g.lists)) b (again_behind w (Attempt w s) list) (Gives Normal)
    (λ _. safe_then (place_of c facts g w) (IsFlow (around_of w g.lists)) (IsFlow (around_of w g.lists)) (inner w list) (and_then (goes_to (Attempt w s))) (inner_safe c facts g w list part.0 is.1)
    (λ flow ends. then_safe c facts g w (goes_to (Attempt w s)) flow (safe_goes c facts g (Attempt w s) part) ends))
    (λ _. goes_normal c facts g w))
follows_safe c facts g w s (trees.Test at e cases other) part is loops =
    header_safe c facts g w s (IsElse c (around_of w g.lists)) (expr c.tree w.routine e >>= λ v. selected c.tree w.routine v cases other) (inner_or_not w) part
    (safe_then (place_of c facts g w) (HasSort is.0) (IsElse c (around_of w g.lists)) (expr c.tree w.routine e) (λ v. selected c.tree w.routine v cases other) (expr_safe (inside_of c facts g w.routine) e is.0 is.2)
    (λ v h. selected_safe (inside_of c facts g w.routine) (around_of w g.lists) is.0 v cases other refl is.1 h is.3 is.4))
    (λ list typed. other_safe c facts g w list part.0 typed)

-- a statement, from its Look
attempt_safe : (c : Setting) (facts : Facts c) (g : Ghost) (w : Where) (s : TypedStmt) → IsPart c g (Attempt w s) → Flows c facts g w (look w (byte_of s) (Attempt w s) (follows c.tree w s s))
attempt_safe c facts g w s part = look_safe c facts g (Attempt w s) w (byte_of s) (follows c.tree w s s) part (follows_safe c facts g w s s part part.1 (λ is. is))

pub stmt_safe : (c : Setting) (facts : Facts c) (g : Ghost) (w : Where) (s : TypedStmt) → IsPart c g (Attempt w s) → Flows c facts g w (stmt c.tree w s)
stmt_safe c facts g w (trees.Label at label) part = goes_normal c facts g w
stmt_safe c facts g w s part = attempt_safe c facts g w s part

-- a list
items_safe : (c : Setting) (facts : Facts c) (g : Ghost) (w : Where) (list : TypedStmts) → AreErrors c w.routine w.errors → AreStmts c (around_of w g.lists) list → Flows c facts g w (items c.tree w list)
items_safe c facts g w NoStmts errors are = goes_normal c facts g w
items_safe c facts g w (MoreStmts s more) errors are =
    safe_then (place_of c facts g w) (IsFlow (around_of w g.lists)) (IsFlow (around_of w g.lists)) (stmt c.tree w s) (λ flow. and_then (items c.tree w more) flow) (stmt_safe c facts g w s (errors, are.0))
    (λ flow ends. then_safe c facts g w (items c.tree w more) flow (items_safe c facts g w more errors are.1) ends)

-- the statements after a label
behind_here : (c : Setting) (around : Around) (b : Bool) (more list : TypedStmts) (o : Option TypedStmts) → AreStmts c around more → (o ≡ Some list → AreStmts c around list)
    → (if b then Some more else o) ≡ Some list → AreStmts c around list
behind_here c around true more list o are deeper e = let same : more ≡ list = cc in subst (λ (x : TypedStmts). AreStmts c around x) same are
behind_here c around false more list o are deeper e = deeper e

behind_typed : (c : Setting) (around : Around) (label : ℕ) (list more : TypedStmts) → AreStmts c around list → behind label list ≡ Some more → AreStmts c around more
behind_typed c around label NoStmts more are e = absurd cc
behind_typed c around label (MoreStmts (trees.Label at number) rest) more are e =
    behind_here c around (number == label) rest more (behind label rest) are.1 (λ there. behind_typed c around label rest more are.1 there) e
behind_typed c around label (MoreStmts s rest) more are e = behind_typed c around label rest more are.1 e

-- the ghost inside a list
abbrev within_list : Ghost → TypedStmts → Ghost
within_list g list = record { trapped = g.trapped; frames = g.frames; lists = list ∷ g.lists }

jumped_safe : (c : Setting) (facts : Facts c) (g : Ghost) (w : Where) (list : TypedStmts) (label : ℕ) (o : Option TypedStmts) → AreErrors c w.routine w.errors
    → AreStmts c (into (around_of w g.lists) list) list → ((more : TypedStmts) → o ≡ Some more → AreStmts c (into (around_of w g.lists) list) more)
    → IsTrue (is_some o) ⊎ Sees label g.lists → Flows c facts g w (jumped w list label o)
jumped_safe c facts g w list label None errors are deeper sees =
    safe_gives (place_of c facts g w) (IsFlow (around_of w g.lists)) (Jumps label) (⊎_elim (λ here. absurd cc) (λ further. further) sees)
jumped_safe c facts g w list label (Some more) errors are deeper sees = safe_goes c facts g (Rest w list more) (errors, are, deeper more refl)

ended_safe : (c : Setting) (facts : Facts c) (g : Ghost) (w : Where) (list : TypedStmts) (flow : Flow) → AreErrors c w.routine w.errors → AreStmts c (into (around_of w g.lists) list) list
    → IsFlow (into (around_of w g.lists) list) flow → Flows c facts g w (ended w list flow)
ended_safe c facts g w list (Jumps label) errors are is =
    jumped_safe c facts g w list label (behind label list) errors are (λ more e. behind_typed c (into (around_of w g.lists) list) label list more are e) is
ended_safe c facts g w list Normal errors are is = goes_normal c facts g w
ended_safe c facts g w list (Returns None) errors are is = safe_gives (place_of c facts g w) (IsFlow (around_of w g.lists)) (Returns None) is
ended_safe c facts g w list (Returns (Some v)) errors are is = safe_gives (place_of c facts g w) (IsFlow (around_of w g.lists)) (Returns (Some v)) is
ended_safe c facts g w list Retries errors are is = safe_gives (place_of c facts g w) (IsFlow (around_of w g.lists)) Retries is
ended_safe c facts g w list Skips errors are is = safe_gives (place_of c facts g w) (IsFlow (around_of w g.lists)) Skips is

pub rest_safe : (c : Setting) (facts : Facts c) (g : Ghost) (w : Where) (list more : TypedStmts) → IsPart c g (Rest w list more) → Flows c facts g w (rest c.tree w list more)
rest_safe c facts g w list more part =
    safe_then (place_of c facts g w) (IsFlow (into (around_of w g.lists) list)) (IsFlow (around_of w g.lists)) (items c.tree w more) (ended w list)
    (items_safe c facts (within_list g list) w more part.0 part.2) (λ flow ends. ended_safe c facts g w list flow part.0 part.1 ends)
