-- Expressions, places and arguments.
use Rattle.std.proofs.Common.{◌≡◌, refl, sym, subst, ℕ, ◌*◌, ◌<◌, ◌==◌, Bool, true, false, not, ◌&&◌, ◌||◌, ◌++◌, ℤ, pos, neg_ℤ, nat_abs, ◌*ℤ◌, List, [], ◌∷◌, length, map, flat_map, Option, Some, None, slice_get, drop, if◌then◌else◌, IsTrue}
use Rattle.std.specs.Prelude.{⊤}
use Rattle.std.specs.List.{list_all}
use Rattle.std.proofs.lemmas.Bool.{and_parts}
use Rattle.std.specs.Option.{option_map}
use Rattle.rapid_num.specs.Arithmetic.{whole_part}
use Rattle.rapid_num.specs.Absent.{is_absent}
use Rattle.rapid_num.specs.Reach.{is_position, is_reachable}
use Rattle.rapid_num.specs.declared.joints.Joints.{Joints}
use Rattle.rapid_model.specs.Paths.{has_sort}
use Rattle.rapid_model.specs.declared.answer.Answer.TheVariants as answers
use Rattle.rapid_model.specs.declared.function.Function.{Function}
use Rattle.rapid_model.specs.declared.function.Function.TheVariants as functions
use Rattle.rapid_model.specs.declared.part_name.PartName.TheVariants as parts
use Rattle.rapid_model.specs.declared.request.Request.TheVariants.{Position, ReadS}
use Rattle.rapid_model.specs.declared.sort.Sort.{Sort}
use Rattle.rapid_model.specs.declared.sort.Sort.TheVariants as sorts
use Rattle.rapid_model.specs.declared.value.Value.{Value}
use Rattle.rapid_model.specs.declared.value.Value.TheVariants as values
use Rattle.rapid_model.specs.declared.mode.Mode.{Mode}
use Rattle.rapid_model.specs.declared.mode.Mode.TheVariants as modes
use Rattle.rapid_model.specs.declared.routine_kind.RoutineKind.{RoutineKind}
use Rattle.rapid_model.specs.declared.routine_kind.RoutineKind.TheVariants as kinds
use Rattle.rapid_builtins.specs.Calls.{function_needs, function_needs_arm, function_result}
use Rattle.rapid_values.specs.Components.{Component, components}
use Rattle.rapid_values.specs.Values.{made_of}
use Rattle.typed_trees.specs.Plain as trees
use Rattle.typed_trees.specs.Plain.{TypedArg, TypedArgs, TypedExpr, TypedExprs, TypedParam, TypedPlace, TypedRoutine, TypedSteps, NoExprs, MoreExprs, NoSteps, MoreSteps, NotHeld, Held, PlaceOf, Given, Lent, OfSignal, OfMeeting, Itself, Optional, NoArgs, MoreArgs}
use Rattle.typed_trees.specs.declared.datum.Datum.{Datum}
use Rattle.typed_trees.specs.declared.datum.Datum.TheVariants as datums
use Rattle.typed_trees.specs.declared.datum.Lvalue.{Lvalue}
use Rattle.rapid_meaning.specs.Doings.{Doing, Gives, Asks, ◌>>=◌, calls, or_misfit}
use Rattle.rapid_meaning.specs.Expressions.{along, arguments, builtin, expr, exprs, lent_length, place, returned}
use Rattle.rapid_meaning.specs.Flows.{Flow, Normal, Jumps, Returns, Retries, Skips, Call}
use Rattle.rapid_meaning.specs.Functions.{absolute, decimals_of, num_text, read_signal, shown, text_length, truncated, when_at, when_bit}
use Rattle.rapid_meaning.specs.Layouts.{length_at}
use Rattle.rapid_meaning.specs.Places.{indexed, part_at, read_value, rooted, test_and_set}
use Rattle.rapid_meaning.specs.Values.{between, num_in, of_bit, opposite, text_in, whole, with_sign}
use Rattle.rapid_meaning.proofs.Begins.{Anything}
use Rattle.rapid_builtins.specs.declared.need.Need.TheVariants as needs
use Rattle.rapid_builtins.specs.Parameters.{parameter_need}
use Rattle.tree_typing.specs.Expressions.{AreArgs, AreComponents, AreSteps, IsArg, IsArray, IsExpr, IsPlace}
use Rattle.tree_typing.specs.Kinds.{Cell, Holds, Lends, cells_of, kind_by, kind_of, kinds_of, local_cells, need_of}
use Rattle.tree_typing.specs.Setting.{has_arm}
use Rattle.tree_typing.specs.States.{AreInCells}
use Rattle.tree_typing.proofs.Forms.{bool_form, num_form, text_form}
use Rattle.tree_typing.proofs.Loads.{read_safe, test_safe}
use Rattle.tree_typing.proofs.Operators.{AreMade, between_safe, made}
use Rattle.tree_typing.proofs.Places.{Inside, IsRooted, IsThere, indexed_safe, num_safe, part_safe, root_len, rooted_safe, scene}
use Rattle.tree_typing.proofs.Safe.{Answered, Safe, safe_any, safe_asks, safe_gives, safe_goes, safe_or, safe_reads, safe_then}
use Rattle.tree_typing.proofs.Scene.{IsResult, IsResultBy, Scene}

-- a value of a type
abbrev pub HasSort : Sort → Value → Type 0
HasSort sort v = IsTrue (has_sort sort v)

pub text_safe : (s : Scene) (v : Value) → HasSort sorts.Text v → Safe s Anything (text_in v)
text_safe s v h = let f : (t : List ℕ) × (v ≡ values.Text t) = text_form v h in subst (λ (x : Value). Safe s Anything (text_in x)) (sym f.1) (safe_any s f.0)

num_of_sort : (sort : Sort) (n : ℤ) → sort ≡ sorts.Num → HasSort sort (values.Num n)
num_of_sort sort n e = subst (λ (x : Sort). HasSort x (values.Num n)) (sym e) refl

bool_of_sort : (sort : Sort) (b : Bool) → sort ≡ sorts.Bool → HasSort sort (values.Bool b)
bool_of_sort sort b e = subst (λ (x : Sort). HasSort x (values.Bool b)) (sym e) refl

bit_of_sort : (sort : Sort) (b : Bool) → sort ≡ sorts.Num → HasSort sort (of_bit b)
bit_of_sort sort true e = num_of_sort sort (pos 1_000) e
bit_of_sort sort false e = num_of_sort sort (pos 0) e

bit_answered : (s : Scene) (signal : ℕ) → Answered s Anything (ReadS signal) when_bit
bit_answered s signal trapped (answers.Bit bit) fits = (refl, safe_any s bit)
bit_answered s signal trapped a fits = absurd cc

pub signal_safe : (s : Scene) (signal : ℕ) → signal < s.c.signals → Safe s Anything (read_signal signal)
signal_safe s signal few = safe_asks s Anything (ReadS signal) when_bit (record { no_rise = refl; no_hold = refl; no_leave = refl; no_end = refl }) (λ d. few) (bit_answered s signal)

-- a position has twelve axes
twelve_axes : (axes : ℕ) (position : Joints) → is_position axes position ≡ true → IsTrue (length position.axis == 12)
twelve_axes axes position is =
    let apart = and_parts (length position.axis == 12 && is_reachable axes position) (list_all is_absent (drop axes position.axis)) is in
    (and_parts (length position.axis == 12) (is_reachable axes position) apart.0).0

at_answered : (s : Scene) → Answered s (HasSort sorts.JointTarget) Position when_at
at_answered s trapped (answers.At position) fits = (refl, safe_gives s (HasSort sorts.JointTarget) (values.Target position) (twelve_axes s.c.tree.axes position fits))
at_answered s trapped a fits = absurd cc

opposite_safe : (s : Scene) (sort : Sort) (v : Value) → sort ≡ sorts.Bool → HasSort sorts.Bool v → Safe s (HasSort sort) (opposite v)
opposite_safe s sort v e h =
    let f : (b : Bool) × (v ≡ values.Bool b) = bool_form v h in
    subst (λ (x : Value). Safe s (HasSort sort) (opposite x)) (sym f.1) (safe_gives s (HasSort sort) (values.Bool (not f.0)) (bool_of_sort sort (not f.0) e))

sign_safe : (s : Scene) (sort : Sort) (minus : Bool) (v : Value) → sort ≡ sorts.Num → HasSort sorts.Num v → Safe s (HasSort sort) (with_sign minus v)
sign_safe s sort minus v e h =
    let f : (n : ℤ) × (v ≡ values.Num n) = num_form v h in
    subst (λ (x : Value). Safe s (HasSort sort) (with_sign minus x)) (sym f.1)
    (safe_gives s (HasSort sort) (values.Num (if minus then neg_ℤ f.0 else f.0)) (num_of_sort sort (if minus then neg_ℤ f.0 else f.0) e))

-- what a function of the task returned
returned_safe : (s : Scene) (o : Option TypedRoutine) (routine : TypedRoutine) (sort : Sort) (flow : Flow) → o ≡ Some routine → routine.kind ≡ kinds.Func → routine.result ≡ Some sort
    → IsResult o flow → Safe s (HasSort sort) (returned flow)
returned_safe s o routine sort flow e func result is =
    by_flow flow (subst (λ (x : Option Sort). IsResultBy kinds.Func x flow) result (subst (λ (k : RoutineKind). IsResultBy k routine.result flow) func (subst (λ (x : Option TypedRoutine). IsResult x flow) e is)))
  where
    same_value : (own : Sort) (v : Value) → Some sort ≡ Some own → HasSort own v → HasSort sort v
    same_value own v e h = let same : own ≡ sort = cc in subst (λ (x : Sort). HasSort x v) same h

    by_flow : (flow : Flow) → IsResultBy kinds.Func (Some sort) flow → Safe s (HasSort sort) (returned flow)
    by_flow (Returns (Some v)) is = safe_gives s (HasSort sort) v (same_value is.0 v is.1 is.2)
    by_flow (Returns None) is = absurd is
    by_flow Normal is = absurd is
    by_flow (Jumps label) is = absurd is
    by_flow Retries is = absurd is
    by_flow Skips is = absurd is

of_value_num : (s : Scene) (f : ℤ → Value) (v : Value) → ((n : ℤ) → HasSort sorts.Num (f n)) → HasSort sorts.Num v → Safe s (HasSort sorts.Num) (num_in v >>= λ n. Gives (f n))
of_value_num s f v is h = safe_then s Anything (HasSort sorts.Num) (num_in v) (λ n. Gives (f n)) (num_safe s v h) (λ n _. safe_gives s (HasSort sorts.Num) (f n) (is n))

pub position_safe : (s : Scene) → IsTrue (has_arm s.c) → Safe s (HasSort sorts.JointTarget) (Asks Position when_at)
position_safe s arm = safe_asks s (HasSort sorts.JointTarget) Position when_at (record { no_rise = refl; no_hold = refl; no_leave = refl; no_end = refl }) (λ d. arm) (at_answered s)

-- well typed arguments are safe
abbrev pub ArgSafe : Inside → TypedArg → Type 0
ArgSafe i (Given e) = (sort : Sort) → IsExpr i.c (kinds_of i.routine) e sort → Safe (scene i) (HasSort sort) (expr i.c.tree i.routine e)
ArgSafe i (Lent p) = (written : Bool) (sort : Sort) → IsPlace i.c (kinds_of i.routine) written p sort → Safe (scene i) (λ q. IsThere (scene i) written q sort) (place i.c.tree i.routine p)
ArgSafe i _ = ⊤

abbrev pub ArgsSafe : Inside → TypedArgs → Type 0
ArgsSafe i NoArgs = ⊤
ArgsSafe i (MoreArgs arg more) = ArgSafe i arg × ArgsSafe i more

-- an argument that is a value
value_arg : (i : Inside) (function : Function) (sort result : Sort) (does : Value → Doing Value) (args : TypedArgs)
    → ((e : TypedExpr) → builtin i.c.tree i.routine function (MoreArgs (Given e) NoArgs) ≡ (expr i.c.tree i.routine e >>= does)) → ArgsSafe i args
    → AreArgs i.c (kinds_of i.routine) args (needs.Value sort ∷ []) → ((v : Value) → HasSort sort v → Safe (scene i) (HasSort result) (does v))
    → Safe (scene i) (HasSort result) (builtin i.c.tree i.routine function args)
value_arg i function sort result does NoArgs is safe are more = absurd are
value_arg i function sort result does (MoreArgs (Given e) NoArgs) is safe are more =
    subst (λ (m : Doing Value). Safe (scene i) (HasSort result) m) (sym (is e))
    (safe_then (scene i) (HasSort sort) (HasSort result) (expr i.c.tree i.routine e) does (safe.0 sort are.0) more)
value_arg i function sort result does (MoreArgs (Given e) (MoreArgs x y)) is safe are more = absurd are.1
value_arg i function sort result does (MoreArgs arg y) is safe are more = absurd are.0

values_args : (i : Inside) (function : Function) (first second result : Sort) (does : Value → Value → Doing Value) (args : TypedArgs)
    → ((e f : TypedExpr) → builtin i.c.tree i.routine function (MoreArgs (Given e) (MoreArgs (Given f) NoArgs)) ≡ (expr i.c.tree i.routine e >>= λ v. expr i.c.tree i.routine f >>= does v))
    → ArgsSafe i args → AreArgs i.c (kinds_of i.routine) args (needs.Value first ∷ needs.Value second ∷ [])
    → ((v w : Value) → HasSort first v → HasSort second w → Safe (scene i) (HasSort result) (does v w)) → Safe (scene i) (HasSort result) (builtin i.c.tree i.routine function args)
values_args i function first second result does NoArgs is safe are more = absurd are
values_args i function first second result does (MoreArgs (Given e) NoArgs) is safe are more = absurd are.1
values_args i function first second result does (MoreArgs (Given e) (MoreArgs (Given f) NoArgs)) is safe are more =
    subst (λ (m : Doing Value). Safe (scene i) (HasSort result) m) (sym (is e f))
    (safe_then (scene i) (HasSort first) (HasSort result) (expr i.c.tree i.routine e) (λ v. expr i.c.tree i.routine f >>= does v) (safe.0 first are.0)
    (λ v hv. safe_then (scene i) (HasSort second) (HasSort result) (expr i.c.tree i.routine f) (does v) (safe.1.0 second are.1.0) (λ w hw. more v w hv hw)))
values_args i function first second result does (MoreArgs (Given e) (MoreArgs (Given f) (MoreArgs x y))) is safe are more = absurd are.1.1
values_args i function first second result does (MoreArgs (Given e) (MoreArgs x y)) is safe are more = absurd are.1.0
values_args i function first second result does (MoreArgs arg y) is safe are more = absurd are.0

signal_arg : (i : Inside) (function : Function) (output : Bool) (result : Sort) (does : ℕ → Doing Value) (args : TypedArgs)
    → ((signal : ℕ) → builtin i.c.tree i.routine function (MoreArgs (OfSignal signal) NoArgs) ≡ does signal) → AreArgs i.c (kinds_of i.routine) args (needs.Signal output ∷ [])
    → ((signal : ℕ) → signal < i.c.signals → Safe (scene i) (HasSort result) (does signal)) → Safe (scene i) (HasSort result) (builtin i.c.tree i.routine function args)
signal_arg i function output result does NoArgs is are more = absurd are
signal_arg i function output result does (MoreArgs (OfSignal signal) NoArgs) is are more =
    subst (λ (m : Doing Value). Safe (scene i) (HasSort result) m) (sym (is signal)) (more signal are.0)
signal_arg i function output result does (MoreArgs (OfSignal signal) (MoreArgs x y)) is are more = absurd are.1
signal_arg i function output result does (MoreArgs arg y) is are more = absurd are.0

place_arg : (i : Inside) (function : Function) (sort result : Sort) (does : Lvalue → Doing Value) (args : TypedArgs)
    → ((p : TypedPlace) → builtin i.c.tree i.routine function (MoreArgs (Lent p) NoArgs) ≡ (place i.c.tree i.routine p >>= does)) → ArgsSafe i args
    → AreArgs i.c (kinds_of i.routine) args (needs.VarOrPers sort ∷ [])
    → ((q : Lvalue) → IsThere (scene i) true q sort → Safe (scene i) (HasSort result) (does q)) → Safe (scene i) (HasSort result) (builtin i.c.tree i.routine function args)
place_arg i function sort result does NoArgs is safe are more = absurd are
place_arg i function sort result does (MoreArgs (Lent p) NoArgs) is safe are more =
    subst (λ (m : Doing Value). Safe (scene i) (HasSort result) m) (sym (is p))
    (safe_then (scene i) (λ q. IsThere (scene i) true q sort) (HasSort result) (place i.c.tree i.routine p) does (safe.0 true sort are.0) more)
place_arg i function sort result does (MoreArgs (Lent p) (MoreArgs x y)) is safe are more = absurd are.1
place_arg i function sort result does (MoreArgs arg y) is safe are more = absurd are.0

-- the length of an array passed by reference
pub array_len : (i : Inside) (p : TypedPlace) (sort : Sort) → IsArray i.c (kinds_of i.routine) p sort → (len : ℕ) × (lent_length i.c.tree i.routine p ≡ Some len)
array_len i (PlaceOf root NotHeld parts.Whole own) sort is = (is.1, root_len i false root sort (Some is.1) is.2)
array_len i (PlaceOf root NotHeld part own) sort is = absurd is
array_len i (PlaceOf root (Held e) part own) sort is = absurd is

dim_safe : (i : Inside) (o : Option ℕ) (len : ℕ) → o ≡ Some len → Safe (scene i) (HasSort sorts.Num) (or_misfit (option_map whole o))
dim_safe i o len e = subst (λ (x : Option ℕ). Safe (scene i) (HasSort sorts.Num) (or_misfit (option_map whole x))) (sym e) (safe_gives (scene i) (HasSort sorts.Num) (whole len) refl)

array_arg : (i : Inside) (args : TypedArgs) → AreArgs i.c (kinds_of i.routine) args (needs.Array ∷ needs.One ∷ []) → Safe (scene i) (HasSort sorts.Num) (builtin i.c.tree i.routine functions.Dim args)
array_arg i NoArgs are = absurd are
array_arg i (MoreArgs (Lent p) NoArgs) are = absurd are.1
array_arg i (MoreArgs (Lent p) (MoreArgs one NoArgs)) are =
    let len : (n : ℕ) × (lent_length i.c.tree i.routine p ≡ Some n) = array_len i p are.0.0 are.0.2 in dim_safe i (lent_length i.c.tree i.routine p) len.0 len.1
array_arg i (MoreArgs (Lent p) (MoreArgs one (MoreArgs x y))) are = absurd are.1.1
array_arg i (MoreArgs arg y) are = absurd are.0

no_arg : (i : Inside) (args : TypedArgs) → IsTrue (has_arm i.c) → AreArgs i.c (kinds_of i.routine) args [] → Safe (scene i) (HasSort sorts.JointTarget) (builtin i.c.tree i.routine functions.CJointT args)
no_arg i NoArgs arm are = position_safe (scene i) arm
no_arg i (MoreArgs x y) arm are = absurd are

length_safe : (s : Scene) (v : Value) → HasSort sorts.Text v → Safe s (HasSort sorts.Num) (text_length v)
length_safe s v h = safe_then s Anything (HasSort sorts.Num) (text_in v) (λ t. Gives (whole (length t))) (text_safe s v h) (λ t _. safe_gives s (HasSort sorts.Num) (whole (length t)) refl)

shown_safe : (s : Scene) (v w : Value) → HasSort sorts.Num v → HasSort sorts.Num w → Safe s (HasSort sorts.Text) (shown v w)
shown_safe s v w hv hw =
    safe_then s Anything (HasSort sorts.Text) (num_in v) (λ n. num_in w >>= λ count. Gives (values.Text (num_text n (decimals_of count)))) (num_safe s v hv)
    (λ n _. safe_then s Anything (HasSort sorts.Text) (num_in w) (λ count. Gives (values.Text (num_text n (decimals_of count)))) (num_safe s w hw)
    (λ count _. safe_gives s (HasSort sorts.Text) (values.Text (num_text n (decimals_of count))) refl))

builtin_safe : (i : Inside) (function : Function) (args : TypedArgs) → IsTrue (not (function_needs_arm function) || has_arm i.c) → ArgsSafe i args
    → AreArgs i.c (kinds_of i.routine) args (function_needs function) → Safe (scene i) (HasSort (function_result function)) (builtin i.c.tree i.routine function args)
builtin_safe i functions.Abs args arm safe are =
    value_arg i functions.Abs sorts.Num sorts.Num absolute args (λ e. refl) safe are (λ v h. of_value_num (scene i) (λ n. values.Num (pos (nat_abs n))) v (λ n. refl) h)
builtin_safe i functions.Trunc args arm safe are =
    value_arg i functions.Trunc sorts.Num sorts.Num truncated args (λ e. refl) safe are (λ v h. of_value_num (scene i) (λ n. values.Num (whole_part n 1_000 *ℤ pos 1_000)) v (λ n. refl) h)
builtin_safe i functions.StrLen args arm safe are = value_arg i functions.StrLen sorts.Text sorts.Num text_length args (λ e. refl) safe are (λ v h. length_safe (scene i) v h)
builtin_safe i functions.NumToStr args arm safe are = values_args i functions.NumToStr sorts.Num sorts.Num sorts.Text shown args (λ e f. refl) safe are (λ v w hv hw. shown_safe (scene i) v w hv hw)
builtin_safe i functions.Dim args arm safe are = array_arg i args are
builtin_safe i functions.CJointT args arm safe are = no_arg i args arm are
builtin_safe i functions.TestDI args arm safe are =
    signal_arg i functions.TestDI false sorts.Bool (λ signal. read_signal signal >>= λ bit. Gives (values.Bool bit)) args (λ signal. refl) are
    (λ signal few. safe_then (scene i) Anything (HasSort sorts.Bool) (read_signal signal) (λ bit. Gives (values.Bool bit)) (signal_safe (scene i) signal few)
    (λ bit _. safe_gives (scene i) (HasSort sorts.Bool) (values.Bool bit) refl))
builtin_safe i functions.DOutput args arm safe are =
    signal_arg i functions.DOutput true sorts.Num (λ signal. read_signal signal >>= λ bit. Gives (of_bit bit)) args (λ signal. refl) are
    (λ signal few. safe_then (scene i) Anything (HasSort sorts.Num) (read_signal signal) (λ bit. Gives (of_bit bit)) (signal_safe (scene i) signal few)
    (λ bit _. safe_gives (scene i) (HasSort sorts.Num) (of_bit bit) (bit_of_sort sorts.Num bit refl)))
builtin_safe i functions.TestAndSet args arm safe are =
    place_arg i functions.TestAndSet sorts.Bool sorts.Bool (λ q. test_and_set q >>= λ met. Gives (values.Bool met)) args (λ p. refl) safe are
    (λ q is. safe_then (scene i) Anything (HasSort sorts.Bool) (test_and_set q) (λ met. Gives (values.Bool met)) (test_safe (scene i) q is)
    (λ met _. safe_gives (scene i) (HasSort sorts.Bool) (values.Bool met) refl))

-- the arguments of a call fit the places of its parameters
abbrev pub AreArgsOf : Scene → List Cell → List Datum → Type 0
AreArgsOf s cells xs = AreInCells s.c.tree s.frames cells xs

given_step : (i : Inside) (sort : Sort) (arg : TypedArg) (more : TypedArgs) (cells : List Cell) → ArgSafe i arg → IsArg i.c (kinds_of i.routine) arg (needs.Value sort)
    → Safe (scene i) (AreArgsOf (scene i) cells) (arguments i.c.tree i.routine more) → Safe (scene i) (AreArgsOf (scene i) (Holds sort ∷ cells)) (arguments i.c.tree i.routine (MoreArgs arg more))
given_step i sort (Given e) more cells safe is rest =
    safe_then (scene i) (HasSort sort) (AreArgsOf (scene i) (Holds sort ∷ cells)) (expr i.c.tree i.routine e) (λ v. arguments i.c.tree i.routine more >>= λ xs. Gives (datums.Plain v ∷ xs)) (safe sort is)
    (λ v h. safe_then (scene i) (AreArgsOf (scene i) cells) (AreArgsOf (scene i) (Holds sort ∷ cells)) (arguments i.c.tree i.routine more) (λ xs. Gives (datums.Plain v ∷ xs)) rest
    (λ xs are. safe_gives (scene i) (AreArgsOf (scene i) (Holds sort ∷ cells)) (datums.Plain v ∷ xs) (h, are)))
given_step i sort arg more cells safe is rest = absurd is

lent_step : (i : Inside) (sort : Sort) (p : TypedPlace) (more : TypedArgs) (cells : List Cell) → ArgSafe i (Lent p) → IsPlace i.c (kinds_of i.routine) true p sort
    → Safe (scene i) (AreArgsOf (scene i) cells) (arguments i.c.tree i.routine more) → Safe (scene i) (AreArgsOf (scene i) (Lends sort ∷ cells)) (arguments i.c.tree i.routine (MoreArgs (Lent p) more))
lent_step i sort p more cells safe is rest =
    safe_then (scene i) (λ q. IsThere (scene i) true q sort) (AreArgsOf (scene i) (Lends sort ∷ cells)) (place i.c.tree i.routine p) (λ q. arguments i.c.tree i.routine more >>= λ xs. Gives (datums.Place q ∷ xs)) (safe true sort is)
    (λ q there. safe_then (scene i) (AreArgsOf (scene i) cells) (AreArgsOf (scene i) (Lends sort ∷ cells)) (arguments i.c.tree i.routine more) (λ xs. Gives (datums.Place q ∷ xs)) rest
    (λ xs are. safe_gives (scene i) (AreArgsOf (scene i) (Lends sort ∷ cells)) (datums.Place q ∷ xs) (there, are)))

arg_step : (i : Inside) (mode : Mode) (sort : Sort) (arg : TypedArg) (more : TypedArgs) (cells : List Cell) → ArgSafe i arg → IsArg i.c (kinds_of i.routine) arg (parameter_need mode sort)
    → Safe (scene i) (AreArgsOf (scene i) cells) (arguments i.c.tree i.routine more)
    → Safe (scene i) (AreArgsOf (scene i) (cells_of (kind_by mode sort) ++ cells)) (arguments i.c.tree i.routine (MoreArgs arg more))
arg_step i modes.Value sort arg more cells safe is rest = given_step i sort arg more cells safe is rest
arg_step i modes.Inout sort (Lent p) more cells safe is rest = lent_step i sort p more cells safe is rest
arg_step i modes.Var sort (Lent p) more cells safe is rest = lent_step i sort p more cells safe is rest
arg_step i modes.Pers sort (Lent p) more cells safe is rest = lent_step i sort p more cells safe is rest
arg_step i mode sort arg more cells safe is rest = absurd is

pub args_safe : (i : Inside) (params : List TypedParam) (args : TypedArgs) → ArgsSafe i args → AreArgs i.c (kinds_of i.routine) args (map need_of params)
    → Safe (scene i) (AreArgsOf (scene i) (flat_map cells_of (map kind_of params))) (arguments i.c.tree i.routine args)
args_safe i [] NoArgs safe are = safe_gives (scene i) (AreArgsOf (scene i) []) [] tt
args_safe i [] (MoreArgs arg more) safe are = absurd are
args_safe i (p ∷ ps) NoArgs safe are = absurd are
args_safe i (p ∷ ps) (MoreArgs arg more) safe are =
    arg_step i p.mode p.sort arg more (flat_map cells_of (map kind_of ps)) safe.0 are.0 (args_safe i ps more safe.1 are.1)

-- a whole call, with its arguments
pub call_safe : (i : Inside) (called : ℕ) (routine : TypedRoutine) (xs : List Datum) → slice_get i.c.tree.routines called ≡ Some routine
    → AreArgsOf (scene i) (flat_map cells_of (map kind_of routine.params)) xs → Safe (scene i) (λ flow. IsResult (slice_get i.c.tree.routines called) flow) (calls called xs)
call_safe i called routine xs e are =
    safe_goes i.c i.facts (record { trapped = i.trapped; frames = local_cells i.routine ∷ i.below; lists = [] }) (Call called xs) (routine, e, are)

sorted : (s : Scene) (own sort : Sort) (m : Doing Value) → own ≡ sort → Safe s (HasSort own) m → Safe s (HasSort sort) m
sorted s own sort m e safe = subst (λ (x : Sort). Safe s (HasSort x) m) e safe

mutual
  pub expr_safe : (i : Inside) (e : TypedExpr) (sort : Sort) → IsExpr i.c (kinds_of i.routine) e sort → Safe (scene i) (HasSort sort) (expr i.c.tree i.routine e)
  expr_safe i (trees.Known at own v) sort is = safe_gives (scene i) (HasSort sort) v is.1
  expr_safe i (trees.ErrorNumber at own) sort is =
      safe_reads (scene i) (HasSort sort) (λ d. Gives (whole d.errno)) (λ d _. safe_gives (scene i) (HasSort sort) (whole d.errno) (num_of_sort sort (pos (d.errno * 1_000)) is.1))
  expr_safe i (trees.SignalValue at own signal) sort is =
      safe_then (scene i) Anything (HasSort sort) (read_signal signal) (λ bit. Gives (of_bit bit)) (signal_safe (scene i) signal is.2)
      (λ bit _. safe_gives (scene i) (HasSort sort) (of_bit bit) (bit_of_sort sort bit is.1))
  expr_safe i (trees.Stored at own p) sort is =
      safe_then (scene i) (λ q. IsThere (scene i) false q sort) (HasSort sort) (place i.c.tree i.routine p) read_value (place_safe i false p sort is.2)
      (λ q there. read_safe (scene i) false q sort is.1 there)
  expr_safe i (trees.Group at own e) sort is = expr_safe i e sort is.1
  expr_safe i (trees.Aggregate at own es) sort is =
      sorted (scene i) own sort (expr i.c.tree i.routine (trees.Aggregate at own es)) is.0
      (safe_then (scene i) (λ vs. AreMade vs (components own)) (HasSort own) (exprs i.c.tree i.routine es) (λ vs. or_misfit (made_of own vs)) (exprs_safe i es (components own) is.2)
      (λ vs are. let v : (w : Value) × (made_of own vs ≡ Some w) × HasSort own w = made own vs is.1 are in safe_or (scene i) (HasSort own) (made_of own vs) v.0 v.1 v.2))
  expr_safe i (trees.Builtin at own function args) sort is =
      sorted (scene i) (function_result function) sort (builtin i.c.tree i.routine function args) is.1 (builtin_safe i function args is.2 (all_safe i args) is.3)
  expr_safe i (trees.Invoke at own called args) sort is =
      safe_then (scene i) (AreArgsOf (scene i) (flat_map cells_of (map kind_of is.1.params))) (HasSort sort) (arguments i.c.tree i.routine args) (λ xs. calls called xs >>= returned)
      (args_safe i is.1.params args (all_safe i args) is.5)
      (λ xs are. safe_then (scene i) (λ flow. IsResult (slice_get i.c.tree.routines called) flow) (HasSort sort) (calls called xs) returned (call_safe i called is.1 xs is.2 are)
      (λ flow ends. returned_safe (scene i) (slice_get i.c.tree.routines called) is.1 sort flow is.2 is.3 is.4 ends))
  expr_safe i (trees.Not at own e) sort is =
      safe_then (scene i) (HasSort sorts.Bool) (HasSort sort) (expr i.c.tree i.routine e) opposite (expr_safe i e sorts.Bool is.2) (λ v h. opposite_safe (scene i) sort v is.1 h)
  expr_safe i (trees.Signed at own minus e) sort is =
      safe_then (scene i) (HasSort sorts.Num) (HasSort sort) (expr i.c.tree i.routine e) (with_sign minus) (expr_safe i e sorts.Num is.2) (λ v h. sign_safe (scene i) sort minus v is.1 h)
  expr_safe i (trees.Chain at own e steps) sort is =
      safe_then (scene i) (HasSort is.1) (HasSort sort) (expr i.c.tree i.routine e) (along i.c.tree i.routine steps) (expr_safe i e is.1 is.2) (λ v h. steps_safe i steps is.1 sort is.3 v h)

  pub exprs_safe : (i : Inside) (es : TypedExprs) (cs : List Component) → AreComponents i.c (kinds_of i.routine) es cs → Safe (scene i) (λ vs. AreMade vs cs) (exprs i.c.tree i.routine es)
  exprs_safe i NoExprs [] are = safe_gives (scene i) (λ vs. AreMade vs []) [] tt
  exprs_safe i NoExprs (component ∷ cs) are = absurd are
  exprs_safe i (MoreExprs e es) [] are = absurd are
  exprs_safe i (MoreExprs e es) (component ∷ cs) are =
      safe_then (scene i) (HasSort component.sort) (λ vs. AreMade vs (component ∷ cs)) (expr i.c.tree i.routine e) (λ v. exprs i.c.tree i.routine es >>= λ vs. Gives (v ∷ vs)) (expr_safe i e component.sort are.0)
      (λ v h. safe_then (scene i) (λ vs. AreMade vs cs) (λ vs. AreMade vs (component ∷ cs)) (exprs i.c.tree i.routine es) (λ vs. Gives (v ∷ vs)) (exprs_safe i es cs are.1)
      (λ vs more. safe_gives (scene i) (λ ws. AreMade ws (component ∷ cs)) (v ∷ vs) (h, more)))

  pub steps_safe : (i : Inside) (steps : TypedSteps) (first sort : Sort) → AreSteps i.c (kinds_of i.routine) steps first sort → (v : Value) → HasSort first v
      → Safe (scene i) (HasSort sort) (along i.c.tree i.routine steps v)
  steps_safe i NoSteps first sort are v h = safe_gives (scene i) (HasSort sort) v (subst (λ (x : Sort). HasSort x v) are h)
  steps_safe i (MoreSteps o e steps) first sort are v h =
      safe_then (scene i) (HasSort are.0) (HasSort sort) (between o v (expr i.c.tree i.routine e)) (along i.c.tree i.routine steps)
      (between_safe (scene i) o first are.0 v (expr i.c.tree i.routine e) are.1 h (expr_safe i e first are.2)) (λ w hw. steps_safe i steps are.0 sort are.3 w hw)

  pub place_safe : (i : Inside) (written : Bool) (p : TypedPlace) (sort : Sort) → IsPlace i.c (kinds_of i.routine) written p sort
      → Safe (scene i) (λ q. IsThere (scene i) written q sort) (place i.c.tree i.routine p)
  place_safe i written (PlaceOf root NotHeld part own) sort is =
      safe_then (scene i) (λ q. IsThere (scene i) written q is.1) (λ q. IsThere (scene i) written q sort) (rooted i.c.tree i.routine root) (part_at part) (rooted_safe i written root is.1 None is.2)
      (λ q there. part_safe (scene i) written q is.1 sort part there is.3)
  place_safe i written (PlaceOf root (Held e) part own) sort is =
      safe_then (scene i) (λ q. IsRooted (scene i) written q is.1 (Some is.2)) (λ q. IsThere (scene i) written q sort) (rooted i.c.tree i.routine root)
      (λ q. expr i.c.tree i.routine e >>= λ v. indexed (length_at i.c.tree i.routine root) q v >>= part_at part) (rooted_safe i written root is.1 (Some is.2) is.3)
      (λ q there. safe_then (scene i) (HasSort sorts.Num) (λ r. IsThere (scene i) written r sort) (expr i.c.tree i.routine e) (λ v. indexed (length_at i.c.tree i.routine root) q v >>= part_at part)
      (expr_safe i e sorts.Num is.5)
      (λ v h. safe_then (scene i) (λ r. IsThere (scene i) written r is.1) (λ r. IsThere (scene i) written r sort) (indexed (length_at i.c.tree i.routine root) q v) (part_at part)
      (indexed_safe (scene i) written q is.1 is.2 (length_at i.c.tree i.routine root) v (root_len i written root is.1 (Some is.2) is.3) there h)
      (λ r found. part_safe (scene i) written r is.1 sort part found is.4)))

  pub one_safe : (i : Inside) (arg : TypedArg) → ArgSafe i arg
  one_safe i (Given e) = λ sort is. expr_safe i e sort is
  one_safe i (Lent p) = λ written sort is. place_safe i written p sort is
  one_safe i (OfSignal signal) = tt
  one_safe i (OfMeeting meeting) = tt
  one_safe i (Itself name) = tt
  one_safe i (Optional name value) = tt

  pub all_safe : (i : Inside) (args : TypedArgs) → ArgsSafe i args
  all_safe i NoArgs = tt
  all_safe i (MoreArgs arg more) = (one_safe i arg, all_safe i more)
