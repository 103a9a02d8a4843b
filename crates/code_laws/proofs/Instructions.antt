-- The code of instructions does what the instructions do.
use Rattle.std.proofs.Common.{◌≡◌, refl, ap, subst, ℕ, ◌+◌, ◌≤◌, Bool, true, false, ℤ, pos, ◌+ℤ◌, List, [], ◌∷◌, length, Option, None, Some, slice_get, if◌then◌else◌, arith}
use Rattle.std.specs.Option.{option_map, unwrap_or}
use Rattle.std.specs.Ordering.{int_eq}
use Rattle.std.proofs.lemmas.Bool.Decides.{Decides-int_eq}
use Rattle.std.proofs.lemmas.Int.{ints}
use Rattle.rapid_num.specs.Arithmetic.{num_of, sum_of}
use Rattle.rapid_num.specs.declared.joints.Joints.{Joints}
use Rattle.rapid_num.specs.declared.shape.Shape.{Shape}
use Rattle.rapid_model.specs.Truths.{same_truth}
use Rattle.rapid_model.specs.declared.fate.Fate.TheVariants as fates
use Rattle.rapid_model.specs.declared.fate.Fault.TheVariants as faults
use Rattle.rapid_model.specs.declared.part_name.PartName.TheVariants as parts
use Rattle.rapid_model.specs.declared.request.Request.TheVariants as requests
use Rattle.rapid_model.specs.declared.sort.Sort.{Sort}
use Rattle.rapid_model.specs.declared.tail.Tail.TheVariants as tails
use Rattle.rapid_model.specs.declared.value.Value.{Value}
use Rattle.rapid_model.specs.declared.value.Value.TheVariants as values
use Rattle.rapid_model.specs.declared.watched.Watched.TheVariants as watched
use Rattle.rapid_model.specs.declared.operator.Operator.TheVariants as operators
use Rattle.rapid_values.specs.Operators.{num_or_fault}
use Rattle.typed_trees.specs.Plain.{TypedExpr, TypedPlace, NotHeld, PlaceOf}
use Rattle.typed_trees.specs.declared.datum.Datum.{Datum}
use Rattle.typed_trees.specs.declared.datum.Datum.TheVariants as datums
use Rattle.typed_trees.specs.declared.datum.Datum.TheVariants.{Plain, Mark, Place}
use Rattle.typed_trees.specs.declared.datum.Lvalue.{Lvalue}
use Rattle.typed_trees.specs.declared.datum.Root.TheVariants as data_roots
use Rattle.typed_trees.specs.declared.expr.TreeRoot.TheVariants as roots
use Rattle.rapid_meaning.specs.Answering.{Run}
use Rattle.rapid_meaning.specs.Doings.{Doing, Gives, Raises, Asks, Ends, Misfit, Reads, Writes, Does as DoesPart, Act, ◌>>=◌, ◌>>◌, after, or_misfit, tells}
use Rattle.rapid_meaning.specs.Expressions.{expr, place}
use Rattle.rapid_meaning.specs.Flows.{Way}
use Rattle.rapid_meaning.specs.Functions.{read_signal}
use Rattle.rapid_meaning.specs.Instructions.{bit, num, ready, target, text, truth}
use Rattle.rapid_meaning.specs.Interrupts.{number_at, order, pers_at}
use Rattle.rapid_meaning.specs.Moves.{aim, still}
use Rattle.rapid_meaning.specs.Places.{at_root, load, part_at, read_value, test_and_set, write_value}
use Rattle.rapid_meaning.specs.Signals.{has_value, write_signal}
use Rattle.rapid_meaning.specs.Values.{applied, bit_in, in_range, num_in, of_bit, shape_in, target_in, text_in, tool_speed_in, truth_in, whole}
use Rattle.rapid_meaning.specs.Zones.{defined, shape_at, supervise, tie}
use Rattle.stack_code.specs.Confs.{Conf}
use Rattle.stack_code.specs.Needs.{expr_need, pieces_need}
use Rattle.stack_code.specs.Pieces.{Piece, OfExpr, OfPlace, Does, Waits, Travels, cell_number, push}
use Rattle.stack_code.specs.Placed.{Placed}
use Rattle.stack_code.specs.Sizes.{expr_size, pieces_size, place_size}
use Rattle.stack_code.specs.Steps.{Here, act, does, fails, pushes, sets_out}
use Rattle.stack_code.specs.StmtLayouts.{pieces_code}
use Rattle.stack_code.specs.declared.op.Op.{Op}
use Rattle.stack_code.specs.declared.op.Op.TheVariants as ops
use Rattle.stack_code.specs.declared.order_on.OrderOn.TheVariants as orders
use Rattle.stack_code.specs.declared.tail_kind.TailKind.TheVariants as kinds
use Rattle.code_laws.specs.Calls.{ExprCalls, PlaceCalls}
use Rattle.code_laws.proofs.Alone.{load_alone, signal_alone, store_alone, test_alone}
use Rattle.code_laws.proofs.Claims.{Claims}
use Rattle.code_laws.proofs.CodeOf.{IsCodeOf}
use Rattle.code_laws.proofs.InstructionSteps.{copy_then, done_by, done_by_two, expr_then, load_then, number_then, of_num, of_target, of_text, of_truth, place_then, read_then, settles}
use Rattle.code_laws.proofs.InstructionsAlone.{aim_alone, bit_alone, defined_alone, order_alone, range_alone, still_alone, supervise_alone, tells_alone, tie_alone, tool_alone, write_alone}
use Rattle.code_laws.proofs.Ops.{OpAt}
use Rattle.code_laws.proofs.Past.{past_expr, past_place}
use Rattle.code_laws.proofs.PlaceOps.{load_sim}
use Rattle.code_laws.proofs.Same.{NoPart, no_part_then, same, sim_same}
use Rattle.code_laws.proofs.Sim.{Sim, Target, sim_asks, sim_assoc, sim_ends, sim_from, sim_gives, sim_misfit, sim_raises, sim_reads, sim_then, sim_writes}
use Rattle.code_laws.proofs.Spots.{Holds, Spot, failing, here, moving, sim_op, standing}

-- a piece of code and the instruction that it is
abbrev pub Goes : Spot → List ℕ → ℕ → List Piece → List Placed → Doing Bool → Type 0
Goes s labels pc list ps m =
    Holds s pc (pieces_code s.tree s.routine labels s.own pc list ps) → pieces_need 0 list ≤ s.target.code.deepest
    → Sim s.target s.run (standing s pc []) m (settles s (pc + pieces_size list)) (failing s)

pub settled : (s : Spot) (x : Doing Conf) (m : Doing Bool) (a b : ℕ) → a ≡ b → Sim s.target s.run x m (settles s a) (failing s) → Sim s.target s.run x m (settles s b) (failing s)
settled s x m a b e sim = subst (λ (end : ℕ). Sim s.target s.run x m (settles s end) (failing s)) e sim

-- waits

-- whether a wait is ready is on the stack
pub wait_by : (s : Spot) (pc : ℕ) (b : Bool) → OpAt s pc (ops.Wait s.own.retry) → 1 ≤ s.target.code.deepest
    → Sim s.target s.run (standing s pc (Plain (values.Bool b) ∷ [])) (Gives b) (settles s (pc + 1)) (failing s)
unfolding after
wait_by s pc b there room = sim_op s pc (Plain (values.Bool b) ∷ []) (ops.Wait s.own.retry) there room (sim_gives b)

-- a doing, and what follows its result
pub through : {A : Type 0} {t : Target} {run : Run} (m : Doing A) {x : A → Doing Conf} {q : ℕ → Doing Conf} {next : A → Doing Conf} {failed : ℕ → Doing Conf} → NoPart m
    → ((v : A) → Sim t run (x v) (Gives v) next failed) → ((n : ℕ) → Sim t run (q n) (Raises n) next failed) → Sim t run (after m x q) m next failed
unfolding after
through (Gives v) own more raised = more v
through (Raises n) own more raised = raised n
through (Asks request k) own more raised = sim_asks request (λ a. through (k a) (own a) more raised)
through (Ends fate) own more raised = sim_ends fate
through Misfit own more raised = sim_misfit
through (Reads k) own more raised = sim_reads (λ d. through (k d) (own d) more raised)
through (Writes d m) own more raised = sim_writes d (through m own more raised)
through (DoesPart p k h) own more raised = absurd own

-- a signal value, of which a copy stays

bit_of : {B : Type 0} (s : Spot) (x : Value → Doing Conf) (k : Bool → Doing B) (next : B → Doing Conf) (n : ℤ) (zero_is one_is : Bool) → int_eq n (pos 0) ≡ zero_is → int_eq n (pos 1_000) ≡ one_is
    → ((b : Bool) → Sim s.target s.run (x (of_bit b)) (k b) next (failing s))
    → Sim s.target s.run (after (if zero_is then Gives false else if one_is then Gives true else Ends (fates.Fault faults.SignalValue)) (λ b. x (values.Num n)) (failing s))
    (after (if zero_is then Gives false else if one_is then Gives true else Ends (fates.Fault faults.SignalValue)) k Raises) next (failing s)
unfolding after
bit_of s x k next n true one_is zero one more =
    let same : n ≡ pos 0 = (Decides-int_eq n (pos 0)).0 zero in
    sim_from (ap (λ (m : ℤ). x (values.Num m)) same) (more false)
bit_of s x k next n false true zero one more =
    let same : n ≡ pos 1_000 = (Decides-int_eq n (pos 1_000)).0 one in
    sim_from (ap (λ (m : ℤ). x (values.Num m)) same) (more true)
bit_of s x k next n false false zero one more = sim_ends (fates.Fault faults.SignalValue)

bit_sim : {B : Type 0} (s : Spot) (x : Value → Doing Conf) (k : Bool → Doing B) (next : B → Doing Conf) → ((b : Bool) → Sim s.target s.run (x (of_bit b)) (k b) next (failing s)) → (v : Value)
    → Sim s.target s.run (after (bit_in v) (λ b. x v) (failing s)) (bit_in v >>= k) next (failing s)
unfolding after
bit_sim s x k next more (values.Num n) = bit_of s x k next n (int_eq n (pos 0)) (int_eq n (pos 1_000)) refl refl more
bit_sim s x k next more v = sim_misfit

-- an expression whose value is a signal value
bit_then : {B : Type 0} (s : Spot) → IsCodeOf s.tree s.target → Claims s.target s.tree s.run → (labels : List ℕ) (pc : ℕ) (e : TypedExpr) (more : List Piece) (ps : List Placed) (k : Bool → Doing B) (next : B → Doing Conf)
    → ExprCalls s.tree e → Holds s pc (pieces_code s.tree s.routine labels s.own pc (OfExpr e ∷ Does ops.Bit ∷ more) ps) → expr_need e ≤ s.target.code.deepest → 1 ≤ s.target.code.deepest
    → ((b : Bool) → Holds s (pc + expr_size e + 1) (pieces_code s.tree s.routine labels s.own (pc + expr_size e + 1) more ps)
    → Sim s.target s.run (standing s (pc + expr_size e + 1) (Plain (of_bit b) ∷ [])) (k b) next (failing s))
    → Sim s.target s.run (standing s pc []) (bit s.tree s.routine e >>= k) next (failing s)
unfolding pieces_code after
bit_then s code claims labels pc e more ps k next calls there room one go_on =
    let behind = past_expr s.target.code s.tree s.routine s.own pc e (pieces_code s.tree s.routine labels s.own (pc + expr_size e) (Does ops.Bit ∷ more) ps) there in
    read_then s code claims pc [] e (pieces_code s.tree s.routine labels s.own (pc + expr_size e) (Does ops.Bit ∷ more) ps) bit_in k calls there (omega arith)
    (λ v. sim_op s (pc + expr_size e) (Plain v ∷ []) ops.Bit behind.0 one (bit_sim s (λ w. standing s (pc + expr_size e + 1) (Plain w ∷ [])) k next (λ b. go_on b behind.1) v))

-- signals

pub set_goes : (s : Spot) (labels : List ℕ) (pc signal : ℕ) (ps : List Placed) → Goes s labels pc (Does (push 1) ∷ Does (ops.PutSignal signal) ∷ []) ps (write_signal signal true >> ready)
unfolding pieces_code pieces_need pieces_size after
set_goes s labels pc signal ps there room =
    settled s (standing s pc []) (write_signal signal true >> ready) (pc + 1 + 1) (pc + (1 + (1 + 0))) (omega arith)
    (sim_op s pc [] (push 1) there.0 (omega arith) (done_by s (pc + 1) (Plain (whole 1) ∷ []) (ops.PutSignal signal) (write_signal signal true) there.1.0 (omega (arith, room)) refl (write_alone signal true)))

pub reset_goes : (s : Spot) (labels : List ℕ) (pc signal : ℕ) (ps : List Placed) → Goes s labels pc (Does (push 0) ∷ Does (ops.PutSignal signal) ∷ []) ps (write_signal signal false >> ready)
unfolding pieces_code pieces_need pieces_size after
reset_goes s labels pc signal ps there room =
    settled s (standing s pc []) (write_signal signal false >> ready) (pc + 1 + 1) (pc + (1 + (1 + 0))) (omega arith)
    (sim_op s pc [] (push 0) there.0 (omega arith) (done_by s (pc + 1) (Plain (whole 0) ∷ []) (ops.PutSignal signal) (write_signal signal false) there.1.0 (omega (arith, room)) refl (write_alone signal false)))

pub set_to_goes : (s : Spot) → IsCodeOf s.tree s.target → Claims s.target s.tree s.run → (labels : List ℕ) (pc signal : ℕ) (e : TypedExpr) (ps : List Placed) → ExprCalls s.tree e
    → Goes s labels pc (OfExpr e ∷ Does (ops.PutSignal signal) ∷ []) ps (bit s.tree s.routine e >>= λ b. write_signal signal b >> ready)
unfolding pieces_code pieces_need pieces_size after
set_to_goes s code claims labels pc signal e ps calls there room =
    let behind = past_expr s.target.code s.tree s.routine s.own pc e (pieces_code s.tree s.routine labels s.own (pc + expr_size e) (Does (ops.PutSignal signal) ∷ []) ps) there in
    settled s (standing s pc []) (bit s.tree s.routine e >>= λ b. write_signal signal b >> ready) (pc + expr_size e + 1) (pc + (expr_size e + (1 + 0))) (omega arith)
    (read_then s code claims pc [] e (pieces_code s.tree s.routine labels s.own (pc + expr_size e) (Does (ops.PutSignal signal) ∷ []) ps) bit_in (λ b. write_signal signal b >> ready) calls there (omega (arith, room))
    (λ v. done_by_two s (pc + expr_size e) (Plain v ∷ []) (ops.PutSignal signal) (bit_in v) (λ b. write_signal signal b) behind.0 (omega (arith, room)) refl
    (no_part_then (bit_in v) (λ b. write_signal signal b) (bit_alone v) (λ b. write_alone signal b))))

-- waits for signals

-- two signal values, compared
compared : (s : Spot) (pc : ℕ) (b bit : Bool) → OpAt s pc (ops.Binary operators.Equal) → 2 ≤ s.target.code.deepest → OpAt s (pc + 1) (ops.Wait s.own.retry)
    → Sim s.target s.run (standing s pc (Plain (of_bit bit) ∷ Plain (of_bit b) ∷ [])) (Gives (same_truth b bit)) (settles s (pc + 1 + 1)) (failing s)
unfolding after
compared s pc true true there room wait = sim_op s pc _ (ops.Binary operators.Equal) there room (wait_by s (pc + 1) true wait (omega (arith, room)))
compared s pc true false there room wait = sim_op s pc _ (ops.Binary operators.Equal) there room (wait_by s (pc + 1) false wait (omega (arith, room)))
compared s pc false true there room wait = sim_op s pc _ (ops.Binary operators.Equal) there room (wait_by s (pc + 1) false wait (omega (arith, room)))
compared s pc false false there room wait = sim_op s pc _ (ops.Binary operators.Equal) there room (wait_by s (pc + 1) true wait (omega (arith, room)))

pub wait_for_goes : (s : Spot) → IsCodeOf s.tree s.target → Claims s.target s.tree s.run → (labels : List ℕ) (pc signal : ℕ) (e : TypedExpr) (ps : List Placed) → ExprCalls s.tree e
    → Goes s labels pc (OfExpr e ∷ Does ops.Bit ∷ Does (ops.GetSignal signal) ∷ Does (ops.Binary operators.Equal) ∷ Waits ∷ []) ps (bit s.tree s.routine e >>= λ b. has_value signal b)
unfolding pieces_code pieces_need pieces_size after
wait_for_goes s code claims labels pc signal e ps calls there room =
    settled s (standing s pc []) (bit s.tree s.routine e >>= λ b. has_value signal b) (pc + expr_size e + 1 + 1 + 1 + 1) (pc + (expr_size e + (1 + (1 + (1 + (1 + 0)))))) (omega arith)
    (bit_then s code claims labels pc e (Does (ops.GetSignal signal) ∷ Does (ops.Binary operators.Equal) ∷ Waits ∷ []) ps (λ b. has_value signal b) (settles s (pc + expr_size e + 1 + 1 + 1 + 1)) calls there
    (omega (arith, room)) (omega (arith, room))
    (λ b here_on. sim_op s (pc + expr_size e + 1) (Plain (of_bit b) ∷ []) (ops.GetSignal signal) here_on.0 (omega (arith, room))
    (sim_same (read_signal signal) (signal_alone signal) (λ bit. compared s (pc + expr_size e + 1 + 1) b bit here_on.1.0 (omega (arith, room)) here_on.1.1.0) (λ n. sim_raises n))))

pub until_goes : (s : Spot) → IsCodeOf s.tree s.target → Claims s.target s.tree s.run → (labels : List ℕ) (pc : ℕ) (e : TypedExpr) (ps : List Placed) → ExprCalls s.tree e
    → Goes s labels pc (OfExpr e ∷ Waits ∷ []) ps (truth s.tree s.routine e)
unfolding pieces_code pieces_need pieces_size
until_goes s code claims labels pc e ps calls there room =
    let behind = past_expr s.target.code s.tree s.routine s.own pc e (pieces_code s.tree s.routine labels s.own (pc + expr_size e) (Waits ∷ []) ps) there in
    settled s (standing s pc []) (truth s.tree s.routine e) (pc + expr_size e + 1) (pc + (expr_size e + (1 + 0))) (omega arith)
    (expr_then s code claims pc [] e (pieces_code s.tree s.routine labels s.own (pc + expr_size e) (Waits ∷ []) ps) truth_in calls there (omega (arith, room))
    (λ v. waited v behind.0))
  where
    waited : (v : Value) → OpAt s (pc + expr_size e) (ops.Wait s.own.retry) → Sim s.target s.run (standing s (pc + expr_size e) (Plain v ∷ [])) (truth_in v) (settles s (pc + expr_size e + 1)) (failing s)
    waited (values.Bool b) at = wait_by s (pc + expr_size e) b at (omega (arith, room))
    waited v at = sim_misfit

pub time_goes : (s : Spot) → IsCodeOf s.tree s.target → Claims s.target s.tree s.run → (labels : List ℕ) (pc : ℕ) (e : TypedExpr) (ps : List Placed) → ExprCalls s.tree e
    → Goes s labels pc (OfExpr e ∷ Does ops.Drop ∷ []) ps (num s.tree s.routine e >> ready)
unfolding pieces_code pieces_need pieces_size
time_goes s code claims labels pc e ps calls there room =
    let behind = past_expr s.target.code s.tree s.routine s.own pc e (pieces_code s.tree s.routine labels s.own (pc + expr_size e) (Does ops.Drop ∷ []) ps) there in
    settled s (standing s pc []) (num s.tree s.routine e >> ready) (pc + expr_size e + 1) (pc + (expr_size e + (1 + 0))) (omega arith)
    (read_then s code claims pc [] e (pieces_code s.tree s.routine labels s.own (pc + expr_size e) (Does ops.Drop ∷ []) ps) num_in (λ _. ready) calls there (omega (arith, room))
    (of_num s (λ v. standing s (pc + expr_size e) (Plain v ∷ [])) (λ _. ready) (λ n. sim_op s (pc + expr_size e) _ ops.Drop behind.0 (omega (arith, room)) (sim_gives true))))

pub test_goes : (s : Spot) → IsCodeOf s.tree s.target → Claims s.target s.tree s.run → (labels : List ℕ) (pc : ℕ) (p : TypedPlace) (ps : List Placed) → PlaceCalls s.tree p
    → Goes s labels pc (OfPlace p ∷ Does ops.TestSet ∷ Waits ∷ []) ps (place s.tree s.routine p >>= λ q. test_and_set q)
unfolding pieces_code pieces_need pieces_size
test_goes s code claims labels pc p ps calls there room =
    let behind = past_place s.target.code s.tree s.routine s.own pc p (pieces_code s.tree s.routine labels s.own (pc + place_size p) (Does ops.TestSet ∷ Waits ∷ []) ps) there in
    settled s (standing s pc []) (place s.tree s.routine p >>= λ q. test_and_set q) (pc + place_size p + 1 + 1) (pc + (place_size p + (1 + (1 + 0)))) (omega arith)
    (place_then s code claims pc [] p (pieces_code s.tree s.routine labels s.own (pc + place_size p) (Does ops.TestSet ∷ Waits ∷ []) ps) (λ q. test_and_set q) calls there (omega (arith, room))
    (λ q. sim_op s (pc + place_size p) (Place q ∷ []) ops.TestSet behind.0 (omega (arith, room))
    (through (test_and_set q) (test_alone q) (λ b. wait_by s (pc + place_size p + 1) b behind.1.0 (omega (arith, room))) (λ n. sim_raises n))))

-- texts for the operator

pub say_goes : (s : Spot) → IsCodeOf s.tree s.target → Claims s.target s.tree s.run → (labels : List ℕ) (pc : ℕ) (e : TypedExpr) (ps : List Placed) → ExprCalls s.tree e
    → Goes s labels pc (OfExpr e ∷ Does (ops.Say kinds.None) ∷ []) ps (text s.tree s.routine e >>= λ t. tells (requests.Say t tails.None) >> ready)
unfolding pieces_code pieces_need pieces_size after
say_goes s code claims labels pc e ps calls there room =
    let behind = past_expr s.target.code s.tree s.routine s.own pc e (pieces_code s.tree s.routine labels s.own (pc + expr_size e) (Does (ops.Say kinds.None) ∷ []) ps) there in
    settled s (standing s pc []) (text s.tree s.routine e >>= λ t. tells (requests.Say t tails.None) >> ready) (pc + expr_size e + 1) (pc + (expr_size e + (1 + 0))) (omega arith)
    (read_then s code claims pc [] e (pieces_code s.tree s.routine labels s.own (pc + expr_size e) (Does (ops.Say kinds.None) ∷ []) ps) text_in (λ t. tells (requests.Say t tails.None) >> ready) calls there (omega (arith, room))
    (of_text s (λ v. standing s (pc + expr_size e) (Plain v ∷ [])) (λ t. tells (requests.Say t tails.None) >> ready)
    (λ t. done_by s (pc + expr_size e) (Plain (values.Text t) ∷ []) (ops.Say kinds.None) (tells (requests.Say t tails.None)) behind.0 (omega (arith, room)) refl (tells_alone (requests.Say t tails.None)))))

pub say_num_goes : (s : Spot) → IsCodeOf s.tree s.target → Claims s.target s.tree s.run → (labels : List ℕ) (pc : ℕ) (e f : TypedExpr) (ps : List Placed) → ExprCalls s.tree e → ExprCalls s.tree f
    → Goes s labels pc (OfExpr e ∷ OfExpr f ∷ Does (ops.Say kinds.Num) ∷ []) ps
    (text s.tree s.routine e >>= λ t. (num s.tree s.routine f >>= λ n. Gives (tails.Num n)) >>= λ more. tells (requests.Say t more) >> ready)
unfolding pieces_code pieces_need pieces_size after
say_num_goes s code claims labels pc e f ps calls others there room =
    let rest = pieces_code s.tree s.routine labels s.own (pc + expr_size e) (OfExpr f ∷ Does (ops.Say kinds.Num) ∷ []) ps in
    let behind = past_expr s.target.code s.tree s.routine s.own pc e (pieces_code s.tree s.routine labels s.own (pc + expr_size e) (OfExpr f ∷ Does (ops.Say kinds.Num) ∷ []) ps) there in
    let last = past_expr s.target.code s.tree s.routine s.own (pc + expr_size e) f (pieces_code s.tree s.routine labels s.own (pc + expr_size e + expr_size f) (Does (ops.Say kinds.Num) ∷ []) ps) behind in
    settled s (standing s pc []) _ (pc + expr_size e + expr_size f + 1) (pc + (expr_size e + (expr_size f + (1 + 0)))) (omega arith)
    (read_then s code claims pc [] e (pieces_code s.tree s.routine labels s.own (pc + expr_size e) (OfExpr f ∷ Does (ops.Say kinds.Num) ∷ []) ps) text_in
    (λ t. (num s.tree s.routine f >>= λ n. Gives (tails.Num n)) >>= λ more. tells (requests.Say t more) >> ready) calls there (omega (arith, room))
    (of_text s (λ v. standing s (pc + expr_size e) (Plain v ∷ [])) (λ t. (num s.tree s.routine f >>= λ n. Gives (tails.Num n)) >>= λ more. tells (requests.Say t more) >> ready)
    (λ t. sim_assoc (num s.tree s.routine f) (λ n. Gives (tails.Num n)) (λ more. tells (requests.Say t more) >> ready) Raises
    (read_then s code claims (pc + expr_size e) (Plain (values.Text t) ∷ []) f (pieces_code s.tree s.routine labels s.own (pc + expr_size e + expr_size f) (Does (ops.Say kinds.Num) ∷ []) ps) num_in
    (λ n. tells (requests.Say t (tails.Num n)) >> ready) others behind (omega (arith, room))
    (of_num s (λ v. standing s (pc + expr_size e + expr_size f) (Plain v ∷ Plain (values.Text t) ∷ [])) (λ n. tells (requests.Say t (tails.Num n)) >> ready)
    (λ n. done_by s (pc + expr_size e + expr_size f) (Plain (values.Num n) ∷ Plain (values.Text t) ∷ []) (ops.Say kinds.Num) (tells (requests.Say t (tails.Num n))) last.0 (omega (arith, room)) refl (tells_alone (requests.Say t (tails.Num n)))))))))

pub say_bool_goes : (s : Spot) → IsCodeOf s.tree s.target → Claims s.target s.tree s.run → (labels : List ℕ) (pc : ℕ) (e f : TypedExpr) (ps : List Placed) → ExprCalls s.tree e → ExprCalls s.tree f
    → Goes s labels pc (OfExpr e ∷ OfExpr f ∷ Does (ops.Say kinds.Bool) ∷ []) ps
    (text s.tree s.routine e >>= λ t. (truth s.tree s.routine f >>= λ b. Gives (tails.Bool b)) >>= λ more. tells (requests.Say t more) >> ready)
unfolding pieces_code pieces_need pieces_size after
say_bool_goes s code claims labels pc e f ps calls others there room =
    let behind = past_expr s.target.code s.tree s.routine s.own pc e (pieces_code s.tree s.routine labels s.own (pc + expr_size e) (OfExpr f ∷ Does (ops.Say kinds.Bool) ∷ []) ps) there in
    let last = past_expr s.target.code s.tree s.routine s.own (pc + expr_size e) f (pieces_code s.tree s.routine labels s.own (pc + expr_size e + expr_size f) (Does (ops.Say kinds.Bool) ∷ []) ps) behind in
    settled s (standing s pc []) _ (pc + expr_size e + expr_size f + 1) (pc + (expr_size e + (expr_size f + (1 + 0)))) (omega arith)
    (read_then s code claims pc [] e (pieces_code s.tree s.routine labels s.own (pc + expr_size e) (OfExpr f ∷ Does (ops.Say kinds.Bool) ∷ []) ps) text_in
    (λ t. (truth s.tree s.routine f >>= λ b. Gives (tails.Bool b)) >>= λ more. tells (requests.Say t more) >> ready) calls there (omega (arith, room))
    (of_text s (λ v. standing s (pc + expr_size e) (Plain v ∷ [])) (λ t. (truth s.tree s.routine f >>= λ b. Gives (tails.Bool b)) >>= λ more. tells (requests.Say t more) >> ready)
    (λ t. sim_assoc (truth s.tree s.routine f) (λ b. Gives (tails.Bool b)) (λ more. tells (requests.Say t more) >> ready) Raises
    (read_then s code claims (pc + expr_size e) (Plain (values.Text t) ∷ []) f (pieces_code s.tree s.routine labels s.own (pc + expr_size e + expr_size f) (Does (ops.Say kinds.Bool) ∷ []) ps) truth_in
    (λ b. tells (requests.Say t (tails.Bool b)) >> ready) others behind (omega (arith, room))
    (of_truth s (λ v. standing s (pc + expr_size e + expr_size f) (Plain v ∷ Plain (values.Text t) ∷ [])) (λ b. tells (requests.Say t (tails.Bool b)) >> ready)
    (λ b. done_by s (pc + expr_size e + expr_size f) (Plain (values.Bool b) ∷ Plain (values.Text t) ∷ []) (ops.Say kinds.Bool) (tells (requests.Say t (tails.Bool b))) last.0 (omega (arith, room)) refl (tells_alone (requests.Say t (tails.Bool b)))))))))

-- moves

-- what MoveAbsJ does before its first setpoint
abbrev pub aims : Spot → TypedExpr → TypedExpr → Doing Way
aims s to speed = still >> (target s.tree s.routine to >>= λ joints. expr s.tree s.routine speed >>= λ v. tool_speed_in v >>= λ n. aim s.tree.axes joints n)

-- it leads to the Point
pub aim_goes : (s : Spot) → IsCodeOf s.tree s.target → Claims s.target s.tree s.run → (labels : List ℕ) (pc : ℕ) (to speed : TypedExpr) (ps : List Placed) → ExprCalls s.tree to → ExprCalls s.tree speed
    → Holds s pc (pieces_code s.tree s.routine labels s.own pc (Does ops.Still ∷ OfExpr to ∷ OfExpr speed ∷ Travels ∷ []) ps)
    → pieces_need 0 (Does ops.Still ∷ OfExpr to ∷ OfExpr speed ∷ Travels ∷ []) ≤ s.target.code.deepest
    → Sim s.target s.run (standing s pc []) (aims s to speed) (λ way. Gives (moving s (pc + 1 + expr_size to + expr_size speed + 1) (Some way))) (failing s)
unfolding pieces_code pieces_need after
aim_goes s code claims labels pc to speed ps calls others there room =
    let behind = past_expr s.target.code s.tree s.routine s.own (pc + 1) to (pieces_code s.tree s.routine labels s.own (pc + 1 + expr_size to) (OfExpr speed ∷ Travels ∷ []) ps) there.1 in
    let last = past_expr s.target.code s.tree s.routine s.own (pc + 1 + expr_size to) speed (pieces_code s.tree s.routine labels s.own (pc + 1 + expr_size to + expr_size speed) (Travels ∷ []) ps) behind in
    sim_op s pc [] ops.Still there.0 (omega arith) (sim_same still still_alone
    (λ _. read_then s code claims (pc + 1) [] to (pieces_code s.tree s.routine labels s.own (pc + 1 + expr_size to) (OfExpr speed ∷ Travels ∷ []) ps) target_in
    (λ joints. expr s.tree s.routine speed >>= λ v. tool_speed_in v >>= λ n. aim s.tree.axes joints n) calls there.1 (omega (arith, room))
    (of_target s (λ v. standing s (pc + 1 + expr_size to) (Plain v ∷ [])) (λ joints. expr s.tree s.routine speed >>= λ v. tool_speed_in v >>= λ n. aim s.tree.axes joints n)
    (λ joints. expr_then s code claims (pc + 1 + expr_size to) (Plain (values.Target joints) ∷ []) speed (pieces_code s.tree s.routine labels s.own (pc + 1 + expr_size to + expr_size speed) (Travels ∷ []) ps)
    (λ v. tool_speed_in v >>= λ n. aim s.tree.axes joints n) others behind (omega (arith, room))
    (λ v. sim_op s (pc + 1 + expr_size to + expr_size speed) (Plain v ∷ Plain (values.Target joints) ∷ []) ops.Aim last.0 (omega (arith, room))
    (sim_from (same_axes joints v) (same (tool_speed_in v >>= λ n. aim s.tree.axes joints n)
    (no_part_then (tool_speed_in v) (λ n. aim s.tree.axes joints n) (tool_alone v) (λ n. aim_alone s.tree.axes joints n))))))))
    (λ n. sim_raises n))
  where
    x : ℕ
    x = pc + 1 + expr_size to + expr_size speed

    h : (joints : Joints) (v : Value) → Here
    h joints v = here s x (Plain v ∷ Plain (values.Target joints) ∷ [])

    -- the code knows the number of axes
    same_axes : (joints : Joints) (v : Value)
        → after (tool_speed_in v >>= λ n. aim s.target.code.axes joints n) (sets_out (h joints v) []) (fails (h joints v))
        ≡ after (tool_speed_in v >>= λ n. aim s.tree.axes joints n) (sets_out (h joints v) []) (fails (h joints v))
    same_axes joints v = ap (λ (axes : ℕ). after (tool_speed_in v >>= λ n. aim axes joints n) (sets_out (h joints v) []) (fails (h joints v))) code.axes

-- interrupts

-- an order on a signal pops what the trigger has tested
ordered : (s : Spot) (pc signal n : ℕ) (single b : Bool) → OpAt s pc (ops.Order (orders.Signal signal) single) → 2 ≤ s.target.code.deepest
    → Sim s.target s.run (standing s pc (Mark n ∷ Plain (of_bit b) ∷ [])) (order n (watched.Signal signal b) single >> ready) (settles s (pc + 1)) (failing s)
unfolding after
ordered s pc signal n single true there room = done_by s pc (Mark n ∷ Plain (of_bit true) ∷ []) (ops.Order (orders.Signal signal) single) (order n (watched.Signal signal true) single) there room refl (order_alone n (watched.Signal signal true) single)
ordered s pc signal n single false there room = done_by s pc (Mark n ∷ Plain (of_bit false) ∷ []) (ops.Order (orders.Signal signal) single) (order n (watched.Signal signal false) single) there room refl (order_alone n (watched.Signal signal false) single)

pub order_goes : (s : Spot) → IsCodeOf s.tree s.target → Claims s.target s.tree s.run → (labels : List ℕ) (pc signal : ℕ) (single : Bool) (e : TypedExpr) (p : TypedPlace) (ps : List Placed) → ExprCalls s.tree e → PlaceCalls s.tree p
    → Goes s labels pc (OfExpr e ∷ Does ops.Bit ∷ OfPlace p ∷ Does ops.Load ∷ Does (ops.Order (orders.Signal signal) single) ∷ []) ps
    (bit s.tree s.routine e >>= λ b. place s.tree s.routine p >>= λ q. number_at q >>= λ n. order n (watched.Signal signal b) single >> ready)
unfolding pieces_code pieces_need pieces_size
order_goes s code claims labels pc signal single e p ps calls others there room =
    settled s (standing s pc []) _ (pc + expr_size e + 1 + place_size p + 1 + 1) (pc + (expr_size e + (1 + (place_size p + (1 + (1 + 0)))))) (omega arith)
    (bit_then s code claims labels pc e (OfPlace p ∷ Does ops.Load ∷ Does (ops.Order (orders.Signal signal) single) ∷ []) ps (λ b. place s.tree s.routine p >>= λ q. number_at q >>= λ n. order n (watched.Signal signal b) single >> ready)
    (settles s (pc + expr_size e + 1 + place_size p + 1 + 1)) calls there (omega (arith, room)) (omega (arith, room))
    (λ b here_on. place_then s code claims (pc + expr_size e + 1) (Plain (of_bit b) ∷ []) p (pieces_code s.tree s.routine labels s.own (pc + expr_size e + 1 + place_size p) (Does ops.Load ∷ Does (ops.Order (orders.Signal signal) single) ∷ []) ps)
    (λ q. number_at q >>= λ n. order n (watched.Signal signal b) single >> ready) others here_on (omega (arith, room))
    (λ q. let behind = past_place s.target.code s.tree s.routine s.own (pc + expr_size e + 1) p (pieces_code s.tree s.routine labels s.own (pc + expr_size e + 1 + place_size p) (Does ops.Load ∷ Does (ops.Order (orders.Signal signal) single) ∷ []) ps) here_on in
    number_then s (pc + expr_size e + 1 + place_size p) (Plain (of_bit b) ∷ []) q (λ n. order n (watched.Signal signal b) single >> ready) behind.0 (omega (arith, room))
    (λ n. ordered s (pc + expr_size e + 1 + place_size p + 1) signal n single b behind.1.0 (omega (arith, room))))))

-- an operation on the number that a variable holds
pub number_goes : (s : Spot) → IsCodeOf s.tree s.target → Claims s.target s.tree s.run → (labels : List ℕ) (pc : ℕ) (p : TypedPlace) (op : Op) (m : ℕ → Act) (ps : List Placed) → PlaceCalls s.tree p
    → ((at n : ℕ) → act (here s at (Mark n ∷ [])) op ≡ does (here s at (Mark n ∷ [])) [] (m n)) → ((n : ℕ) → NoPart (m n))
    → Goes s labels pc (OfPlace p ∷ Does ops.Load ∷ Does op ∷ []) ps (place s.tree s.routine p >>= λ q. number_at q >>= λ n. m n >> ready)
unfolding pieces_code pieces_need pieces_size
number_goes s code claims labels pc p op m ps calls same alone there room =
    let behind = past_place s.target.code s.tree s.routine s.own pc p (pieces_code s.tree s.routine labels s.own (pc + place_size p) (Does ops.Load ∷ Does op ∷ []) ps) there in
    settled s (standing s pc []) _ (pc + place_size p + 1 + 1) (pc + (place_size p + (1 + (1 + 0)))) (omega arith)
    (place_then s code claims pc [] p (pieces_code s.tree s.routine labels s.own (pc + place_size p) (Does ops.Load ∷ Does op ∷ []) ps) (λ q. number_at q >>= λ n. m n >> ready) calls there (omega (arith, room))
    (λ q. number_then s (pc + place_size p) [] q (λ n. m n >> ready) behind.0 (omega (arith, room))
    (λ n. done_by s (pc + place_size p + 1) (Mark n ∷ []) op (m n) behind.1.0 (omega (arith, room)) (same (pc + place_size p + 1) n) (alone n))))

-- an operation alone
pub alone_goes : (s : Spot) (labels : List ℕ) (pc : ℕ) (op : Op) (m : Act) (ps : List Placed) → act (here s pc []) op ≡ does (here s pc []) [] m → NoPart m → Goes s labels pc (Does op ∷ []) ps (m >> ready)
unfolding pieces_code pieces_need pieces_size
alone_goes s labels pc op m ps same alone there room =
    settled s (standing s pc []) (m >> ready) (pc + 1) (pc + (1 + 0)) (omega arith) (done_by s pc [] op m there.0 (omega arith) same alone)

-- the persistent that IPers watches

watched_place : {B : Type 0} (s : Spot) (row : ℕ) (sort : Sort) (k : ℕ → Doing B) (x : Doing Conf) (next : B → Doing Conf) (number : Option ℕ)
    → ((pers : ℕ) → number ≡ Some pers → Sim s.target s.run x (k pers) next (failing s))
    → Sim s.target s.run x ((or_misfit (option_map (λ pers. at_root (data_roots.Pers pers 0)) number) >>= λ p. part_at parts.Whole p) >>= λ w. pers_at w.root >>= k) next (failing s)
unfolding after
watched_place s row sort k x next None more = sim_misfit
watched_place s row sort k x next (Some pers) more = more pers refl

pub watch_goes : (s : Spot) → IsCodeOf s.tree s.target → Claims s.target s.tree s.run → (labels : List ℕ) (pc row : ℕ) (sort : Sort) (single : Bool) (p : TypedPlace) (ps : List Placed) → PlaceCalls s.tree p
    → Goes s labels pc (OfPlace p ∷ Does ops.Load ∷ Does (ops.Order (orders.Pers (cell_number s.tree (roots.Pers row))) single) ∷ []) ps
    (place s.tree s.routine (PlaceOf (roots.Pers row) NotHeld parts.Whole sort) >>= λ w. pers_at w.root >>= λ pers. place s.tree s.routine p >>= λ q. number_at q >>= λ n. order n (watched.Pers pers) single >> ready)
watch_goes s code claims labels pc row sort single p ps calls there room =
    watched_place s row sort (λ pers. place s.tree s.routine p >>= λ q. number_at q >>= λ n. order n (watched.Pers pers) single >> ready) (standing s pc []) _ (slice_get s.tree.pers_of row)
    (λ pers e. subst (λ (o : Option ℕ). Sim s.target s.run (standing s pc []) (place s.tree s.routine p >>= λ q. number_at q >>= λ n. order n (watched.Pers (unwrap_or o 0)) single >> ready)
    (settles s (pc + pieces_size (OfPlace p ∷ Does ops.Load ∷ Does (ops.Order (orders.Pers (cell_number s.tree (roots.Pers row))) single) ∷ []))) (failing s)) e
    (number_goes s code claims labels pc p (ops.Order (orders.Pers (cell_number s.tree (roots.Pers row))) single) (λ n. order n (watched.Pers (cell_number s.tree (roots.Pers row))) single) ps calls
    (λ at n. refl) (λ n. order_alone n (watched.Pers (cell_number s.tree (roots.Pers row))) single) there room))

-- zones

-- an operation on a variable and the number that it holds
pub zone_goes : (s : Spot) → IsCodeOf s.tree s.target → Claims s.target s.tree s.run → (labels : List ℕ) (pc : ℕ) (p : TypedPlace) (op : Op) (m : Lvalue → ℕ → Act) (ps : List Placed) → PlaceCalls s.tree p
    → ((at n : ℕ) (q : Lvalue) → act (here s at (Mark n ∷ Place q ∷ [])) op ≡ does (here s at (Mark n ∷ Place q ∷ [])) [] (m q n)) → ((q : Lvalue) (n : ℕ) → NoPart (m q n))
    → Goes s labels pc (OfPlace p ∷ Does ops.Dup ∷ Does ops.Load ∷ Does op ∷ []) ps (place s.tree s.routine p >>= λ q. number_at q >>= λ n. m q n >> ready)
unfolding pieces_code pieces_need pieces_size
zone_goes s code claims labels pc p op m ps calls same alone there room =
    let behind = past_place s.target.code s.tree s.routine s.own pc p (pieces_code s.tree s.routine labels s.own (pc + place_size p) (Does ops.Dup ∷ Does ops.Load ∷ Does op ∷ []) ps) there in
    settled s (standing s pc []) _ (pc + place_size p + 1 + 1 + 1) (pc + (place_size p + (1 + (1 + (1 + 0))))) (omega arith)
    (place_then s code claims pc [] p (pieces_code s.tree s.routine labels s.own (pc + place_size p) (Does ops.Dup ∷ Does ops.Load ∷ Does op ∷ []) ps) (λ q. number_at q >>= λ n. m q n >> ready) calls there (omega (arith, room))
    (λ q. copy_then s (pc + place_size p) [] (Place q) (number_at q >>= λ n. m q n >> ready) behind.0 (omega (arith, room))
    (number_then s (pc + place_size p + 1) (Place q ∷ []) q (λ n. m q n >> ready) behind.1.0 (omega (arith, room))
    (λ n. done_by s (pc + place_size p + 1 + 1) (Mark n ∷ Place q ∷ []) op (m q n) behind.1.1.0 (omega (arith, room)) (same (pc + place_size p + 1 + 1) n q) (alone q n)))))

-- a shape of two positions
pub shape_goes : (s : Spot) → IsCodeOf s.tree s.target → Claims s.target s.tree s.run → (labels : List ℕ) (pc : ℕ) (p : TypedPlace) (low high : TypedExpr) (op : Op) (m : Lvalue → Joints → Joints → Act) (ps : List Placed)
    → PlaceCalls s.tree p → ExprCalls s.tree low → ExprCalls s.tree high
    → ((at : ℕ) (q : Lvalue) (l h : Joints) → act (here s at (Plain (values.Target h) ∷ Plain (values.Target l) ∷ Place q ∷ [])) op ≡ does (here s at (Plain (values.Target h) ∷ Plain (values.Target l) ∷ Place q ∷ [])) [] (m q l h))
    → ((q : Lvalue) (l h : Joints) → NoPart (m q l h))
    → Goes s labels pc (OfPlace p ∷ OfExpr low ∷ OfExpr high ∷ Does op ∷ []) ps
    (place s.tree s.routine p >>= λ q. target s.tree s.routine low >>= λ l. target s.tree s.routine high >>= λ h. m q l h >> ready)
unfolding pieces_code pieces_need pieces_size
shape_goes s code claims labels pc p low high op m ps calls lows highs same alone there room =
    let behind = past_place s.target.code s.tree s.routine s.own pc p (pieces_code s.tree s.routine labels s.own (pc + place_size p) (OfExpr low ∷ OfExpr high ∷ Does op ∷ []) ps) there in
    let second = past_expr s.target.code s.tree s.routine s.own (pc + place_size p) low (pieces_code s.tree s.routine labels s.own (pc + place_size p + expr_size low) (OfExpr high ∷ Does op ∷ []) ps) behind in
    let last = past_expr s.target.code s.tree s.routine s.own (pc + place_size p + expr_size low) high (pieces_code s.tree s.routine labels s.own (pc + place_size p + expr_size low + expr_size high) (Does op ∷ []) ps) second in
    settled s (standing s pc []) _ (pc + place_size p + expr_size low + expr_size high + 1) (pc + (place_size p + (expr_size low + (expr_size high + (1 + 0))))) (omega arith)
    (place_then s code claims pc [] p (pieces_code s.tree s.routine labels s.own (pc + place_size p) (OfExpr low ∷ OfExpr high ∷ Does op ∷ []) ps)
    (λ q. target s.tree s.routine low >>= λ l. target s.tree s.routine high >>= λ h. m q l h >> ready) calls there (omega (arith, room))
    (λ q. read_then s code claims (pc + place_size p) (Place q ∷ []) low (pieces_code s.tree s.routine labels s.own (pc + place_size p + expr_size low) (OfExpr high ∷ Does op ∷ []) ps) target_in
    (λ l. target s.tree s.routine high >>= λ h. m q l h >> ready) lows behind (omega (arith, room))
    (of_target s (λ v. standing s (pc + place_size p + expr_size low) (Plain v ∷ Place q ∷ [])) (λ l. target s.tree s.routine high >>= λ h. m q l h >> ready)
    (λ l. read_then s code claims (pc + place_size p + expr_size low) (Plain (values.Target l) ∷ Place q ∷ []) high (pieces_code s.tree s.routine labels s.own (pc + place_size p + expr_size low + expr_size high) (Does op ∷ []) ps) target_in
    (λ h. m q l h >> ready) highs second (omega (arith, room))
    (of_target s (λ v. standing s (pc + place_size p + expr_size low + expr_size high) (Plain v ∷ Plain (values.Target l) ∷ Place q ∷ [])) (λ h. m q l h >> ready)
    (λ h. done_by s (pc + place_size p + expr_size low + expr_size high) (Plain (values.Target h) ∷ Plain (values.Target l) ∷ Place q ∷ []) op (m q l h) last.0 (omega (arith, room))
    (same (pc + place_size p + expr_size low + expr_size high) q l h) (alone q l h)))))))

-- a shape that was defined is supervised
supervised : (s : Spot) (pc : ℕ) (q : Lvalue) (old : ℕ) (temporary : Bool) (d : Datum) → OpAt s pc (ops.ZoneSet temporary) → 3 ≤ s.target.code.deepest
    → Sim s.target s.run (standing s pc (d ∷ Mark old ∷ Place q ∷ [])) ((shape_in d >>= defined) >>= λ shape. supervise q old temporary shape >> ready) (settles s (pc + 1)) (failing s)
unfolding after
supervised s pc q old temporary (datums.Shape held) there room =
    done_by_two s pc (datums.Shape held ∷ Mark old ∷ Place q ∷ []) (ops.ZoneSet temporary) (defined held) (λ shape. supervise q old temporary shape) there room refl
    (no_part_then (defined held) (λ shape. supervise q old temporary shape) (defined_alone held) (λ shape. supervise_alone q old temporary shape))
supervised s pc q old temporary d there room = sim_misfit

pub supervise_goes : (s : Spot) → IsCodeOf s.tree s.target → Claims s.target s.tree s.run → (labels : List ℕ) (pc : ℕ) (zone shape : TypedPlace) (temporary : Bool) (ps : List Placed) → PlaceCalls s.tree zone → PlaceCalls s.tree shape
    → Goes s labels pc (OfPlace zone ∷ Does ops.Dup ∷ Does ops.Load ∷ OfPlace shape ∷ Does ops.Load ∷ Does (ops.ZoneSet temporary) ∷ []) ps
    (place s.tree s.routine zone >>= λ q. number_at q >>= λ old. place s.tree s.routine shape >>= λ p. shape_at p >>= λ held. supervise q old temporary held >> ready)
unfolding pieces_code pieces_need pieces_size
supervise_goes s code claims labels pc zone shape temporary ps calls others there room =
    let behind = past_place s.target.code s.tree s.routine s.own pc zone (pieces_code s.tree s.routine labels s.own (pc + place_size zone) (Does ops.Dup ∷ Does ops.Load ∷ OfPlace shape ∷ Does ops.Load ∷ Does (ops.ZoneSet temporary) ∷ []) ps) there in
    let last = past_place s.target.code s.tree s.routine s.own (pc + place_size zone + 1 + 1) shape (pieces_code s.tree s.routine labels s.own (pc + place_size zone + 1 + 1 + place_size shape) (Does ops.Load ∷ Does (ops.ZoneSet temporary) ∷ []) ps) behind.1.1 in
    settled s (standing s pc []) _ (pc + place_size zone + 1 + 1 + place_size shape + 1 + 1) (pc + (place_size zone + (1 + (1 + (place_size shape + (1 + (1 + 0))))))) (omega arith)
    (place_then s code claims pc [] zone (pieces_code s.tree s.routine labels s.own (pc + place_size zone) (Does ops.Dup ∷ Does ops.Load ∷ OfPlace shape ∷ Does ops.Load ∷ Does (ops.ZoneSet temporary) ∷ []) ps)
    (λ q. number_at q >>= λ old. place s.tree s.routine shape >>= λ p. shape_at p >>= λ held. supervise q old temporary held >> ready) calls there (omega (arith, room))
    (λ q. copy_then s (pc + place_size zone) [] (Place q) _ behind.0 (omega (arith, room))
    (number_then s (pc + place_size zone + 1) (Place q ∷ []) q (λ old. place s.tree s.routine shape >>= λ p. shape_at p >>= λ held. supervise q old temporary held >> ready) behind.1.0 (omega (arith, room))
    (λ old. place_then s code claims (pc + place_size zone + 1 + 1) (Mark old ∷ Place q ∷ []) shape (pieces_code s.tree s.routine labels s.own (pc + place_size zone + 1 + 1 + place_size shape) (Does ops.Load ∷ Does (ops.ZoneSet temporary) ∷ []) ps)
    (λ p. shape_at p >>= λ held. supervise q old temporary held >> ready) others behind.1.1 (omega (arith, room))
    (λ p. load_then s (pc + place_size zone + 1 + 1 + place_size shape) (Mark old ∷ Place q ∷ []) p (λ d. shape_in d >>= defined) (λ held. supervise q old temporary held >> ready) last.0 (omega (arith, room))
    (λ d. supervised s (pc + place_size zone + 1 + 1 + place_size shape + 1) q old temporary d last.1.0 (omega (arith, room))))))))

of_shape : {B : Type 0} (s : Spot) (x : Datum → Doing Conf) (k : Option Shape → Doing B) {next : B → Doing Conf} → ((held : Option Shape) → Sim s.target s.run (x (datums.Shape held)) (k held) next (failing s)) → (d : Datum)
    → Sim s.target s.run (x d) (shape_in d >>= k) next (failing s)
unfolding after
of_shape s x k more (datums.Shape held) = more held
of_shape s x k more d = sim_misfit

-- a signal is tied to a shape that was defined
tied : (s : Spot) (pc : ℕ) (q : Lvalue) (old : ℕ) (temporary : Bool) (held : Option Shape) (signal : ℕ) (v : Value) → OpAt s pc (ops.ZoneTie temporary signal) → 4 ≤ s.target.code.deepest
    → Sim s.target s.run (standing s pc (Plain v ∷ datums.Shape held ∷ Mark old ∷ Place q ∷ [])) (bit_in v >>= λ b. tie q old temporary held signal b >> ready) (settles s (pc + 1)) (failing s)
unfolding after
tied s pc q old temporary held signal v there room =
    done_by_two s pc (Plain v ∷ datums.Shape held ∷ Mark old ∷ Place q ∷ []) (ops.ZoneTie temporary signal) (bit_in v) (λ b. tie q old temporary held signal b) there room refl
    (no_part_then (bit_in v) (λ b. tie q old temporary held signal b) (bit_alone v) (λ b. tie_alone q old temporary held signal b))

pub tie_goes : (s : Spot) → IsCodeOf s.tree s.target → Claims s.target s.tree s.run → (labels : List ℕ) (pc : ℕ) (zone shape : TypedPlace) (signal : ℕ) (e : TypedExpr) (temporary : Bool) (ps : List Placed)
    → PlaceCalls s.tree zone → PlaceCalls s.tree shape → ExprCalls s.tree e
    → Goes s labels pc (OfPlace zone ∷ Does ops.Dup ∷ Does ops.Load ∷ OfPlace shape ∷ Does ops.Load ∷ OfExpr e ∷ Does (ops.ZoneTie temporary signal) ∷ []) ps
    (place s.tree s.routine zone >>= λ q. number_at q >>= λ old. place s.tree s.routine shape >>= λ p. load p >>= λ d. shape_in d >>= λ held. bit s.tree s.routine e >>= λ b. tie q old temporary held signal b >> ready)
unfolding pieces_code pieces_need pieces_size
tie_goes s code claims labels pc zone shape signal e temporary ps zones shapes values there room =
    let behind = past_place s.target.code s.tree s.routine s.own pc zone (pieces_code s.tree s.routine labels s.own (pc + place_size zone) (Does ops.Dup ∷ Does ops.Load ∷ OfPlace shape ∷ Does ops.Load ∷ OfExpr e ∷ Does (ops.ZoneTie temporary signal) ∷ []) ps) there in
    let second = past_place s.target.code s.tree s.routine s.own (pc + place_size zone + 1 + 1) shape (pieces_code s.tree s.routine labels s.own (pc + place_size zone + 1 + 1 + place_size shape) (Does ops.Load ∷ OfExpr e ∷ Does (ops.ZoneTie temporary signal) ∷ []) ps) behind.1.1 in
    let last = past_expr s.target.code s.tree s.routine s.own (pc + place_size zone + 1 + 1 + place_size shape + 1) e (pieces_code s.tree s.routine labels s.own (pc + place_size zone + 1 + 1 + place_size shape + 1 + expr_size e) (Does (ops.ZoneTie temporary signal) ∷ []) ps) second.1 in
    settled s (standing s pc []) _ (pc + place_size zone + 1 + 1 + place_size shape + 1 + expr_size e + 1) (pc + (place_size zone + (1 + (1 + (place_size shape + (1 + (expr_size e + (1 + 0)))))))) (omega arith)
    (place_then s code claims pc [] zone (pieces_code s.tree s.routine labels s.own (pc + place_size zone) (Does ops.Dup ∷ Does ops.Load ∷ OfPlace shape ∷ Does ops.Load ∷ OfExpr e ∷ Does (ops.ZoneTie temporary signal) ∷ []) ps)
    (λ q. number_at q >>= λ old. place s.tree s.routine shape >>= λ p. load p >>= λ d. shape_in d >>= λ held. bit s.tree s.routine e >>= λ b. tie q old temporary held signal b >> ready) zones there (omega (arith, room))
    (λ q. copy_then s (pc + place_size zone) [] (Place q) _ behind.0 (omega (arith, room))
    (number_then s (pc + place_size zone + 1) (Place q ∷ []) q (λ old. place s.tree s.routine shape >>= λ p. load p >>= λ d. shape_in d >>= λ held. bit s.tree s.routine e >>= λ b. tie q old temporary held signal b >> ready) behind.1.0 (omega (arith, room))
    (λ old. place_then s code claims (pc + place_size zone + 1 + 1) (Mark old ∷ Place q ∷ []) shape (pieces_code s.tree s.routine labels s.own (pc + place_size zone + 1 + 1 + place_size shape) (Does ops.Load ∷ OfExpr e ∷ Does (ops.ZoneTie temporary signal) ∷ []) ps)
    (λ p. load p >>= λ d. shape_in d >>= λ held. bit s.tree s.routine e >>= λ b. tie q old temporary held signal b >> ready) shapes behind.1.1 (omega (arith, room))
    (λ p. sim_op s (pc + place_size zone + 1 + 1 + place_size shape) (Place p ∷ Mark old ∷ Place q ∷ []) ops.Load second.0 (omega (arith, room)) (sim_same (load p) (load_alone p)
    (of_shape s (λ d. standing s (pc + place_size zone + 1 + 1 + place_size shape + 1) (d ∷ Mark old ∷ Place q ∷ [])) (λ held. bit s.tree s.routine e >>= λ b. tie q old temporary held signal b >> ready)
    (λ held. read_then s code claims (pc + place_size zone + 1 + 1 + place_size shape + 1) (datums.Shape held ∷ Mark old ∷ Place q ∷ []) e (pieces_code s.tree s.routine labels s.own (pc + place_size zone + 1 + 1 + place_size shape + 1 + expr_size e) (Does (ops.ZoneTie temporary signal) ∷ []) ps) bit_in
    (λ b. tie q old temporary held signal b >> ready) values second.1 (omega (arith, room))
    (λ v. tied s (pc + place_size zone + 1 + 1 + place_size shape + 1 + expr_size e) q old temporary held signal v last.0 (omega (arith, room))))) (λ n. sim_raises n)))))))

-- counters

-- a num in range, or a fault
ranged : (n : Option ℤ) → applied (num_or_fault n) ≡ in_range n
ranged (Some n) = refl
ranged None = refl

-- what was counted is stored
stored : (s : Spot) (pc : ℕ) (q : Lvalue) (stack : List Datum) (op : Op) (n : Option ℤ) → OpAt s pc op → length stack ≤ s.target.code.deepest → act (here s pc stack) op ≡ pushes (here s pc stack) (Place q ∷ []) Plain (applied (num_or_fault n))
    → OpAt s (pc + 1) ops.Store → 2 ≤ s.target.code.deepest
    → Sim s.target s.run (standing s pc stack) (in_range n >>= λ w. write_value q w >> ready) (settles s (pc + 1 + 1)) (failing s)
stored s pc q stack op n there room same store_there two =
    sim_op s pc stack op there room
    (sim_from same (sim_from (ap (λ (m : Doing Value). pushes (here s pc stack) (Place q ∷ []) Plain m) (ranged n)) (sim_same (in_range n) (range_alone n)
    (λ w. done_by s (pc + 1) (Plain w ∷ Place q ∷ []) ops.Store (write_value q w) store_there two refl (store_alone q (Plain w))) (λ e. sim_raises e))))

pub count_goes : (s : Spot) → IsCodeOf s.tree s.target → Claims s.target s.tree s.run → (labels : List ℕ) (pc : ℕ) (p : TypedPlace) (op : Op) (counted : ℤ → Option ℤ) (ps : List Placed) → PlaceCalls s.tree p
    → ((at : ℕ) (q : Lvalue) (n : ℤ) → act (here s at (Plain (whole 1) ∷ Plain (values.Num n) ∷ Place q ∷ [])) op ≡ pushes (here s at (Plain (whole 1) ∷ Plain (values.Num n) ∷ Place q ∷ [])) (Place q ∷ []) Plain (applied (num_or_fault (counted n))))
    → Goes s labels pc (OfPlace p ∷ Does ops.Dup ∷ Does ops.Load ∷ Does (push 1) ∷ Does op ∷ Does ops.Store ∷ []) ps
    (place s.tree s.routine p >>= λ q. read_value q >>= λ v. num_in v >>= λ n. in_range (counted n) >>= λ w. write_value q w >> ready)
unfolding pieces_code pieces_need pieces_size
count_goes s code claims labels pc p op counted ps calls same there room =
    let behind = past_place s.target.code s.tree s.routine s.own pc p (pieces_code s.tree s.routine labels s.own (pc + place_size p) (Does ops.Dup ∷ Does ops.Load ∷ Does (push 1) ∷ Does op ∷ Does ops.Store ∷ []) ps) there in
    settled s (standing s pc []) _ (pc + place_size p + 1 + 1 + 1 + 1 + 1) (pc + (place_size p + (1 + (1 + (1 + (1 + (1 + 0))))))) (omega arith)
    (place_then s code claims pc [] p (pieces_code s.tree s.routine labels s.own (pc + place_size p) (Does ops.Dup ∷ Does ops.Load ∷ Does (push 1) ∷ Does op ∷ Does ops.Store ∷ []) ps)
    (λ q. read_value q >>= λ v. num_in v >>= λ n. in_range (counted n) >>= λ w. write_value q w >> ready) calls there (omega (arith, room))
    (λ q. copy_then s (pc + place_size p) [] (Place q) _ behind.0 (omega (arith, room))
    (sim_then (λ v. standing s (pc + place_size p + 1 + 1) (Plain v ∷ Place q ∷ [])) (load_sim s (pc + place_size p + 1) (Place q ∷ []) q behind.1.0 (omega (arith, room)))
    (of_num s (λ v. standing s (pc + place_size p + 1 + 1) (Plain v ∷ Place q ∷ [])) (λ n. in_range (counted n) >>= λ w. write_value q w >> ready)
    (λ n. sim_op s (pc + place_size p + 1 + 1) (Plain (values.Num n) ∷ Place q ∷ []) (push 1) behind.1.1.0 (omega (arith, room))
    (stored s (pc + place_size p + 1 + 1 + 1) q (Plain (whole 1) ∷ Plain (values.Num n) ∷ Place q ∷ []) op (counted n) behind.1.1.1.0 (omega (arith, room)) (same (pc + place_size p + 1 + 1 + 1) q n) behind.1.1.1.1.0 (omega (arith, room))))))))

pub clear_goes : (s : Spot) → IsCodeOf s.tree s.target → Claims s.target s.tree s.run → (labels : List ℕ) (pc : ℕ) (p : TypedPlace) (ps : List Placed) → PlaceCalls s.tree p
    → Goes s labels pc (OfPlace p ∷ Does (push 0) ∷ Does ops.Store ∷ []) ps (place s.tree s.routine p >>= λ q. write_value q (whole 0) >> ready)
unfolding pieces_code pieces_need pieces_size
clear_goes s code claims labels pc p ps calls there room =
    let behind = past_place s.target.code s.tree s.routine s.own pc p (pieces_code s.tree s.routine labels s.own (pc + place_size p) (Does (push 0) ∷ Does ops.Store ∷ []) ps) there in
    settled s (standing s pc []) _ (pc + place_size p + 1 + 1) (pc + (place_size p + (1 + (1 + 0)))) (omega arith)
    (place_then s code claims pc [] p (pieces_code s.tree s.routine labels s.own (pc + place_size p) (Does (push 0) ∷ Does ops.Store ∷ []) ps) (λ q. write_value q (whole 0) >> ready) calls there (omega (arith, room))
    (λ q. sim_op s (pc + place_size p) (Place q ∷ []) (push 0) behind.0 (omega (arith, room))
    (done_by s (pc + place_size p + 1) (Plain (whole 0) ∷ Place q ∷ []) ops.Store (write_value q (whole 0)) behind.1.0 (omega (arith, room)) refl (store_alone q (Plain (whole 0))))))

-- nums are added in either order
either_order : (m n : ℤ) → sum_of m n ≡ sum_of n m
either_order m n = let same : m +ℤ n ≡ n +ℤ m = omega (arith, ints) in ap num_of same

pub add_goes : (s : Spot) → IsCodeOf s.tree s.target → Claims s.target s.tree s.run → (labels : List ℕ) (pc : ℕ) (p : TypedPlace) (e : TypedExpr) (ps : List Placed) → PlaceCalls s.tree p → ExprCalls s.tree e
    → Goes s labels pc (OfPlace p ∷ OfExpr e ∷ Does ops.Over ∷ Does ops.Load ∷ Does (ops.Binary operators.Add) ∷ Does ops.Store ∷ []) ps
    (place s.tree s.routine p >>= λ q. num s.tree s.routine e >>= λ m. read_value q >>= λ v. num_in v >>= λ n. in_range (sum_of n m) >>= λ w. write_value q w >> ready)
unfolding pieces_code pieces_need pieces_size
add_goes s code claims labels pc p e ps calls others there room =
    let behind = past_place s.target.code s.tree s.routine s.own pc p (pieces_code s.tree s.routine labels s.own (pc + place_size p) (OfExpr e ∷ Does ops.Over ∷ Does ops.Load ∷ Does (ops.Binary operators.Add) ∷ Does ops.Store ∷ []) ps) there in
    let last = past_expr s.target.code s.tree s.routine s.own (pc + place_size p) e (pieces_code s.tree s.routine labels s.own (pc + place_size p + expr_size e) (Does ops.Over ∷ Does ops.Load ∷ Does (ops.Binary operators.Add) ∷ Does ops.Store ∷ []) ps) behind in
    settled s (standing s pc []) _ (pc + place_size p + expr_size e + 1 + 1 + 1 + 1) (pc + (place_size p + (expr_size e + (1 + (1 + (1 + (1 + 0))))))) (omega arith)
    (place_then s code claims pc [] p (pieces_code s.tree s.routine labels s.own (pc + place_size p) (OfExpr e ∷ Does ops.Over ∷ Does ops.Load ∷ Does (ops.Binary operators.Add) ∷ Does ops.Store ∷ []) ps)
    (λ q. num s.tree s.routine e >>= λ m. read_value q >>= λ v. num_in v >>= λ n. in_range (sum_of n m) >>= λ w. write_value q w >> ready) calls there (omega (arith, room))
    (λ q. read_then s code claims (pc + place_size p) (Place q ∷ []) e (pieces_code s.tree s.routine labels s.own (pc + place_size p + expr_size e) (Does ops.Over ∷ Does ops.Load ∷ Does (ops.Binary operators.Add) ∷ Does ops.Store ∷ []) ps) num_in
    (λ m. read_value q >>= λ v. num_in v >>= λ n. in_range (sum_of n m) >>= λ w. write_value q w >> ready) others behind (omega (arith, room))
    (of_num s (λ v. standing s (pc + place_size p + expr_size e) (Plain v ∷ Place q ∷ [])) (λ m. read_value q >>= λ v. num_in v >>= λ n. in_range (sum_of n m) >>= λ w. write_value q w >> ready)
    (λ m. sim_op s (pc + place_size p + expr_size e) (Plain (values.Num m) ∷ Place q ∷ []) ops.Over last.0 (omega (arith, room))
    (sim_then (λ v. standing s (pc + place_size p + expr_size e + 1 + 1) (Plain v ∷ Plain (values.Num m) ∷ Place q ∷ [])) (load_sim s (pc + place_size p + expr_size e + 1) (Plain (values.Num m) ∷ Place q ∷ []) q last.1.0 (omega (arith, room)))
    (of_num s (λ v. standing s (pc + place_size p + expr_size e + 1 + 1) (Plain v ∷ Plain (values.Num m) ∷ Place q ∷ [])) (λ n. in_range (sum_of n m) >>= λ w. write_value q w >> ready)
    (λ n. stored s (pc + place_size p + expr_size e + 1 + 1) q (Plain (values.Num n) ∷ Plain (values.Num m) ∷ Place q ∷ []) (ops.Binary operators.Add) (sum_of n m) last.1.1.0 (omega (arith, room))
    (ap (λ (o : Option ℤ). pushes (here s (pc + place_size p + expr_size e + 1 + 1) (Plain (values.Num n) ∷ Plain (values.Num m) ∷ Place q ∷ [])) (Place q ∷ []) Plain (applied (num_or_fault o))) (either_order m n))
    last.1.1.1.0 (omega (arith, room)))))))))
