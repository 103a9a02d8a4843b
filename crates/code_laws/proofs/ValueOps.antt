-- Operations on values: operators, functions and signals.
use Rattle.std.proofs.Common.{◌≡◌, refl, ℕ, ◌+◌, ◌≤◌, Bool, true, false, List, ◌∷◌, length, Option, None, Some, arith}
use Rattle.std.specs.Option.{option_map, unwrap_or}
use Rattle.rapid_model.specs.declared.function.Function.{Function}
use Rattle.rapid_model.specs.declared.function.Function.TheVariants as functions
use Rattle.rapid_model.specs.declared.request.Request.TheVariants.{Position}
use Rattle.rapid_model.specs.declared.value.Value.{Value}
use Rattle.rapid_model.specs.declared.value.Value.TheVariants as values
use Rattle.rapid_model.specs.declared.operator.Operator.{Operator}
use Rattle.rapid_model.specs.declared.operator.Operator.TheVariants as operators
use Rattle.rapid_values.specs.Operators.{apply}
use Rattle.typed_trees.specs.declared.datum.Datum.{Datum}
use Rattle.typed_trees.specs.declared.datum.Datum.TheVariants.{Plain, Place}
use Rattle.typed_trees.specs.declared.datum.Lvalue.{Lvalue}
use Rattle.rapid_meaning.specs.Doings.{Doing, Gives, Asks, Reads, ◌>>=◌, after, or_misfit}
use Rattle.rapid_meaning.specs.Functions.{read_signal, shown, when_at}
use Rattle.rapid_meaning.specs.Places.{test_and_set}
use Rattle.rapid_meaning.specs.Values.{applied, between, of_bit, opposite, whole, with_sign}
use Rattle.stack_code.specs.Functions.{of_value, of_values}
use Rattle.stack_code.specs.ExprLayouts.{sign_code, signal_code}
use Rattle.stack_code.specs.Pieces.{push}
use Rattle.stack_code.specs.Placed.{Placed}
use Rattle.stack_code.specs.Sizes.{sign_size}
use Rattle.stack_code.specs.Steps.{act}
use Rattle.stack_code.specs.declared.op.Op.TheVariants as ops
use Rattle.stack_code.specs.declared.unary_op.UnaryOp.TheVariants as unary
use Rattle.code_laws.proofs.Alone.{applied_alone, at_alone, of_value_alone, of_values_alone, opposite_alone, sign_alone, signal_alone, test_alone}
use Rattle.code_laws.proofs.Ops.{OpAt, ends_at}
use Rattle.code_laws.proofs.Same.{same, sim_same}
use Rattle.code_laws.proofs.Sim.{Sim, sim_gives, sim_misfit, sim_raises, sim_reads, sim_then}
use Rattle.code_laws.proofs.Spots.{Holds, Pushes, Spot, failing, here, sim_op, standing}

pub push_sim : (s : Spot) (pc : ℕ) (stack : List Datum) (v : Value) → OpAt s pc (ops.Push (Plain v)) → length stack ≤ s.target.code.deepest
    → Pushes s pc (pc + 1) stack Plain (Gives v)
push_sim s pc stack v there room = sim_op s pc stack (ops.Push (Plain v)) there room (sim_gives v)

pub errno_sim : (s : Spot) (pc : ℕ) (stack : List Datum) → OpAt s pc ops.Errno → length stack ≤ s.target.code.deepest
    → Pushes s pc (pc + 1) stack Plain (Reads (λ d. Gives (whole d.errno)))
errno_sim s pc stack there room = sim_op s pc stack ops.Errno there room (sim_reads (λ d. sim_gives (whole d.errno)))

pub signal_value_sim : (s : Spot) (pc : ℕ) (stack : List Datum) (signal : ℕ) → OpAt s pc (ops.GetSignal signal) → length stack ≤ s.target.code.deepest
    → Pushes s pc (pc + 1) stack Plain (read_signal signal >>= λ bit. Gives (of_bit bit))
signal_value_sim s pc stack signal there room =
    sim_op s pc stack (ops.GetSignal signal) there room (sim_same (read_signal signal) (signal_alone signal) (λ bit. sim_gives (of_bit bit)) (λ n. sim_raises n))

-- signs

pub opposite_sim : (s : Spot) (pc : ℕ) (stack : List Datum) (v : Value) → OpAt s pc (ops.Unary unary.Not) → length (Plain v ∷ stack) ≤ s.target.code.deepest
    → Sim s.target s.run (standing s pc (Plain v ∷ stack)) (opposite v) (λ w. standing s (pc + 1) (Plain w ∷ stack)) (failing s)
opposite_sim s pc stack v there room = sim_op s pc (Plain v ∷ stack) (ops.Unary unary.Not) there room (same (opposite v) (opposite_alone v))

unsigned : (s : Spot) (pc : ℕ) (stack : List Datum) (v : Value)
    → Sim s.target s.run (standing s pc (Plain v ∷ stack)) (with_sign false v) (λ w. standing s pc (Plain w ∷ stack)) (failing s)
unsigned s pc stack (values.Num n) = sim_gives (values.Num n)
unsigned s pc stack v = sim_misfit

pub sign_sim : (s : Spot) (pc : ℕ) (stack : List Datum) (minus : Bool) (ps : List Placed) (v : Value) → Holds s pc (sign_code s.own minus ps)
    → length (Plain v ∷ stack) ≤ s.target.code.deepest
    → Sim s.target s.run (standing s pc (Plain v ∷ stack)) (with_sign minus v) (λ w. standing s (pc + sign_size minus) (Plain w ∷ stack)) (failing s)
sign_sim s pc stack true ps v there room = sim_op s pc (Plain v ∷ stack) (ops.Unary unary.Minus) there.0 room (same (with_sign true v) (sign_alone true v))
sign_sim s pc stack false ps v there room =
    ends_at s (standing s pc (Plain v ∷ stack)) (with_sign false v) (λ w. Plain w ∷ stack) pc (pc + 0) (omega arith) (unsigned s pc stack v)

-- operators

-- a right operand, above the left one, and then the operator
pub binary_sim : (s : Spot) (pc x : ℕ) (stack : List Datum) (o : Operator) (v : Value) (right : Doing Value) → OpAt s x (ops.Binary o) → length stack + 2 ≤ s.target.code.deepest
    → Pushes s pc x (Plain v ∷ stack) Plain right
    → Sim s.target s.run (standing s pc (Plain v ∷ stack)) (right >>= λ w. applied (apply o v w)) (λ w. standing s (x + 1) (Plain w ∷ stack)) (failing s)
binary_sim s pc x stack o v right there room sim =
    sim_then (λ w. standing s x (Plain w ∷ Plain v ∷ stack)) sim
    (λ w. sim_op s x (Plain w ∷ Plain v ∷ stack) (ops.Binary o) there (omega arith) (same (applied (apply o v w)) (applied_alone (apply o v w))))

anded : (s : Spot) (x : ℕ) (stack : List Datum) (w : Value)
    → Sim s.target s.run (standing s x (Plain w ∷ stack)) (applied (apply operators.And (values.Bool true) w)) (λ u. standing s x (Plain u ∷ stack)) (failing s)
anded s x stack (values.Bool b) = sim_gives (values.Bool b)
anded s x stack w = sim_misfit

ored : (s : Spot) (x : ℕ) (stack : List Datum) (w : Value)
    → Sim s.target s.run (standing s x (Plain w ∷ stack)) (applied (apply operators.Or (values.Bool false) w)) (λ u. standing s x (Plain u ∷ stack)) (failing s)
ored s x stack (values.Bool b) = sim_gives (values.Bool b)
ored s x stack w = sim_misfit

-- AND: the left operand decides if it is FALSE, else it is dropped for the right one
pub and_sim : (s : Spot) (pc x : ℕ) (stack : List Datum) (v : Value) (right : Doing Value) → OpAt s pc ops.Dup → OpAt s (pc + 1) (ops.JumpFalse x) → OpAt s (pc + 1 + 1) ops.Drop
    → length stack + 2 ≤ s.target.code.deepest → Pushes s (pc + 1 + 1 + 1) x stack Plain right
    → Sim s.target s.run (standing s pc (Plain v ∷ stack)) (between operators.And v right) (λ w. standing s x (Plain w ∷ stack)) (failing s)
unfolding after
and_sim s pc x stack (values.Bool false) right dup jump drop room sim =
    sim_op s pc (Plain (values.Bool false) ∷ stack) ops.Dup dup (omega arith)
    (sim_op s (pc + 1) (Plain (values.Bool false) ∷ Plain (values.Bool false) ∷ stack) (ops.JumpFalse x) jump (omega arith) (sim_gives (values.Bool false)))
and_sim s pc x stack (values.Bool true) right dup jump drop room sim =
    sim_op s pc (Plain (values.Bool true) ∷ stack) ops.Dup dup (omega arith)
    (sim_op s (pc + 1) (Plain (values.Bool true) ∷ Plain (values.Bool true) ∷ stack) (ops.JumpFalse x) jump (omega arith)
    (sim_op s (pc + 1 + 1) (Plain (values.Bool true) ∷ stack) ops.Drop drop (omega arith)
    (sim_then (λ w. standing s x (Plain w ∷ stack)) sim (λ w. anded s x stack w))))
and_sim s pc x stack v right dup jump drop room sim = sim_misfit

-- OR: the other way round
pub or_sim : (s : Spot) (pc x : ℕ) (stack : List Datum) (v : Value) (right : Doing Value) → OpAt s pc ops.Dup → OpAt s (pc + 1) (ops.JumpTrue x) → OpAt s (pc + 1 + 1) ops.Drop
    → length stack + 2 ≤ s.target.code.deepest → Pushes s (pc + 1 + 1 + 1) x stack Plain right
    → Sim s.target s.run (standing s pc (Plain v ∷ stack)) (between operators.Or v right) (λ w. standing s x (Plain w ∷ stack)) (failing s)
unfolding after
or_sim s pc x stack (values.Bool true) right dup jump drop room sim =
    sim_op s pc (Plain (values.Bool true) ∷ stack) ops.Dup dup (omega arith)
    (sim_op s (pc + 1) (Plain (values.Bool true) ∷ Plain (values.Bool true) ∷ stack) (ops.JumpTrue x) jump (omega arith) (sim_gives (values.Bool true)))
or_sim s pc x stack (values.Bool false) right dup jump drop room sim =
    sim_op s pc (Plain (values.Bool false) ∷ stack) ops.Dup dup (omega arith)
    (sim_op s (pc + 1) (Plain (values.Bool false) ∷ Plain (values.Bool false) ∷ stack) (ops.JumpTrue x) jump (omega arith)
    (sim_op s (pc + 1 + 1) (Plain (values.Bool false) ∷ stack) ops.Drop drop (omega arith)
    (sim_then (λ w. standing s x (Plain w ∷ stack)) sim (λ w. ored s x stack w))))
or_sim s pc x stack v right dup jump drop room sim = sim_misfit

-- functions

pub here_sim : (s : Spot) (pc : ℕ) (stack : List Datum) → OpAt s pc ops.Here → length stack ≤ s.target.code.deepest → Pushes s pc (pc + 1) stack Plain (Asks Position when_at)
here_sim s pc stack there room = sim_op s pc stack ops.Here there room (same (Asks Position when_at) at_alone)

-- a function of a value
pub of_value_sim : (s : Spot) (pc x : ℕ) (stack : List Datum) (function : Function) (own : Doing Value) → (function ≡ functions.NumToStr → ⊥) → OpAt s x (ops.Func function)
    → length stack + 1 ≤ s.target.code.deepest → Pushes s pc x stack Plain own → Pushes s pc (x + 1) stack Plain (own >>= of_value function)
of_value_sim s pc x stack functions.NumToStr own other there room sim = absurd (other refl)
of_value_sim s pc x stack function own other there room sim =
    sim_then (λ v. standing s x (Plain v ∷ stack)) sim
    (λ v. sim_op s x (Plain v ∷ stack) (ops.Func function) there (omega (arith, room)) (same (of_value function v) (of_value_alone function v)))

pub shown_sim : (s : Spot) (pc : ℕ) (stack : List Datum) (v w : Value) → OpAt s pc (ops.Func functions.NumToStr) → length (Plain w ∷ Plain v ∷ stack) ≤ s.target.code.deepest
    → Sim s.target s.run (standing s pc (Plain w ∷ Plain v ∷ stack)) (shown v w) (λ u. standing s (pc + 1) (Plain u ∷ stack)) (failing s)
shown_sim s pc stack v w there room =
    sim_op s pc (Plain w ∷ Plain v ∷ stack) (ops.Func functions.NumToStr) there room (same (of_values functions.NumToStr v w) (of_values_alone functions.NumToStr v w))

pub test_sim : (s : Spot) (pc : ℕ) (stack : List Datum) (p : Lvalue) → OpAt s pc ops.TestSet → length (Place p ∷ stack) ≤ s.target.code.deepest
    → Sim s.target s.run (standing s pc (Place p ∷ stack)) (test_and_set p >>= λ met. Gives (values.Bool met)) (λ w. standing s (pc + 1) (Plain w ∷ stack)) (failing s)
test_sim s pc stack p there room =
    sim_op s pc (Place p ∷ stack) ops.TestSet there room (sim_same (test_and_set p) (test_alone p) (λ met. sim_gives (values.Bool met)) (λ n. sim_raises n))

pub dim_sim : (s : Spot) (pc : ℕ) (stack : List Datum) (len : Option ℕ) → OpAt s pc (push (unwrap_or len 0)) → length stack ≤ s.target.code.deepest
    → Pushes s pc (pc + 1) stack Plain (or_misfit (option_map whole len))
dim_sim s pc stack (Some len) there room = push_sim s pc stack (whole len) there room
dim_sim s pc stack None there room = sim_misfit

-- a signal is compared with 1
compared : (s : Spot) (pc : ℕ) (stack : List Datum) (bit : Bool)
    → Sim s.target s.run (act (here s pc (Plain (whole 1) ∷ Plain (of_bit bit) ∷ stack)) (ops.Binary operators.Equal)) (Gives (values.Bool bit))
    (λ v. standing s (pc + 1) (Plain v ∷ stack)) (failing s)
unfolding after
compared s pc stack true = sim_gives (values.Bool true)
compared s pc stack false = sim_gives (values.Bool false)

pub input_sim : (s : Spot) (pc : ℕ) (stack : List Datum) (signal : ℕ) (ps : List Placed) → Holds s pc (signal_code s.own functions.TestDI signal ps)
    → length stack + 2 ≤ s.target.code.deepest
    → Sim s.target s.run (standing s pc stack) (read_signal signal >>= λ bit. Gives (values.Bool bit)) (λ v. standing s (pc + 3) (Plain v ∷ stack)) (failing s)
input_sim s pc stack signal ps there room =
    ends_at s (standing s pc stack) (read_signal signal >>= λ bit. Gives (values.Bool bit)) (λ v. Plain v ∷ stack) (pc + 1 + 1 + 1) (pc + 3) (omega arith)
    (sim_op s pc stack (ops.GetSignal signal) there.0 (omega (arith, room)) (sim_same (read_signal signal) (signal_alone signal)
    (λ bit. sim_op s (pc + 1) (Plain (of_bit bit) ∷ stack) (push 1) there.1.0 (omega (arith, room))
    (sim_op s (pc + 1 + 1) (Plain (whole 1) ∷ Plain (of_bit bit) ∷ stack) (ops.Binary operators.Equal) there.1.1.0 (omega (arith, room)) (compared s (pc + 1 + 1) stack bit)))
    (λ n. sim_raises n)))
