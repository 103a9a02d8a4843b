-- The steps of instructions: an operand is evaluated and read, a place and its number, and the last operation.
use Rattle.std.proofs.Common.{◌≡◌, refl, sym, subst, ℕ, ◌+◌, ◌≤◌, Bool, true, ℤ, List, [], ◌∷◌, length, if◌then◌else◌}
use Rattle.rapid_num.specs.declared.joints.Joints.{Joints}
use Rattle.rapid_model.specs.declared.value.Value.{Value}
use Rattle.rapid_model.specs.declared.value.Value.TheVariants as values
use Rattle.typed_trees.specs.Plain.{TypedExpr, TypedPlace}
use Rattle.typed_trees.specs.declared.datum.Datum.{Datum}
use Rattle.typed_trees.specs.declared.datum.Datum.TheVariants.{Plain, Mark, Place}
use Rattle.typed_trees.specs.declared.datum.Lvalue.{Lvalue}
use Rattle.rapid_meaning.specs.Doings.{Doing, Raises, Act, ◌>>=◌, ◌>>◌, after}
use Rattle.rapid_meaning.specs.Expressions.{expr, place}
use Rattle.rapid_meaning.specs.Instructions.{ready}
use Rattle.rapid_meaning.specs.Interrupts.{number_at}
use Rattle.rapid_meaning.specs.Places.{load}
use Rattle.rapid_meaning.specs.Values.{mark_in, num_in, target_in, text_in, truth_in}
use Rattle.rapid_meaning.proofs.Follows.{after_after}
use Rattle.stack_code.specs.Confs.{Conf}
use Rattle.stack_code.specs.ExprLayouts.{expr_code, place_code}
use Rattle.stack_code.specs.Needs.{expr_need, place_need}
use Rattle.stack_code.specs.Placed.{Placed}
use Rattle.stack_code.specs.Sizes.{expr_size, place_size}
use Rattle.stack_code.specs.Steps.{act, does, holds}
use Rattle.stack_code.specs.declared.op.Op.{Op}
use Rattle.stack_code.specs.declared.op.Op.TheVariants as ops
use Rattle.code_laws.specs.Calls.{ExprCalls, PlaceCalls}
use Rattle.code_laws.proofs.Alone.{load_alone}
use Rattle.code_laws.proofs.Claims.{Claims}
use Rattle.code_laws.proofs.CodeOf.{IsCodeOf}
use Rattle.code_laws.proofs.Expressions.{expr_sim, place_sim}
use Rattle.code_laws.proofs.Ops.{OpAt}
use Rattle.code_laws.proofs.Same.{NoPart, sim_same}
use Rattle.code_laws.proofs.Sim.{Sim, sim_assoc, sim_gives, sim_misfit, sim_raises, sim_then, sim_to}
use Rattle.code_laws.proofs.Spots.{Holds, Spot, failing, here, sim_op, standing}

-- done, at a place; or a wait that is not ready, which goes by Hold and Rise back to the statement's Look
abbrev pub settles : Spot → ℕ → Bool → Doing Conf
settles s end b = if b then standing s end [] else holds (here s end []) s.own.retry []

-- an expression, and then
pub expr_then : {B : Type 0} (s : Spot) → IsCodeOf s.tree s.target → Claims s.target s.tree s.run → (pc : ℕ) (stack : List Datum) (e : TypedExpr) (ps : List Placed) (k : Value → Doing B)
    {next : B → Doing Conf} → ExprCalls s.tree e → Holds s pc (expr_code s.tree s.routine s.own pc e ps) → length stack + expr_need e ≤ s.target.code.deepest
    → ((v : Value) → Sim s.target s.run (standing s (pc + expr_size e) (Plain v ∷ stack)) (k v) next (failing s))
    → Sim s.target s.run (standing s pc stack) (expr s.tree s.routine e >>= k) next (failing s)
expr_then s code claims pc stack e ps k calls there room more =
    sim_then (λ v. standing s (pc + expr_size e) (Plain v ∷ stack)) (expr_sim s code claims pc (pc + expr_size e) stack e ps calls there room refl) more

-- the same, read as a num, a bool and so on
pub read_then : {A B : Type 0} (s : Spot) → IsCodeOf s.tree s.target → Claims s.target s.tree s.run → (pc : ℕ) (stack : List Datum) (e : TypedExpr) (ps : List Placed) (read : Value → Doing A) (k : A → Doing B)
    {next : B → Doing Conf} → ExprCalls s.tree e → Holds s pc (expr_code s.tree s.routine s.own pc e ps) → length stack + expr_need e ≤ s.target.code.deepest
    → ((v : Value) → Sim s.target s.run (standing s (pc + expr_size e) (Plain v ∷ stack)) (read v >>= k) next (failing s))
    → Sim s.target s.run (standing s pc stack) ((expr s.tree s.routine e >>= read) >>= k) next (failing s)
read_then s code claims pc stack e ps read k calls there room more =
    sim_assoc (expr s.tree s.routine e) read k Raises (expr_then s code claims pc stack e ps (λ v. read v >>= k) calls there room more)

-- a place, and then
pub place_then : {B : Type 0} (s : Spot) → IsCodeOf s.tree s.target → Claims s.target s.tree s.run → (pc : ℕ) (stack : List Datum) (p : TypedPlace) (ps : List Placed) (k : Lvalue → Doing B)
    {next : B → Doing Conf} → PlaceCalls s.tree p → Holds s pc (place_code s.tree s.routine s.own pc p ps) → length stack + place_need p ≤ s.target.code.deepest
    → ((q : Lvalue) → Sim s.target s.run (standing s (pc + place_size p) (Place q ∷ stack)) (k q) next (failing s))
    → Sim s.target s.run (standing s pc stack) (place s.tree s.routine p >>= k) next (failing s)
place_then s code claims pc stack p ps k calls there room more =
    sim_then (λ q. standing s (pc + place_size p) (Place q ∷ stack)) (place_sim s code claims pc (pc + place_size p) stack p ps calls there room refl) more

-- the form of a value

pub of_num : {B : Type 0} (s : Spot) (x : Value → Doing Conf) (k : ℤ → Doing B) {next : B → Doing Conf} → ((n : ℤ) → Sim s.target s.run (x (values.Num n)) (k n) next (failing s)) → (v : Value)
    → Sim s.target s.run (x v) (num_in v >>= k) next (failing s)
unfolding after
of_num s x k more (values.Num n) = more n
of_num s x k more v = sim_misfit

pub of_truth : {B : Type 0} (s : Spot) (x : Value → Doing Conf) (k : Bool → Doing B) {next : B → Doing Conf} → ((b : Bool) → Sim s.target s.run (x (values.Bool b)) (k b) next (failing s)) → (v : Value)
    → Sim s.target s.run (x v) (truth_in v >>= k) next (failing s)
unfolding after
of_truth s x k more (values.Bool b) = more b
of_truth s x k more v = sim_misfit

pub of_text : {B : Type 0} (s : Spot) (x : Value → Doing Conf) (k : List ℕ → Doing B) {next : B → Doing Conf} → ((t : List ℕ) → Sim s.target s.run (x (values.Text t)) (k t) next (failing s)) → (v : Value)
    → Sim s.target s.run (x v) (text_in v >>= k) next (failing s)
unfolding after
of_text s x k more (values.Text t) = more t
of_text s x k more v = sim_misfit

pub of_target : {B : Type 0} (s : Spot) (x : Value → Doing Conf) (k : Joints → Doing B) {next : B → Doing Conf} → ((j : Joints) → Sim s.target s.run (x (values.Target j)) (k j) next (failing s)) → (v : Value)
    → Sim s.target s.run (x v) (target_in v >>= k) next (failing s)
unfolding after
of_target s x k more (values.Target j) = more j
of_target s x k more v = sim_misfit

pub of_mark : {B : Type 0} (s : Spot) (x : Datum → Doing Conf) (k : ℕ → Doing B) {next : B → Doing Conf} → ((n : ℕ) → Sim s.target s.run (x (Mark n)) (k n) next (failing s)) → (d : Datum)
    → Sim s.target s.run (x d) (mark_in d >>= k) next (failing s)
unfolding after
of_mark s x k more (Mark n) = more n
of_mark s x k more d = sim_misfit

-- what a place holds, and then
pub load_then : {A B : Type 0} (s : Spot) (pc : ℕ) (stack : List Datum) (q : Lvalue) (read : Datum → Doing A) (k : A → Doing B) {next : B → Doing Conf} → OpAt s pc ops.Load → length (Place q ∷ stack) ≤ s.target.code.deepest
    → ((d : Datum) → Sim s.target s.run (standing s (pc + 1) (d ∷ stack)) (read d >>= k) next (failing s)) → Sim s.target s.run (standing s pc (Place q ∷ stack)) ((load q >>= read) >>= k) next (failing s)
load_then s pc stack q read k there room more =
    sim_op s pc (Place q ∷ stack) ops.Load there room (sim_assoc (load q) read k Raises (sim_same (load q) (load_alone q) more (λ n. sim_raises n)))

-- the number that a variable holds, and then
pub number_then : {B : Type 0} (s : Spot) (pc : ℕ) (stack : List Datum) (q : Lvalue) (k : ℕ → Doing B) {next : B → Doing Conf} → OpAt s pc ops.Load → length (Place q ∷ stack) ≤ s.target.code.deepest
    → ((n : ℕ) → Sim s.target s.run (standing s (pc + 1) (Mark n ∷ stack)) (k n) next (failing s)) → Sim s.target s.run (standing s pc (Place q ∷ stack)) (number_at q >>= k) next (failing s)
number_then s pc stack q k there room more = load_then s pc stack q mark_in k there room (of_mark s (λ d. standing s (pc + 1) (d ∷ stack)) k more)

-- a copy of the place is below
pub copy_then : {B : Type 0} (s : Spot) (pc : ℕ) (stack : List Datum) (x : Datum) (m : Doing B) {next : B → Doing Conf} → OpAt s pc ops.Dup → length (x ∷ stack) ≤ s.target.code.deepest
    → Sim s.target s.run (standing s (pc + 1) (x ∷ x ∷ stack)) m next (failing s) → Sim s.target s.run (standing s pc (x ∷ stack)) m next (failing s)
copy_then s pc stack x m there room more = sim_op s pc (x ∷ stack) ops.Dup there room more

-- the last operation does the rest, and the instruction is done
pub done_by : (s : Spot) (pc : ℕ) (stack : List Datum) (op : Op) (m : Act) → OpAt s pc op → length stack ≤ s.target.code.deepest → act (here s pc stack) op ≡ does (here s pc stack) [] m → NoPart m
    → Sim s.target s.run (standing s pc stack) (m >> ready) (settles s (pc + 1)) (failing s)
done_by s pc stack op m there room same alone =
    sim_op s pc stack op there room (sim_from_act same (sim_same m alone (λ _. sim_gives true) (λ n. sim_raises n)))
  where
    sim_from_act : {x y : Doing Conf} → x ≡ y → Sim s.target s.run y (m >> ready) (settles s (pc + 1)) (failing s) → Sim s.target s.run x (m >> ready) (settles s (pc + 1)) (failing s)
    sim_from_act e sim = subst (λ (z : Doing Conf). Sim s.target s.run z (m >> ready) (settles s (pc + 1)) (failing s)) (sym e) sim

-- the same for two in a row, of which the second uses the result of the first
pub done_by_two : {A : Type 0} (s : Spot) (pc : ℕ) (stack : List Datum) (op : Op) (m : Doing A) (f : A → Act) → OpAt s pc op → length stack ≤ s.target.code.deepest
    → act (here s pc stack) op ≡ does (here s pc stack) [] (m >>= f) → NoPart (m >>= f) → Sim s.target s.run (standing s pc stack) (m >>= λ v. f v >> ready) (settles s (pc + 1)) (failing s)
unfolding after
done_by_two s pc stack op m f there room same alone = sim_to (sym (after_after m f Raises (λ _. ready) Raises)) (done_by s pc stack op (m >>= f) there room same alone)
