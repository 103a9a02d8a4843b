-- A place in the code of a routine: the operations from there, and what one of them does.
use Rattle.std.proofs.Common.{◌≡◌, sym, ap, ◌∙◌, subst, ℕ, suc, ◌+◌, ◌≤◌, List, [], ◌∷◌, length, Option, Some, slice_get, arith}
use Rattle.std.proofs.lemmas.Bool.{le-leb}
use Rattle.typed_trees.specs.Plain.{TypedRoutine, TypedTree}
use Rattle.typed_trees.specs.declared.datum.Datum.{Datum}
use Rattle.rapid_meaning.specs.Answering.{Run}
use Rattle.rapid_meaning.specs.Doings.{Doing, Gives}
use Rattle.rapid_meaning.specs.Flows.{Way}
use Rattle.stack_code.specs.CodeData.{CodeData}
use Rattle.stack_code.specs.Confs.{Conf, Running, Saved, conf}
use Rattle.stack_code.specs.Placed.{Own, Placed, placed_at, StandsAt}
use Rattle.stack_code.specs.Raising.{raised}
use Rattle.stack_code.specs.Steps.{Here, act, act_at}
use Rattle.stack_code.specs.declared.op.Op.{Op}
use Rattle.code_laws.proofs.Sim.{Sim, Target, sim_step}

-- the operations from a place, one by one
pub each_stands : (code : CodeData) (base : ℕ) (ps : List Placed) → ((k : ℕ) → placed_at code (base + k) ≡ slice_get ps k) → StandsAt code base ps
each_stands code base [] each = tt
each_stands code base (p ∷ ps) each = (
  ap (λ (n : ℕ). placed_at code n) (omega arith) ∙ each 0,
  each_stands code (base + 1) ps (λ k. ap (λ (n : ℕ). placed_at code n) (omega arith) ∙ each (suc k)),
)

pub moved : (code : CodeData) (a b : ℕ) (ps : List Placed) → a ≡ b → StandsAt code a ps → StandsAt code b ps
moved code a b ps e h = subst (λ (x : ℕ). StandsAt code x ps) e h

-- Code of a routine of a tree, and the outcome of the tree's parts: the routine, the statement that owns the operations
-- here, the frame, and what is saved below it.
pub record Spot : Type 0 where
  pub target : Target
  pub run : Run
  pub tree : TypedTree
  pub routine : TypedRoutine
  pub own : Own
  pub frame : Running
  pub saved : List Saved

-- at a place, with these operands
abbrev pub standing : Spot → ℕ → List Datum → Doing Conf
standing s pc stack = Gives (conf pc stack s.frame s.saved)

abbrev pub here : Spot → ℕ → List Datum → Here
here s pc stack = record { code = s.target.code; own = s.own; conf = conf pc stack s.frame s.saved }

-- without operands, in a move or outside one
abbrev pub moving : Spot → ℕ → Option Way → Conf
moving s pc way = record (conf pc [] s.frame s.saved) { way = way }

-- an error is the statement's
abbrev pub failing : Spot → ℕ → Doing Conf
failing s error = raised s.target.code s.own s.frame s.saved error

-- these operations are at a place
abbrev pub Holds : Spot → ℕ → List Placed → Type 0
Holds s pc ps = StandsAt s.target.code pc ps

-- there is room for this many operands
abbrev pub Fits : Spot → ℕ → Type 0
Fits s count = count ≤ s.target.code.deepest

-- code from a place does what m does, and reaches another place with the result of m on top of the operands
abbrev pub Pushes : {A : Type 0} → Spot → ℕ → ℕ → List Datum → (A → Datum) → Doing A → Type 0
Pushes s pc end stack form m = Sim s.target s.run (standing s pc stack) m (λ v. standing s end (form v ∷ stack)) (failing s)

pub pushes_to : {A : Type 0} (s : Spot) (pc : ℕ) (stack : List Datum) (form : A → Datum) {m : Doing A} (a b : ℕ) → a ≡ b → Pushes s pc a stack form m → Pushes s pc b stack form m
pushes_to s pc stack form {m = m} a b e sim = subst (λ (x : ℕ). Pushes s pc x stack form m) e sim

-- the operation at a place
pub sim_op : {A : Type 0} (s : Spot) (pc : ℕ) (stack : List Datum) (op : Op) {m : Doing A} {next : A → Doing Conf} {failed : ℕ → Doing Conf}
    → placed_at s.target.code pc ≡ Some (record { own = s.own; op = op }) → length stack ≤ s.target.code.deepest
    → Sim s.target s.run (act (here s pc stack) op) m next failed → Sim s.target s.run (standing s pc stack) m next failed
sim_op s pc stack op {m = m} {next = next} {failed = failed} there room sim =
    sim_step (le-leb (length stack) s.target.code.deepest room)
    (subst (λ (x : Option Placed). Sim s.target s.run (act_at s.target.code (conf pc stack s.frame s.saved) x) m next failed) (sym there) sim)

-- the same without operands, in a move or outside one
pub sim_in : {A : Type 0} (s : Spot) (pc : ℕ) (way : Option Way) (op : Op) {m : Doing A} {next : A → Doing Conf} {failed : ℕ → Doing Conf}
    → placed_at s.target.code pc ≡ Some (record { own = s.own; op = op }) → Sim s.target s.run (act (record { code = s.target.code; own = s.own; conf = moving s pc way }) op) m next failed
    → Sim s.target s.run (Gives (moving s pc way)) m next failed
sim_in s pc way op {m = m} {next = next} {failed = failed} there sim =
    sim_step (le-leb 0 s.target.code.deepest (omega arith))
    (subst (λ (x : Option Placed). Sim s.target s.run (act_at s.target.code (moving s pc way) x) m next failed) (sym there) sim)
