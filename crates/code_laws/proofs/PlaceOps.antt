-- Operations on places: roots, indexes and parts, and what a place holds.
use Rattle.std.proofs.Common.{◌≡◌, ap, ℕ, ◌+◌, ◌≤◌, List, ◌∷◌, length, Option, None, Some, slice_get, arith}
use Rattle.std.specs.Option.{option_map, unwrap_or}
use Rattle.rapid_model.specs.declared.part_name.PartName.{PartName}
use Rattle.rapid_model.specs.declared.part_name.PartName.TheVariants as parts
use Rattle.rapid_model.specs.declared.value.Value.{Value}
use Rattle.typed_trees.specs.declared.datum.Datum.{Datum}
use Rattle.typed_trees.specs.declared.datum.Datum.TheVariants.{Plain, Place}
use Rattle.typed_trees.specs.declared.datum.Lvalue.{Lvalue}
use Rattle.typed_trees.specs.declared.datum.Root.TheVariants as data_roots
use Rattle.typed_trees.specs.declared.expr.TreeRoot.{TreeRoot}
use Rattle.typed_trees.specs.declared.expr.TreeRoot.TheVariants as roots
use Rattle.rapid_meaning.specs.Doings.{Gives, or_misfit}
use Rattle.rapid_meaning.specs.Layouts.{length_at, local_start}
use Rattle.rapid_meaning.specs.Places.{at_root, indexed, kept_place, load, part_at, read_value, rooted}
use Rattle.rapid_meaning.specs.Values.{value_in}
use Rattle.rapid_meaning.proofs.Wholes.{whole_within}
use Rattle.stack_code.specs.ExprLayouts.{index_op, part_code, root_op}
use Rattle.stack_code.specs.Placed.{Placed}
use Rattle.stack_code.specs.Sizes.{part_size}
use Rattle.stack_code.specs.declared.op.Op.TheVariants as ops
use Rattle.code_laws.proofs.Alone.{indexed_alone, load_alone, or_misfit_alone, part_alone}
use Rattle.code_laws.proofs.Ops.{OpAt, ends_at}
use Rattle.code_laws.proofs.Same.{same, sim_same}
use Rattle.code_laws.proofs.Sim.{Sim, sim_gives, sim_misfit, sim_raises, sim_to}
use Rattle.code_laws.proofs.Spots.{Holds, Pushes, Spot, failing, sim_op, standing}

-- roots

persistent : (s : Spot) (pc : ℕ) (stack : List Datum) (number : Option ℕ) → OpAt s pc (ops.Pers (unwrap_or number 0)) → length stack ≤ s.target.code.deepest
    → Pushes s pc (pc + 1) stack Place (or_misfit (option_map (λ pers. at_root (data_roots.Pers pers 0)) number))
persistent s pc stack None there room = sim_misfit
persistent s pc stack (Some pers) there room = sim_op s pc stack (ops.Pers pers) there room (sim_gives (at_root (data_roots.Pers pers 0)))

pub root_sim : (s : Spot) (pc : ℕ) (stack : List Datum) (root : TreeRoot) → OpAt s pc (root_op s.tree s.routine root) → length stack ≤ s.target.code.deepest
    → Pushes s pc (pc + 1) stack Place (rooted s.tree s.routine root)
root_sim s pc stack (roots.Slot row) there room = sim_op s pc stack _ there room (sim_gives _)
root_sim s pc stack (roots.Local row) there room =
    sim_op s pc stack _ there room (same (rooted s.tree s.routine (roots.Local row)) (λ d. tt))
root_sim s pc stack (roots.Ref row) there room =
    sim_op s pc stack _ there room (same (rooted s.tree s.routine (roots.Ref row)) (λ d. or_misfit_alone (kept_place (local_start s.routine row) d.frames)))
root_sim s pc stack (roots.Pers row) there room = persistent s pc stack (slice_get s.tree.pers_of row) there room

-- indexes

index_of : (s : Spot) (pc : ℕ) (stack : List Datum) (len : Option ℕ) (p : Lvalue) (v : Value) → OpAt s pc (ops.Index (unwrap_or len 0))
    → length (Plain v ∷ Place p ∷ stack) ≤ s.target.code.deepest
    → Sim s.target s.run (standing s pc (Plain v ∷ Place p ∷ stack)) (indexed len p v) (λ q. standing s (pc + 1) (Place q ∷ stack)) (failing s)
index_of s pc stack None p v there room = sim_misfit
index_of s pc stack (Some len) p v there room = sim_op s pc (Plain v ∷ Place p ∷ stack) (ops.Index len) there room (same (indexed (Some len) p v) (indexed_alone (Some len) p v))

pub index_sim : (s : Spot) (pc : ℕ) (stack : List Datum) (root : TreeRoot) (p : Lvalue) (v : Value) → OpAt s pc (index_op s.tree s.routine root)
    → length (Plain v ∷ Place p ∷ stack) ≤ s.target.code.deepest
    → Sim s.target s.run (standing s pc (Plain v ∷ Place p ∷ stack)) (indexed (length_at s.tree s.routine root) p v) (λ q. standing s (pc + 1) (Place q ∷ stack)) (failing s)
index_sim s pc stack root p v there room = index_of s pc stack (length_at s.tree s.routine root) p v there room

-- parts

pub whole_at : (p : Lvalue) → part_at parts.Whole p ≡ Gives p
whole_at p = ap (λ (x : Option PartName). or_misfit (option_map (λ (inner : PartName). record p { part = inner }) x)) (whole_within p.part)

pub part_sim : (s : Spot) (pc : ℕ) (stack : List Datum) (part : PartName) (ps : List Placed) (p : Lvalue) → Holds s pc (part_code s.own part ps)
    → length (Place p ∷ stack) ≤ s.target.code.deepest
    → Sim s.target s.run (standing s pc (Place p ∷ stack)) (part_at part p) (λ q. standing s (pc + part_size part) (Place q ∷ stack)) (failing s)
part_sim s pc stack parts.Whole ps p there room =
    ends_at s (standing s pc (Place p ∷ stack)) (part_at parts.Whole p) (λ q. Place q ∷ stack) pc (pc + 0) (omega arith) (sim_to (whole_at p) (sim_gives p))
part_sim s pc stack part ps p there room = sim_op s pc (Place p ∷ stack) (ops.Part part) there.0 room (same (part_at part p) (part_alone part p))

-- what a place holds

valued : (s : Spot) (pc : ℕ) (stack : List Datum) (x : Datum) → Sim s.target s.run (standing s pc (x ∷ stack)) (value_in x) (λ v. standing s pc (Plain v ∷ stack)) (failing s)
valued s pc stack (Plain v) = sim_gives v
valued s pc stack x = sim_misfit

pub load_sim : (s : Spot) (pc : ℕ) (stack : List Datum) (p : Lvalue) → OpAt s pc ops.Load → length (Place p ∷ stack) ≤ s.target.code.deepest
    → Sim s.target s.run (standing s pc (Place p ∷ stack)) (read_value p) (λ v. standing s (pc + 1) (Plain v ∷ stack)) (failing s)
load_sim s pc stack p there room =
    sim_op s pc (Place p ∷ stack) ops.Load there room (sim_same (load p) (load_alone p) (λ x. valued s (pc + 1) stack x) (λ n. sim_raises n))
