-- The operation that makes a value from its components.
use Rattle.std.proofs.Common.{◌≡◌, refl, sym, ap, ◌∙◌, ℕ, ◌+◌, ◌==◌, ◌≤◌, Bool, true, false, ℤ, List, [], ◌∷◌, length, map, Option, None, Some, if◌then◌else◌, arith}
use Rattle.std.specs.Option.{option_map}
use Rattle.std.proofs.lemmas.Bool.{eqb-true}
use Rattle.std.proofs.lemmas.List.{length-map}
use Rattle.rapid_model.specs.declared.sort.Sort.{Sort}
use Rattle.rapid_model.specs.declared.sort.Sort.TheVariants as sorts
use Rattle.rapid_model.specs.declared.value.Value.{Value}
use Rattle.rapid_model.specs.declared.value.Value.TheVariants as values
use Rattle.rapid_values.specs.Components.{components}
use Rattle.rapid_values.specs.Values.{made_of, nums_of, so_many}
use Rattle.typed_trees.specs.declared.datum.Datum.{Datum}
use Rattle.typed_trees.specs.declared.datum.Datum.TheVariants.{Plain}
use Rattle.rapid_meaning.specs.Doings.{Doing, Gives, Raises, ◌>>=◌, after, or_misfit}
use Rattle.stack_code.specs.Operands.{on_values, values_in}
use Rattle.stack_code.specs.Steps.{act, pushes}
use Rattle.stack_code.specs.declared.op.Op.TheVariants as ops
use Rattle.code_laws.proofs.Alone.{or_misfit_alone}
use Rattle.code_laws.proofs.Operands.{many_at, pushed}
use Rattle.code_laws.proofs.Ops.{OpAt}
use Rattle.code_laws.proofs.Same.{same}
use Rattle.code_laws.proofs.Sim.{Sim, sim_from, sim_misfit, sim_to}
use Rattle.code_laws.proofs.Spots.{Spot, failing, here, sim_op, standing}

-- a value is made from as many components as its type has

counted : (count : ℕ) (make : List ℤ → Value) (nums : List ℤ) (b : Bool) (v : Value) → (length nums == count) ≡ b → (if b then Some (make nums) else None) ≡ Some v → length nums ≡ count
counted count make nums true v e made = eqb-true (length nums) count e
counted count make nums false v e made = cc

so_many_are : (count : ℕ) (make : List ℤ → Value) (nums : Option (List ℤ)) (v : Value) → so_many count make nums ≡ Some v → (ns : List ℤ) × (nums ≡ Some ns) × (length ns ≡ count)
so_many_are count make None v made = cc
so_many_are count make (Some ns) v made = (ns, refl, counted count make ns (length ns == count) v refl made)

mapped : (n : ℤ) (nums : Option (List ℤ)) (ns : List ℤ) → option_map (λ (xs : List ℤ). n ∷ xs) nums ≡ Some ns → (more : List ℤ) × (nums ≡ Some more) × (ns ≡ n ∷ more)
mapped n None ns e = cc
mapped n (Some more) ns e = (more, refl, cc)

nums_are : (vs : List Value) (ns : List ℤ) → nums_of vs ≡ Some ns → length vs ≡ length ns
nums_are [] ns e = let none : ns ≡ [] = cc in ap (λ (xs : List ℤ). length xs) (sym none)
nums_are (values.Num n ∷ vs) ns e =
    let m : (more : List ℤ) × (nums_of vs ≡ Some more) × (ns ≡ n ∷ more) = mapped n (nums_of vs) ns e in
    omega (arith, nums_are vs m.0 m.1, ap (λ (xs : List ℤ). length xs) m.2)
nums_are (v ∷ vs) ns e = cc

of_nums : (count : ℕ) (make : List ℤ → Value) (vs : List Value) (v : Value) → so_many count make (nums_of vs) ≡ Some v → length vs ≡ count
of_nums count make vs v made =
    let m : (ns : List ℤ) × (nums_of vs ≡ Some ns) × (length ns ≡ count) = so_many_are count make (nums_of vs) v made in nums_are vs m.0 m.1 ∙ m.2

made_length : (sort : Sort) (vs : List Value) (v : Value) → made_of sort vs ≡ Some v → length (components sort) ≡ length vs
made_length sorts.RobJoint vs v made = sym (of_nums 6 values.Rob vs v made)
made_length sorts.ExtJoint vs v made = sym (of_nums 6 values.Ext vs v made)
made_length sorts.SpeedData vs v made = sym (of_nums 4 values.Speed vs v made)
made_length sorts.JointTarget (values.Rob rob ∷ values.Ext ext ∷ []) v made = refl
made_length sorts.Tasks (values.Text text ∷ []) v made = refl
made_length sort vs v made = cc

-- the operation

values_of : (vs : List Value) → values_in (map Plain vs) ≡ Gives vs
unfolding after
values_of [] = refl
values_of (v ∷ vs) = ap (λ (m : Doing (List Value)). after m (λ ws. Gives (v ∷ ws)) Raises) (values_of vs)

packed : (s : Spot) (pc : ℕ) (stack : List Datum) (sort : Sort) (vs : List Value) → length (components sort) ≡ length vs
    → act (here s pc (pushed (map Plain vs) stack)) (ops.Pack sort) ≡ pushes (here s pc (pushed (map Plain vs) stack)) stack Plain (or_misfit (made_of sort vs))
unfolding after
packed s pc stack sort vs many =
    ap (λ (n : ℕ). on_values n (pushed (map Plain vs) stack) (λ ws rest. pushes (here s pc (pushed (map Plain vs) stack)) rest Plain (or_misfit (made_of sort ws)))) (many ∙ sym (length-map vs Plain))
    ∙ (many_at (map Plain vs) stack (λ xs rest. values_in xs >>= λ ws. pushes (here s pc (pushed (map Plain vs) stack)) rest Plain (or_misfit (made_of sort ws)))
    ∙ ap (λ (m : Doing (List Value)). m >>= λ ws. pushes (here s pc (pushed (map Plain vs) stack)) stack Plain (or_misfit (made_of sort ws))) (values_of vs))

pack_if : (s : Spot) (pc : ℕ) (stack : List Datum) (sort : Sort) (vs : List Value) (made : Option Value) → OpAt s pc (ops.Pack sort) → length (pushed (map Plain vs) stack) ≤ s.target.code.deepest
    → made_of sort vs ≡ made → Sim s.target s.run (standing s pc (pushed (map Plain vs) stack)) (or_misfit (made_of sort vs)) (λ v. standing s (pc + 1) (Plain v ∷ stack)) (failing s)
pack_if s pc stack sort vs None there room made = sim_to (ap (λ (x : Option Value). or_misfit x) made) sim_misfit
pack_if s pc stack sort vs (Some v) there room made =
    sim_op s pc (pushed (map Plain vs) stack) (ops.Pack sort) there room
    (sim_from (packed s pc stack sort vs (made_length sort vs v made)) (same (or_misfit (made_of sort vs)) (or_misfit_alone (made_of sort vs))))

pub pack_sim : (s : Spot) (pc : ℕ) (stack : List Datum) (sort : Sort) (vs : List Value) → OpAt s pc (ops.Pack sort) → length (pushed (map Plain vs) stack) ≤ s.target.code.deepest
    → Sim s.target s.run (standing s pc (pushed (map Plain vs) stack)) (or_misfit (made_of sort vs)) (λ v. standing s (pc + 1) (Plain v ∷ stack)) (failing s)
pack_sim s pc stack sort vs there room = pack_if s pc stack sort vs (made_of sort vs) there room refl
