-- Conditions.
use Rattle.std.proofs.Common.{refl, ℕ, ◌+◌, ◌≤◌, List, ◌∷◌, length, if◌then◌else◌, arith}
use Rattle.rapid_model.specs.declared.value.Value.{Value}
use Rattle.rapid_model.specs.declared.value.Value.TheVariants as values
use Rattle.typed_trees.specs.Plain.{TypedExpr}
use Rattle.typed_trees.specs.declared.datum.Datum.{Datum}
use Rattle.typed_trees.specs.declared.datum.Datum.TheVariants.{Plain}
use Rattle.rapid_meaning.specs.Doings.{after}
use Rattle.rapid_meaning.specs.Instructions.{truth}
use Rattle.rapid_meaning.specs.Values.{truth_in}
use Rattle.stack_code.specs.ExprLayouts.{expr_code, put}
use Rattle.stack_code.specs.Needs.{expr_need}
use Rattle.stack_code.specs.Placed.{Placed}
use Rattle.stack_code.specs.Sizes.{expr_size}
use Rattle.stack_code.specs.declared.op.Op.TheVariants as ops
use Rattle.stack_code.proofs.Needs.{expr_needs}
use Rattle.code_laws.specs.Calls.{ExprCalls}
use Rattle.code_laws.proofs.Claims.{Claims}
use Rattle.code_laws.proofs.CodeOf.{IsCodeOf}
use Rattle.code_laws.proofs.Expressions.{expr_sim}
use Rattle.code_laws.proofs.Ops.{OpAt}
use Rattle.code_laws.proofs.Past.{past_expr}
use Rattle.code_laws.proofs.Sim.{Sim, sim_gives, sim_misfit, sim_then}
use Rattle.code_laws.proofs.Spots.{Holds, Spot, failing, sim_op, standing}

decided : (s : Spot) (pc to : ℕ) (stack : List Datum) (v : Value) → OpAt s pc (ops.JumpFalse to) → length (Plain v ∷ stack) ≤ s.target.code.deepest
    → Sim s.target s.run (standing s pc (Plain v ∷ stack)) (truth_in v) (λ b. if b then standing s (pc + 1) stack else standing s to stack) (failing s)
unfolding after
decided s pc to stack (values.Bool b) there room = sim_op s pc (Plain (values.Bool b) ∷ stack) (ops.JumpFalse to) there room (sim_gives b)
decided s pc to stack v there room = sim_misfit

-- execution continues after a condition that is TRUE, and elsewhere if it is FALSE
pub truth_sim : (s : Spot) → IsCodeOf s.tree s.target → Claims s.target s.tree s.run → (pc to : ℕ) (stack : List Datum) (e : TypedExpr) (ps : List Placed) → ExprCalls s.tree e
    → Holds s pc (expr_code s.tree s.routine s.own pc e (put s.own (ops.JumpFalse to) ps)) → length stack + expr_need e ≤ s.target.code.deepest
    → Sim s.target s.run (standing s pc stack) (truth s.tree s.routine e) (λ b. if b then standing s (pc + expr_size e + 1) stack else standing s to stack) (failing s)
truth_sim s code claims pc to stack e ps calls there room =
    sim_then (λ v. standing s (pc + expr_size e) (Plain v ∷ stack)) (expr_sim s code claims pc (pc + expr_size e) stack e (put s.own (ops.JumpFalse to) ps) calls there room refl)
    (λ v. decided s (pc + expr_size e) to stack v (past_expr s.target.code s.tree s.routine s.own pc e (put s.own (ops.JumpFalse to) ps) there).0 (omega (arith, expr_needs e)))
