-- Arguments of routine calls, and the calls.
use Rattle.std.proofs.Common.{◌≡◌, refl, ◌∙◌, ℕ, ◌+◌, ◌≤◌, List, length, Option, None}
use Rattle.rapid_model.specs.declared.value.Value.{Value}
use Rattle.typed_trees.specs.Plain.{TypedArgs}
use Rattle.typed_trees.specs.declared.datum.Datum.{Datum}
use Rattle.rapid_meaning.specs.Doings as doings
use Rattle.rapid_meaning.specs.Flows.{Flow, Call}
use Rattle.rapid_meaning.specs.Statements.{call}
use Rattle.stack_code.specs.Confs.{Saved}
use Rattle.stack_code.specs.Entering.{enter}
use Rattle.stack_code.specs.ExprLayouts.{args_code, put}
use Rattle.stack_code.specs.Needs.{args_need}
use Rattle.stack_code.specs.Placed.{Placed}
use Rattle.stack_code.specs.Raising.{back_to, raised_to, with_result}
use Rattle.stack_code.specs.Sizes.{args_size}
use Rattle.stack_code.specs.declared.op.Op.TheVariants as ops
use Rattle.code_laws.specs.Calls.{ArgsCalls, IsProcedure, Takes, args_count}
use Rattle.code_laws.proofs.Calling.{call_at}
use Rattle.code_laws.proofs.Claims.{Claims}
use Rattle.code_laws.proofs.CodeOf.{IsCodeOf}
use Rattle.code_laws.proofs.Expressions.{arguments_sim}
use Rattle.code_laws.proofs.Ops.{ends_at}
use Rattle.code_laws.proofs.Past.{past_args}
use Rattle.code_laws.proofs.Sim.{Sim, SimPart}
use Rattle.code_laws.proofs.Spots.{Holds, Spot, failing, standing}

-- the arguments, and then the operation, by the claim about the routine; its result is pushed on the operands
called_sim : (s : Spot) → IsCodeOf s.tree s.target → Claims s.target s.tree s.run → (pc end : ℕ) (stack : List Datum) (called : ℕ) (args : TypedArgs) (ps : List Placed) (value : Flow → Option Value)
    → Takes s.tree called (args_count args) → ArgsCalls s.tree args → Holds s pc (args_code s.tree s.routine s.own pc args (put s.own (ops.Call called) ps))
    → length stack + args_need args ≤ s.target.code.deepest → pc + args_size args + 1 ≡ end
    → ((xs : List Datum) (saved : List Saved) → Takes s.tree called (length xs)
    → SimPart s.target s.run (enter s.target.code called xs saved) (Call called xs) (λ flow. back_to saved (value flow)) (raised_to s.target.code saved))
    → Sim s.target s.run (standing s pc stack) (call s.tree s.routine called args) (λ flow. standing s end (with_result (value flow) stack)) (failing s)
called_sim s code claims pc end stack called args ps value takes calls there room past part =
    ends_at s (standing s pc stack) (call s.tree s.routine called args) (λ flow. with_result (value flow) stack) (pc + args_size args + 1) end past
    (arguments_sim s code claims pc (pc + args_size args) stack args (put s.own (ops.Call called) ps) (λ xs. doings.calls called xs)
    (λ flow. standing s (pc + args_size args + 1) (with_result (value flow) stack)) calls there room refl
    (λ xs many fits. call_at s called (pc + args_size args) xs stack value code (past_args s.target.code s.tree s.routine s.own pc args (put s.own (ops.Call called) ps) there).0 fits
    (λ routine found. many ∙ takes routine found) (λ saved. part xs saved (λ routine found. many ∙ takes routine found))))

-- the same for a PROC, which has no result
pub procedure_sim : (s : Spot) → IsCodeOf s.tree s.target → Claims s.target s.tree s.run → (pc end : ℕ) (stack : List Datum) (called : ℕ) (args : TypedArgs) (ps : List Placed)
    → Takes s.tree called (args_count args) → IsProcedure s.tree called → ArgsCalls s.tree args → Holds s pc (args_code s.tree s.routine s.own pc args (put s.own (ops.Call called) ps))
    → length stack + args_need args ≤ s.target.code.deepest → pc + args_size args + 1 ≡ end
    → Sim s.target s.run (standing s pc stack) (call s.tree s.routine called args) (λ flow. standing s end stack) (failing s)
procedure_sim s code claims pc end stack called args ps takes kind calls there room past =
    called_sim s code claims pc end stack called args ps (λ flow. None) takes calls there room past (λ xs saved many. claims.procedures called xs saved many kind)
