-- A call of a PROC.
use Rattle.std.proofs.Common.{◌≡◌, refl, sym, ◌∙◌, ℕ, List, length, None, slice_get}
use Rattle.rapid_model.specs.declared.routine_kind.RoutineKind.TheVariants as kinds
use Rattle.typed_trees.specs.Plain.{TypedTree}
use Rattle.typed_trees.specs.declared.datum.Datum.{Datum}
use Rattle.rapid_meaning.specs.Answering.{Run}
use Rattle.rapid_meaning.specs.Calls.{called}
use Rattle.stack_code.specs.Confs.{Saved}
use Rattle.stack_code.specs.Entering.{enter}
use Rattle.stack_code.specs.Raising.{back_to, raised_to}
use Rattle.code_laws.specs.Calls.{IsProcedure, Takes}
use Rattle.code_laws.proofs.Claims.{Claims}
use Rattle.code_laws.proofs.CodeOf.{IsCodeOf}
use Rattle.code_laws.proofs.Routines.{routine_called}
use Rattle.code_laws.proofs.Sim.{Sim, Target}

-- as any routine, but without a result
pub procedure_called : (t : Target) (tree : TypedTree) (run : Run) → IsCodeOf tree t → Claims t tree run → (routine : ℕ) (args : List Datum) (saved : List Saved) → Takes tree routine (length args)
    → IsProcedure tree routine
    → Sim t run (enter t.code routine args saved) (called tree args (slice_get tree.routines routine)) (λ flow. back_to saved None) (raised_to t.code saved)
procedure_called t tree run code claims routine args saved takes kind =
    routine_called t tree run code claims routine args saved (λ flow. None) takes (λ r e. record { end = refl; gives = λ func v. absurd (no_func (sym (kind r e) ∙ func)) })
  where
    no_func : kinds.Proc ≡ kinds.Func → ⊥
    no_func e = cc
