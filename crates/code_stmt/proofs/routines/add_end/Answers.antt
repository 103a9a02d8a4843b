use Rattle.std.proofs.Common.{ap, refl, ◌∙◌, arith}
use Rattle.std.proofs.lemmas.Result.{on_ok_weaker}
use Rattle.stack_code.specs.Compiled.{own_end}
use Rattle.stack_code.specs.ExprLayouts.{put}
use Rattle.typed_trees.specs.Plain.{TypedRoutine}
use Rattle.code_expr.specs.Adds.{end_of}
use Rattle.code_expr.specs.Contexts.{routine_of}
use Rattle.code_expr.proofs.Follow.{follows_as}
use Rattle.code_stmt.proofs.Layouts.{same_owner}
use Rattle.code_stmt.proofs.routines.add_end.Goals as goal

pub returns : goal.returns
returns c =
    let routine = routine_of c.args.context.now in
    let pc = end_of c.args.out.now.code in
    on_ok_weaker c.add_op.result (λ h.
    follows_as 1 (λ at ps. put (own_end routine at) c.args.op ps) h refl (λ ps.
    ap (λ own. put own c.args.op ps)
    (same_owner _ (own_end routine pc) c.in_ok-retry.ensures (omega (arith, c.in_ok-retry.ensures, c.in_ok-sum.ensures)) c.in_ok-at_byte.ensures.«module»
    (c.in_ok-at_byte.ensures.byte ∙ ap (λ (r : TypedRoutine). r.at) c.routine.ensures)))) c.add_op.ensures
