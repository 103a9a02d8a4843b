use Rattle.std.proofs.Common.{◌+◌, refl, sym, ap, ◌∙◌}
use Rattle.stack_code.specs.StmtLayouts
use Rattle.typed_trees.specs.Views.{view_stmt}
use Rattle.code_expr.specs.Contexts.{routine_of, tree_of}
use Rattle.code_stmt.proofs.Forms.{begins_at}
use Rattle.code_stmt.proofs.Layouts.{same_owner}
use Rattle.code_stmt.proofs.owned.own_of.Goals as goal

pub returns : goal.returns
returns c = λ rest next.
    let at = c.args.context.now in
    let taken = c.next.ensures _ rest next in (
      same_owner _ (StmtLayouts.own_of (tree_of at) (routine_of at) c.args.pc (view_stmt c.args.stmt.now)) refl (c.in_ok-next.ensures ∙ ap (λ size. c.args.pc + size) taken.0) c.in_ok-at.ensures.«module»
          (c.in_ok-at.ensures.byte ∙ sym (begins_at c.args.stmt.now)),
      taken.1,
    )
