use Rattle.std.proofs.Common.{◌++◌, ap, subst, sym, ◌∙◌}
use Rattle.std.proofs.lemmas.Result.{on_ok_weaker}
use Rattle.code_expr.specs.Adds.{end_of}
use Rattle.code_expr.specs.Contexts.{routine_of, tree_of}
use Rattle.code_expr.proofs.Follow.{follows_then, none_follows}
use Rattle.code_stmt.specs.Lays.{LaysPart, with_placed}
use Rattle.code_stmt.specs.Sizing.{part_sizes}
use Rattle.code_stmt.proofs.RoutineParts.{handler_in}
use Rattle.code_stmt.proofs.routines.add_part.Goals as goal

pub returns-in-None : goal.returns-in-None
returns-in-None c = λ rest next.
    let at = c.args.context.now in
    let out = c.args.out.now in
    let none = handler_in at c.routine.result.now _ c.routine.ensures c.in-None.is in
    (subst (λ h. LaysPart at c.args.labels.now out out h) (sym none) (none_follows (with_placed out) (end_of out.code)), next ∙ ap (λ h. part_sizes (tree_of at) (routine_of at) h ++ rest) none)

pub returns-in_ok-add_list-in-Some : goal.returns-in_ok-add_list-in-Some
returns-in_ok-add_list-in-Some c = on_ok_weaker c.add_end.result (λ ended rest next.
    let at = c.args.context.now in
    let some = handler_in at c.routine.result.now _ c.routine.ensures c.in-Some.is in
    let listed = c.in_ok-add_list-in-Some.ensures rest (next ∙ ap (λ h. part_sizes (tree_of at) (routine_of at) h ++ rest) some) in
    (subst (λ h. LaysPart at c.args.labels.now c.args.out.now c.add_end.new.out h) (sym some) (follows_then listed.0 ended), listed.1)) c.add_end.ensures
