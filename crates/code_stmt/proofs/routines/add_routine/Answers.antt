use Rattle.std.proofs.Common.{◌++◌, ap, subst, ◌∙◌, arith}
use Rattle.std.proofs.lemmas.List.{append_assoc}
use Rattle.std.proofs.lemmas.Result.{on_ok_weaker}
use Rattle.stack_code.specs.Compiled.{end_op, own_end}
use Rattle.stack_code.specs.ExprLayouts.{put}
use Rattle.typed_trees.specs.Plain.{TypedRoutine}
use Rattle.code_expr.specs.Contexts.{routine_of, tree_of}
use Rattle.code_expr.proofs.Follow.{follows_sized, follows_then}
use Rattle.code_stmt.specs.Lays.{Lays}
use Rattle.code_stmt.specs.Sizing.{part_sizes, stmts_sizes}
use Rattle.code_stmt.proofs.RoutineParts.{list_in}
use Rattle.code_stmt.proofs.Sizings.{TakesList}
use Rattle.code_stmt.proofs.routines.add_routine.Goals as goal

pub returns : goal.returns
returns c =
    let at = c.args.context.now in
    let tree = tree_of at in
    let routine = routine_of at in
    let op = c.end_op.ensures ∙ ap (λ (r : TypedRoutine). end_op r.kind) c.routine-routine.ensures in
    let taken = subst (λ list. TakesList at c.args.labels.now c.args.sizes.now c.add_list.new.sizes c.args.out.now c.add_list.new.out list) (list_in at c.routine-routine.result.now c.routine-routine.ensures) c.in_ok-add_list.ensures in
    let ended = subst (λ o. Lays c.add_list.new.out c.add_end.new.out 1 (λ pc ps. put (own_end routine pc) o ps)) op c.in_ok-add_end.ensures in
    on_ok_weaker c.add_part.result (λ part rest next.
    let listed = taken (part_sizes tree routine routine.handler ++ rest) (next ∙ append_assoc (stmts_sizes tree routine routine.list) _ rest) in
    let last = part rest listed.1 in
    (follows_sized _ (follows_then listed.0 (follows_then ended last.0)) (omega arith), last.1)) c.add_part.ensures
