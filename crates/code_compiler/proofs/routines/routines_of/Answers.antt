use Rattle.std.proofs.Common.{◌+◌, map, subst, sym}
use Rattle.typed_trees.specs.Views.{view_routine, view_tree}
use Rattle.code_compiler.proofs.Linking.{IsLeft, all_linked, none_linked, one_more}
use Rattle.code_compiler.proofs.Lists.{routines_end, routines_from, routines_more}
use Rattle.code_compiler.proofs.routines.routines_of.Goals as goal

pub loop-routine-init : goal.loop-routine-init
loop-routine-init c =
    let tree = view_tree c.args.tree.now in
    let none = c.no_routines-linked.ensures in
    subst (λ list. IsLeft tree c.no_routines-linked.result (map view_routine list)) (sym c.deref-routine-items.ensures.value)
    (none_linked tree c.no_routines-linked.result none.ops none.rows none.owners none.handlers none.firsts none.values none.deepest)

pub loop-routine-preserved : goal.loop-routine-preserved
loop-routine-preserved c =
    let tree = view_tree c.args.tree.now in
    let list = c.deref-routine-items.result.now in
    let more = routines_more list c.loop-routine.routine-index c.routine-item.result c.loop-routine-test.true c.routine-item.is in
    one_more tree (view_routine c.routine-item.result) (routines_from (c.loop-routine.routine-index + 1) list) c.loop-routine.linked c.add_routine.new.linked
    (subst (λ left. IsLeft tree c.loop-routine.linked left) more c.loop-routine.invariant)
    c.in_ok-add_routine.ensures

pub returns : goal.returns
returns c =
    let tree = view_tree c.args.tree.now in
    let list = c.deref-routine-items.result.now in
    let end = routines_end list c.loop-routine.routine-index c.loop-routine-test.false in
    let all = all_linked tree c.loop-routine.linked (subst (λ left. IsLeft tree c.loop-routine.linked left) end c.loop-routine.invariant) in
    record { ops = all.ops; rows = all.rows; owners = all.owners; handlers = all.handlers; firsts = all.firsts; deepest = all.deepest }
