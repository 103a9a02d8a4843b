use Rattle.std.proofs.Common.{map, sym, ◌∙◌}
use Rattle.std.proofs.lemmas.Result.{err_from_is_err_and}
use Rattle.rapid_limits.specs.declared.TheConstants.{MOST_LEVELS}
use Rattle.raw_trees.specs.Views.{view_item}
use Rattle.rapid_forms.specs.Reading.{rest_from}
use Rattle.rapid_forms.proofs.Loops.{front_none, loop_done, loop_fails, loop_smaller, loop_pushes}
use Rattle.module_parser.proofs.Taking.{item_takes}
use Rattle.module_parser.proofs.module.items.Goals as goal

pub loop-list-init : goal.loop-list-init
loop-list-init c = rw c.new-list.ensures.items (front_none _)

pub returns-in_err-item : goal.returns-in_err-item
returns-in_err-item c =
    let p = err_from_is_err_and c.from_residual.result c.from_residual.ensures.1 in
    rw (p.1, p.2)
    (loop_fails (item_takes MOST_LEVELS) _ (map view_item c.loop-list.list.items) c.args.p.now.tokens _ c.loop-list.next _ (sym c.sees.ensures ∙ c.loop-list-test.true) c.loop-list.invariant c.in_err-item.ensures)

pub loop-list-smaller : goal.loop-list-smaller
loop-list-smaller c = loop_smaller (item_takes MOST_LEVELS) c.args.p.now.tokens c.loop-list.next c.in_ok-item.after (view_item c.in_ok-item.item) c.in_ok-item.ensures

pub loop-list-preserved : goal.loop-list-preserved
loop-list-preserved c =
    rw c.in_ok-push.ensures.items
    (loop_pushes (item_takes MOST_LEVELS) view_item _ c.loop-list.list.items (rest_from c.args.p.now.tokens c.loop-list.next) c.in_ok-item.item _ (sym c.sees.ensures ∙ c.loop-list-test.true) c.in_ok-item.ensures ∙ c.loop-list.invariant)

pub returns : goal.returns
returns c = sym c.loop-list.invariant ∙ loop_done _ _ (map view_item c.loop-list.list.items) (rest_from c.args.p.now.tokens c.loop-list.next) (sym c.sees.ensures ∙ c.loop-list-test.false)
