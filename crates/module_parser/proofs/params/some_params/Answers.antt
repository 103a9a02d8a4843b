use Rattle.std.proofs.Common.{map, sym, ◌∙◌}
use Rattle.std.proofs.lemmas.Result.{err_from_is_err_and}
use Rattle.raw_trees.specs.Views.{view_param}
use Rattle.rapid_forms.specs.Reading.{rest_from}
use Rattle.rapid_forms.proofs.Loops.{loop_done, loop_fails, loop_smaller, loop_first, loop_pushes}
use Rattle.module_parser.specs.Reads.{some_params_read}
use Rattle.module_parser.proofs.Taking.{more_param_takes}
use Rattle.module_parser.proofs.params.some_params.Goals as goal

pub loop-list-init : goal.loop-list-init
unfolding some_params_read
loop-list-init c = rw (c.in_ok-push.ensures.items, c.new-list.ensures.items) (loop_first _ _ _ _ _ c.in_ok-first.ensures)

pub returns-in_err-more : goal.returns-in_err-more
returns-in_err-more c =
    let p = err_from_is_err_and c.from_residual-in_err-more.result c.from_residual-in_err-more.ensures.1 in
    rw (p.1, p.2)
    (loop_fails more_param_takes _ (map view_param c.loop-list.list.items) c.args.p.now.tokens _ c.loop-list.next _ (sym c.sees.ensures ∙ c.loop-list-test.true) c.loop-list.invariant c.in_err-more.ensures)

pub loop-list-smaller : goal.loop-list-smaller
loop-list-smaller c = loop_smaller more_param_takes c.args.p.now.tokens c.loop-list.next c.in_ok-more.after (view_param c.in_ok-more.more) c.in_ok-more.ensures

pub loop-list-preserved : goal.loop-list-preserved
loop-list-preserved c =
    rw c.in_ok-push-2.ensures.items
    (loop_pushes more_param_takes view_param _ c.loop-list.list.items (rest_from c.args.p.now.tokens c.loop-list.next) c.in_ok-more.more _ (sym c.sees.ensures ∙ c.loop-list-test.true) c.in_ok-more.ensures ∙ c.loop-list.invariant)

pub returns : goal.returns
returns c = sym c.loop-list.invariant ∙ loop_done _ _ (map view_param c.loop-list.list.items) (rest_from c.args.p.now.tokens c.loop-list.next) (sym c.sees.ensures ∙ c.loop-list-test.false)
