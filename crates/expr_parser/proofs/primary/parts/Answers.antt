use Rattle.std.proofs.Common.{sym, ◌∙◌, map}
use Rattle.std.proofs.lemmas.Result.{err_from_is_err_and}
use Rattle.raw_trees.specs.Views.{view_name}
use Rattle.rapid_forms.specs.Reading.{rest_from}
use Rattle.rapid_forms.proofs.Loops.{front_none, loop_done, loop_fails, loop_smaller, loop_pushes}
use Rattle.expr_parser.specs.Reads.{part_read}
use Rattle.expr_parser.proofs.Taking.{part_takes}
use Rattle.expr_parser.proofs.primary.parts.Goals as goal

pub loop-list-init : goal.loop-list-init
loop-list-init c = rw c.new-list.ensures.items (front_none _)

pub returns-in_err-part : goal.returns-in_err-part
returns-in_err-part c =
    let p = err_from_is_err_and c.from_residual.result c.from_residual.ensures.1 in
    rw (p.1, p.2) (loop_fails part_takes _ (map view_name c.loop-list.list.items) c.args.p.now.tokens _ c.loop-list.next _ (sym c.sees.ensures ∙ c.loop-list-test.true) c.loop-list.invariant c.in_err-part.ensures)

pub loop-list-smaller : goal.loop-list-smaller
loop-list-smaller c = loop_smaller part_takes c.args.p.now.tokens c.loop-list.next c.in_ok-part.after (view_name c.in_ok-part.part) c.in_ok-part.ensures

pub loop-list-preserved : goal.loop-list-preserved
loop-list-preserved c =
    rw c.in_ok-push.ensures.items
    (loop_pushes part_takes view_name _ c.loop-list.list.items (rest_from c.args.p.now.tokens c.loop-list.next) c.in_ok-part.part _ (sym c.sees.ensures ∙ c.loop-list-test.true) c.in_ok-part.ensures ∙ c.loop-list.invariant)

pub returns : goal.returns
returns c =
    sym c.loop-list.invariant ∙ loop_done part_read _ (map view_name c.loop-list.list.items) (rest_from c.args.p.now.tokens c.loop-list.next) (sym c.sees.ensures ∙ c.loop-list-test.false)
