use Rattle.std.proofs.Common.{sym, ◌∙◌, map}
use Rattle.std.proofs.lemmas.Result.{err_from_is_err_and}
use Rattle.raw_trees.specs.Views.{view_arm, view_case, view_list, view_stmt}
use Rattle.rapid_forms.specs.Reading.{rest_from}
use Rattle.rapid_forms.proofs.Loops.{with_front, front_none, loop_done, loop_fails, loop_smaller, loop_pushes}
use Rattle.stmt_parser.specs.Reads.{arms_read, cases_read, items_read}
use Rattle.stmt_parser.proofs.Lists.{arm_takes, case_takes, stmt_takes}
use Rattle.stmt_parser.proofs.+stmt.Goals as goal

pub statements::items-loop-list-init : goal.statements::items-loop-list-init
unfolding items_read
statements::items-loop-list-init t c = rw c.in_ok-list.ensures.items (front_none _)

pub statements::items-returns-in_err-stmt : goal.statements::items-returns-in_err-stmt
statements::items-returns-in_err-stmt t c =
    let p = err_from_is_err_and c.from_residual-in_err-stmt.result c.from_residual-in_err-stmt.ensures.1 in
    rw (p.1, p.2) (loop_fails (stmt_takes c.args.left) _ (view_list c.loop-list.list) c.args.p.now.tokens _ c.loop-list.next _ (sym c.sees.ensures ∙ c.loop-list-test.true) c.loop-list.invariant c.in_err-stmt.ensures)

pub statements::items-loop-list-smaller : goal.statements::items-loop-list-smaller
statements::items-loop-list-smaller t c = loop_smaller (stmt_takes c.args.left) c.args.p.now.tokens c.loop-list.next c.in_ok-stmt.after (view_stmt c.in_ok-stmt.stmt) c.in_ok-stmt.ensures

pub statements::items-loop-list-preserved : goal.statements::items-loop-list-preserved
statements::items-loop-list-preserved t c =
    rw c.in_ok-push.ensures.items
    (loop_pushes (stmt_takes c.args.left) view_stmt _ c.loop-list.list.items (rest_from c.args.p.now.tokens c.loop-list.next) c.in_ok-stmt.stmt _ (sym c.sees.ensures ∙ c.loop-list-test.true) c.in_ok-stmt.ensures ∙ c.loop-list.invariant)

pub statements::items-returns : goal.statements::items-returns
statements::items-returns t c = sym c.loop-list.invariant ∙ loop_done _ _ (view_list c.loop-list.list) (rest_from c.args.p.now.tokens c.loop-list.next) (sym c.sees.ensures ∙ c.loop-list-test.false)

pub blocks::arms-loop-list-init : goal.blocks::arms-loop-list-init
unfolding arms_read with_front
blocks::arms-loop-list-init t c = rw (c.in_ok-push.ensures.items, c.in_ok-list.ensures.items)

pub blocks::arms-returns-in_err-arm : goal.blocks::arms-returns-in_err-arm
blocks::arms-returns-in_err-arm t c =
    let p = err_from_is_err_and c.from_residual-in_err-arm.result c.from_residual-in_err-arm.ensures.1 in
    rw (p.1, p.2) (loop_fails (arm_takes c.args.left) _ (map view_arm c.loop-list.list.items) c.args.p.now.tokens _ c.loop-list.next _ (sym c.sees.ensures ∙ c.loop-list-test.true) c.loop-list.invariant c.in_err-arm.ensures)

pub blocks::arms-loop-list-smaller : goal.blocks::arms-loop-list-smaller
blocks::arms-loop-list-smaller t c = loop_smaller (arm_takes c.args.left) c.args.p.now.tokens c.loop-list.next c.in_ok-arm.after (view_arm c.in_ok-arm.arm) c.in_ok-arm.ensures

pub blocks::arms-loop-list-preserved : goal.blocks::arms-loop-list-preserved
blocks::arms-loop-list-preserved t c =
    rw c.in_ok-push-2.ensures.items
    (loop_pushes (arm_takes c.args.left) view_arm _ c.loop-list.list.items (rest_from c.args.p.now.tokens c.loop-list.next) c.in_ok-arm.arm _ (sym c.sees.ensures ∙ c.loop-list-test.true) c.in_ok-arm.ensures ∙ c.loop-list.invariant)

pub blocks::arms-returns : goal.blocks::arms-returns
blocks::arms-returns t c = sym c.loop-list.invariant ∙ loop_done _ _ (map view_arm c.loop-list.list.items) (rest_from c.args.p.now.tokens c.loop-list.next) (sym c.sees.ensures ∙ c.loop-list-test.false)

pub blocks::cases-loop-list-init : goal.blocks::cases-loop-list-init
unfolding cases_read
blocks::cases-loop-list-init t c = rw c.new-list.ensures.items (front_none _)

pub blocks::cases-returns-in_err-case : goal.blocks::cases-returns-in_err-case
blocks::cases-returns-in_err-case t c =
    let p = err_from_is_err_and c.from_residual.result c.from_residual.ensures.1 in
    rw (p.1, p.2) (loop_fails (case_takes c.args.left) _ (map view_case c.loop-list.list.items) c.args.p.now.tokens _ c.loop-list.next _ (sym c.sees.ensures ∙ c.loop-list-test.true) c.loop-list.invariant c.in_err-case.ensures)

pub blocks::cases-loop-list-smaller : goal.blocks::cases-loop-list-smaller
blocks::cases-loop-list-smaller t c = loop_smaller (case_takes c.args.left) c.args.p.now.tokens c.loop-list.next c.in_ok-case.after (view_case c.in_ok-case.case) c.in_ok-case.ensures

pub blocks::cases-loop-list-preserved : goal.blocks::cases-loop-list-preserved
blocks::cases-loop-list-preserved t c =
    rw c.in_ok-push.ensures.items
    (loop_pushes (case_takes c.args.left) view_case _ c.loop-list.list.items (rest_from c.args.p.now.tokens c.loop-list.next) c.in_ok-case.case _ (sym c.sees.ensures ∙ c.loop-list-test.true) c.in_ok-case.ensures ∙ c.loop-list.invariant)

pub blocks::cases-returns : goal.blocks::cases-returns
blocks::cases-returns t c = sym c.loop-list.invariant ∙ loop_done _ _ (map view_case c.loop-list.list.items) (rest_from c.args.p.now.tokens c.loop-list.next) (sym c.sees.ensures ∙ c.loop-list-test.false)
