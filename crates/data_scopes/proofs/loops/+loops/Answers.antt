use Rattle.std.proofs.Common.{◌≡◌, ◌∙◌, sym, ap, ◌++◌, option_map, length, arith}
use Rattle.std.proofs.lemmas.Result.{on_ok_weaker}
use Rattle.std.proofs.lemmas.List.{append-nil}
use Rattle.raw_trees.specs.Plain.{else_of}
use Rattle.raw_trees.specs.Views.{view_list}
use Rattle.data_scopes.specs.Loops.{loops_in_else}
use Rattle.data_scopes.proofs.LoopRows.{if_rows, test_rows, while_rows, for_rows}
use Rattle.data_scopes.proofs.loops.+loops.Goals as goal

pub push_loops-returns-in_ok-push-in-For-clause-ok : goal.push_loops-returns-in_ok-push-in-For-clause-ok
push_loops-returns-in_ok-push-in-For-clause-ok t c =
    let counted : c.in-Ok.number ≡ length c.args.rows.now.items = omega (arith, c.in-Ok.ensures.1, c.len.ensures, c.args.rows.now.ok) in
    let done = for_rows c.args.stmt.now c.args.outer c.args.rows.now.items c.push.new.self.items c.in-For.name c.in-For.bounds c.in-For.list c.in_ok-new-in-For.field-0 c.in-Ok.number c.in-For.is counted c.in_ok-push-in-For.ensures.items c.in_ok-new-in-For.ensures.ok in
    on_ok_weaker c.push_list.result (λ is. is ∙ done) c.push_list.ensures.ok

pub push_loops-returns-in-Some-clause-ok : goal.push_loops-returns-in-Some-clause-ok
push_loops-returns-in-Some-clause-ok t c =
    let done = if_rows c.args.stmt.now c.args.outer c.args.rows.now.items c.loop-arm.rows.items c.in-If.arms c.in-If.other c.deref-arm-items.result.now c.loop-arm.arm-index c.in-If.is c.deref-arm-items.ensures.value c.loop-arm-test.false c.loop-arm.invariant in
    let some = ap (λ o. c.loop-arm.rows.items ++ loops_in_else c.args.outer (length c.loop-arm.rows.items) (else_of (option_map view_list o))) (sym c.in-Some.is) in
    on_ok_weaker c.push_list-in-Some.result (λ is. is ∙ some ∙ done) c.push_list-in-Some.ensures.ok

pub push_loops-returns-in-None-clause-ok : goal.push_loops-returns-in-None-clause-ok
push_loops-returns-in-None-clause-ok t c =
    let done = if_rows c.args.stmt.now c.args.outer c.args.rows.now.items c.loop-arm.rows.items c.in-If.arms c.in-If.other c.deref-arm-items.result.now c.loop-arm.arm-index c.in-If.is c.deref-arm-items.ensures.value c.loop-arm-test.false c.loop-arm.invariant in
    sym (append-nil c.loop-arm.rows.items) ∙ ap (λ o. c.loop-arm.rows.items ++ loops_in_else c.args.outer (length c.loop-arm.rows.items) (else_of (option_map view_list o))) (sym c.in-None.is) ∙ done

pub push_loops-returns-in-While-clause-ok : goal.push_loops-returns-in-While-clause-ok
push_loops-returns-in-While-clause-ok t c =
    on_ok_weaker c.push_list-in-While.result (λ is. is ∙ while_rows c.args.stmt.now c.args.outer c.args.rows.now.items c.args.rows.now.items c.in-While.test c.in-While.list c.in-While.is) c.push_list-in-While.ensures.ok

pub push_loops-returns-in-Some-other-clause-ok : goal.push_loops-returns-in-Some-other-clause-ok
push_loops-returns-in-Some-other-clause-ok t c =
    let done = test_rows c.args.stmt.now c.args.outer c.args.rows.now.items c.loop-case.rows.items c.in-Test.value c.in-Test.cases c.in-Test.other c.deref-case-items.result.now c.loop-case.case-index c.in-Test.is c.deref-case-items.ensures.value c.loop-case-test.false c.loop-case.invariant in
    let some = ap (λ o. c.loop-case.rows.items ++ loops_in_else c.args.outer (length c.loop-case.rows.items) (else_of (option_map view_list o))) (sym c.in-Some-other.is) in
    on_ok_weaker c.push_list-in-Some-other.result (λ is. is ∙ some ∙ done) c.push_list-in-Some-other.ensures.ok

pub push_loops-returns-in-None-other-clause-ok : goal.push_loops-returns-in-None-other-clause-ok
push_loops-returns-in-None-other-clause-ok t c =
    let done = test_rows c.args.stmt.now c.args.outer c.args.rows.now.items c.loop-case.rows.items c.in-Test.value c.in-Test.cases c.in-Test.other c.deref-case-items.result.now c.loop-case.case-index c.in-Test.is c.deref-case-items.ensures.value c.loop-case-test.false c.loop-case.invariant in
    sym (append-nil c.loop-case.rows.items) ∙ ap (λ o. c.loop-case.rows.items ++ loops_in_else c.args.outer (length c.loop-case.rows.items) (else_of (option_map view_list o))) (sym c.in-None-other.is) ∙ done
