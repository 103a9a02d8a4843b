use Rattle.std.proofs.Common.{◌∙◌, ◌++◌, Ok, ap, option_map}
use Rattle.std.proofs.lemmas.List.{append-nil}
use Rattle.raw_trees.specs.Plain.{else_of}
use Rattle.raw_trees.specs.Views.{view_list}
use Rattle.stmt_types.specs.Labels.{labels_in_else}
use Rattle.expr_types.proofs.Shapes.{along}
use Rattle.stmt_types.proofs.Forms.{for_labels, if_labels, test_labels, while_labels}
use Rattle.stmt_types.proofs.all_labels.+labels.Goals as goal

pub push_stmt-returns-in-Some : goal.push_stmt-returns-in-Some
push_stmt-returns-in-Some t c =
    let before = c.args.labels.now in
    let done = c.loop-arm.labels in
    let whole = if_labels c.args.raw.now before done c.in-If.arms c.in-If.other c.deref-arm-items.result.now c.loop-arm.arm-index c.in-If.is c.deref-arm-items.ensures.value c.loop-arm-test.false c.loop-arm.invariant in
    along _ c.push_list-in-Some.result _ _ (ap Ok (whole ∙ ap (λ o. done ++ labels_in_else (else_of (option_map view_list o))) c.in-Some.is)) c.push_list-in-Some.ensures

pub push_stmt-returns-in-None : goal.push_stmt-returns-in-None
push_stmt-returns-in-None t c =
    let before = c.args.labels.now in
    let done = c.loop-arm.labels in
    let whole = if_labels c.args.raw.now before done c.in-If.arms c.in-If.other c.deref-arm-items.result.now c.loop-arm.arm-index c.in-If.is c.deref-arm-items.ensures.value c.loop-arm-test.false c.loop-arm.invariant in
    ap Ok (whole ∙ ap (λ o. done ++ labels_in_else (else_of (option_map view_list o))) c.in-None.is ∙ append-nil done)

pub push_stmt-returns-in-For : goal.push_stmt-returns-in-For
push_stmt-returns-in-For t c =
    along _ c.push_list-in-For.result _ _ (ap (λ xs. Ok (c.args.labels.now ++ xs)) (for_labels c.args.raw.now c.in-For.name c.in-For.bounds c.in-For.list c.in-For.is)) c.push_list-in-For.ensures

pub push_stmt-returns-in-While : goal.push_stmt-returns-in-While
push_stmt-returns-in-While t c =
    along _ c.push_list-in-While.result _ _ (ap (λ xs. Ok (c.args.labels.now ++ xs)) (while_labels c.args.raw.now c.in-While.test c.in-While.list c.in-While.is)) c.push_list-in-While.ensures

pub push_stmt-returns-in-Some-other : goal.push_stmt-returns-in-Some-other
push_stmt-returns-in-Some-other t c =
    let before = c.args.labels.now in
    let done = c.loop-case.labels in
    let whole = test_labels c.args.raw.now before done c.in-Test.value c.in-Test.cases c.in-Test.other c.deref-case-items.result.now c.loop-case.case-index c.in-Test.is c.deref-case-items.ensures.value c.loop-case-test.false c.loop-case.invariant in
    along _ c.push_list-in-Some-other.result _ _ (ap Ok (whole ∙ ap (λ o. done ++ labels_in_else (else_of (option_map view_list o))) c.in-Some-other.is)) c.push_list-in-Some-other.ensures

pub push_stmt-returns-in-None-other : goal.push_stmt-returns-in-None-other
push_stmt-returns-in-None-other t c =
    let before = c.args.labels.now in
    let done = c.loop-case.labels in
    let whole = test_labels c.args.raw.now before done c.in-Test.value c.in-Test.cases c.in-Test.other c.deref-case-items.result.now c.loop-case.case-index c.in-Test.is c.deref-case-items.ensures.value c.loop-case-test.false c.loop-case.invariant in
    ap Ok (whole ∙ ap (λ o. done ++ labels_in_else (else_of (option_map view_list o))) c.in-None-other.is ∙ append-nil done)
