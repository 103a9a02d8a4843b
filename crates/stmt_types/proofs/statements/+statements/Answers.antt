use Rattle.std.proofs.Common.{◌≡◌, ◌∙◌, ℕ, ◌+◌, List, Ok, Some, ap, drop, map, option_map, refl, subst, sym}
use Rattle.std.proofs.lemmas.List.{map_push}
use Rattle.std.specs.declared.alloc.Global.{Global}
use Rattle.std.specs.declared.vec.Vec.{Vec}
use Rattle.rapid_model.specs.declared.operator.Operator.TheVariants as operators
use Rattle.raw_trees.specs.Plain.{IfOne, arms_of as raw_arms_of, cases_of as raw_cases_of, stmts_of as raw_stmts_of}
use Rattle.raw_trees.specs.Views.{view_arm as view_raw_arm, view_case as view_raw_case, view_expr as view_raw, view_name, view_stmt as view_raw_stmt, view_stmt_form as view_raw_form}
use Rattle.raw_trees.proofs.Rows.{for_view, while_view}
use Rattle.rapid_model.specs.declared.sort.Sort.TheVariants as sorts
use Rattle.typed_trees.specs.declared.expr.Expr.{Expr}
use Rattle.typed_trees.specs.declared.stmt.Stmt.{Stmt}
use Rattle.typed_trees.specs.Plain
use Rattle.typed_trees.specs.Plain.{TypedExpr, TypedExprs, exprs_of}
use Rattle.typed_trees.specs.Views.{view_arm, view_case, view_expr, view_stmt}
use Rattle.rule_checks.specs.Checks.{◌>>=◌}
use Rattle.rule_checks.specs.TypeChecks.{Checked}
use Rattle.named_data.specs.declared.wanted.Wanted.TheVariants.{Is, Fits}
use Rattle.named_data.specs.Views.{view_site}
use Rattle.expr_types.specs.Typing.{typed, sort_of}
use Rattle.stmt_types.specs.Bodies.{Bounds, Typed, bounds, branches, case_values, choices, otherwise, stmt, stmts, with_next}
use Rattle.stmt_types.specs.Parts.{cases_in, else_in}
use Rattle.stmt_types.specs.Views.{view_around, view_body, view_bounds, view_typed_arms, view_typed_cases, view_typed_else, view_typed_list, view_typed_one}
use Rattle.expr_types.proofs.Loops.{behind, stops, then_more}
use Rattle.expr_types.proofs.Shapes.{along, exits, sort_view}
use Rattle.stmt_types.proofs.Behind.{further, stops_at}
use Rattle.stmt_types.proofs.Forms.{as_else, as_for, as_test, as_while, if_arms, if_given, if_parts, no_arms, no_cases, stmt_for, stmt_test, stmt_while, test_cases, test_given, test_parts}
use Rattle.stmt_types.proofs.Lists.{arm_front, arms_end, arms_more, case_front, cases_end, cases_more, inside, more_arms, more_cases, more_stmts, stmts_end, stmts_more, then_arms, then_cases}
use Rattle.stmt_types.proofs.statements.+statements.Goals as goal

pub stmts-returns-in_err-one : goal.stmts-returns-in_err-one
stmts-returns-in_err-one t c =
    let body = view_body c.args.body.now in
    let around = view_around c.args.around.now in
    let list = c.deref-raw-items.result.now in
    let i = c.loop-raw.raw-index in
    let number = c.loop-raw.number in
    let front = c.loop-raw.done.items in
    let whole = c.loop-raw.invariant ∙ ap (λ ss. stmts body (raw_stmts_of (map view_raw_stmt ss)) around c.args.next) c.deref-raw-items.ensures.value in
    exits view_typed_list c.from_residual-in_err-one.result c.in_err-one.field-0.0 _ c.from_residual-in_err-one.ensures.1
    (stops_at more_stmts (map view_stmt front) (stmts body (raw_stmts_of (map view_raw_stmt (drop i list))) around number) (stmt body (view_raw_stmt c.raw-item.result) around number)
    (λ x. then_more more_stmts x.tree (stmts body (raw_stmts_of (map view_raw_stmt (drop (i + 1) list))) around x.next)) _ c.in_err-one.field-0.0 whole
    (stmts_more body around list i number c.raw-item.result c.loop-raw-test.true c.raw-item.is) c.in_err-one.ensures)

pub stmts-loop-raw-preserved : goal.stmts-loop-raw-preserved
stmts-loop-raw-preserved t c =
    let body = view_body c.args.body.now in
    let around = view_around c.args.around.now in
    let list = c.deref-raw-items.result.now in
    let i = c.loop-raw.raw-index in
    let number = c.loop-raw.number in
    let front = c.loop-raw.done.items in
    let one = c.in_ok-one.one in
    let rest : Checked (Typed Plain.TypedStmts) = stmts body (raw_stmts_of (map view_raw_stmt (drop (i + 1) list))) around one.next in
    subst (λ (done : List Stmt). behind more_stmts (map view_stmt done) rest ≡ stmts body (raw_stmts_of (map view_raw_stmt list)) around c.args.next) (sym c.in_ok-push.ensures.items)
    (ap (λ done. behind more_stmts done rest) (map_push view_stmt front one.stmt)
    ∙ further more_stmts (map view_stmt front) (view_stmt one.stmt) (stmts body (raw_stmts_of (map view_raw_stmt (drop i list))) around number) rest _ c.loop-raw.invariant
    (stmts_more body around list i number c.raw-item.result c.loop-raw-test.true c.raw-item.is
    ∙ ap (λ (r : Checked (Typed Plain.TypedStmt)). r >>= (λ x. then_more more_stmts x.tree (stmts body (raw_stmts_of (map view_raw_stmt (drop (i + 1) list))) around x.next))) c.in_ok-one.ensures))

pub stmts-returns : goal.stmts-returns
stmts-returns t c =
    let body = view_body c.args.body.now in
    let around = view_around c.args.around.now in
    ap (λ ss. stmts body (raw_stmts_of (map view_raw_stmt ss)) around c.args.next) (sym c.deref-raw-items.ensures.value) ∙ sym c.loop-raw.invariant
    ∙ stmts_end body around c.deref-raw-items.result.now c.loop-raw.raw-index c.loop-raw.number (map view_stmt c.loop-raw.done.items) c.loop-raw-test.false

pub branches-returns-in_default : goal.branches-returns-in_default
unfolding branches
branches-returns-in_default t c =
    let body = view_body c.args.body.now in
    let around = view_around c.args.around.now in
    let raw = c.args.raw.now in
    ap (λ arms. branches body arms (view_site c.args.site.now) around c.args.next) (no_arms raw.at raw.form c.in_default.not-If)
    ∙ ap (λ arms. Ok (record { tree = Plain.arms_of (map view_arm arms); next = c.args.next })) (sym c.new-none.ensures.items)

pub branches-returns-in_err-value : goal.branches-returns-in_err-value
branches-returns-in_err-value t c =
    let body = view_body c.args.body.now in
    let around = view_around c.args.around.now in
    let site = view_site c.args.site.now in
    let list = c.deref-test-items.result.now in
    let i = c.loop-test.test-index in
    let number = c.loop-test.number in
    let front = c.loop-test.done.items in
    let item = c.loop-test-item.result in
    let rest : ℕ → Checked (Typed Plain.TypedArms) = λ n. branches body (raw_arms_of (map view_raw_arm (drop (i + 1) list))) site around n in
    let here : Checked (Typed Plain.TypedArms) = branches body (raw_arms_of (map view_raw_arm (drop i list))) site around number in
    let more = arms_more body around site list i number item c.loop-test-test.true c.loop-test-item.is in
    let whole = c.loop-test.invariant ∙ ap (λ arms. branches body (raw_arms_of (map view_raw_arm arms)) site around c.args.next) c.deref-test-items.ensures.value
    ∙ ap (λ arms. branches body arms site around c.args.next) (sym (if_arms c.args.raw.now c.in-If.arms c.in-If.other c.in-If.is)) in
    exits view_typed_arms c.from_residual-in_err-value.result c.in_err-value.field-0.0 _ c.from_residual-in_err-value.ensures.1
    (stops_at more_arms (map arm_front front) here (typed site (view_raw item.0) (Is sorts.Bool)) (λ t. inside body around item.1 number >>= then_arms rest t) _ c.in_err-value.field-0.0 whole more c.in_err-value.ensures)

pub branches-returns-in_err-inside : goal.branches-returns-in_err-inside
branches-returns-in_err-inside t c =
    let body = view_body c.args.body.now in
    let around = view_around c.args.around.now in
    let site = view_site c.args.site.now in
    let list = c.deref-test-items.result.now in
    let i = c.loop-test.test-index in
    let number = c.loop-test.number in
    let front = c.loop-test.done.items in
    let item = c.loop-test-item.result in
    let rest : ℕ → Checked (Typed Plain.TypedArms) = λ n. branches body (raw_arms_of (map view_raw_arm (drop (i + 1) list))) site around n in
    let here : Checked (Typed Plain.TypedArms) = branches body (raw_arms_of (map view_raw_arm (drop i list))) site around number in
    let more = arms_more body around site list i number item c.loop-test-test.true c.loop-test-item.is in
    let whole = c.loop-test.invariant ∙ ap (λ arms. branches body (raw_arms_of (map view_raw_arm arms)) site around c.args.next) c.deref-test-items.ensures.value
    ∙ ap (λ arms. branches body arms site around c.args.next) (sym (if_arms c.args.raw.now c.in-If.arms c.in-If.other c.in-If.is)) in
    exits view_typed_arms c.from_residual-in_err-inside.result c.in_err-inside.field-0.0 _ c.from_residual-in_err-inside.ensures.1
    (stops_at more_arms (map arm_front front) here (inside body around item.1 number) (then_arms rest (view_expr c.in_ok-value.value)) _ c.in_err-inside.field-0.0 whole
    (more ∙ ap (λ (r : Checked TypedExpr). r >>= (λ t. inside body around item.1 number >>= then_arms rest t)) c.in_ok-value.ensures) c.in_err-inside.ensures)

pub branches-loop-test-preserved : goal.branches-loop-test-preserved
branches-loop-test-preserved t c =
    let body = view_body c.args.body.now in
    let around = view_around c.args.around.now in
    let site = view_site c.args.site.now in
    let list = c.deref-test-items.result.now in
    let i = c.loop-test.test-index in
    let number = c.loop-test.number in
    let front = c.loop-test.done.items in
    let item = c.loop-test-item.result in
    let rest : ℕ → Checked (Typed Plain.TypedArms) = λ n. branches body (raw_arms_of (map view_raw_arm (drop (i + 1) list))) site around n in
    let here : Checked (Typed Plain.TypedArms) = branches body (raw_arms_of (map view_raw_arm (drop i list))) site around number in
    let more = arms_more body around site list i number item c.loop-test-test.true c.loop-test-item.is in
    let value = c.in_ok-value.value in
    let typed_list = c.in_ok-inside.inside in
    subst (λ (done : List (Expr × Vec Stmt Global)). behind more_arms (map arm_front done) (rest typed_list.next) ≡ branches body (raw_arms_of (map view_raw_arm list)) site around c.args.next) (sym c.in_ok-push.ensures.items)
    (ap (λ done. behind more_arms done (rest typed_list.next)) (map_push arm_front front (value, typed_list.list))
    ∙ further more_arms (map arm_front front) (arm_front (value, typed_list.list)) here (rest typed_list.next) _ c.loop-test.invariant
    (more ∙ ap (λ (r : Checked TypedExpr). r >>= (λ t. inside body around item.1 number >>= then_arms rest t)) c.in_ok-value.ensures
    ∙ ap (λ (r : Checked (Typed Plain.TypedStmts)). r >>= then_arms rest (view_expr value)) c.in_ok-inside.ensures))

pub branches-returns : goal.branches-returns
branches-returns t c =
    let body = view_body c.args.body.now in
    let around = view_around c.args.around.now in
    let site = view_site c.args.site.now in
    ap (λ arms. branches body arms site around c.args.next) (if_arms c.args.raw.now c.in-If.arms c.in-If.other c.in-If.is)
    ∙ ap (λ arms. branches body (raw_arms_of (map view_raw_arm arms)) site around c.args.next) (sym c.deref-test-items.ensures.value) ∙ sym c.loop-test.invariant
    ∙ arms_end body around site c.deref-test-items.result.now c.loop-test.test-index c.loop-test.number c.loop-test.done.items c.loop-test-test.false

pub choices-returns-in_default : goal.choices-returns-in_default
unfolding choices
choices-returns-in_default t c =
    let body = view_body c.args.body.now in
    let around = view_around c.args.around.now in
    let raw = c.args.raw.now in
    ap (λ cases. choices body cases (view_site c.args.site.now) c.args.sort around c.args.next) (no_cases raw.at raw.form c.in_default.not-Test)
    ∙ ap (λ cases. Ok (record { tree = Plain.cases_of (map view_case cases); next = c.args.next })) (sym c.new-none.ensures.items)

pub choices-returns-in_err-values : goal.choices-returns-in_err-values
choices-returns-in_err-values t c =
    let body = view_body c.args.body.now in
    let around = view_around c.args.around.now in
    let site = view_site c.args.site.now in
    let sort = c.args.sort in
    let list = c.deref-values-items.result.now in
    let i = c.loop-values.values-index in
    let number = c.loop-values.number in
    let front = c.loop-values.done.items in
    let item = c.loop-values-item.result in
    let rest : ℕ → Checked (Typed Plain.TypedCases) = λ n. choices body (raw_cases_of (map view_raw_case (drop (i + 1) list))) site sort around n in
    let here : Checked (Typed Plain.TypedCases) = choices body (raw_cases_of (map view_raw_case (drop i list))) site sort around number in
    let then_list : TypedExprs → Checked (Typed Plain.TypedCases) = λ vs. inside body around item.1 number >>= then_cases rest vs in
    let more = cases_more body around site sort list i number item c.loop-values-test.true c.loop-values-item.is
    ∙ ap (λ es. case_values site sort (map view_raw es) >>= then_list) (sym c.deref.ensures.value) in
    let whole = c.loop-values.invariant ∙ ap (λ cs. choices body (raw_cases_of (map view_raw_case cs)) site sort around c.args.next) c.deref-values-items.ensures.value
    ∙ ap (λ cs. choices body cs site sort around c.args.next) (sym (test_cases c.args.raw.now c.in-Test.value c.in-Test.cases c.in-Test.other c.in-Test.is)) in
    exits view_typed_cases c.from_residual-in_err-values.result c.in_err-values.field-0.0 _ c.from_residual-in_err-values.ensures.1
    (stops_at more_cases (map case_front front) here (case_values site sort (map view_raw c.deref.result.now)) then_list _ c.in_err-values.field-0.0 whole more c.in_err-values.ensures)

pub choices-returns-in_err-inside : goal.choices-returns-in_err-inside
choices-returns-in_err-inside t c =
    let body = view_body c.args.body.now in
    let around = view_around c.args.around.now in
    let site = view_site c.args.site.now in
    let sort = c.args.sort in
    let list = c.deref-values-items.result.now in
    let i = c.loop-values.values-index in
    let number = c.loop-values.number in
    let front = c.loop-values.done.items in
    let item = c.loop-values-item.result in
    let rest : ℕ → Checked (Typed Plain.TypedCases) = λ n. choices body (raw_cases_of (map view_raw_case (drop (i + 1) list))) site sort around n in
    let here : Checked (Typed Plain.TypedCases) = choices body (raw_cases_of (map view_raw_case (drop i list))) site sort around number in
    let then_list : TypedExprs → Checked (Typed Plain.TypedCases) = λ vs. inside body around item.1 number >>= then_cases rest vs in
    let more = cases_more body around site sort list i number item c.loop-values-test.true c.loop-values-item.is
    ∙ ap (λ es. case_values site sort (map view_raw es) >>= then_list) (sym c.deref.ensures.value) in
    let whole = c.loop-values.invariant ∙ ap (λ cs. choices body (raw_cases_of (map view_raw_case cs)) site sort around c.args.next) c.deref-values-items.ensures.value
    ∙ ap (λ cs. choices body cs site sort around c.args.next) (sym (test_cases c.args.raw.now c.in-Test.value c.in-Test.cases c.in-Test.other c.in-Test.is)) in
    exits view_typed_cases c.from_residual-in_err-inside.result c.in_err-inside.field-0.0 _ c.from_residual-in_err-inside.ensures.1
    (stops_at more_cases (map case_front front) here (inside body around item.1 number) (then_cases rest (exprs_of (map view_expr c.in_ok-values.values.items))) _ c.in_err-inside.field-0.0 whole
    (more ∙ ap (λ (r : Checked TypedExprs). r >>= then_list) c.in_ok-values.ensures) c.in_err-inside.ensures)

pub choices-loop-values-preserved : goal.choices-loop-values-preserved
choices-loop-values-preserved t c =
    let body = view_body c.args.body.now in
    let around = view_around c.args.around.now in
    let site = view_site c.args.site.now in
    let sort = c.args.sort in
    let list = c.deref-values-items.result.now in
    let i = c.loop-values.values-index in
    let number = c.loop-values.number in
    let front = c.loop-values.done.items in
    let item = c.loop-values-item.result in
    let rest : ℕ → Checked (Typed Plain.TypedCases) = λ n. choices body (raw_cases_of (map view_raw_case (drop (i + 1) list))) site sort around n in
    let here : Checked (Typed Plain.TypedCases) = choices body (raw_cases_of (map view_raw_case (drop i list))) site sort around number in
    let then_list : TypedExprs → Checked (Typed Plain.TypedCases) = λ vs. inside body around item.1 number >>= then_cases rest vs in
    let more = cases_more body around site sort list i number item c.loop-values-test.true c.loop-values-item.is
    ∙ ap (λ es. case_values site sort (map view_raw es) >>= then_list) (sym c.deref.ensures.value) in
    let values = c.in_ok-values.values in
    let typed_list = c.in_ok-inside.inside in
    subst (λ (done : List (Vec Expr Global × Vec Stmt Global)). behind more_cases (map case_front done) (rest typed_list.next) ≡ choices body (raw_cases_of (map view_raw_case list)) site sort around c.args.next) (sym c.in_ok-push.ensures.items)
    (ap (λ done. behind more_cases done (rest typed_list.next)) (map_push case_front front (values, typed_list.list))
    ∙ further more_cases (map case_front front) (case_front (values, typed_list.list)) here (rest typed_list.next) _ c.loop-values.invariant
    (more ∙ ap (λ (r : Checked TypedExprs). r >>= then_list) c.in_ok-values.ensures
    ∙ ap (λ (r : Checked (Typed Plain.TypedStmts)). r >>= then_cases rest (exprs_of (map view_expr values.items))) c.in_ok-inside.ensures))

pub choices-returns : goal.choices-returns
choices-returns t c =
    let body = view_body c.args.body.now in
    let around = view_around c.args.around.now in
    let site = view_site c.args.site.now in
    ap (λ cs. choices body cs site c.args.sort around c.args.next) (test_cases c.args.raw.now c.in-Test.value c.in-Test.cases c.in-Test.other c.in-Test.is)
    ∙ ap (λ cs. choices body (raw_cases_of (map view_raw_case cs)) site c.args.sort around c.args.next) (sym c.deref-values-items.ensures.value) ∙ sym c.loop-values.invariant
    ∙ cases_end body around site c.args.sort c.deref-values-items.result.now c.loop-values.values-index c.loop-values.number c.loop-values.done.items c.loop-values-test.false

pub stmt-returns-in-If : goal.stmt-returns-in-If
stmt-returns-in-If t c =
    let raw = c.args.raw.now in
    along view_typed_one c.branched.result _ _ (ap (λ s. stmt (view_body c.args.body.now) s (view_around c.args.around.now) c.args.next) (if_parts raw c.in-If.arms c.in-If.other c.in-If.is)) c.branched.ensures

pub stmt-returns-in-IfOne : goal.stmt-returns-in-IfOne
stmt-returns-in-IfOne t c =
    let body = view_body c.args.body.now in
    let around = view_around c.args.around.now in
    let at = c.args.raw.now.at in
    along view_typed_one c.branched_one.result _ _
    (ap (λ form. stmt body (view_raw_form at form) around c.args.next) c.in-IfOne.is ∙ ap (λ then. stmt body (IfOne at (view_raw c.in-IfOne.test) (view_raw_stmt then)) around c.args.next) (sym c.deref.ensures)) c.branched_one.ensures

pub stmt-returns-in-For : goal.stmt-returns-in-For
stmt-returns-in-For t c =
    let raw = c.args.raw.now in
    let is = ap (view_raw_form raw.at) c.in-For.is ∙ for_view raw.at c.in-For.name c.in-For.bounds c.in-For.list in
    along view_typed_one c.counted.result _ _ (ap (λ s. stmt (view_body c.args.body.now) s (view_around c.args.around.now) c.args.next) is) (c.counted.ensures (view_name c.in-For.name))

pub stmt-returns-in-While : goal.stmt-returns-in-While
stmt-returns-in-While t c =
    let raw = c.args.raw.now in
    let is = ap (view_raw_form raw.at) c.in-While.is ∙ while_view raw.at c.in-While.test c.in-While.list in
    along view_typed_one c.repeated.result _ _ (ap (λ s. stmt (view_body c.args.body.now) s (view_around c.args.around.now) c.args.next) is) c.repeated.ensures

pub stmt-returns-in-Test : goal.stmt-returns-in-Test
stmt-returns-in-Test t c =
    let raw = c.args.raw.now in
    along view_typed_one c.tested.result _ _ (ap (λ s. stmt (view_body c.args.body.now) s (view_around c.args.around.now) c.args.next) (test_parts raw c.in-Test.value c.in-Test.cases c.in-Test.other c.in-Test.is)) c.tested.ensures

pub counted-returns-in_err-list : goal.counted-returns-in_err-list
counted-returns-in_err-list t c = λ name.
    let body = view_body c.args.body.now in
    let around = view_around c.args.around.now in
    let at = c.args.at in
    let next = c.args.next in
    let raw = c.args.bounds.now.value in
    let list = c.args.list.now in
    let b = view_bounds c.in_ok-bounds.bounds in
    let behind_number : next + 1 ≡ c.in_ok-number_after.field-0 = sym c.in_ok-number_after.ensures.ok in
    let found = stmt_for body around next at name (view_raw raw.first) (view_raw raw.last) (option_map view_raw raw.step) list
    ∙ ap (λ there. bounds there (view_raw raw.first) (view_raw raw.last) (option_map view_raw raw.step) >>= (λ b. inside body (record around { within = Some next }) list (next + 1) >>= as_for body at next b)) (sym c.site_at-site.ensures)
    ∙ ap (λ (r : Checked Bounds). r >>= (λ b. inside body (record around { within = Some next }) list (next + 1) >>= as_for body at next b)) c.in_ok-bounds.ensures
    ∙ ap (λ n. inside body (record around { within = Some next }) list n >>= as_for body at next b) behind_number
    ∙ ap (λ a. inside body a list c.in_ok-number_after.field-0 >>= as_for body at next b) (sym c.in_loop.ensures) in
    exits view_typed_one c.from_residual-in_err-list.result c.in_err-list.field-0.0 _ c.from_residual-in_err-list.ensures.1
    (stops (λ (r : Checked (Typed Plain.TypedStmts)). r >>= as_for body at next b) (λ b. refl) c.in_err-list.field-0.0 (inside body (view_around c.in_loop.result) list c.in_ok-number_after.field-0) _ found c.in_err-list.ensures)

pub repeated-returns-in_err-list : goal.repeated-returns-in_err-list
repeated-returns-in_err-list t c =
    let body = view_body c.args.body.now in
    let around = view_around c.args.around.now in
    let at = c.args.at in
    let next = c.args.next in
    let list = c.args.list.now in
    let test = view_expr c.in_ok-test.test in
    let found = stmt_while body around next at (view_raw c.args.test.now) list
    ∙ ap (λ there. typed there (view_raw c.args.test.now) (Is sorts.Bool) >>= (λ t. inside body around list next >>= as_while at t)) (sym c.site_at-site.ensures)
    ∙ ap (λ (r : Checked TypedExpr). r >>= (λ t. inside body around list next >>= as_while at t)) c.in_ok-test.ensures in
    exits view_typed_one c.from_residual-in_err-list.result c.in_err-list.field-0.0 _ c.from_residual-in_err-list.ensures.1
    (stops (λ (r : Checked (Typed Plain.TypedStmts)). r >>= as_while at test) (λ b. refl) c.in_err-list.field-0.0 (inside body around list next) _ found c.in_err-list.ensures)

pub tested-returns-in_err-cases : goal.tested-returns-in_err-cases
tested-returns-in_err-cases t c =
    let body = view_body c.args.body.now in
    let around = view_around c.args.around.now in
    let at = c.args.raw.now.at in
    let plain_cases = cases_in (view_raw_stmt c.args.raw.now) in
    let plain_else = else_in (view_raw_stmt c.args.raw.now) in
    let next = c.args.next in
    let there = view_site c.site_at-site.result in
    let value = c.in_ok-value.value in
    let tree = view_expr value in
    let then_else : TypedExpr → Typed Plain.TypedCases → Checked (Typed Plain.TypedStmt) = λ t cs. otherwise body plain_else around cs.next >>= as_test at t cs in
    let found = stmt_test body around next at (view_raw c.args.value.now) plain_cases plain_else
    ∙ ap (λ w. typed w (view_raw c.args.value.now) (Fits operators.Equal) >>= (λ t. choices body plain_cases w (sort_of t) around next >>= then_else t)) (sym c.site_at-site.ensures)
    ∙ ap (λ (r : Checked TypedExpr). r >>= (λ t. choices body plain_cases there (sort_of t) around next >>= then_else t)) c.in_ok-value.ensures
    ∙ ap (λ sort. choices body plain_cases there sort around next >>= then_else tree) (sort_view value.at value.sort value.form) in
    exits view_typed_one c.from_residual-in_err-cases.result c.in_err-cases.field-0.0 _ c.from_residual-in_err-cases.ensures.1
    (stops (λ (r : Checked (Typed Plain.TypedCases)). r >>= then_else tree) (λ b. refl) c.in_err-cases.field-0.0 (choices body plain_cases there value.sort around next) _ found c.in_err-cases.ensures)

pub tested-returns-in_err-other : goal.tested-returns-in_err-other
tested-returns-in_err-other t c =
    let body = view_body c.args.body.now in
    let around = view_around c.args.around.now in
    let at = c.args.raw.now.at in
    let plain_cases = cases_in (view_raw_stmt c.args.raw.now) in
    let plain_else = else_in (view_raw_stmt c.args.raw.now) in
    let next = c.args.next in
    let there = view_site c.site_at-site.result in
    let value = c.in_ok-value.value in
    let tree = view_expr value in
    let then_else : TypedExpr → Typed Plain.TypedCases → Checked (Typed Plain.TypedStmt) = λ t cs. otherwise body plain_else around cs.next >>= as_test at t cs in
    let found = stmt_test body around next at (view_raw c.args.value.now) plain_cases plain_else
    ∙ ap (λ w. typed w (view_raw c.args.value.now) (Fits operators.Equal) >>= (λ t. choices body plain_cases w (sort_of t) around next >>= then_else t)) (sym c.site_at-site.ensures)
    ∙ ap (λ (r : Checked TypedExpr). r >>= (λ t. choices body plain_cases there (sort_of t) around next >>= then_else t)) c.in_ok-value.ensures
    ∙ ap (λ sort. choices body plain_cases there sort around next >>= then_else tree) (sort_view value.at value.sort value.form) in
    let cases = view_typed_cases c.in_ok-cases.cases in
    exits view_typed_one c.from_residual-in_err-other.result c.in_err-other.field-0.0 _ c.from_residual-in_err-other.ensures.1
    (stops (λ (r : Checked (Typed Plain.TypedElse)). r >>= as_test at tree cases) (λ b. refl) c.in_err-other.field-0.0 (otherwise body plain_else around cases.next) _
    (found ∙ ap (λ (r : Checked (Typed Plain.TypedCases)). r >>= then_else tree) c.in_ok-cases.ensures) c.in_err-other.ensures)

pub tested-returns : goal.tested-returns
tested-returns t c =
    let body = view_body c.args.body.now in
    let around = view_around c.args.around.now in
    let at = c.args.raw.now.at in
    let plain_cases = cases_in (view_raw_stmt c.args.raw.now) in
    let plain_else = else_in (view_raw_stmt c.args.raw.now) in
    let next = c.args.next in
    let there = view_site c.site_at-site.result in
    let value = c.in_ok-value.value in
    let tree = view_expr value in
    let then_else : TypedExpr → Typed Plain.TypedCases → Checked (Typed Plain.TypedStmt) = λ t cs. otherwise body plain_else around cs.next >>= as_test at t cs in
    let found = stmt_test body around next at (view_raw c.args.value.now) plain_cases plain_else
    ∙ ap (λ w. typed w (view_raw c.args.value.now) (Fits operators.Equal) >>= (λ t. choices body plain_cases w (sort_of t) around next >>= then_else t)) (sym c.site_at-site.ensures)
    ∙ ap (λ (r : Checked TypedExpr). r >>= (λ t. choices body plain_cases there (sort_of t) around next >>= then_else t)) c.in_ok-value.ensures
    ∙ ap (λ sort. choices body plain_cases there sort around next >>= then_else tree) (sort_view value.at value.sort value.form) in
    let cases = view_typed_cases c.in_ok-cases.cases in
    found ∙ ap (λ (r : Checked (Typed Plain.TypedCases)). r >>= then_else tree) c.in_ok-cases.ensures
    ∙ ap (λ (r : Checked (Typed Plain.TypedElse)). r >>= as_test at tree cases) c.in_ok-other.ensures
    ∙ ap (λ tree. Ok (with_next c.in_ok-other.other.next tree)) (sym c.test-tree.ensures) ∙ ap Ok (sym c.with_next.ensures)

pub otherwise-returns-in_err-inner-in-Some : goal.otherwise-returns-in_err-inner-in-Some
otherwise-returns-in_err-inner-in-Some t c =
    let body = view_body c.args.body.now in
    let around = view_around c.args.around.now in
    let raw = c.args.raw.now in
    exits view_typed_else c.from_residual.result c.in_err-inner-in-Some.field-0.0 _ c.from_residual.ensures.1
    (stops (λ (r : Checked (Typed Plain.TypedStmts)). r >>= as_else) (λ b. refl) c.in_err-inner-in-Some.field-0.0 (inside body around c.in-Some.list c.args.next) _
    (if_given body raw around c.args.next c.in-If.arms c.in-If.other c.in-Some.list c.in-If.is c.in-Some.is) c.in_err-inner-in-Some.ensures)

pub otherwise-returns-in_ok-inner-in-Some : goal.otherwise-returns-in_ok-inner-in-Some
otherwise-returns-in_ok-inner-in-Some t c =
    let body = view_body c.args.body.now in
    let around = view_around c.args.around.now in
    let raw = c.args.raw.now in
    if_given body raw around c.args.next c.in-If.arms c.in-If.other c.in-Some.list c.in-If.is c.in-Some.is
    ∙ ap (λ (r : Checked (Typed Plain.TypedStmts)). r >>= as_else) c.in_ok-inner-in-Some.ensures ∙ ap Ok (sym c.given.ensures)

pub otherwise-returns-in_err-inner-in-Some-other : goal.otherwise-returns-in_err-inner-in-Some-other
otherwise-returns-in_err-inner-in-Some-other t c =
    let body = view_body c.args.body.now in
    let around = view_around c.args.around.now in
    let raw = c.args.raw.now in
    exits view_typed_else c.from_residual-in_err-inner-in-Some-other.result c.in_err-inner-in-Some-other.field-0.0 _ c.from_residual-in_err-inner-in-Some-other.ensures.1
    (stops (λ (r : Checked (Typed Plain.TypedStmts)). r >>= as_else) (λ b. refl) c.in_err-inner-in-Some-other.field-0.0 (inside body around c.in-Some-other.list c.args.next) _
    (test_given body raw around c.args.next c.in-Test.value c.in-Test.cases c.in-Test.other c.in-Some-other.list c.in-Test.is c.in-Some-other.is) c.in_err-inner-in-Some-other.ensures)

pub otherwise-returns-in_ok-inner-in-Some-other : goal.otherwise-returns-in_ok-inner-in-Some-other
otherwise-returns-in_ok-inner-in-Some-other t c =
    let body = view_body c.args.body.now in
    let around = view_around c.args.around.now in
    let raw = c.args.raw.now in
    test_given body raw around c.args.next c.in-Test.value c.in-Test.cases c.in-Test.other c.in-Some-other.list c.in-Test.is c.in-Some-other.is
    ∙ ap (λ (r : Checked (Typed Plain.TypedStmts)). r >>= as_else) c.in_ok-inner-in-Some-other.ensures ∙ ap Ok (sym c.given-in-Some-other.ensures)
