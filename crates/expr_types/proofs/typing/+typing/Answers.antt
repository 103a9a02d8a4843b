use Rattle.std.proofs.Common.{◌≡◌, ◌∙◌, ◌+◌, List, [], ◌∷◌, ◌++◌, Ok, ap, arith, drop, false, refl, length, map, subst, sym, true}
use Rattle.raw_trees.specs.Plain.{Group, Not, Signed, args_of as raw_args_of, exprs_of as raw_exprs_of, steps_of as raw_steps_of}
use Rattle.raw_trees.specs.Views.{view_arg as view_raw_arg, view_expr as view_raw, view_form, view_name, view_step as view_raw_step}
use Rattle.rapid_model.specs.declared.operator.Operator.{Operator}
use Rattle.typed_trees.specs.declared.expr.Arg.{Arg}
use Rattle.typed_trees.specs.declared.expr.Expr.{Expr}
use Rattle.rule_checks.specs.TypeChecks.{Fails, Checked}
use Rattle.typed_trees.specs.Plain
use Rattle.typed_trees.specs.Plain.{MoreArgs, MoreExprs, TypedArgs, TypedArg, TypedExpr, TypedExprs, args_of, exprs_of}
use Rattle.typed_trees.specs.Views.{view_arg, view_expr, view_step}
use Rattle.rule_checks.specs.declared.rule.TypeRule.TheVariants.{ArgName, BadRef, TypeClash}
use Rattle.rule_checks.specs.Checks.{◌>>=◌, must}
use Rattle.data_scopes.specs.Rows.{begin_of}
use Rattle.named_data.specs.declared.wanted.Wanted.TheVariants.{Any, Nothing}
use Rattle.named_data.specs.Data.{NamedPart, given, named}
use Rattle.named_data.specs.Rules.{fail, at_byte}
use Rattle.named_data.specs.Views.{view_site}
use Rattle.named_data.specs.Wants.{clash, first_operand, fits, needed_components, of_component}
use Rattle.expr_types.specs.Arguments.{argument, is_whole, lent_as, lent_of, lent_whole, meeting_meant, signal_meant}
use Rattle.expr_types.specs.Calls.{Called, after, needed_by, option_with, taking}
use Rattle.expr_types.specs.Places.{no_meeting, place_in}
use Rattle.expr_types.specs.Typing.{TypedRest, aggregate, arguments, call, elements, index_in, sort_of, steps, typed}
use Rattle.expr_types.specs.Views.{view_called, view_chain, view_part, view_signature, view_taking}
use Rattle.expr_types.proofs.Loops.{arguments_end, arguments_step, arguments_stop, behind, more_steps, elements_end, elements_step, elements_stop, steps_clash, steps_end, steps_step, steps_stop, stops}
use Rattle.expr_types.proofs.Shapes.{aggregate_form, along, argument_by_reference, argument_of_array, argument_of_sort, breaks, by_name, call_form, chain_after, chain_form, exits, meeting_by, needed_argument, needed_by_first, needed_by_none, optional_argument, pers_name_by, signal_by, typed_aggregate, typed_call, typed_chain, valued_argument, valued_from}
use Rattle.expr_types.proofs.typing.+typing.Goals as goal

pub argument-returns-in_err-place-in-Var : goal.argument-returns-in_err-place-in-Var
argument-returns-in_err-place-in-Var t c =
    let site = view_site c.args.site.now in
    let e = view_raw c.args.raw.now in
    exits view_arg c.from_residual-in_err-place-in-Var.result c.in_err-place-in-Var.field-0.0 (argument site c.args.need e (typed site e) (index_in site e)) c.from_residual-in_err-place-in-Var.ensures.1
    (stops (λ (r : Checked NamedPart). r >>= (λ p. lent_as site c.args.need (begin_of e) p)) (λ b. refl) c.in_err-place-in-Var.field-0.0 (place_in site false c.referred.result BadRef e) (argument site c.args.need e (typed site e) (index_in site e))
    (argument_by_reference site c.args.need e c.in-Var.is ∙ ap (λ want. place_in site false want BadRef e >>= (λ p. lent_as site c.args.need (begin_of e) p)) (sym c.referred.ensures)) c.in_err-place-in-Var.ensures)

pub argument-returns-in_ok-place-in-Var : goal.argument-returns-in_ok-place-in-Var
argument-returns-in_ok-place-in-Var t c =
    let site = view_site c.args.site.now in
    let e = view_raw c.args.raw.now in
    along view_arg c.lent_as.result _ _ (argument_by_reference site c.args.need e c.in-Var.is ∙ ap (λ want. place_in site false want BadRef e >>= (λ p. lent_as site c.args.need (begin_of e) p)) (sym c.referred.ensures) ∙ ap (λ r. r >>= (λ p. lent_as site c.args.need (begin_of e) p)) c.in_ok-place-in-Var.ensures ∙ ap (λ at. lent_as site c.args.need at (view_part c.in_ok-place-in-Var.place)) (sym c.begin_of-at.ensures)) c.lent_as.ensures

pub argument-returns-in_err-place-in-Place : goal.argument-returns-in_err-place-in-Place
argument-returns-in_err-place-in-Place t c =
    let site = view_site c.args.site.now in
    let e = view_raw c.args.raw.now in
    exits view_arg c.from_residual-in_err-place-in-Place.result c.in_err-place-in-Place.field-0.0 (argument site c.args.need e (typed site e) (index_in site e)) c.from_residual-in_err-place-in-Place.ensures.1
    (stops (λ (r : Checked NamedPart). r >>= (λ p. lent_of site c.in-Place.sort (begin_of e) p)) (λ b. refl) c.in_err-place-in-Place.field-0.0 (place_in site false Nothing TypeClash e) (argument site c.args.need e (typed site e) (index_in site e)) (argument_of_sort site c.args.need c.in-Place.sort e c.in-Place.is) c.in_err-place-in-Place.ensures)

pub argument-returns-in_ok-place-in-Place : goal.argument-returns-in_ok-place-in-Place
argument-returns-in_ok-place-in-Place t c =
    let site = view_site c.args.site.now in
    let e = view_raw c.args.raw.now in
    along view_arg c.lent_of.result _ _ (argument_of_sort site c.args.need c.in-Place.sort e c.in-Place.is ∙ ap (λ r. r >>= (λ p. lent_of site c.in-Place.sort (begin_of e) p)) c.in_ok-place-in-Place.ensures ∙ ap (λ at. lent_of site c.in-Place.sort at (view_part c.in_ok-place-in-Place.place)) (sym c.begin_of-at.ensures)) c.lent_of.ensures

pub argument-returns-in_err-place-in-Array : goal.argument-returns-in_err-place-in-Array
argument-returns-in_err-place-in-Array t c =
    let site = view_site c.args.site.now in
    let e = view_raw c.args.raw.now in
    exits view_arg c.from_residual-in_err-place-in-Array.result c.in_err-place-in-Array.field-0.0 (argument site c.args.need e (typed site e) (index_in site e)) c.from_residual-in_err-place-in-Array.ensures.1
    (stops (λ (r : Checked NamedPart). r >>= (λ p. lent_whole site c.args.need (begin_of e) (is_whole e) p)) (λ b. refl) c.in_err-place-in-Array.field-0.0 (place_in site true Nothing TypeClash e) (argument site c.args.need e (typed site e) (index_in site e)) (argument_of_array site c.args.need e c.in-Array.is) c.in_err-place-in-Array.ensures)

pub argument-returns-in_ok-place-in-Array : goal.argument-returns-in_ok-place-in-Array
argument-returns-in_ok-place-in-Array t c =
    let site = view_site c.args.site.now in
    let e = view_raw c.args.raw.now in
    along view_arg c.lent_whole.result _ _ (argument_of_array site c.args.need e c.in-Array.is ∙ ap (λ r. r >>= (λ p. lent_whole site c.args.need (begin_of e) (is_whole e) p)) c.in_ok-place-in-Array.ensures ∙ ap (λ at. lent_whole site c.args.need at (is_whole e) (view_part c.in_ok-place-in-Array.place)) (sym c.begin_of-at.ensures) ∙ ap (λ bare. lent_whole site c.args.need c.begin_of-at.result bare (view_part c.in_ok-place-in-Array.place)) (sym c.is_whole.ensures)) c.lent_whole.ensures

pub argument-returns-in-PersName : goal.argument-returns-in-PersName
argument-returns-in-PersName t c =
    let site = view_site c.args.site.now in
    let e = view_raw c.args.raw.now in
    along view_arg c.pers_name.result _ _ (ap (λ n. argument site n e (typed site e) (index_in site e)) c.in-PersName.is ∙ pers_name_by site e) c.pers_name.ensures

pub signal-returns-in-Some : goal.signal-returns-in-Some
signal-returns-in-Some t c =
    let site = view_site c.args.site.now in
    let e = view_raw c.args.raw.now in
    along view_arg c.signal_meant.result _ _ (signal_by site c.args.output e ∙ ap (λ o. by_name o (λ name. signal_meant site c.args.output (begin_of e) (named site name)) (typed site e Nothing >>= (λ t. fail site (begin_of e) TypeClash))) (sym c.in-Some.ensures)
    ∙ ap (λ at. signal_meant site c.args.output at (named site (view_name c.in-Some.name))) (sym c.begin_of.ensures) ∙ ap (λ m. signal_meant site c.args.output c.begin_of.result m) (sym c.named.ensures)) c.signal_meant.ensures

pub signal-returns-in_ok-typed-in-None : goal.signal-returns-in_ok-typed-in-None
signal-returns-in_ok-typed-in-None t c =
    let site = view_site c.args.site.now in
    let e = view_raw c.args.raw.now in
    breaks c.fault.result site c.begin_of-in-None.result TypeClash _ c.fault.ensures (signal_by site c.args.output e ∙ ap (λ o. by_name o (λ name. signal_meant site c.args.output (begin_of e) (named site name)) (typed site e Nothing >>= (λ t. fail site (begin_of e) TypeClash))) (sym c.in-None.ensures)
    ∙ ap (λ (r : Checked TypedExpr). r >>= (λ t. fail site (begin_of e) TypeClash)) c.in_ok-typed-in-None.ensures ∙ ap (λ at. fail site at TypeClash) (sym c.begin_of-in-None.ensures))

pub signal-returns-in_err-typed-in-None : goal.signal-returns-in_err-typed-in-None
signal-returns-in_err-typed-in-None t c =
    let site = view_site c.args.site.now in
    let e = view_raw c.args.raw.now in
    exits view_arg c.from_residual.result c.in_err-typed-in-None.field-0.0 _ c.from_residual.ensures.1
    (stops (λ (r : Checked TypedExpr). r >>= (λ t. fail site (begin_of e) TypeClash)) (λ b. refl) c.in_err-typed-in-None.field-0.0 (typed site e Nothing) _ (signal_by site c.args.output e ∙ ap (λ o. by_name o (λ name. signal_meant site c.args.output (begin_of e) (named site name)) (typed site e Nothing >>= (λ t. fail site (begin_of e) TypeClash))) (sym c.in-None.ensures)) c.in_err-typed-in-None.ensures)

pub meeting-returns-in-Some : goal.meeting-returns-in-Some
meeting-returns-in-Some t c =
    let site = view_site c.args.site.now in
    let e = view_raw c.args.raw.now in
    along view_arg c.meeting_meant.result _ _ (meeting_by site e ∙ ap (λ o. by_name o (λ name. meeting_meant site (begin_of e) (named site name)) (no_meeting site e)) (sym c.in-Some.ensures)
    ∙ ap (λ at. meeting_meant site at (named site (view_name c.in-Some.name))) (sym c.begin_of.ensures) ∙ ap (λ m. meeting_meant site c.begin_of.result m) (sym c.named.ensures)) c.meeting_meant.ensures

pub meeting-returns-in-None : goal.meeting-returns-in-None
meeting-returns-in-None t c =
    let site = view_site c.args.site.now in
    let e = view_raw c.args.raw.now in
    along view_arg c.no_meeting.result _ _ (meeting_by site e ∙ ap (λ o. by_name o (λ name. meeting_meant site (begin_of e) (named site name)) (no_meeting site e)) (sym c.in-None.ensures)) c.no_meeting.ensures

pub one_argument-returns-in-Some : goal.one_argument-returns-in-Some
one_argument-returns-in-Some t c =
    let site = view_site c.args.site.now in
    let left = view_taking c.args.left.now in
    let e = view_raw c.in-Needed.value in
    along view_arg c.argument.result _ _ (needed_argument site left c.args.raw.now c.in-Needed.value c.in-Needed.is ∙ needed_by_first site left.needs e (typed site e) (index_in site e) c.in-Some.need c.in-Some.ensures) c.argument.ensures

pub one_argument-returns-in_ok-typed-in-None : goal.one_argument-returns-in_ok-typed-in-None
one_argument-returns-in_ok-typed-in-None t c =
    let site = view_site c.args.site.now in
    let left = view_taking c.args.left.now in
    let e = view_raw c.in-Needed.value in
    needed_argument site left c.args.raw.now c.in-Needed.value c.in-Needed.is ∙ needed_by_none site left.needs e (typed site e) (index_in site e) c.in-None.ensures ∙ ap (λ (r : Checked TypedExpr). r >>= (λ t. Ok (Plain.Given t))) c.in_ok-typed-in-None.ensures

pub one_argument-returns-in_err-typed-in-None : goal.one_argument-returns-in_err-typed-in-None
one_argument-returns-in_err-typed-in-None t c =
    let site = view_site c.args.site.now in
    let left = view_taking c.args.left.now in
    let e = view_raw c.in-Needed.value in
    exits view_arg c.from_residual.result c.in_err-typed-in-None.field-0.0 _ c.from_residual.ensures.1
    (stops (λ (r : Checked TypedExpr). r >>= (λ t. Ok (Plain.Given t))) (λ b. refl) c.in_err-typed-in-None.field-0.0 (typed site e Any) _ (needed_argument site left c.args.raw.now c.in-Needed.value c.in-Needed.is ∙ needed_by_none site left.needs e (typed site e) (index_in site e) c.in-None.ensures) c.in_err-typed-in-None.ensures)

pub one_argument-returns-in-Some-value : goal.one_argument-returns-in-Some-value
one_argument-returns-in-Some-value t c =
    let site = view_site c.args.site.now in
    let left = view_taking c.args.left.now in
    along view_arg c.valued_option.result _ _ (optional_argument site left c.args.raw.now c.in-Option.name c.in-Option.value c.in-Option.at c.in-Some-value.value c.in-Option.is c.in-Some-value.is) c.valued_option.ensures

pub valued_option-returns-in_err-typed : goal.valued_option-returns-in_err-typed
valued_option-returns-in_err-typed t c =
    let site = view_site c.args.site.now in
    let left = view_taking c.args.left.now in
    let e = view_raw c.args.raw.now in
    exits view_arg c.from_residual.result c.in_err-typed.field-0.0 _ c.from_residual.ensures.1
    (stops (λ (r : Checked TypedExpr). r >>= (λ x. fail site c.args.at ArgName)) (λ b. refl) c.in_err-typed.field-0.0 (typed site e Any) _ (valued_argument site left c.args.at c.args.name.now e ∙ ap (λ row. valued_from site left c.args.at e (typed site e) (index_in site e) (needed_by row)) (sym c.first_named.ensures) ∙ ap (λ n. valued_from site left c.args.at e (typed site e) (index_in site e) n) (sym c.in_default.ensures)) c.in_err-typed.ensures)

pub valued_option-returns-in_default : goal.valued_option-returns-in_default
valued_option-returns-in_default t c =
    let site = view_site c.args.site.now in
    let left = view_taking c.args.left.now in
    let e = view_raw c.args.raw.now in
    breaks c.fault.result site c.args.at ArgName _ c.fault.ensures (valued_argument site left c.args.at c.args.name.now e ∙ ap (λ row. valued_from site left c.args.at e (typed site e) (index_in site e) (needed_by row)) (sym c.first_named.ensures) ∙ ap (λ n. valued_from site left c.args.at e (typed site e) (index_in site e) n) (sym c.in_default.ensures) ∙ ap (λ (r : Checked TypedExpr). r >>= (λ x. fail site c.args.at ArgName)) c.in_ok-typed.ensures)

pub valued_option-returns-in_err-value : goal.valued_option-returns-in_err-value
valued_option-returns-in_err-value t c =
    let site = view_site c.args.site.now in
    let left = view_taking c.args.left.now in
    let e = view_raw c.args.raw.now in
    exits view_arg c.from_residual-in_err-value.result c.in_err-value.field-0.0 _ c.from_residual-in_err-value.ensures.1
    (stops (λ (r : Checked TypedArg). r >>= (λ x. option_with site left c.args.at c.in-Some.name.now x)) (λ b. refl) c.in_err-value.field-0.0 (argument site c.in-Some.need e (typed site e) (index_in site e)) _ (valued_argument site left c.args.at c.args.name.now e ∙ ap (λ row. valued_from site left c.args.at e (typed site e) (index_in site e) (needed_by row)) (sym c.first_named.ensures) ∙ ap (λ n. valued_from site left c.args.at e (typed site e) (index_in site e) n) (sym c.in-Some.ensures)) c.in_err-value.ensures)

pub valued_option-returns : goal.valued_option-returns
valued_option-returns t c =
    let site = view_site c.args.site.now in
    let left = view_taking c.args.left.now in
    let e = view_raw c.args.raw.now in
    along view_arg c.option_with.result _ _ (valued_argument site left c.args.at c.args.name.now e ∙ ap (λ row. valued_from site left c.args.at e (typed site e) (index_in site e) (needed_by row)) (sym c.first_named.ensures) ∙ ap (λ n. valued_from site left c.args.at e (typed site e) (index_in site e) n) (sym c.in-Some.ensures) ∙ ap (λ (r : Checked TypedArg). r >>= (λ x. option_with site left c.args.at c.in-Some.name.now x)) c.in_ok-value.ensures) c.option_with.ensures

pub elements-returns-in_err-value : goal.elements-returns-in_err-value
elements-returns-in_err-value t c =
    let site = view_site c.args.site.now in
    let cs = needed_components c.args.want in
    let list = c.deref-element-items.result.now in
    let i = c.loop-element.element-index in
    let item = c.element-item.result in
    let front = c.loop-element.done.items in
    let count : length front ≡ c.len.result = omega arith in
    let wanted = ap (λ n. typed site (view_raw item) (of_component (drop n cs))) count ∙ ap (λ w. typed site (view_raw item) w) (sym c.element_want.ensures) in
    let whole = c.loop-element.invariant ∙ ap (λ es. elements site (raw_exprs_of (map view_raw es)) cs) c.deref-element-items.ensures.value in
    exits _ c.from_residual.result c.in_err-value.field-0.0 _ c.from_residual.ensures.1
    (elements_stop site list cs i item front c.in_err-value.field-0.0 _ c.loop-element-test.true c.element-item.is whole
    (subst (λ (r : Checked TypedExpr). Fails c.in_err-value.field-0.0 r) (sym wanted) c.in_err-value.ensures))

pub elements-loop-element-preserved : goal.elements-loop-element-preserved
elements-loop-element-preserved t c =
    let site = view_site c.args.site.now in
    let cs = needed_components c.args.want in
    let list = c.deref-element-items.result.now in
    let i = c.loop-element.element-index in
    let item = c.element-item.result in
    let front = c.loop-element.done.items in
    let count : length front ≡ c.len.result = omega arith in
    let wanted = ap (λ n. typed site (view_raw item) (of_component (drop n cs))) count ∙ ap (λ w. typed site (view_raw item) w) (sym c.element_want.ensures) in
    subst (λ (done : List Expr). behind MoreExprs (map view_expr done) (elements site (raw_exprs_of (map view_raw (drop (i + 1) list))) (drop (length done) cs)) ≡ elements site (raw_exprs_of (map view_raw list)) cs)
    (sym c.in_ok-push.ensures.items)
    (sym (elements_step site list cs i item front c.in_ok-value.value c.loop-element-test.true c.element-item.is (wanted ∙ c.in_ok-value.ensures)) ∙ c.loop-element.invariant)

pub elements-returns : goal.elements-returns
elements-returns t c =
    let site = view_site c.args.site.now in
    ap (λ list. elements site (raw_exprs_of (map view_raw list)) (needed_components c.args.want)) (sym c.deref-element-items.ensures.value) ∙ sym c.loop-element.invariant
    ∙ elements_end site c.deref-element-items.result.now (drop (length c.loop-element.done.items) (needed_components c.args.want)) c.loop-element.element-index c.loop-element.done.items c.loop-element-test.false

pub steps-returns-in_err-must : goal.steps-returns-in_err-must
steps-returns-in_err-must t c =
    let site = view_site c.args.site.now in
    let at = c.args.at in
    let list = c.deref-operator-items.result.now in
    let i = c.loop-operator.operator-index in
    let item = c.loop-operator-item.result in
    let left = c.loop-operator.sort in
    let front = c.loop-operator.steps.items in
    let holds = ap (λ fits. must fits (at_byte site at TypeClash)) (sym c.suits.ensures) in
    let whole = c.loop-operator.invariant ∙ ap (λ ss. steps site (raw_steps_of (map view_raw_step ss)) at c.args.left) c.deref-operator-items.ensures.value in
    exits view_chain c.from_residual-in_err-must.result c.in_err-must.field-0.0 _ c.from_residual-in_err-must.ensures.1
    (steps_clash site list at left i item front c.in_err-must.field-0.0 _ c.loop-operator-test.true c.loop-operator-item.is whole
    (subst (λ (r : Checked (Unit {0})). Fails c.in_err-must.field-0.0 r) (sym holds) c.in_err-must.ensures))

pub steps-returns-in_err-value : goal.steps-returns-in_err-value
steps-returns-in_err-value t c =
    let site = view_site c.args.site.now in
    let at = c.args.at in
    let list = c.deref-operator-items.result.now in
    let i = c.loop-operator.operator-index in
    let item = c.loop-operator-item.result in
    let left = c.loop-operator.sort in
    let front = c.loop-operator.steps.items in
    let holds = ap (λ fits. must fits (at_byte site at TypeClash)) (sym c.suits.ensures) in
    let whole = c.loop-operator.invariant ∙ ap (λ ss. steps site (raw_steps_of (map view_raw_step ss)) at c.args.left) c.deref-operator-items.ensures.value in
    exits view_chain c.from_residual-in_err-value.result c.in_err-value.field-0.0 _ c.from_residual-in_err-value.ensures.1
    (steps_stop site list at left i item front c.in_err-value.field-0.0 _ c.loop-operator-test.true c.loop-operator-item.is whole (holds ∙ c.in_ok-must.ensures) c.in_err-value.ensures)

pub steps-loop-operator-preserved : goal.steps-loop-operator-preserved
steps-loop-operator-preserved t c =
    let site = view_site c.args.site.now in
    let at = c.args.at in
    let list = c.deref-operator-items.result.now in
    let i = c.loop-operator.operator-index in
    let item = c.loop-operator-item.result in
    let left = c.loop-operator.sort in
    let front = c.loop-operator.steps.items in
    let holds = ap (λ fits. must fits (at_byte site at TypeClash)) (sym c.suits.ensures) in
    subst (λ (done : List (Operator × Expr)). behind more_steps (map view_step done) (steps site (raw_steps_of (map view_raw_step (drop (i + 1) list))) at c.comes_to-sort.result) ≡ steps site (raw_steps_of (map view_raw_step list)) at c.args.left)
    (sym c.in_ok-push.ensures.items)
    (ap (λ sort. behind more_steps (map view_step (front ++ (item.0, c.in_ok-value.value) ∷ [])) (steps site (raw_steps_of (map view_raw_step (drop (i + 1) list))) at sort)) c.comes_to-sort.ensures
    ∙ sym (steps_step site list at left i item front c.in_ok-value.value c.loop-operator-test.true c.loop-operator-item.is (holds ∙ c.in_ok-must.ensures) c.in_ok-value.ensures) ∙ c.loop-operator.invariant)

pub steps-returns : goal.steps-returns
steps-returns t c =
    let site = view_site c.args.site.now in
    ap (λ ss. steps site (raw_steps_of (map view_raw_step ss)) c.args.at c.args.left) (sym c.deref-operator-items.ensures.value) ∙ sym c.loop-operator.invariant
    ∙ steps_end site c.deref-operator-items.result.now c.args.at c.loop-operator.sort c.loop-operator.operator-index c.loop-operator.steps.items c.loop-operator-test.false

pub arguments-returns-in_err-value : goal.arguments-returns-in_err-value
arguments-returns-in_err-value t c =
    let site = view_site c.args.site.now in
    let list = c.deref-arg-items.result.now in
    let i = c.loop-arg.arg-index in
    let item = c.arg-item.result in
    let left = view_taking c.loop-arg.left in
    let front = c.loop-arg.done.items in
    let start = taking (view_signature c.args.signature.now) in
    let whole = c.loop-arg.invariant ∙ ap (λ args. arguments site (raw_args_of (map view_raw_arg args)) start) c.deref-arg-items.ensures.value in
    exits _ c.from_residual-in_err-value.result c.in_err-value.field-0.0 _ c.from_residual-in_err-value.ensures.1
    (arguments_stop site list left i item front c.in_err-value.field-0.0 _ c.loop-arg-test.true c.arg-item.is whole c.in_err-value.ensures)

pub arguments-loop-arg-preserved : goal.arguments-loop-arg-preserved
arguments-loop-arg-preserved t c =
    let site = view_site c.args.site.now in
    let list = c.deref-arg-items.result.now in
    let i = c.loop-arg.arg-index in
    let item = c.arg-item.result in
    let left = view_taking c.loop-arg.left in
    let front = c.loop-arg.done.items in
    let start = taking (view_signature c.args.signature.now) in
    let now : after left (view_raw_arg item) ≡ view_taking c.in_ok-left.left = cc c.in_ok-left.ensures in
    subst (λ (done : List Arg). behind MoreArgs (map view_arg done) (arguments site (raw_args_of (map view_raw_arg (drop (i + 1) list))) (view_taking c.in_ok-left.left)) ≡ arguments site (raw_args_of (map view_raw_arg list)) start)
    (sym c.in_ok-push.ensures.items)
    (sym (arguments_step site list left (view_taking c.in_ok-left.left) i item front c.in_ok-value.value c.loop-arg-test.true c.arg-item.is c.in_ok-value.ensures now) ∙ c.loop-arg.invariant)

pub arguments-returns : goal.arguments-returns
arguments-returns t c =
    let site = view_site c.args.site.now in
    ap (λ args. arguments site (raw_args_of (map view_raw_arg args)) (taking (view_signature c.args.signature.now))) (sym c.deref-arg-items.ensures.value) ∙ sym c.loop-arg.invariant
    ∙ arguments_end site c.deref-arg-items.result.now (view_taking c.loop-arg.left) c.loop-arg.arg-index c.loop-arg.done.items c.loop-arg-test.false

pub typed-returns-in-Number : goal.typed-returns-in-Number
typed-returns-in-Number t c =
    along view_expr c.number.result _ _ (ap (λ form. typed (view_site c.args.site.now) (view_form c.args.raw.now.at form) c.args.want) c.in-Number.is) c.number.ensures

pub typed-returns-in-Text : goal.typed-returns-in-Text
typed-returns-in-Text t c =
    along view_expr c.quoted.result _ _ (ap (λ form. typed (view_site c.args.site.now) (view_form c.args.raw.now.at form) c.args.want) c.in-Text.is) c.quoted.ensures

pub typed-returns-in-Bool : goal.typed-returns-in-Bool
typed-returns-in-Bool t c =
    along view_expr c.truth.result _ _ (ap (λ form. typed (view_site c.args.site.now) (view_form c.args.raw.now.at form) c.args.want) c.in-Bool.is) c.truth.ensures

pub typed-returns-in-Place : goal.typed-returns-in-Place
typed-returns-in-Place t c =
    along view_expr c.placed.result _ _ (ap (λ form. typed (view_site c.args.site.now) (view_form c.args.raw.now.at form) c.args.want) c.in-Place.is) c.placed.ensures

pub typed-returns-in-Group : goal.typed-returns-in-Group
typed-returns-in-Group t c =
    let site = view_site c.args.site.now in
    let at = c.args.raw.now.at in
    along view_expr c.grouped.result _ _
    (ap (λ form. typed site (view_form at form) c.args.want) c.in-Group.is ∙ ap (λ inner. typed site (Group at (view_raw inner)) c.args.want) (sym c.deref.ensures)) c.grouped.ensures

pub typed-returns-in-Aggregate : goal.typed-returns-in-Aggregate
typed-returns-in-Aggregate t c =
    along view_expr c.bracketed.result _ _ (ap (λ e. typed (view_site c.args.site.now) e c.args.want) (aggregate_form c.args.raw.now c.in-Aggregate.values c.in-Aggregate.is)) c.bracketed.ensures

pub typed-returns-in-Call : goal.typed-returns-in-Call
typed-returns-in-Call t c =
    along view_expr c.invoked.result _ _ (ap (λ e. typed (view_site c.args.site.now) e c.args.want) (call_form c.args.raw.now c.in-Call.name c.in-Call.args c.in-Call.is)) c.invoked.ensures

pub typed-returns-in-Not : goal.typed-returns-in-Not
typed-returns-in-Not t c =
    let site = view_site c.args.site.now in
    let at = c.args.raw.now.at in
    along view_expr c.negated.result _ _
    (ap (λ form. typed site (view_form at form) c.args.want) c.in-Not.is ∙ ap (λ operand. typed site (Not at (view_raw operand)) c.args.want) (sym c.deref-in-Not.ensures)) c.negated.ensures

pub typed-returns-in-Signed : goal.typed-returns-in-Signed
typed-returns-in-Signed t c =
    let site = view_site c.args.site.now in
    let at = c.args.raw.now.at in
    along view_expr c.signed.result _ _
    (ap (λ form. typed site (view_form at form) c.args.want) c.in-Signed.is ∙ ap (λ operand. typed site (Signed at c.in-Signed.minus (view_raw operand)) c.args.want) (sym c.deref-in-Signed.ensures)) c.signed.ensures

pub typed-returns-in_err-value-in-Chain : goal.typed-returns-in_err-value-in-Chain
typed-returns-in_err-value-in-Chain t c =
    let site = view_site c.args.site.now in
    let want = c.args.want in
    let at = c.args.raw.now.at in
    let steps_behind = raw_steps_of (map view_raw_step c.in-Chain.rest.items) in
    let behind_first : TypedExpr → Checked TypedExpr = λ t. steps site steps_behind at (sort_of t) >>= (λ r. given site want at r.sort (Plain.Chain at r.sort t r.steps)) in
    exits view_expr c.from_residual.result c.in_err-value-in-Chain.field-0.0 _ c.from_residual.ensures.1
    (stops (λ (r : Checked TypedExpr). r >>= behind_first) (λ b. refl) c.in_err-value-in-Chain.field-0.0 (typed site (view_raw c.deref-in-Chain.result.now) c.first_operand.result) _
    (ap (λ e. typed site e want) (chain_form c.args.raw.now c.in-Chain.first c.in-Chain.rest c.in-Chain.is) ∙ typed_chain site want at (view_raw c.in-Chain.first.value) steps_behind
    ∙ ap (λ first. typed site (view_raw first) (first_operand steps_behind) >>= behind_first) (sym c.deref-in-Chain.ensures)
    ∙ ap (λ w. typed site (view_raw c.deref-in-Chain.result.now) w >>= behind_first) (ap (λ list. first_operand (raw_steps_of (map view_raw_step list))) (sym c.deref-in-Chain-2.ensures.value) ∙ sym c.first_operand.ensures)) c.in_err-value-in-Chain.ensures)

pub typed-returns-in_ok-value-in-Chain : goal.typed-returns-in_ok-value-in-Chain
typed-returns-in_ok-value-in-Chain t c =
    let site = view_site c.args.site.now in
    let want = c.args.want in
    let rest = raw_steps_of (map view_raw_step c.in-Chain.rest.items) in
    let first : typed site (view_raw c.in-Chain.first.value) (first_operand rest) ≡ Ok (view_expr c.in_ok-value-in-Chain.value) = ap (λ first. typed site (view_raw first) (first_operand rest)) (sym c.deref-in-Chain.ensures)
    ∙ ap (λ w. typed site (view_raw c.deref-in-Chain.result.now) w) (ap (λ list. first_operand (raw_steps_of (map view_raw_step list))) (sym c.deref-in-Chain-2.ensures.value) ∙ sym c.first_operand.ensures) ∙ c.in_ok-value-in-Chain.ensures in
    along view_expr c.chained.result _ _ (ap (λ e. typed site e want) (chain_form c.args.raw.now c.in-Chain.first c.in-Chain.rest c.in-Chain.is)) (c.chained.ensures (view_raw c.in-Chain.first.value) first)

pub bracketed-returns-in_err-elements : goal.bracketed-returns-in_err-elements
bracketed-returns-in_err-elements t c =
    let site = view_site c.args.site.now in
    let want = c.args.want in
    let at = c.args.at in
    exits view_expr c.from_residual.result c.in_err-elements.field-0.0 _ c.from_residual.ensures.1
    (stops (λ (r : Checked TypedExprs). r >>= (λ ts. aggregate site want at (raw_exprs_of (map view_raw c.args.values.now.items)) ts)) (λ b. refl) c.in_err-elements.field-0.0 (elements site (raw_exprs_of (map view_raw c.args.values.now.items)) (needed_components want)) _ (typed_aggregate site want at (raw_exprs_of (map view_raw c.args.values.now.items))) c.in_err-elements.ensures)

pub bracketed-returns : goal.bracketed-returns
bracketed-returns t c =
    let site = view_site c.args.site.now in
    let want = c.args.want in
    let at = c.args.at in
    let ts = exprs_of (map view_expr c.in_ok-elements.field-0.items) in
    along view_expr c.aggregate.result _ _ (typed_aggregate site want at (raw_exprs_of (map view_raw c.args.values.now.items)) ∙ ap (λ (r : Checked TypedExprs). r >>= (λ ts. aggregate site want at (raw_exprs_of (map view_raw c.args.values.now.items)) ts)) c.in_ok-elements.ensures ∙ ap (λ list. aggregate site want at (raw_exprs_of (map view_raw list)) ts) (sym c.deref.ensures.value)) c.aggregate.ensures

pub invoked-returns-in_err-typed_args : goal.invoked-returns-in_err-typed_args
invoked-returns-in_err-typed_args t c =
    let site = view_site c.args.site.now in
    let want = c.args.want in
    let at = c.args.at in
    let called = view_called c.in_ok-called.called in
    exits view_expr c.from_residual-in_err-typed_args.result c.in_err-typed_args.field-0.0 _ c.from_residual-in_err-typed_args.ensures.1
    (stops (λ (r : Checked TypedArgs). r >>= (λ ts. call site want at called (raw_args_of (map view_raw_arg c.args.args.now.items)) ts)) (λ b. refl) c.in_err-typed_args.field-0.0 (arguments site (raw_args_of (map view_raw_arg c.args.args.now.items)) (taking called.signature)) _ (typed_call site want at (view_name c.args.name.now) (raw_args_of (map view_raw_arg c.args.args.now.items)) ∙ ap (λ (r : Checked Called). r >>= (λ called. arguments site (raw_args_of (map view_raw_arg c.args.args.now.items)) (taking called.signature) >>= (λ ts. call site want at called (raw_args_of (map view_raw_arg c.args.args.now.items)) ts))) c.in_ok-called.ensures) c.in_err-typed_args.ensures)

pub invoked-returns : goal.invoked-returns
invoked-returns t c =
    let site = view_site c.args.site.now in
    let want = c.args.want in
    let at = c.args.at in
    let called = view_called c.in_ok-called.called in
    let ts = args_of (map view_arg c.in_ok-typed_args.typed_args.items) in
    along view_expr c.call.result _ _ (typed_call site want at (view_name c.args.name.now) (raw_args_of (map view_raw_arg c.args.args.now.items)) ∙ ap (λ (r : Checked Called). r >>= (λ called. arguments site (raw_args_of (map view_raw_arg c.args.args.now.items)) (taking called.signature) >>= (λ ts. call site want at called (raw_args_of (map view_raw_arg c.args.args.now.items)) ts))) c.in_ok-called.ensures ∙ ap (λ (r : Checked TypedArgs). r >>= (λ ts. call site want at called (raw_args_of (map view_raw_arg c.args.args.now.items)) ts)) c.in_ok-typed_args.ensures ∙ ap (λ list. call site want at called (raw_args_of (map view_raw_arg list)) ts) (sym c.deref.ensures.value)) c.call.ensures

pub chained-returns-in_err-chain : goal.chained-returns-in_err-chain
chained-returns-in_err-chain t c = λ first is.
    let site = view_site c.args.site.now in
    let want = c.args.want in
    let at = c.args.at in
    let rest = raw_steps_of (map view_raw_step c.args.rest.now.items) in
    let value = c.args.value in
    exits view_expr c.from_residual.result c.in_err-chain.field-0.0 _ c.from_residual.ensures.1
    (stops (λ (r : Checked TypedRest). r >>= (λ r. given site want at r.sort (Plain.Chain at r.sort (view_expr value) r.steps))) (λ b. refl) c.in_err-chain.field-0.0 (steps site rest at value.sort) _
    (chain_after site want at first rest value is) c.in_err-chain.ensures)

pub chained-returns-in_err-must_fit : goal.chained-returns-in_err-must_fit
chained-returns-in_err-must_fit t c = λ first is.
    let site = view_site c.args.site.now in
    let want = c.args.want in
    let at = c.args.at in
    let rest = raw_steps_of (map view_raw_step c.args.rest.now.items) in
    let value = c.args.value in
    let done = view_chain c.in_ok-chain.chain in
    exits view_expr c.from_residual-in_err-must_fit.result c.in_err-must_fit.field-0.0 _ c.from_residual-in_err-must_fit.ensures.1
    (stops (λ (r : Checked (Unit {0})). r >>= (λ _. Ok (Plain.Chain at done.sort (view_expr value) done.steps))) (λ b. refl) c.in_err-must_fit.field-0.0 (must (fits want done.sort) (at_byte site at (clash want))) _
    (chain_after site want at first rest value is ∙ ap (λ (r : Checked TypedRest). r >>= (λ r. given site want at r.sort (Plain.Chain at r.sort (view_expr value) r.steps))) c.in_ok-chain.ensures) c.in_err-must_fit.ensures)

pub chained-returns : goal.chained-returns
chained-returns t c = λ first is.
    let site = view_site c.args.site.now in
    let want = c.args.want in
    let at = c.args.at in
    let rest = raw_steps_of (map view_raw_step c.args.rest.now.items) in
    let value = c.args.value in
    let done = view_chain c.in_ok-chain.chain in
    chain_after site want at first rest value is ∙ ap (λ (r : Checked TypedRest). r >>= (λ r. given site want at r.sort (Plain.Chain at r.sort (view_expr value) r.steps))) c.in_ok-chain.ensures
    ∙ ap (λ (r : Checked (Unit {0})). r >>= (λ _. Ok (Plain.Chain at done.sort (view_expr value) done.steps))) c.in_ok-must_fit.ensures ∙ ap Ok (sym c.in_ok-tree.ensures)
