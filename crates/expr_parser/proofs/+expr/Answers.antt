use Rattle.std.proofs.Common.{sym, ap, ◌∙◌, map, arith}
use Rattle.std.proofs.lemmas.Result.{err_from_is_err_and}
use Rattle.raw_trees.specs.Views.{view_arg, view_expr, view_step}
use Rattle.rapid_forms.specs.Reading.{rest_from}
use Rattle.rapid_forms.proofs.Loops.{front_none, loop_done, loop_fails, loop_smaller, loop_first, loop_pushes}
use Rattle.expr_parser.specs.Reads.{prefixes, args_read, exprs_read}
use Rattle.expr_parser.proofs.Operands.{seen_as, level_none, level_more, relation_stops, land_stops, signed_plain, negated_plain, level_stops, expr_stops, passed_on, handed_on}
use Rattle.expr_parser.proofs.Taking.{later_takes, more_expr_takes, step_takes}
use Rattle.expr_parser.proofs.+expr.Invariants.{height}
use Rattle.expr_parser.proofs.+expr.Goals as goal

pub levels::exprs-loop-list-init : goal.levels::exprs-loop-list-init
unfolding exprs_read
levels::exprs-loop-list-init t c = rw (c.in_ok-push.ensures.items, c.in_ok-list.ensures.items) (loop_first _ _ _ _ _ c.in_ok-first.ensures)

pub levels::exprs-returns-in_err-value : goal.levels::exprs-returns-in_err-value
levels::exprs-returns-in_err-value t c =
    let p = err_from_is_err_and c.from_residual-in_err-value.result c.from_residual-in_err-value.ensures.1 in
    rw (p.1, p.2) (loop_fails (more_expr_takes c.args.left) _ (map view_expr c.loop-list.list.items) c.args.p.now.tokens _ c.loop-list.next _ (sym c.sees.ensures ∙ c.loop-list-test.true) c.loop-list.invariant c.in_err-value.ensures)

pub levels::exprs-loop-list-smaller : goal.levels::exprs-loop-list-smaller
levels::exprs-loop-list-smaller t c = loop_smaller (more_expr_takes c.args.left) c.args.p.now.tokens c.loop-list.next c.in_ok-value.after (view_expr c.in_ok-value.value) c.in_ok-value.ensures

pub levels::exprs-loop-list-preserved : goal.levels::exprs-loop-list-preserved
levels::exprs-loop-list-preserved t c =
    rw c.in_ok-push-2.ensures.items
    (loop_pushes (more_expr_takes c.args.left) view_expr _ c.loop-list.list.items (rest_from c.args.p.now.tokens c.loop-list.next) c.in_ok-value.value _ (sym c.sees.ensures ∙ c.loop-list-test.true) c.in_ok-value.ensures ∙ c.loop-list.invariant)

pub levels::exprs-returns : goal.levels::exprs-returns
levels::exprs-returns t c = sym c.loop-list.invariant ∙ loop_done _ _ (map view_expr c.loop-list.list.items) (rest_from c.args.p.now.tokens c.loop-list.next) (sym c.sees.ensures ∙ c.loop-list-test.false)

pub args::some_args-loop-list-init : goal.args::some_args-loop-list-init
unfolding args_read
args::some_args-loop-list-init t c = rw (c.in_ok-push.ensures.items, c.in_ok-list.ensures.items) (loop_first _ _ _ _ _ c.in_ok-first.ensures)

pub args::some_args-returns-in_err-more : goal.args::some_args-returns-in_err-more
args::some_args-returns-in_err-more t c =
    let p = err_from_is_err_and c.from_residual-in_err-more.result c.from_residual-in_err-more.ensures.1 in
    rw (p.1, p.2) (loop_fails (later_takes c.args.left) _ (map view_arg c.loop-list.list.items) c.args.p.now.tokens _ c.loop-list.next _ (sym c.sees.ensures ∙ c.loop-list-test.true) c.loop-list.invariant c.in_err-more.ensures)

pub args::some_args-loop-list-smaller : goal.args::some_args-loop-list-smaller
args::some_args-loop-list-smaller t c = loop_smaller (later_takes c.args.left) c.args.p.now.tokens c.loop-list.next c.in_ok-more.after (view_arg c.in_ok-more.more) c.in_ok-more.ensures

pub args::some_args-loop-list-preserved : goal.args::some_args-loop-list-preserved
args::some_args-loop-list-preserved t c =
    rw c.in_ok-push-2.ensures.items
    (loop_pushes (later_takes c.args.left) view_arg _ c.loop-list.list.items (rest_from c.args.p.now.tokens c.loop-list.next) c.in_ok-more.more _ (sym c.sees.ensures ∙ c.loop-list-test.true) c.in_ok-more.ensures ∙ c.loop-list.invariant)

pub args::some_args-returns : goal.args::some_args-returns
args::some_args-returns t c = sym c.loop-list.invariant ∙ loop_done _ _ (map view_arg c.loop-list.list.items) (rest_from c.args.p.now.tokens c.loop-list.next) (sym c.sees.ensures ∙ c.loop-list-test.false)

pub chains::steps-loop-level-init : goal.chains::steps-loop-level-init
chains::steps-loop-level-init t c = rw c.new-list.ensures.items (front_none _)

pub chains::steps-returns-in_err-step : goal.chains::steps-returns-in_err-step
chains::steps-returns-in_err-step t c =
    let p = err_from_is_err_and c.from_residual.result c.from_residual.ensures.1 in
    rw (p.1, p.2) (loop_fails (step_takes c.args.left c.args.level) _ (map view_step c.loop-level.list.items) c.args.p.now.tokens _ c.loop-level.next _ (rw c.operators.ensures at (sym c.sees.ensures ∙ c.loop-level-test.true)) c.loop-level.invariant c.in_err-step.ensures)

pub chains::steps-loop-level-smaller : goal.chains::steps-loop-level-smaller
chains::steps-loop-level-smaller t c = loop_smaller (step_takes c.args.left c.args.level) c.args.p.now.tokens c.loop-level.next c.in_ok-step.after (view_step c.in_ok-step.step) c.in_ok-step.ensures

pub chains::steps-loop-level-preserved : goal.chains::steps-loop-level-preserved
chains::steps-loop-level-preserved t c =
    rw c.in_ok-push_step.ensures.ok
    (loop_pushes (step_takes c.args.left c.args.level) view_step _ c.loop-level.list.items (rest_from c.args.p.now.tokens c.loop-level.next) c.in_ok-step.step _ (rw c.operators.ensures at (sym c.sees.ensures ∙ c.loop-level-test.true)) c.in_ok-step.ensures ∙ c.loop-level.invariant)

pub chains::steps-returns : goal.chains::steps-returns
chains::steps-returns t c = sym c.loop-level.invariant ∙ loop_done _ _ (map view_step c.loop-level.list.items) (rest_from c.args.p.now.tokens c.loop-level.next) (rw c.operators.ensures at (sym c.sees.ensures ∙ c.loop-level-test.false))

pub chains::chain-returns-then-not-is_followed : goal.chains::chain-returns-then-not-is_followed
chains::chain-returns-then-not-is_followed t c =
    handed_on _ c.args.level c.args.p.now.tokens c.args.at c.primary-first.result (seen_as prefixes _ _ _ c.sign.ensures (sym c.is_prefix.ensures ∙ c.if-is_prefix.false)) (sym c.is_followed.ensures ∙ c.if-not-is_followed.true) c.primary-first.ensures

pub chains::chain-behind-requires : goal.chains::chain-behind-requires
chains::chain-behind-requires t c =
    (omega arith, (seen_as prefixes _ _ _ c.sign.ensures (sym c.is_prefix.ensures ∙ c.if-is_prefix.false), rw c.in_ok-first.was at c.primary-first.ensures))

pub chains::behind-returns-in_err-term : goal.chains::behind-returns-in_err-term
chains::behind-returns-in_err-term t c =
    let p = err_from_is_err_and c.from_residual.result c.from_residual.ensures.1 in
    rw (p.1, p.2) (passed_on c.args.p.now.tokens view_expr view_expr _ _ _ (λ halt. level_stops _ _ c.requires.plain halt c.args.level) c.in_err-term.ensures)

pub chains::behind-returns-in_err-relations-in-Or : goal.chains::behind-returns-in_err-relations-in-Or
chains::behind-returns-in_err-relations-in-Or t c =
    let p = err_from_is_err_and c.from_residual-in_err-relations-in-Or.result c.from_residual-in_err-relations-in-Or.ensures.1 in
    rw (p.1, p.2, c.in-Or.is) (passed_on c.args.p.now.tokens view_expr view_expr _ _ _ (λ halt. expr_stops _ _ c.requires.plain halt) c.in_err-relations-in-Or.ensures)

pub chains::behind-chain_behind-requires-in-Or : goal.chains::behind-chain_behind-requires-in-Or
chains::behind-chain_behind-requires-in-Or t c =
    let e = ap height c.in-Or.is in
    (omega (arith, e), negated_plain _ _ c.requires.plain ∙ c.in_ok-relations-in-Or.ensures)

pub chains::behind-chain_behind-requires-in-Sum : goal.chains::behind-chain_behind-requires-in-Sum
chains::behind-chain_behind-requires-in-Sum t c =
    let e = ap height c.in-Sum.is in
    (omega (arith, e), signed_plain _ _ c.requires.plain ∙ c.in_ok-term.ensures)

pub chains::chain_behind-returns-then-not-sees : goal.chains::chain_behind-returns-then-not-sees
chains::chain_behind-returns-then-not-sees t c =
    level_none _ c.args.level _ _ _ c.requires.read (rw c.operators.ensures at (sym c.sees.ensures ∙ c.if-not-sees.true))

pub chains::chain_behind-returns : goal.chains::chain_behind-returns
chains::chain_behind-returns t c =
    rw (c.in_ok-chain.ensures, c.byte_at.ensures)
    (level_more _ c.args.level _ _ _ _ _ c.requires.read (rw c.operators.ensures at (sym c.sees.ensures ∙ c.if-not-sees.false)) c.in_ok-rest.ensures)

pub chains::relations_behind-chain_behind-requires : goal.chains::relations_behind-chain_behind-requires
chains::relations_behind-chain_behind-requires t c = (omega arith, signed_plain _ _ c.requires.plain ∙ c.requires.read)

pub chains::relations_behind-returns-in_err-sum : goal.chains::relations_behind-returns-in_err-sum
chains::relations_behind-returns-in_err-sum t c =
    let p = err_from_is_err_and c.from_residual.result c.from_residual.ensures.1 in
    rw (p.1, p.2) (passed_on c.args.p.now.tokens view_expr view_expr _ _ _ (λ halt e. land_stops _ _ halt (relation_stops _ _ halt e)) c.in_err-sum.ensures)

pub chains::relations_behind-returns-in_err-relation : goal.chains::relations_behind-returns-in_err-relation
chains::relations_behind-returns-in_err-relation t c =
    let p = err_from_is_err_and c.from_residual-in_err-relation.result c.from_residual-in_err-relation.ensures.1 in
    rw (p.1, p.2) (passed_on c.args.p.now.tokens view_expr view_expr _ _ _ (land_stops _ _) c.in_err-relation.ensures)
