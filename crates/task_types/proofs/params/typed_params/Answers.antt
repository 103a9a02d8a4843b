use Rattle.std.proofs.Common.{◌≡◌, ◌++◌, Ok, None, Some, map, drop, slice_get, sym, ◌∙◌, ap}
use Rattle.std.proofs.lemmas.List.{append-nil}
use Rattle.raw_trees.specs.Views.{view_param as view_raw}
use Rattle.typed_trees.specs.Views.{view_param}
use Rattle.rule_checks.proofs.Steps.{ok_same}
use Rattle.task_types.proofs.ParamRows.{no_rows_left, one_more_param}
use Rattle.task_types.proofs.params.typed_params.Goals as goal

pub returns-in_default : goal.returns-in_default
returns-in_default c =
    let none : slice_get c.args.rows.now c.loop-index.index ≡ None = sym c.row_at.ensures ∙ c.in_default.is in
    ap Ok (sym c.loop-index.invariant ∙ ap (λ more. map view_param c.loop-index.typed.items ++ more) (no_rows_left (map view_raw (drop c.loop-index.index c.args.params.now)) c.args.rows.now c.loop-index.index none) ∙ append-nil _)

pub loop-index-preserved : goal.loop-index-preserved
loop-index-preserved c =
    let here : slice_get c.args.rows.now c.loop-index.index ≡ Some c.in-Some.row = sym c.row_at.ensures ∙ c.in-Some.is in
    one_more_param (map view_param c.loop-index.typed.items) (map view_param c.in_ok-typed.typed.items) c.args.params.now c.args.rows.now c.loop-index.index _ c.in-Some.row c.loop-index-test.true here (ok_same _ _ c.in_ok-typed.ensures)
    ∙ c.loop-index.invariant
