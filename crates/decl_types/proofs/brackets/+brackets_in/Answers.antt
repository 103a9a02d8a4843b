use Rattle.std.proofs.Common.{◌∙◌, map, sym, ap, subst}
use Rattle.raw_trees.specs.Plain.{PlainExpr, Aggregate, exprs_of}
use Rattle.raw_trees.specs.Views.{view_expr, view_form}
use Rattle.raw_trees.proofs.Rows.{aggregate_view}
use Rattle.rule_checks.specs.TypeChecks.{Gives}
use Rattle.named_data.specs.Views.{view_site}
use Rattle.decl_types.specs.Parts.{view_brackets}
use Rattle.decl_types.specs.Values.{brackets}
use Rattle.decl_types.proofs.brackets.+brackets_in.Goals as goal

pub returns-in-Aggregate : goal.returns-in-Aggregate
returns-in-Aggregate t c =
    let at = c.args.value.now.at in
    let same =
    ap (λ list. Aggregate at (exprs_of (map view_expr list))) c.deref.ensures.value
    ∙ sym (aggregate_view at c.in-Aggregate.elements)
    ∙ ap (view_form at) (sym c.in-Aggregate.is) in
    subst (λ (e : PlainExpr). Gives view_brackets c.brackets_at.result (brackets (view_site c.args.site.now) c.args.sort e)) same c.brackets_at.ensures
