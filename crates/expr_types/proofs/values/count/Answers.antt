use Rattle.std.proofs.Common.{◌∙◌, map, sym}
use Rattle.std.proofs.lemmas.List.{length-map}
use Rattle.raw_trees.specs.Views.{view_expr as view_raw}
use Rattle.expr_types.proofs.Counted.{exprs_counted}
use Rattle.expr_types.proofs.values.count.Goals as goal

pub returns : goal.returns
returns c = sym (exprs_counted (map view_raw c.args.raw.now) ∙ length-map c.args.raw.now view_raw)
