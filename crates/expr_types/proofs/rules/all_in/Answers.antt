use Rattle.std.proofs.Common.{◌∙◌, map, sym}
use Rattle.std.proofs.lemmas.List.{length-map}
use Rattle.raw_trees.specs.Views.{view_arg as view_raw_arg}
use Rattle.expr_types.proofs.Counted.{all_counted}
use Rattle.expr_types.proofs.rules.all_in.Goals as goal

pub returns : goal.returns
returns c = sym (length-map c.args.args.now view_raw_arg) ∙ all_counted (map view_raw_arg c.args.args.now)
