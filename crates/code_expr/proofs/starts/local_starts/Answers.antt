use Rattle.std.proofs.Common.{subst, ◌∙◌, sym}
use Rattle.std.proofs.lemmas.List.{length-map}
use Rattle.typed_trees.specs.Views.{view_param, view_routine}
use Rattle.code_expr.specs.Starts.{AreStarts}
use Rattle.code_expr.proofs.Widths.{all_rows}
use Rattle.code_expr.proofs.starts.local_starts.Goals as goal

pub returns : goal.returns
returns c =
    let params = c.args.routine.now.params in
    let count = c.len.ensures ∙ (params.ok.0 ∙ sym (length-map params.items view_param)) in
    subst (AreStarts c.add_rows-2.new.starts.items) (all_rows (view_routine c.args.routine.now) c.len.result count)
    (c.in_ok-add_rows-2.ensures _ (c.in_ok-add_locals.ensures _ (c.in_ok-add_rows.ensures _ c.in_ok-starts.ensures)))
