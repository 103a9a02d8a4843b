use Rattle.std.proofs.Common.{map, is_some, ap, sym, ◌∙◌}
use Rattle.raw_trees.specs.Views.{view_name}
use Rattle.stmt_types.specs.Labels.{is_visible}
use Rattle.stmt_types.proofs.LabelPlaces.{visible_by}
use Rattle.stmt_types.proofs.label_list.LabelList.has.Goals as goal

pub returns : goal.returns
returns c =
    let text = c.args.text.now in
    let labels = map view_name c.self.inside.labels.items in
    c.is_some.ensures ∙ ap is_some (c.find.ensures ∙ c.self.invariant text) ∙ sym (visible_by text labels) ∙ ap (is_visible text) c.self.view_is
