use Rattle.std.proofs.Common.{length, Ok, map, ap, sym, ◌∙◌}
use Rattle.raw_trees.specs.Views.{view_name}
use Rattle.stmt_types.specs.Labels.{label_number}
use Rattle.stmt_types.proofs.LabelPlaces.{number_found, number_past}
use Rattle.stmt_types.proofs.label_list.LabelList.number.Goals as goal

pub returns-in-Some : goal.returns-in-Some
returns-in-Some c =
    let text = c.args.text.now in
    let labels = map view_name c.self.inside.labels.items in
    ap Ok (ap (label_number text) (sym c.self.view_is) ∙ number_found text labels c.in-Some.number (sym (c.self.invariant text) ∙ sym c.find.ensures ∙ c.in-Some.is))

pub returns-in_ok-number_of-in-None : goal.returns-in_ok-number_of-in-None
returns-in_ok-number_of-in-None c =
    let text = c.args.text.now in
    let past = number_past text (map view_name c.self.inside.labels.items) (sym (c.self.invariant text) ∙ sym c.find.ensures ∙ c.in-None.is) in
    ap Ok (ap (label_number text) (sym c.self.view_is) ∙ past ∙ ap length c.self.view_is ∙ sym c.len.ensures ∙ sym c.in_ok-number_of-in-None.ensures.ok)
