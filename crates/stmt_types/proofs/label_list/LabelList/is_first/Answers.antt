use Rattle.std.proofs.Common.{◌≡◌, map, Some, ap, sym, ◌∙◌, arith}
use Rattle.std.proofs.lemmas.List.{length-map}
use Rattle.raw_trees.specs.Views.{view_name}
use Rattle.stmt_types.specs.Labels.{is_first, label_index}
use Rattle.stmt_types.proofs.LabelPlaces.{first_found, first_past, index_within}
use Rattle.stmt_types.proofs.label_list.LabelList.is_first.Goals as goal

pub index-requires : goal.index-requires
index-requires c =
    let text = c.args.name.now.text.now in
    let items = c.self.inside.labels.items in
    let within = index_within text (map view_name items) c.in-Some.number (sym (c.self.invariant text) ∙ sym c.find.ensures ∙ c.in-Some.is) in
    omega (arith, length-map items view_name, within)

pub returns-in-Some : goal.returns-in-Some
returns-in-Some c =
    let name = view_name c.args.name.now in
    let items = c.self.inside.labels.items in
    let number = c.in-Some.number in
    let placed : label_index name.text (map view_name items) ≡ Some number = sym (c.self.invariant name.text) ∙ sym c.find.ensures ∙ c.in-Some.is in
    sym (first_found name items number c.index.result.now placed c.index.ensures) ∙ ap (is_first name) c.self.view_is

pub returns-in-None : goal.returns-in-None
returns-in-None c =
    let name = view_name c.args.name.now in
    let labels = map view_name c.self.inside.labels.items in
    sym (first_past name labels (sym (c.self.invariant name.text) ∙ sym c.find.ensures ∙ c.in-None.is)) ∙ ap (is_first name) c.self.view_is
