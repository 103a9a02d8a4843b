use Rattle.std.proofs.Common.{◌≡◌, [], ◌∷◌, ◌++◌, length, map, ap, sym, ◌∙◌}
use Rattle.std.proofs.lemmas.List.{length-map, map-append}
use Rattle.raw_trees.specs.Views.{view_name}
use Rattle.stmt_types.specs.Labels.{label_index}
use Rattle.stmt_types.proofs.LabelPlaces.{label_entered}
use Rattle.stmt_types.proofs.label_list.LabelList.push.Goals as goal

pub invariant_of-self-2 : goal.invariant_of-self-2
invariant_of-self-2 c name =
    let items = c.self.inside.labels.items in
    let number = c.in_ok-number.number in
    let last : number ≡ length items = cc (c.in_ok-number.ensures.ok, c.len.ensures) in
    label_entered c.self.inside.firsts c.enter.new.self (map view_name items) (view_name c.args.label) number c.self.invariant c.in_ok-enter.ensures.ok (last ∙ sym (length-map items view_name)) name
    ∙ ap (label_index name) (sym (ap (map view_name) (c.push_reserved.ensures.items ∙ ap (λ xs. xs ++ c.args.label ∷ []) c.reserve.ensures.items) ∙ map-append view_name items (c.args.label ∷ [])))
