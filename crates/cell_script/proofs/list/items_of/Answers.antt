use Rattle.std.proofs.Common.{Some, sym, ap, ◌∙◌, option_map, map}
use Rattle.toml.specs.View.{view}
use Rattle.cell_script.specs.Keys.{items_list}
use Rattle.cell_script.proofs.Items.{items_list-view}
use Rattle.cell_script.proofs.list.items_of.Goals as goal

pub returns : goal.returns
returns c =
    ap Some (ap (map view) c.as_slice.ensures.value ∙ sym (items_list-view c.in_ok-array.array.now.items)) ∙ ap (option_map items_list) c.in_ok-array.ensures
