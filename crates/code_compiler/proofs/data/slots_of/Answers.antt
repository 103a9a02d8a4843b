use Rattle.std.proofs.Common.{ap, ◌∙◌}
use Rattle.std.specs.Prelude.{flat_map}
use Rattle.std.proofs.lemmas.List.{take_all}
use Rattle.typed_trees.specs.declared.data_rows.SlotRow.{SlotRow}
use Rattle.code_compiler.proofs.Lists.{slots_as}
use Rattle.code_compiler.proofs.data.slots_of.Goals as goal

pub returns : goal.returns
returns c =
    let list = c.deref-row-items.result.now in
    let all = take_all c.loop-row.row-index list c.loop-row-test.false ∙ c.deref-row-items.ensures.value in
    c.loop-row.invariant ∙ (ap (flat_map (λ (row : SlotRow). row.first)) all ∙ slots_as c.args.tree.now.slots.items)
