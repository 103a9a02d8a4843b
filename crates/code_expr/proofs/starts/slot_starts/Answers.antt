use Rattle.std.proofs.Common.{map, subst, ◌∙◌, ap}
use Rattle.std.proofs.lemmas.List.{take_all}
use Rattle.rapid_model.specs.Sorts.{width}
use Rattle.code_expr.specs.Starts.{AreStarts}
use Rattle.code_expr.proofs.Widths.{slots_as}
use Rattle.code_expr.proofs.starts.slot_starts.Goals as goal

pub returns : goal.returns
returns c =
    let list = c.deref-slot-items.result.now in
    let all = take_all c.loop-slot.slot-index list c.loop-slot-test.false ∙ c.deref-slot-items.ensures.value in
    subst (AreStarts c.loop-slot.starts.items) (ap (map (λ slot. width slot.len)) all ∙ slots_as c.args.tree.now.slots.items) c.loop-slot.invariant
