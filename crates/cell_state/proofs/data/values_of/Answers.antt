use Rattle.std.proofs.Common.{◌++◌, ◌∷◌, [], ap, arith, length, List, Some, sym, ◌∙◌, ◌≤◌}
use Rattle.std.proofs.lemmas.List.{take_all}
use Rattle.typed_trees.specs.declared.datum.Datum.{Datum}
use Rattle.cell_state.proofs.Elements.{take_next}
use Rattle.cell_state.proofs.data.values_of.Goals as goal

pub loop-slot-preserved : goal.loop-slot-preserved
loop-slot-preserved c =
    c.in_ok-push.ensures.items ∙ ap (λ (ds : List Datum). ds ++ c.in_ok-datum.datum ∷ []) c.loop-slot.invariant
    ∙ sym (take_next c.args.machine.now.data'.slots c.loop-slot.slot c.in_ok-datum.datum (c.datum.ensures ∙ ap (λ (d : Datum). Some d) (sym c.in_ok-datum.ensures)))

pub returns : goal.returns
returns c =
    let all : length c.args.machine.now.data'.slots ≤ c.loop-slot.slot = omega arith in
    c.loop-slot.invariant ∙ take_all c.loop-slot.slot c.args.machine.now.data'.slots all
