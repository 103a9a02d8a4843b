use Rattle.std.proofs.Common.{◌≤◌, ◌++◌, ◌∷◌, [], ap, arith, length, List, subst, sym, ◌∙◌}
use Rattle.std.proofs.lemmas.List.{take_all}
use Rattle.rapid_model.specs.CellData.{CellData, IsCell}
use Rattle.rapid_model.specs.declared.value.Value.{Value}
use Rattle.cell_meaning.specs.Stored.{persistent_after}
use Rattle.cell_state.proofs.Elements.{elements_count, take_next}
use Rattle.cell_state.proofs.persistents.elements.Goals as goal

pub loop-k-preserved : goal.loop-k-preserved
loop-k-preserved c =
    let all = persistent_after c.args.core.now.cell c.args.core.now.history c.args.pers in
    c.in_ok-push.ensures.items ∙ ap (λ (vs : List Value). vs ++ c.element.result ∷ []) c.loop-k.invariant ∙ sym (take_next all c.loop-k.k c.element.result c.element.ensures)

pub returns : goal.returns
returns c =
    let all = persistent_after c.args.core.now.cell c.args.core.now.history c.args.pers in
    let count = elements_count c.args.core.now.cell c.args.core.now.history c.args.pers c.args.row.now (subst (λ (cell : CellData). IsCell cell) c.cell.ensures c.steps-steps.ensures.limits) c.requires in
    let past : length all ≤ c.loop-k.k = omega (arith, count) in
    c.loop-k.invariant ∙ take_all c.loop-k.k all past
