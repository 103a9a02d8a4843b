use Rattle.std.proofs.Common.{◌≡◌, ◌<◌, ◌≤◌, ◌++◌, ◌∷◌, [], ap, arith, length, List, map, Some, subst, sym, ℕ, ◌∙◌}
use Rattle.std.proofs.lemmas.List.{map_push}
use Rattle.rapid_model.specs.CellData.{CellData}
use Rattle.rapid_model.specs.declared.value.Value.{Value}
use Rattle.cell_meaning.specs.Stored.{persistent_after, persistents_after}
use Rattle.cell_state.proofs.Elements.{next_elements, persistents_so, take_next}
use Rattle.cell_state.proofs.persistents.persistents.Goals as goal

pub loop-number-preserved : goal.loop-number-preserved
loop-number-preserved c =
    let cell = c.args.core.now.cell in
    let history = c.args.core.now.history in
    let k : ℕ = c.loop-number.number in
    let rows : c.as_slice-row-items.result.now ≡ cell.pers = c.as_slice-row-items.ensures ∙ c.pers.ensures ∙ ap (λ (there : CellData). there.pers) c.cell.ensures in
    let many : length c.as_slice-row-items.result.now ≡ length cell.pers = ap length rows in
    let within : k < length cell.pers = omega (arith, many) in
    let same : c.in-Ok.pers ≡ k = c.in-Ok.ensures.1 in
    let is : c.in_ok-values.values.items ≡ persistent_after cell history k = subst (λ (n : ℕ). c.in_ok-values.values.items ≡ persistent_after cell history n) same c.in_ok-values.ensures in
    ap (map (λ elements. elements.items)) c.in_ok-push.ensures.items ∙ map_push (λ elements. elements.items) c.loop-number.all.items c.in_ok-values.values
    ∙ ap (λ (all : List (List Value)). all ++ c.in_ok-values.values.items ∷ []) c.loop-number.invariant
    ∙ sym (take_next (persistents_after cell history) k c.in_ok-values.values.items (next_elements cell history k within ∙ ap (λ (vs : List Value). Some vs) (sym is)))

pub returns : goal.returns
returns c =
    let cell = c.args.core.now.cell in
    let rows : c.as_slice-row-items.result.now ≡ cell.pers = c.as_slice-row-items.ensures ∙ c.pers.ensures ∙ ap (λ (there : CellData). there.pers) c.cell.ensures in
    let many : length c.as_slice-row-items.result.now ≡ length cell.pers = ap length rows in
    let all : length cell.pers ≤ c.loop-number.number = omega (arith, many) in
    c.loop-number.invariant ∙ persistents_so cell c.args.core.now.history c.loop-number.number all
