use Rattle.std.proofs.Common.{◌≡◌, ◌<◌, ◌+◌, true, List, [], ◌∷◌, ◌++◌, length, take, get_or, sym, ap, subst, ◌∙◌, arith}
use Rattle.std.proofs.lemmas.Bool.{and_from}
use Rattle.std.proofs.lemmas.List.{take_more}
use Rattle.rapid_model.specs.Lengths.{is_full}
use Rattle.rapid_model.specs.Paths.{has_sort}
use Rattle.rapid_model.specs.Sorts.{is_value_of}
use Rattle.rapid_model.specs.declared.value.Value.{Value}
use Rattle.persist_store.specs.Rows.{ArePut, RowsData}
use Rattle.persist_store.proofs.Elements.{holds_at}
use Rattle.persist_store.proofs.Laid.{one_put}
use Rattle.persist_store.proofs.laying.lay.Goals as goal

pub loop-value-preserved : goal.loop-value-preserved
loop-value-preserved c =
    let row = c.args.row.now in
    let value : Value = c.value-item.result in
    let k = c.loop-value.value-index in
    let same : c.as_slice-value-items.result.now ≡ row.first = c.as_slice-value-items.ensures in
    let long : length c.as_slice-value-items.result.now ≡ length row.first = ap length same in
    let within : k < length row.first = omega arith in
    let is : value ≡ get_or row.first k value = c.value-item.is ∙ ap (λ vs. get_or vs k value) same in
    let of_sort : is_value_of row.sort value ≡ true = subst (λ (v : Value). is_value_of row.sort v ≡ true) (sym is) (holds_at (is_value_of row.sort) row.first k value c.requires.sorts within) in
    let has : has_sort row.sort value ≡ true = and_from (is_value_of row.sort value) (is_full value) of_sort c.value_is_full.ensures in
    let more : take (k + 1) row.first ≡ take k row.first ++ value ∷ [] = take_more row.first k value within ∙ ap (λ (v : Value). take k row.first ++ v ∷ []) (sym is) in
    let put = one_put c.args.rows.now c.loop-value.rows row.sort c.in-Ok.from (take k row.first) value c.loop-value.invariant has in
    subst (λ (vs : List Value). ArePut c.args.rows.now c.push.new.self row.sort c.in-Ok.from vs) (sym more)
    (subst (λ (rows : RowsData). ArePut c.args.rows.now rows row.sort c.in-Ok.from (take k row.first ++ value ∷ [])) (sym c.in_ok-push.ensures) put)
