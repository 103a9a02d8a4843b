use Rattle.std.proofs.Common.{◌≡◌, ◌<◌, ◌+◌, List, [], ◌∷◌, ◌++◌, length, map, take, get_or, sym, ap, subst, ◌∙◌, arith}
use Rattle.std.proofs.lemmas.List.{map_push, take_more}
use Rattle.rapid_model.specs.declared.pers_cell.PersCell.{PersCell}
use Rattle.persist_store.specs.Rows.{IsLaid, row_of}
use Rattle.persist_store.specs.Stores.{first_row}
use Rattle.persist_store.specs.declared.place.Place.{Place}
use Rattle.persist_store.proofs.Laid.{laid_more, rows_more}
use Rattle.persist_store.proofs.laying.laid_out.Goals as goal

pub loop-row-preserved : goal.loop-row-preserved
loop-row-preserved c =
    let rows : List PersCell = c.args.cell.now.pers in
    let k = c.loop-row.row-index in
    let row : PersCell = c.row-item.result in
    let places : List Place = c.loop-row.places.items in
    let same : c.as_slice-row-items.result.now ≡ rows = c.as_slice-row-items.ensures ∙ c.pers.ensures in
    let long : length c.as_slice-row-items.result.now ≡ length rows = ap length same in
    let within : k < length rows = omega arith in
    let is : row ≡ get_or rows k row = c.row-item.is ∙ ap (λ rs. get_or rs k row) same in
    let more : take (k + 1) rows ≡ take k rows ++ row ∷ [] = take_more rows k row within ∙ ap (λ (r : PersCell). take k rows ++ r ∷ []) (sym is) in
    let pushed : c.push.new.self.items ≡ places ++ c.in_ok-place.place ∷ [] = c.in_ok-push.ensures.items in
    record {
      rows = ap (map (row_of c.lay.new.rows)) pushed
          ∙ rows_more c.loop-row.rows c.lay.new.rows row c.in_ok-place.place places (map first_row (take k rows)) c.loop-row.invariant.laid c.in_ok-place.ensures c.loop-row.invariant.rows
          ∙ sym (ap (map first_row) more ∙ map_push first_row (take k rows) row);
      laid = subst (IsLaid c.lay.new.rows) (sym pushed) (laid_more c.loop-row.rows c.lay.new.rows row c.in_ok-place.place places c.loop-row.invariant.laid c.in_ok-place.ensures);
    }
