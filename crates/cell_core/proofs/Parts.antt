-- The parts of persistents, as a store keeps them.
use Rattle.std.proofs.Common.{◌≡◌, ℕ, zero, suc, ◌-◌, ◌<◌, false, List, [], ◌∷◌, length, set, Option, None, Some, is_some, refl, sym, ◌∙◌, ap}
use Rattle.std.specs.Prelude.{IsTrue}
use Rattle.std.specs.Option.{unwrap_or}
use Rattle.std.proofs.lemmas.Option.{slice_get-get_or}
use Rattle.std.proofs.lemmas.Bool.{and_from}
use Rattle.rapid_model.specs.Paths.{fits_part, has_element, part_sort}
use Rattle.rapid_model.specs.declared.path.Path.{Path}
use Rattle.rapid_model.specs.declared.pers_cell.PersCell.{PersCell}
use Rattle.rapid_model.specs.declared.value.Value.{Value}
use Rattle.rapid_model.specs.declared.value.Value.TheVariants as values
use Rattle.rapid_values.specs.Equality.{same}
use Rattle.rapid_values.specs.Values.{part_of}
use Rattle.persist_store.specs.Stores.{PersData, IsPut, IsStored, element_of, row_at}
use Rattle.persist_store.proofs.Elements.{within_width}
use Rattle.cell_meaning.specs.Stored.{part_put, with_part, value_at}
use Rattle.cell_meaning.proofs.BoardsTell.{kept_value}
use Rattle.cell_meaning.proofs.PartChanges.{elements_by_part}
use Rattle.cell_core.specs.Boards.{elements_at, put_in}
use Rattle.cell_core.specs.Changes.{stays_same}
use Rattle.cell_core.specs.Ready.{HasPart}

-- the elements of a persistent are those of its row
pub elements_row : (rows : List PersData) (pers : ℕ) → elements_at rows pers ≡ (row_at rows pers).values
elements_row [] pers = refl
elements_row (row ∷ rows) zero = refl
elements_row (row ∷ rows) (suc pers) = elements_row rows pers

part_within : (rows : List PersData) (pers : ℕ) (path : Path) → HasPart rows pers path → path.index - 1 < length (row_at rows pers).values
part_within rows pers path has = within_width (row_at rows pers).values (row_at rows pers).len path.index has.kept.count has.element

pub part_read : (rows : List PersData) (pers : ℕ) (path : Path) (value : Value) → HasPart rows pers path → part_of (element_of (row_at rows pers) path.index) path.part ≡ Some value
    → value_at (elements_at rows pers) path ≡ Some value
part_read rows pers path value has is =
    ap (λ (vs : List Value). value_at vs path) (elements_row rows pers)
    ∙ kept_value (row_at rows pers) path value (part_within rows pers path has) is

put_elements : (old new : PersData) (path : Path) (value : Value) → path.index - 1 < length old.values → IsPut old new path value → new.values ≡ with_part old.values path value
put_elements old new path value within put =
    let there = slice_get-get_or old.values (path.index - 1) (values.Bool false) within in
    let made : with_part old.values path value ≡ set old.values (path.index - 1) (element_of new path.index) =
    ap (λ (o : Option Value). part_put old.values path value o) there
    ∙ ap (λ (o : Option Value). set old.values (path.index - 1) (unwrap_or o (element_of old path.index))) put.part in
    ap (λ (row : PersData). row.values) put.others ∙ sym made

-- a store to which a value was written
pub part_stored : (old new : List PersData) (pers : ℕ) (path : Path) (value : Value) → HasPart old pers path → IsStored old new pers path value → new ≡ put_in old pers path value
part_stored old new pers path value has stored =
    let was = row_at old pers in
    let now = row_at new pers in
    let made = put_elements was now path value (part_within old pers path has) stored.put in
    let shape : now ≡ record was { values = now.values } =
    stored.put.others ∙ ap (λ (vs : List Value). record was { values = vs }) (sym (ap (λ (row : PersData). row.values) stored.put.others)) in
    let row : now ≡ record was { values = with_part was.values path value } = shape ∙ ap (λ (vs : List Value). record was { values = vs }) made in
    stored.others ∙ ap (λ (r : PersData). set old pers r) row

-- the elements stay as they were exactly if the part does
pub part_stays : (rows : List PersData) (pers : ℕ) (path : Path) (old new : Value) → HasPart rows pers path → IsTrue (fits_part (row_at rows pers).sort path.part new)
    → value_at (elements_at rows pers) path ≡ Some old → same old new ≡ stays_same (row_at rows pers) path new
part_stays rows pers path old new has fits at =
    let row = row_at rows pers in
    let cell_row : PersCell = record { name = []; owner = None; sort = row.sort; len = row.len; first = [] } in
    let here : value_at row.values path ≡ Some old = ap (λ (vs : List Value). value_at vs path) (sym (elements_row rows pers)) ∙ at in
    sym (elements_by_part cell_row row.values path old new has.kept
    (and_from (has_element row.len path.index) (is_some (part_sort row.sort path.part)) has.element has.part) fits here)
