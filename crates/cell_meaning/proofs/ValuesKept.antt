-- Each persistent keeps its type and length along a history, so each of its parts has a value of the part's type.
use Rattle.std.proofs.Common.{◌≡◌, ◌<◌, ◌⊎◌, inl, inr, ℕ, zero, suc, ◌-◌, Bool, true, false, List, [], ◌∷◌, ◌++◌, length, get_or, set, map, Option, None, Some, is_some, refl, sym, ◌∙◌, ap, subst}
use Rattle.std.specs.Prelude.{◌&&◌, ◌==◌, IsTrue, IsSomeAnd, nat_lt, slice_get}
use Rattle.std.specs.List.{list_all}
use Rattle.std.specs.Option.{option_and_then, unwrap_or}
use Rattle.std.proofs.lemmas.Bool.{and_parts, eqb-true, false≢true}
use Rattle.std.proofs.lemmas.Option.{slice_get-get_or}
use Rattle.rapid_model.specs.CellData.{CellData, IsCell, is_pers_cell}
use Rattle.rapid_model.specs.Lengths.{is_full}
use Rattle.rapid_model.specs.Limits.{holds_where_there, is_within}
use Rattle.rapid_model.specs.Own.{part_of}
use Rattle.rapid_model.specs.Paths.{fits_part, has_element, has_path, has_sort, part_sort}
use Rattle.rapid_model.specs.Requests.{of_pers, is_bool, suits_task}
use Rattle.rapid_model.specs.Sorts.{is_value_of, width}
use Rattle.rapid_model.specs.declared.answer.Answer.{Answer}
use Rattle.rapid_model.specs.declared.answer.Answer.TheVariants as answers
use Rattle.rapid_model.specs.declared.event.Event.{Event}
use Rattle.rapid_model.specs.declared.part_name.PartName.{PartName}
use Rattle.rapid_model.specs.declared.path.Path.{Path}
use Rattle.rapid_model.specs.declared.pers_cell.PersCell.{PersCell}
use Rattle.rapid_model.specs.declared.request.Request.{Request}
use Rattle.rapid_model.specs.declared.request.Request.TheVariants as requests
use Rattle.rapid_model.specs.declared.sort.Sort.{Sort}
use Rattle.rapid_model.specs.declared.sort.Sort.TheVariants as sorts
use Rattle.rapid_model.specs.declared.task_row.TaskRow.{TaskRow}
use Rattle.rapid_model.specs.declared.value.Value.{Value}
use Rattle.rapid_model.specs.declared.value.Value.TheVariants as values
use Rattle.rapid_model.proofs.FullValues.{all_have_sort}
use Rattle.rapid_values.specs.Values.{part_of as value_part, put_part}
use Rattle.persist_store.specs.Stores.{PersData, IsKept, element_of, first_row}
use Rattle.persist_store.proofs.Elements.{kept_put, within_width, holds_at}
use Rattle.persist_store.proofs.PartsFit.{fits_some, put_fits, part_there}
use Rattle.cell_meaning.specs.Premises.{AllAnswered, StartsFull}
use Rattle.cell_meaning.specs.Stored.{element_index, part_put, with_part, put_at, persistents_with, persistents_after, persistent_after, value_at}
use Rattle.cell_meaning.proofs.Asked.{TaskMay, ScriptMay, who_may}
use Rattle.cell_meaning.proofs.Lists.{from_front, written_keeps}
use Rattle.cell_meaning.proofs.MoreEvents.{persistents_after-more}

-- a persistent of this row with these elements
abbrev pub row_with : PersCell → List Value → PersData
row_with row elements = record { sort = row.sort; len = row.len; values = elements }

abbrev AllKept : CellData → List (List Value) → Type 0
AllKept cell rows = (pers : ℕ) (row : PersCell) → slice_get cell.pers pers ≡ Some row → IsKept (row_with row (get_or rows pers []))

row_kept : (tasks : ℕ) (row : PersCell) → is_pers_cell tasks row ≡ true → list_all is_full row.first ≡ true → IsKept (first_row row)
row_kept tasks row is full =
    let w = and_parts (holds_where_there (λ task. nat_lt task tasks) row.owner && holds_where_there (is_within 1 1_000) row.len && length row.first == width row.len) (list_all (is_value_of row.sort) row.first) is in
    let v = and_parts (holds_where_there (λ task. nat_lt task tasks) row.owner && holds_where_there (is_within 1 1_000) row.len) (length row.first == width row.len) w.0 in
    record { count = eqb-true (length row.first) (width row.len) v.1; sorts = all_have_sort row.sort row.first w.1 full }

rows_kept : (tasks : ℕ) (rows : List PersCell) → list_all (is_pers_cell tasks) rows ≡ true → list_all (λ row. list_all is_full row.first) rows ≡ true
    → (pers : ℕ) (row : PersCell) → slice_get rows pers ≡ Some row → IsKept (row_with row (get_or (map (λ (r : PersCell). r.first) rows) pers []))
rows_kept tasks [] is full pers row at = cc
rows_kept tasks (r ∷ rows) is full zero row at =
    let same : r ≡ row = cc in
    subst (λ (x : PersCell). IsKept (row_with x r.first)) same
    (row_kept tasks r (and_parts (is_pers_cell tasks r) (list_all (is_pers_cell tasks) rows) is).0 (and_parts (list_all is_full r.first) (list_all (λ (x : PersCell). list_all is_full x.first) rows) full).0)
rows_kept tasks (r ∷ rows) is full (suc pers) row at =
    rows_kept tasks rows (and_parts (is_pers_cell tasks r) (list_all (is_pers_cell tasks) rows) is).1
    (and_parts (list_all is_full r.first) (list_all (λ (x : PersCell). list_all is_full x.first) rows) full).1 pers row at

-- a condition on the persistent with this number
abbrev pub test_of : (PersCell → Bool) → Option PersCell → Bool
test_of test None = false
test_of test (Some row) = test row

pers_there : (cell : CellData) (pers : ℕ) (row : PersCell) (test : PersCell → Bool) → slice_get cell.pers pers ≡ Some row → of_pers cell pers test ≡ true → test row ≡ true
pers_there cell pers row test at holds = sym (ap (test_of test) at) ∙ holds

-- an element that a path names exists, and has the type
record HasElement (row : PersCell) (elements : List Value) (path : Path) : Type 0 where
  value : Value
  there : slice_get elements (element_index path) ≡ Some value
  same : element_of (row_with row elements) path.index ≡ value
  typed : IsTrue (has_sort row.sort value)

element_there : (row : PersCell) (elements : List Value) (path : Path) → IsKept (row_with row elements) → has_element row.len path.index ≡ true → HasElement row elements path
element_there row elements path kept there =
    let within = within_width elements row.len path.index kept.count there in
    let value = get_or elements (path.index - 1) (values.Bool false) in
    record {
      value = value;
      there = slice_get-get_or elements (path.index - 1) (values.Bool false) within;
      same = refl;
      typed = holds_at (has_sort row.sort) elements (path.index - 1) (values.Bool false) kept.sorts within;
    }

-- a value that fits its path is written into an element
pub record IsWritten (row : PersCell) (elements : List Value) (path : Path) (new : Value) : Type 0 where
  pub old : Value
  pub within : path.index - 1 < length elements
  pub same : element_of (row_with row elements) path.index ≡ old
  pub there : slice_get elements (element_index path) ≡ Some old
  pub typed : IsTrue (has_sort row.sort old)
  pub written : Value
  pub put : put_part old path.part new ≡ Some written
  pub made : with_part elements path new ≡ set elements (path.index - 1) written

pub part_written : (row : PersCell) (elements : List Value) (path : Path) (new : Value) → IsKept (row_with row elements) → has_path row path ≡ true → fits_part row.sort path.part new ≡ true
    → IsWritten row elements path new
part_written row elements path new kept path_there fits =
    let there = (and_parts (has_element row.len path.index) (is_some (part_sort row.sort path.part)) path_there).0 in
    let element = element_there row elements path kept there in
    by element (within_width elements row.len path.index kept.count there) (put_part element.value path.part new) refl
  where
    by : (element : HasElement row elements path) → path.index - 1 < length elements → (put : Option Value) → put_part element.value path.part new ≡ put → IsWritten row elements path new
    by element within None is = absurd (subst (λ (o : Option Value). IsSomeAnd o (λ w. IsTrue (has_sort row.sort w))) is (put_fits row.sort element.value new path.part element.typed fits))
    by element within (Some w) is = record {
      old = element.value;
      within = within;
      same = element.same;
      there = element.there;
      typed = element.typed;
      written = w;
      put = is;
      made =
          ap (λ (o : Option Value). part_put elements path new o) element.there ∙ ap (λ (o : Option Value). set elements (element_index path) (unwrap_or o element.value)) is;
    }

-- and the persistent stays well formed
put_kept : (row : PersCell) (elements : List Value) (path : Path) (new : Value) → IsKept (row_with row elements) → has_path row path ≡ true → fits_part row.sort path.part new ≡ true
    → IsKept (row_with row (with_part elements path new))
put_kept row elements path new kept path_there fits =
    let there = (and_parts (has_element row.len path.index) (is_some (part_sort row.sort path.part)) path_there).0 in
    let part = part_written row elements path new kept path_there fits in
    let put : put_part (element_of (row_with row elements) path.index) path.part new ≡ Some part.written = ap (λ (v : Value). put_part v path.part new) part.same ∙ part.put in
    subst (λ (vs : List Value). IsKept (row_with row vs)) (sym part.made) (kept_put (row_with row elements) path.index path.part new part.written kept there fits put)

fits_bool : (sort : Sort) (part : PartName) → is_bool (part_sort sort part) ≡ true → fits_part sort part (values.Bool true) ≡ true
fits_bool sort part is = by (part_sort sort part) refl is
  where
    by : (inner : Option Sort) → part_sort sort part ≡ inner → is_bool inner ≡ true → fits_part sort part (values.Bool true) ≡ true
    by (Some sorts.Bool) e h = fits_some sort sorts.Bool part (values.Bool true) e
    by (Some _) e h = absurd (false≢true h)
    by None e h = absurd (false≢true h)

put_all : (cell : CellData) (rows : List (List Value)) (at : ℕ) (path : Path) (new : Value) → AllKept cell rows
    → ((row : PersCell) → slice_get cell.pers at ≡ Some row → (has_path row path ≡ true) × (fits_part row.sort path.part new ≡ true))
    → AllKept cell (put_at rows at path new)
put_all cell rows at path new kept suits pers row there =
    written_keeps (λ elements. IsKept (row_with row elements)) rows at pers (with_part (get_or rows at []) path new) [] (kept pers row there)
    (λ same.
    let here : slice_get cell.pers at ≡ Some row = subst (λ (k : ℕ). slice_get cell.pers k ≡ Some row) same there in
    let w = suits row here in
    put_kept row (get_or rows at []) path new (kept at row here) w.0 w.1)

kept_with : (cell : CellData) (rows : List (List Value)) (row : TaskRow) (mine : List Event) (request : Request) (answer : Answer) → suits_task cell row mine request ≡ true → AllKept cell rows
    → AllKept cell (persistents_with rows request answer)
kept_with cell rows row mine (requests.WriteP pers path value) answers.Ok suits kept =
    put_all cell rows pers path value kept
    (λ r there. and_parts (has_path r path) (fits_part r.sort path.part value) (pers_there cell pers r (λ p. has_path p path && fits_part p.sort path.part value) there suits))
kept_with cell rows row mine (requests.TestSet pers path) (answers.Yes true) suits kept =
    put_all cell rows pers path (values.Bool true) kept
    (λ r there.
    let w = and_parts (has_path r path) (is_bool (part_sort r.sort path.part)) (pers_there cell pers r (λ p. has_path p path && is_bool (part_sort p.sort path.part)) there suits) in
    (w.0, fits_bool r.sort path.part w.1))
kept_with cell rows row mine _ _ suits kept = kept

pub values_kept_more : (cell : CellData) (history : List Event) (e : Event) → TaskMay cell e.actor (part_of e.actor history) e.request ⊎ ScriptMay cell e.actor (part_of e.actor history) e.request
    → AllKept cell (persistents_after cell history) → AllKept cell (persistents_after cell (history ++ e ∷ []))
values_kept_more cell history e may kept =
    subst (AllKept cell) (sym (persistents_after-more cell history e)) (by may)
  where
    by : TaskMay cell e.actor (part_of e.actor history) e.request ⊎ ScriptMay cell e.actor (part_of e.actor history) e.request → AllKept cell (persistents_with (persistents_after cell history) e.request e.answer)
    by (inl task) = kept_with cell (persistents_after cell history) task.row (part_of e.actor history) e.request e.answer task.suits kept
    by (inr script) = subst (λ (r : Request). AllKept cell (persistents_with (persistents_after cell history) r e.answer)) (sym script.next) kept

-- each persistent has values of its type, as many as its length says
pub values_kept : (cell : CellData) (history : List Event) → IsCell cell → StartsFull cell → AllAnswered cell history
    → (pers : ℕ) (row : PersCell) → slice_get cell.pers pers ≡ Some row → IsKept (record { sort = row.sort; len = row.len; values = persistent_after cell history pers })
values_kept cell history limits full asked =
    from_front (λ h. AllKept cell (persistents_after cell h)) history (rows_kept (length cell.tasks) cell.pers limits.pers full.full)
    (λ before after e is kept. values_kept_more cell before e (who_may cell e.actor (part_of e.actor before) e.request (asked.might before after e is)) kept)

-- the part of a persistent that a path names has a value of the part's type
pub record HasValue (row : PersCell) (elements : List Value) (path : Path) : Type 0 where
  pub value : Value
  pub there : value_at elements path ≡ Some value
  pub fits : IsTrue (fits_part row.sort path.part value)

pub value_there : (row : PersCell) (elements : List Value) (path : Path) → IsKept (record { sort = row.sort; len = row.len; values = elements }) → has_path row path ≡ true → HasValue row elements path
value_there row elements path kept path_there =
    let w = and_parts (has_element row.len path.index) (is_some (part_sort row.sort path.part)) path_there in
    let element = element_there row elements path kept w.0 in
    by element (part_sort row.sort path.part) refl w.1
  where
    found : (element : HasElement row elements path) (inner : Sort) (part : Option Value) → part_sort row.sort path.part ≡ Some inner → value_part element.value path.part ≡ part
        → IsSomeAnd (value_part element.value path.part) (λ w. IsTrue (has_sort inner w)) → HasValue row elements path
    found element inner None e is typed = absurd (subst (λ (o : Option Value). IsSomeAnd o (λ w. IsTrue (has_sort inner w))) is typed)
    found element inner (Some w) e is typed = record {
      value = w;
      there = ap (λ (o : Option Value). option_and_then (λ v. value_part v path.part) o) element.there ∙ is;
      fits = fits_some row.sort inner path.part w e ∙ subst (λ (o : Option Value). IsSomeAnd o (λ v. IsTrue (has_sort inner v))) is typed;
    }

    by : (element : HasElement row elements path) (inner : Option Sort) → part_sort row.sort path.part ≡ inner → is_some inner ≡ true → HasValue row elements path
    by element None e h = absurd (false≢true h)
    by element (Some inner) e h = found element inner (value_part element.value path.part) e refl (part_there row.sort inner element.value path.part element.typed e)
