-- Each persistent keeps its number of elements along a history.
use Rattle.std.proofs.Common.{◌≡◌, ◌<◌, ◌≤◌, refl, ap, ◌∙◌, subst, ℕ, zero, suc, ◌+◌, true, List, [], ◌∷◌, ◌++◌, length, map, take, get_or, set, Option, None, Some, length-set, arith}
use Rattle.std.specs.Prelude.{◌&&◌, ◌==◌, nat_lt, slice_get}
use Rattle.std.specs.List.{list_all}
use Rattle.std.specs.Option.{unwrap_or}
use Rattle.std.proofs.lemmas.Bool.{and_parts, eqb-true}
use Rattle.std.proofs.lemmas.List.{take_all, take_more}
use Rattle.std.proofs.lemmas.Option.{get_or_from_slice_get, slice_get-get_or, slice_get_within}
use Rattle.rapid_model.specs.CellData.{CellData, IsCell, is_pers_cell}
use Rattle.rapid_model.specs.Limits.{holds_where_there, is_within}
use Rattle.rapid_model.specs.Sorts.{is_value_of, width}
use Rattle.rapid_model.specs.declared.answer.Answer.{Answer}
use Rattle.rapid_model.specs.declared.answer.Answer.TheVariants as answers
use Rattle.rapid_model.specs.declared.event.Event.{Event}
use Rattle.rapid_model.specs.declared.path.Path.{Path}
use Rattle.rapid_model.specs.declared.pers_cell.PersCell.{PersCell}
use Rattle.rapid_model.specs.declared.request.Request.{Request}
use Rattle.rapid_model.specs.declared.request.Request.TheVariants as requests
use Rattle.rapid_model.specs.declared.value.Value.{Value}
use Rattle.rapid_model.specs.declared.value.Value.TheVariants as values
use Rattle.rapid_values.specs.Values.{put_part}
use Rattle.cell_meaning.specs.Stored.{element_index, part_put, persistent_after, persistents_after, persistents_with, put_at, with_part}
use Rattle.cell_meaning.proofs.Lists.{from_front}
use Rattle.cell_meaning.proofs.MoreChanges.{length-persistents_after}
use Rattle.cell_meaning.proofs.MoreEvents.{persistents_after-more}

length-with_part : (elements : List Value) (path : Path) (new : Value) → length (with_part elements path new) ≡ length elements
length-with_part elements path new = by (slice_get elements (element_index path))
  where
    by : (old : Option Value) → length (part_put elements path new old) ≡ length elements
    by None = refl
    by (Some old) = length-set elements (element_index path) (unwrap_or (put_part old path.part new) old)

-- a row written over one of the same length changes no length
lengths-set : (rows : List (List Value)) (k : ℕ) (row : List Value) → length row ≡ length (get_or rows k []) → map length (set rows k row) ≡ map length rows
lengths-set [] k row is = refl
lengths-set (x ∷ rows) zero row is = ap (λ (n : ℕ). n ∷ map length rows) is
lengths-set (x ∷ rows) (suc k) row is = ap (λ (ns : List ℕ). length x ∷ ns) (lengths-set rows k row is)

lengths-put_at : (rows : List (List Value)) (pers : ℕ) (path : Path) (new : Value) → map length (put_at rows pers path new) ≡ map length rows
lengths-put_at rows pers path new = lengths-set rows pers (with_part (get_or rows pers []) path new) (length-with_part (get_or rows pers []) path new)

lengths_with : (rows : List (List Value)) (request : Request) (answer : Answer) → map length (persistents_with rows request answer) ≡ map length rows
lengths_with rows (requests.WriteP pers path value) answers.Ok = lengths-put_at rows pers path value
lengths_with rows (requests.TestSet pers path) (answers.Yes true) = lengths-put_at rows pers path (values.Bool true)
lengths_with rows _ _ = refl

lengths_after : (cell : CellData) (history : List Event) → map length (persistents_after cell history) ≡ map length (map (λ (row : PersCell). row.first) cell.pers)
lengths_after cell history =
    from_front (λ h. map length (persistents_after cell h) ≡ map length (map (λ (row : PersCell). row.first) cell.pers)) history refl
    (λ before after e is same. ap (λ (rows : List (List Value)). map length rows) (persistents_after-more cell before e) ∙ lengths_with (persistents_after cell before) e.request e.answer ∙ same)

same_length : (rows : List (List Value)) (cells : List PersCell) (pers : ℕ) (row : PersCell) → map length rows ≡ map length (map (λ (r : PersCell). r.first) cells) → slice_get cells pers ≡ Some row
    → length (get_or rows pers []) ≡ length row.first
same_length rows [] pers row same there = cc
same_length [] (c ∷ cells) pers row same there = cc
same_length (x ∷ rows) (c ∷ cells) zero row same there =
    let is : c ≡ row = cc in
    let here : length x ≡ length c.first = cc in
    here ∙ ap (λ (r : PersCell). length r.first) is
same_length (x ∷ rows) (c ∷ cells) (suc pers) row same there = let behind : map length rows ≡ map length (map (λ (r : PersCell). r.first) cells) = cc in same_length rows cells pers row behind there

pub elements_kept : (cell : CellData) (history : List Event) (pers : ℕ) (row : PersCell) → slice_get cell.pers pers ≡ Some row → length (persistent_after cell history pers) ≡ length row.first
elements_kept cell history pers row there = same_length (persistents_after cell history) cell.pers pers row (lengths_after cell history) there

-- and as many as its length says
row_width : (tasks : ℕ) (rows : List PersCell) (k : ℕ) (row : PersCell) → list_all (is_pers_cell tasks) rows ≡ true → slice_get rows k ≡ Some row → length row.first ≡ width row.len
row_width tasks [] k row are there = cc
row_width tasks (r ∷ rows) zero row are there =
    let same : r ≡ row = cc in
    let is = (and_parts (is_pers_cell tasks r) (list_all (is_pers_cell tasks) rows) are).0 in
    let front = holds_where_there (λ task. nat_lt task tasks) r.owner && holds_where_there (is_within 1 1_000) r.len in
    let count = (and_parts (front && length r.first == width r.len) (list_all (is_value_of r.sort) r.first) is).0 in
    subst (λ (x : PersCell). length x.first ≡ width x.len) same (eqb-true (length r.first) (width r.len) (and_parts front (length r.first == width r.len) count).1)
row_width tasks (r ∷ rows) (suc k) row are there = row_width tasks rows k row (and_parts (is_pers_cell tasks r) (list_all (is_pers_cell tasks) rows) are).1 there

pub elements_count : (cell : CellData) (history : List Event) (pers : ℕ) (row : PersCell) → IsCell cell → slice_get cell.pers pers ≡ Some row → length (persistent_after cell history pers) ≡ width row.len
elements_count cell history pers row limits there = elements_kept cell history pers row there ∙ row_width (length cell.tasks) cell.pers pers row limits.pers there

-- one more element
pub take_next : {A : Type 0} (xs : List A) (k : ℕ) (x : A) → slice_get xs k ≡ Some x → take (k + 1) xs ≡ take k xs ++ x ∷ []
take_next {A = A} xs k x there =
    take_more xs k x (slice_get_within xs k x there) ∙ ap (λ (y : A). take k xs ++ y ∷ []) (get_or_from_slice_get xs k x x there)

-- a list with as many elements as another has the same elements
pub persistents_so : (cell : CellData) (history : List Event) (k : ℕ) → length cell.pers ≤ k → take k (persistents_after cell history) ≡ persistents_after cell history
persistents_so cell history k all = take_all k (persistents_after cell history) (let many = length-persistents_after cell history in omega (arith, all, many))

-- the elements of the persistent with this number are the next in the list
pub next_elements : (cell : CellData) (history : List Event) (pers : ℕ) → pers < length cell.pers → slice_get (persistents_after cell history) pers ≡ Some (persistent_after cell history pers)
next_elements cell history pers within =
    slice_get-get_or (persistents_after cell history) pers [] (let many = length-persistents_after cell history in omega (arith, within, many))
