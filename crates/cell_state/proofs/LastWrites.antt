-- What a persistent holds after its last write, and without any.
use Rattle.std.proofs.Common.{◌≡◌, ◌⊎◌, ◌<◌, ◌-◌, inl, inr, refl, sym, ap, ◌∙◌, subst, ℕ, zero, suc, Bool, true, false, List, [], ◌∷◌, ◌++◌, length, get_or, set, Option, None, Some, append_assoc, arith}
use Rattle.std.specs.Prelude.{◌&&◌, ◌||◌, ◌==◌, IsTrue, option_map, slice_get}
use Rattle.std.specs.Option.{option_and_then}
use Rattle.std.proofs.lemmas.Bool.{and_parts, eq-eqb, false≢true}
use Rattle.std.proofs.lemmas.List.{append-nil}
use Rattle.std.proofs.lemmas.Option.{get_or_from_slice_get, slice_get-map, slice_get_within}
use Rattle.rapid_model.specs.CellData.{CellData, IsCell}
use Rattle.rapid_model.specs.Lengths.{is_full}
use Rattle.rapid_model.specs.Own.{part_of}
use Rattle.rapid_model.specs.Paths.{fits_part, has_path}
use Rattle.rapid_model.specs.Requests.{of_pers}
use Rattle.rapid_model.specs.Sorts.{is_value_of}
use Rattle.rapid_model.specs.declared.answer.Answer.{Answer}
use Rattle.rapid_model.specs.declared.answer.Answer.TheVariants as answers
use Rattle.rapid_model.specs.declared.event.Event.{Event}
use Rattle.rapid_model.specs.declared.path.Path.{Path}
use Rattle.rapid_model.specs.declared.pers_cell.PersCell.{PersCell}
use Rattle.rapid_model.specs.declared.request.Request.{Request}
use Rattle.rapid_model.specs.declared.request.Request.TheVariants as requests
use Rattle.rapid_model.specs.declared.value.Value.{Value}
use Rattle.rapid_model.specs.declared.value.Value.TheVariants as values
use Rattle.rapid_values.specs.Values.{part_of as value_part}
use Rattle.rapid_values.proofs.Changed.{put_there}
use Rattle.cell_meaning.specs.Answers.{IsAnswer}
use Rattle.cell_meaning.specs.Asking.{Asking}
use Rattle.cell_meaning.specs.Histories.{IsLegal}
use Rattle.cell_meaning.specs.MayAsk.{may_ask}
use Rattle.cell_meaning.specs.Premises.{AllAnswered, AsksWhatItMay, StartsFull}
use Rattle.cell_meaning.specs.Stored.{persistent_after, persistents_after, persistents_with, put_at, value_at, with_part}
use Rattle.cell_meaning.proofs.Asked.{TaskMay, ScriptMay, who_may}
use Rattle.cell_meaning.proofs.ByTurns.{legal_answered}
use Rattle.cell_meaning.proofs.MoreChanges.{length-persistents_after}
use Rattle.cell_meaning.proofs.MoreEvents.{persistents_after-more}
use Rattle.cell_meaning.proofs.ValuesKept.{IsWritten, part_written, row_with, test_of, values_kept}
use Rattle.persist_store.specs.Stores.{IsKept}
use Rattle.persist_store.proofs.PartsFit.{fitting}
use Rattle.history_audit.proofs.Fronts.{legal_front}
use Rattle.cell_state.specs.Writes.{is_written, writes_with}

-- an element after a write
get-set_other : {A : Type 0} (xs : List A) (i j : ℕ) (x : A) → (i ≡ j → ⊥) → slice_get (set xs i x) j ≡ slice_get xs j
get-set_other [] i j x other = refl
get-set_other (y ∷ ys) zero zero x other = absurd (other refl)
get-set_other (y ∷ ys) zero (suc j) x other = refl
get-set_other (y ∷ ys) (suc i) zero x other = refl
get-set_other (y ∷ ys) (suc i) (suc j) x other = get-set_other ys i j x (λ same. other (ap suc same))

get-set_same : {A : Type 0} (xs : List A) (i : ℕ) (x : A) → i < length xs → slice_get (set xs i x) i ≡ Some x
get-set_same [] i x within = absurd (omega (arith, within))
get-set_same (y ∷ ys) zero x within = refl
get-set_same (y ∷ ys) (suc i) x within = get-set_same ys i x (omega (arith, within))

or_parts : (a b : Bool) → (a || b) ≡ false → (a ≡ false) × (b ≡ false)
or_parts false b is = (refl, is)
or_parts true b is = absurd (false≢true (sym is))

apart : (number pers : ℕ) → (number == pers) ≡ false → number ≡ pers → ⊥
apart number pers other same = false≢true (sym other ∙ eq-eqb number pers same)

-- an event that does not write a persistent leaves it as it is
left_alone : (rows : List (List Value)) (pers : ℕ) (request : Request) (answer : Answer) → writes_with pers request answer ≡ false
    → slice_get (persistents_with rows request answer) pers ≡ slice_get rows pers
left_alone rows pers (requests.WriteP number path value) answers.Ok other = get-set_other rows number pers (with_part (get_or rows number []) path value) (apart number pers other)
left_alone rows pers (requests.TestSet number path) (answers.Yes true) other = get-set_other rows number pers (with_part (get_or rows number []) path (values.Bool true)) (apart number pers other)
left_alone rows pers _ _ other = refl

-- nor do events of which none writes it
pub alone_along : (cell : CellData) (before after : List Event) (pers : ℕ) → is_written pers after ≡ false
    → slice_get (persistents_after cell (before ++ after)) pers ≡ slice_get (persistents_after cell before) pers
alone_along cell before [] pers none = ap (λ (h : List Event). slice_get (persistents_after cell h) pers) (append-nil before)
alone_along cell before (e ∷ es) pers none =
    let parts = or_parts (writes_with pers e.request e.answer) (is_written pers es) none in
    ap (λ (h : List Event). slice_get (persistents_after cell h) pers) (sym (append_assoc before (e ∷ []) es))
    ∙ alone_along cell (before ++ e ∷ []) es pers parts.1
    ∙ ap (λ (rows : List (List Value)). slice_get rows pers) (persistents_after-more cell before e)
    ∙ left_alone (persistents_after cell before) pers e.request e.answer parts.0

pub unwritten : (cell : CellData) (history : List Event) (pers : ℕ) → is_written pers history ≡ false
    → slice_get (persistents_after cell history) pers ≡ option_map (λ (row : PersCell). row.first) (slice_get cell.pers pers)
unwritten cell history pers none = alone_along cell [] history pers none ∙ slice_get-map (λ (row : PersCell). row.first) cell.pers pers

-- a part that was written is there
part_there : (row : PersCell) (elements : List Value) (path : Path) (new : Value) → fits_part row.sort path.part new ≡ true → IsWritten row elements path new
    → value_at (with_part elements path new) path ≡ Some new
part_there row elements path new fits w =
    let inner = fitting row.sort path.part new fits in
    let full_old : is_full w.old ≡ true = (and_parts (is_value_of row.sort w.old) (is_full w.old) w.typed).1 in
    let full_new : is_full new ≡ true = (and_parts (is_value_of inner.0 new) (is_full new) inner.2).1 in
    ap (λ (xs : List Value). value_at xs path) w.made
    ∙ ap (λ (o : Option Value). option_and_then (λ v. value_part v path.part) o) (get-set_same elements (path.index - 1) w.written w.within)
    ∙ put_there w.old w.written new path.part full_old full_new w.put

-- the persistent that a task may write
record MayWrite (cell : CellData) (pers : ℕ) (path : Path) (new : Value) : Type 0 where
  row : PersCell
  there : slice_get cell.pers pers ≡ Some row
  has : has_path row path ≡ true
  fits : fits_part row.sort path.part new ≡ true

may_write : (cell : CellData) (actor : ℕ) (mine : List Event) (pers : ℕ) (path : Path) (new : Value) → IsTrue (may_ask cell actor mine (requests.WriteP pers path new)) → MayWrite cell pers path new
may_write cell actor mine pers path new may = by (who_may cell actor mine (requests.WriteP pers path new) may)
  where
    row_of : (row : Option PersCell) → slice_get cell.pers pers ≡ row → IsTrue (test_of (λ p. has_path p path && fits_part p.sort path.part new) row) → MayWrite cell pers path new
    row_of None there suits = absurd (false≢true suits)
    row_of (Some row) there suits = let w = and_parts (has_path row path) (fits_part row.sort path.part new) suits in record { row = row; there = there; has = w.0; fits = w.1 }

    there_is : (o : Option PersCell) → slice_get cell.pers pers ≡ o → IsTrue (of_pers cell pers (λ p. has_path p path && fits_part p.sort path.part new)) → MayWrite cell pers path new
    there_is o there suits = row_of o there (sym (ap (test_of (λ p. has_path p path && fits_part p.sort path.part new)) there) ∙ suits)

    by : TaskMay cell actor mine (requests.WriteP pers path new) ⊎ ScriptMay cell actor mine (requests.WriteP pers path new) → MayWrite cell pers path new
    by (inl task) = there_is (slice_get cell.pers pers) refl task.suits
    by (inr script) = let never = script.next in cc

-- after a write the part holds its value
just_written : (cell : CellData) (before : List Event) (e : Event) (pers : ℕ) (path : Path) (new : Value) → IsCell cell → StartsFull cell → AllAnswered cell before → IsTrue (may_ask cell e.actor (part_of e.actor before) e.request)
    → IsAnswer cell before e.actor e.request e.answer → e.request ≡ requests.WriteP pers path new
    → (elements : List Value) × (slice_get (persistents_after cell (before ++ e ∷ [])) pers ≡ Some elements) × (value_at elements path ≡ Some new)
just_written cell before e pers path new limits full asked may answered is =
    let old : List Value = persistent_after cell before pers in
    let can : MayWrite cell pers path new = may_write cell e.actor (part_of e.actor before) pers path new (subst (λ (r : Request). IsTrue (may_ask cell e.actor (part_of e.actor before) r)) is may) in
    let ok : e.answer ≡ answers.Ok = subst (λ (r : Request). IsAnswer cell before e.actor r e.answer) is answered in
    let kept : IsKept (row_with can.row old) = values_kept cell before limits full asked pers can.row can.there in
    let rows : persistents_after cell (before ++ e ∷ []) ≡ put_at (persistents_after cell before) pers path new =
    persistents_after-more cell before e ∙ ap (λ (r : Request). persistents_with (persistents_after cell before) r e.answer) is
    ∙ ap (λ (a : Answer). persistents_with (persistents_after cell before) (requests.WriteP pers path new) a) ok in
    let within : pers < length (persistents_after cell before) = (let few = slice_get_within cell.pers pers can.row can.there in let many = length-persistents_after cell before in omega (arith, few, many)) in (
      with_part old path new,
      ap (λ (all : List (List Value)). slice_get all pers) rows ∙ get-set_same (persistents_after cell before) pers (with_part old path new) within,
      part_there can.row old path new can.fits (part_written can.row old path new kept can.has can.fits),
    )

pub last_written : (asks : Asking) (cell : CellData) (before after : List Event) (e : Event) (pers : ℕ) (path : Path) (new : Value) → IsCell cell → StartsFull cell → AsksWhatItMay asks cell
    → IsLegal asks cell (before ++ e ∷ after) → e.request ≡ requests.WriteP pers path new → is_written pers after ≡ false → value_at (persistent_after cell (before ++ e ∷ after) pers) path ≡ Some new
last_written asks cell before after e pers path new limits full may legal is none =
    let asked : AllAnswered cell (before ++ e ∷ after) = legal_answered asks cell (before ++ e ∷ after) may legal in
    let earlier : AllAnswered cell before = legal_answered asks cell before may (legal_front asks cell (before ++ e ∷ after) before (e ∷ after) refl legal) in
    let here = just_written cell before e pers path new limits full earlier (asked.might before after e refl) (asked.answered before after e refl) is in
    let there : slice_get (persistents_after cell (before ++ e ∷ after)) pers ≡ Some here.0 =
    ap (λ (h : List Event). slice_get (persistents_after cell h) pers) (sym (append_assoc before (e ∷ []) after)) ∙ alone_along cell (before ++ e ∷ []) after pers none ∙ here.1 in
    ap (λ (xs : List Value). value_at xs path) (get_or_from_slice_get (persistents_after cell (before ++ e ∷ after)) pers here.0 [] there) ∙ here.2
