-- Lists of rows: the rest from one on, and their data.
use Rattle.std.proofs.Common.{◌≡◌, ℕ, ◌+◌, ◌*◌, ◌<◌, ◌≤◌, List, [], ◌∷◌, ◌++◌, length, get_or, map, drop, take, min, replicate, inl, inr, refl, sym, ap, ◌∙◌, arith}
use Rattle.std.specs.Prelude.{ℤ, pos, flat_map}
use Rattle.std.proofs.lemmas.Bool.{cases_lt}
use Rattle.std.proofs.lemmas.List.{at_drop_all, at_drop_more, flat_map_more, length-append, take_more}
use Rattle.std.proofs.lemmas.List.Folds.{flat_map-map}
use Rattle.rapid_meaning.specs.Frames.{first_values}
use Rattle.rapid_model.specs.declared.sort.Sort.{Sort}
use Rattle.rapid_model.specs.declared.value.Value.TheVariants.{Num}
use Rattle.stack_code.specs.Compiled.{sorts_of}
use Rattle.stack_code.specs.declared.pers_sort.PersSort.{PersSort}
use Rattle.typed_trees.specs.Plain.{TypedLocal, TypedRoutine, TypedSlot}
use Rattle.typed_trees.specs.Views.{view_local, view_pers, view_routine, view_slot}
use Rattle.typed_trees.specs.declared.data_rows.PersRow.{PersRow}
use Rattle.typed_trees.specs.declared.data_rows.SlotRow.{SlotRow}
use Rattle.typed_trees.specs.declared.datum.Datum.{Datum}
use Rattle.typed_trees.specs.declared.datum.Datum.TheVariants.{Plain}
use Rattle.typed_trees.specs.declared.routine.LocalRow.{LocalRow}
use Rattle.typed_trees.specs.declared.routine.Routine.{Routine}

abbrev pub routines_from : ℕ → List Routine → List TypedRoutine
routines_from i routines = map view_routine (drop i routines)

pub routines_more : (routines : List Routine) (i : ℕ) (r : Routine) → i < length routines → r ≡ get_or routines i r → routines_from i routines ≡ view_routine r ∷ routines_from (i + 1) routines
routines_more routines i r lt is =
    at_drop_more (map view_routine) routines i r lt ∙ ap (λ x. view_routine x ∷ routines_from (i + 1) routines) (sym is)

pub routines_end : (routines : List Routine) (i : ℕ) → length routines ≤ i → routines_from i routines ≡ []
routines_end routines i le = at_drop_all (map view_routine) routines i le

-- the types of persistents, from one on
abbrev pub sorts_from : ℕ → List ℕ → List PersRow → List PersSort
sorts_from i numbers rows = sorts_of (drop i numbers) (map view_pers (drop i rows))

abbrev pub pers_sort : ℕ → Sort → PersSort
pers_sort number sort = record { pers = number; sort = sort }

pub sorts_more : (numbers : List ℕ) (rows : List PersRow) (i number : ℕ) (row : PersRow) → i < length numbers → i < length rows → number ≡ get_or numbers i number → row ≡ get_or rows i row → sorts_from i numbers rows ≡ pers_sort number row.sort ∷ sorts_from (i + 1) numbers rows
unfolding sorts_of
sorts_more numbers rows i number row within there is same =
    at_drop_more (λ left. sorts_of left (map view_pers (drop i rows))) numbers i number within
    ∙ (at_drop_more (λ left. sorts_of (get_or numbers i number ∷ drop (i + 1) numbers) (map view_pers left)) rows i row there
    ∙ (ap (λ n. pers_sort n (get_or rows i row).sort ∷ sorts_from (i + 1) numbers rows) (sym is)
    ∙ ap (λ (r : PersRow). pers_sort number r.sort ∷ sorts_from (i + 1) numbers rows) (sym same)))

no_rows : (numbers : List ℕ) → sorts_of numbers [] ≡ []
unfolding sorts_of
no_rows [] = refl
no_rows (number ∷ numbers) = refl

pub sorts_end : (numbers : List ℕ) (rows : List PersRow) (i : ℕ) → i ≡ min (length numbers) (length rows) → sorts_from i numbers rows ≡ []
unfolding sorts_of
sorts_end numbers rows i end = elim (cases_lt i (length numbers)) [
  | inl within ↦ at_drop_all (λ left. sorts_of (drop i numbers) (map view_pers left)) rows i (omega (arith, end, within)) ∙ no_rows (drop i numbers)
  | inr past ↦ at_drop_all (λ left. sorts_of left (map view_pers (drop i rows))) numbers i past
]

-- data of rows, one row more
pub one_row_more : {X : Type 0} (f : X → List Datum) (front : List Datum) (xs : List X) (i : ℕ) (x : X) → i < length xs → x ≡ get_or xs i x → (front ++ flat_map f (take i xs)) ++ f x ≡ front ++ flat_map f (take (i + 1) xs)
one_row_more f front xs i x lt is =
    flat_map_more f front (take i xs) x
    ∙ ap (λ list. front ++ flat_map f list) (ap (λ y. take i xs ++ y ∷ []) is ∙ sym (take_more xs i x lt))

pub count_more : {X : Type 0} (f : X → List Datum) (xs : List X) (i : ℕ) (x : X) → i < length xs → x ≡ get_or xs i x → length (flat_map f (take i xs)) + length (f x) ≡ length (flat_map f (take (i + 1) xs))
count_more f xs i x lt is = sym (length-append (flat_map f (take i xs)) (f x)) ∙ ap length (one_row_more f [] xs i x lt is)

pub slots_as : (slots : List SlotRow) → flat_map (λ (row : SlotRow). row.first) slots ≡ flat_map (λ (row : TypedSlot). row.first) (map view_slot slots)
slots_as slots = sym (flat_map-map (λ (row : TypedSlot). row.first) view_slot slots)

-- the values with which a frame of a routine begins, by its rows
pub firsts_as : (routine : Routine) (counters : ℕ) (zero : ℤ) → counters ≡ 3 * routine.loops → zero ≡ pos 0 →
    flat_map (λ (row : LocalRow). row.first) routine.locals.items ++ replicate counters (Plain (Num zero)) ≡ first_values (view_routine routine)
firsts_as routine counters zero count is =
    ap (λ front. front ++ replicate counters (Plain (Num zero))) (sym (flat_map-map (λ (row : TypedLocal). row.first) view_local routine.locals.items))
    ∙ (ap (λ n. flat_map (λ (row : TypedLocal). row.first) (map view_local routine.locals.items) ++ replicate n (Plain (Num zero))) count
    ∙ ap (λ z. flat_map (λ (row : TypedLocal). row.first) (map view_local routine.locals.items) ++ replicate (3 * routine.loops) (Plain (Num z))) is)
