-- Where the first values of routines lie.
use Rattle.std.proofs.Common.{◌≡◌, refl, sym, ap, ◌∙◌, arith, ℕ, zero, suc, ◌+◌, ◌-◌, ◌<◌, ◌≤◌, List, [], ◌∷◌, length, map, take, drop, replicate, get_or, subst, Some, slice_get, min}
use Rattle.std.proofs.Math.Seq.{drop-nil, take-nil}
use Rattle.std.proofs.lemmas.List.{drop_all, length-append, length-replicate}
use Rattle.std.proofs.lemmas.Option.{slice_get_read, slice_get_within}
use Rattle.typed_trees.specs.declared.datum.Datum.{Datum}
use Rattle.stack_code.specs.CodeData.{CodeData}
use Rattle.stack_code.specs.Entering.{frame_in}
use Rattle.stack_code.specs.Firsts.{in_full}
use Rattle.stack_code.specs.Placed.{owner_at}
use Rattle.stack_code.specs.declared.first_run.FirstRun.{FirstRun}
use Rattle.stack_code.specs.declared.owner.Owner.{Owner}
use Rattle.stack_code.specs.declared.routine_row.RoutineRow.{RoutineRow}
use Rattle.task_code.specs.Owners.{IsNumberAt}
use Rattle.machine_stacks.specs.Starts.{frame_from, index_of, values_from}
use Rattle.machine_stacks.specs.declared.run_start.RunStart.{RunStart}
use Rattle.machine_stacks.proofs.Runs.{frame_from-row, one_run}
use Rattle.task_steps.specs.Loading.{IsLoaded, NamesOwners}

-- what stands at a place of two lists, of which a part of each is equal
beside_it : (runs : List FirstRun) (starts : List RunStart) (rows : List RoutineRow) (k : ℕ) (row : RoutineRow)
    → map (index_of runs) starts ≡ map (λ row. row.first) rows → slice_get rows k ≡ Some row → (k < length starts) × ((d : RunStart) → index_of runs (get_or starts k d) ≡ row.first)
beside_it runs starts [] k row same there = cc
beside_it runs [] (other ∷ rows) k row same there = cc
beside_it runs (start ∷ starts) (other ∷ rows) zero row same there =
    let own : other ≡ row = cc in
    let first : index_of runs start ≡ other.first = cc in
    (omega arith, λ d. first ∙ ap (λ (r : RoutineRow). r.first) own)
beside_it runs (start ∷ starts) (other ∷ rows) (suc k) row same there =
    let more : map (index_of runs) starts ≡ map (λ row. row.first) rows = cc in
    let it = beside_it runs starts rows k row more there in
    (omega (arith, it.0), it.1)

pub start_index : (code : CodeData) (runs : List FirstRun) (starts : List RunStart) (owners : List ℕ) (k : ℕ) (row : RoutineRow) (d : RunStart) → IsLoaded code runs starts owners → slice_get code.routines k ≡ Some row
    → index_of runs (get_or starts k d) ≡ row.first
start_index code runs starts owners k row d loaded there = (beside_it runs starts code.routines k row loaded.indexes there).1 d

-- how many values a run adds
pub length_run : (left skip passed count : ℕ) (firsts : List FirstRun) (run : ℕ) (first : FirstRun)
    → run < length firsts → first ≡ get_or firsts run first → passed ≡ min skip first.count → count ≡ min left (first.count - passed)
    → length (take left (drop skip (in_full (drop run firsts)))) ≡ count + length (take (left - count) (drop (skip - passed) (in_full (drop (run + 1) firsts))))
length_run left skip passed count firsts run first there is p t =
    let more : List Datum = take (left - count) (drop (skip - passed) (in_full (drop (run + 1) firsts))) in
    ap (λ (xs : List Datum). length xs) (one_run left skip passed count firsts run first there is p t)
    ∙ (length-append (replicate count first.datum) more ∙ ap (λ (n : ℕ). n + length more) (length-replicate count first.datum))

-- if no value is left
pub none_left : (firsts : List FirstRun) (run left skip : ℕ) → length firsts ≤ run → length (take left (drop skip (in_full (drop run firsts)))) ≡ 0
none_left firsts run left skip past =
    ap (λ (fs : List FirstRun). length (take left (drop skip (in_full fs)))) (drop_all run firsts past)
    ∙ (ap (λ (xs : List Datum). length (take left xs)) (drop-nil skip) ∙ ap (λ (xs : List Datum). length xs) (take-nil left))

pub none_wanted : (xs : List Datum) (left : ℕ) → left ≡ 0 → length (take left xs) ≡ 0
none_wanted xs left none = rw none refl

-- the values and the frame of a routine that is there
at_index : (code : CodeData) (runs : List FirstRun) (starts : List RunStart) (owners : List ℕ) (k : ℕ) (row : RoutineRow) (start : RunStart) → IsLoaded code runs starts owners → slice_get code.routines k ≡ Some row
    → start ≡ get_or starts k start → index_of runs start ≡ row.first
at_index code runs starts owners k row start loaded there is = ap (λ (s : RunStart). index_of runs s) is ∙ start_index code runs starts owners k row start loaded there

pub loaded_values : (code : CodeData) (runs firsts : List FirstRun) (starts : List RunStart) (owners : List ℕ) (k : ℕ) (row : RoutineRow) (start : RunStart) (own : ℕ)
    → IsLoaded code runs starts owners → slice_get code.routines k ≡ Some row → start ≡ get_or starts k start → firsts ≡ runs → own ≡ row.values - row.args
    → values_from firsts start own ≡ take (row.values - row.args) (drop row.first code.firsts)
loaded_values code runs firsts starts owners k row start own loaded there is same most =
    let index : index_of runs start ≡ row.first = at_index code runs starts owners k row start loaded there is in
    rw (same, most, index, loaded.values) refl

pub loaded_frame : (code : CodeData) (runs firsts : List FirstRun) (starts : List RunStart) (owners : List ℕ) (k : ℕ) (row : RoutineRow) (start : RunStart) (own : ℕ) (args : List Datum)
    → IsLoaded code runs starts owners → slice_get code.routines k ≡ Some row → start ≡ get_or starts k start → firsts ≡ runs → own ≡ row.values - row.args
    → frame_from firsts start args own ≡ frame_in code row args
loaded_frame code runs firsts starts owners k row start own args loaded there is same most =
    rw (same, most) (frame_from-row code row args runs start (sym loaded.values) (at_index code runs starts owners k row start loaded there is))

-- the number of an operation's owner, and the owner with that number
number_read : (owners : List Owner) (count pc number : ℕ) (numbers : List ℕ) → NamesOwners owners count numbers → pc < count → number ≡ get_or numbers pc number → IsNumberAt owners pc number
number_read owners count pc number numbers named below is =
    let it = named pc below in
    let there : slice_get numbers pc ≡ Some number = slice_get_read numbers (length numbers) pc number refl (slice_get_within numbers pc it.0 it.1) is in
    let same : it.0 ≡ number = cc in
    subst (λ (n : ℕ). IsNumberAt owners pc n) same it.2

pub owner_within : (owners : List Owner) (count pc number : ℕ) (numbers : List ℕ) → NamesOwners owners count numbers → pc < count → number ≡ get_or numbers pc number → number < length owners
owner_within owners count pc number numbers named below is = (number_read owners count pc number numbers named below is).0

pub owner_named : (owners : List Owner) (count pc number : ℕ) (numbers : List ℕ) (owner : Owner) → NamesOwners owners count numbers → pc < count → number ≡ get_or numbers pc number
    → owner ≡ get_or owners number owner → owner_at owners pc ≡ Some owner
owner_named owners count pc number numbers owner named below is own =
    let it = (number_read owners count pc number numbers named below is).1 owner in
    it.0 ∙ ap Some (sym own)
