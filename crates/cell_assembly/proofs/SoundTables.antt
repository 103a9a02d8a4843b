-- The persistents and meetings of sound trees are those of a cell.
use Rattle.std.proofs.Common.{◌≡◌, ℕ, ◌+◌, ◌<◌, true, not, ◌&&◌, nat_le, List, [], ◌∷◌, length, map, slice_get, Option, None, Some, Ok, Err, refl, ◌∙◌, subst, arith}
use Rattle.std.specs.List.{list_all, All}
use Rattle.std.specs.Result.{IfOk}
use Rattle.std.proofs.lemmas.Bool.{and_parts, lt-ltb}
use Rattle.std.proofs.lemmas.List.{length-append}
use Rattle.std.proofs.lemmas.List.Elements.{All-set, All-append, All-cons, All-nil, All-get_or}
use Rattle.std.proofs.lemmas.List.Folds.{list_all-map}
use Rattle.std.proofs.lemmas.List.Sums.{list_all-from_AllPass}
use Rattle.std.proofs.lemmas.Option.{get_or_from_slice_get, slice_get_within}
use Rattle.std.proofs.lemmas.Result.{IfOk-at_ok}
use Rattle.rapid_model.specs.CellData.{is_pers_cell}
use Rattle.rapid_model.specs.Sorts.{width}
use Rattle.rapid_model.specs.declared.pers_value.PersValue.{PersValue}
use Rattle.rapid_model.specs.declared.script_rule.ScriptRule.TheVariants.{Kind, Range, Twice}
use Rattle.named_data.specs.Wants.{same_sort}
use Rattle.typed_trees.specs.Plain.{TypedPers, TypedTree}
use Rattle.typed_trees.specs.Sound.{is_sound, has_sound_pers}
use Rattle.rule_checks.specs.Checks.{◌>>=◌}
use Rattle.cell_assembly.specs.Cells.{PersInfo, Numbered, PersTables, CellTables, MeetingTables, new_pers, added, joined, join, global_pers, one_pers, all_pers, with_list, trees_pers, global_number, same_len, is_script_value, fits_index, element, is_given, with_declared, with_given, at_value, give_to, give_global, give, give_all, meet_all, meetings_with, trees_meetings, tables, cell_tables, Clash}
use Rattle.cell_assembly.specs.Made.{pers_cell}
use Rattle.rule_checks.proofs.Keeps.{Keeps-then, Keeps-must}
use Rattle.cell_assembly.proofs.Holds.{either_holds}
use Rattle.cell_assembly.proofs.SoundInfo.{IsSoundInfo, new_sound, declared_sound, given_sound, cell_sound}

-- with that many tasks
abbrev pub AreSound : ℕ → List PersInfo → Type 0
AreSound tasks ps = All (IsSoundInfo tasks) ps

one_there : (tasks : ℕ) (ps : List PersInfo) (k : ℕ) (p : PersInfo) → slice_get ps k ≡ Some p → AreSound tasks ps → IsSoundInfo tasks p
one_there tasks ps k p at all = subst (IsSoundInfo tasks) (get_or_from_slice_get ps k p p at) (All-get_or (IsSoundInfo tasks) ps k p (slice_get_within ps k p at) all)

added_sound : (tasks : ℕ) (n : Numbered) (p : PersInfo) → IsSoundInfo tasks p → AreSound tasks n.pers → AreSound tasks (added n p).pers
added_sound tasks n p is all = All-append (IsSoundInfo tasks) n.pers (p ∷ []) all (All-cons (IsSoundInfo tasks) p [] is (All-nil (IsSoundInfo tasks)))

join_sound : (tasks : ℕ) (n : Numbered) (task : ℕ) (row : TypedPers) (number : ℕ) (found : Option PersInfo) → is_sound row ≡ true → AreSound tasks n.pers → slice_get n.pers number ≡ found
    → IfOk (join n task row number found) (λ m. AreSound tasks m.pers)
join_sound tasks n task row number None sound all at = added_sound tasks n (new_pers None row) (new_sound tasks None row refl sound) all
join_sound tasks n task row number (Some p) sound all at =
    either_holds (λ (m : Numbered). AreSound tasks m.pers) (same_sort p.sort row.sort && same_len p.len row.len) (Ok (joined n number (with_declared p row))) (Err (Clash task row.«module» row.at))
    (λ alike. All-set (IsSoundInfo tasks) n.pers number (with_declared p row) (declared_sound tasks p row alike sound (one_there tasks n.pers number p at all)) all)
    (λ differ. tt)

global_sound : (tasks : ℕ) (n : Numbered) (task : ℕ) (row : TypedPers) (number : Option ℕ) → is_sound row ≡ true → AreSound tasks n.pers → IfOk (global_pers n task row number) (λ m. AreSound tasks m.pers)
global_sound tasks n task row None sound all = added_sound tasks n (new_pers None row) (new_sound tasks None row refl sound) all
global_sound tasks n task row (Some number) sound all = join_sound tasks n task row number (slice_get n.pers number) sound all refl

one_sound : (tasks : ℕ) (n : Numbered) (task : ℕ) (row : TypedPers) → task < tasks → is_sound row ≡ true → AreSound tasks n.pers → IfOk (one_pers n task row) (λ m. AreSound tasks m.pers)
one_sound tasks n task row is_task sound all =
    either_holds (λ (m : Numbered). AreSound tasks m.pers) row.own (Ok (added n (new_pers (Some task) row))) (global_pers n task row (global_number row.name n.pers))
    (λ own. added_sound tasks n (new_pers (Some task) row) (new_sound tasks (Some task) row (lt-ltb task tasks is_task) sound) all)
    (λ shared. global_sound tasks n task row (global_number row.name n.pers) sound all)

all_sound : (tasks : ℕ) (n : Numbered) (task : ℕ) (rows : List TypedPers) → task < tasks → list_all is_sound rows ≡ true → AreSound tasks n.pers → IfOk (all_pers n task rows) (λ m. AreSound tasks m.pers)
all_sound tasks n task [] is_task sound all = all
all_sound tasks n task (row ∷ rows) is_task sound all =
    let (here, more) = and_parts (is_sound row) (list_all is_sound rows) sound in
    Keeps-then (λ (m : Numbered). AreSound tasks m.pers) (λ (m : Numbered). AreSound tasks m.pers) (one_pers n task row) (λ m. all_pers m task rows) (one_sound tasks n task row is_task here all)
    (λ m is. all_sound tasks m task rows is_task more is)

-- the persistents of sound trees, for that many tasks
pub record AreSoundPers (tasks : ℕ) (t : PersTables) : Type 0 where
  pub pers : AreSound tasks t.pers
  pub as_many : length t.lists ≡ tasks

trees_sound : (tasks : ℕ) (t : PersTables) (task : ℕ) (trees : List TypedTree) → task + length trees ≡ tasks → length t.lists ≡ task → list_all has_sound_pers trees ≡ true → AreSound tasks t.pers
    → IfOk (trees_pers t task trees) (AreSoundPers tasks)
trees_sound tasks t task [] count lists sound all = record { pers = all; as_many = omega arith }
trees_sound tasks t task (tree ∷ trees) count lists sound all =
    let (here, more) = and_parts (has_sound_pers tree) (list_all has_sound_pers trees) sound in
    Keeps-then (λ (n : Numbered). AreSound tasks n.pers) (AreSoundPers tasks) (all_pers (record { pers = t.pers; numbers = [] }) task tree.pers) (λ n. trees_pers (with_list t n) (task + 1) trees)
    (all_sound tasks (record { pers = t.pers; numbers = [] }) task tree.pers (omega arith) here all)
    (λ n is. trees_sound tasks (with_list t n) (task + 1) trees (omega arith) (omega (arith, length-append t.lists (n.numbers ∷ []))) more is)

give_to_sound : (tasks : ℕ) (ps : List PersInfo) (number : ℕ) (row : PersValue) (k : ℕ) (found : Option PersInfo) → AreSound tasks ps → slice_get ps k ≡ found → IfOk (give_to ps number row k found) (AreSound tasks)
give_to_sound tasks ps number row k None all at = tt
give_to_sound tasks ps number row k (Some p) all at =
    let index = element row.index in
    Keeps-must (AreSound tasks) (is_script_value p.sort row.value && fits_index p.len row.index) (at_value number Kind) _ (λ suits.
    Keeps-must (AreSound tasks) (nat_le (index + 1) (width p.len)) (at_value number Range) _ (λ there.
    Keeps-must (AreSound tasks) (not (is_given (slice_get p.given index))) (at_value number Twice) _ (λ not_given.
    All-set (IsSoundInfo tasks) ps k (with_given p index row.value)
    (given_sound tasks p index row.value (and_parts (is_script_value p.sort row.value) (fits_index p.len row.index) suits).0 (one_there tasks ps k p at all)) all)))

give_global_sound : (tasks : ℕ) (ps : List PersInfo) (number : ℕ) (row : PersValue) (k : Option ℕ) → AreSound tasks ps → IfOk (give_global ps number row k) (AreSound tasks)
give_global_sound tasks ps number row None all = tt
give_global_sound tasks ps number row (Some k) all = give_to_sound tasks ps number row k (slice_get ps k) all refl

give_all_sound : (tasks : ℕ) (ps : List PersInfo) (number : ℕ) (rows : List PersValue) → AreSound tasks ps → IfOk (give_all ps number rows) (AreSound tasks)
give_all_sound tasks ps number [] all = all
give_all_sound tasks ps number (row ∷ rows) all =
    Keeps-then (AreSound tasks) (AreSound tasks) (give ps number row) (λ qs. give_all qs (number + 1) rows) (give_global_sound tasks ps number row (global_number row.name ps) all)
    (λ qs is. give_all_sound tasks qs (number + 1) rows is)

meetings_as_many : (t : MeetingTables) (trees : List TypedTree) → length (trees_meetings t trees).lists ≡ length t.lists + length trees
meetings_as_many t [] = omega arith
meetings_as_many t (tree ∷ trees) =
    let met = meet_all (record { names = t.names; numbers = [] }) tree.meetings in
    omega (arith, meetings_as_many (meetings_with t met) trees, length-append t.lists (met.numbers ∷ []))

cells_sound : (tasks : ℕ) (ps : List PersInfo) → AreSound tasks ps → list_all (is_pers_cell tasks) (map pers_cell ps) ≡ true
cells_sound tasks ps all =
    list_all-map (is_pers_cell tasks) pers_cell ps ∙ list_all-from_AllPass (λ p. is_pers_cell tasks (pers_cell p)) ps (λ k d within. cell_sound tasks _ (all k d within))

-- with that many tasks
pub record AreRight (tasks : ℕ) (t : CellTables) : Type 0 where
  pub pers : list_all (is_pers_cell tasks) (map pers_cell t.pers) ≡ true
  pub pers_of : length t.pers_of ≡ tasks
  pub meeting_of : length t.meeting_of ≡ tasks

are_right : (rows : List PersValue) (trees : List TypedTree) → list_all has_sound_pers trees ≡ true → IfOk (cell_tables rows trees) (AreRight (length trees))
are_right rows trees sound =
    let tasks = length trees in
    let met = trees_meetings (record { names = []; lists = [] }) trees in
    Keeps-then (AreSoundPers tasks) (AreRight tasks) (trees_pers (record { pers = []; lists = [] }) 0 trees) (λ t. give_all t.pers 0 rows >>= (λ ps. Ok (tables t ps met)))
    (trees_sound tasks (record { pers = []; lists = [] }) 0 trees (omega arith) refl sound (All-nil (IsSoundInfo tasks)))
    (λ t is. Keeps-then (AreSound tasks) (AreRight tasks) (give_all t.pers 0 rows) (λ ps. Ok (tables t ps met)) (give_all_sound tasks t.pers 0 rows is.pers)
    (λ ps all. record { pers = cells_sound tasks ps all; pers_of = is.as_many; meeting_of = meetings_as_many (record { names = []; lists = [] }) trees ∙ omega arith }))

pub tables_are_right : (tasks : ℕ) (rows : List PersValue) (trees : List TypedTree) (t : CellTables) → length trees ≡ tasks → list_all has_sound_pers trees ≡ true → cell_tables rows trees ≡ Ok t → AreRight tasks t
tables_are_right tasks rows trees t each sound made = subst (λ n. AreRight n t) each (IfOk-at_ok (AreRight (length trees)) made (are_right rows trees sound))
