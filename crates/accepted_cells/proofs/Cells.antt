-- The trees of a made cell have the cell's numbers.
use Rattle.std.proofs.Common.{◌≡◌, ℕ, zero, suc, ◌<◌, ◌≤◌, Bool, List, [], ◌∷◌, length, map, Some, slice_get, Ok, refl, sym, ap, subst, ◌∙◌, arith}
use Rattle.std.specs.Option.{option_map}
use Rattle.std.proofs.lemmas.List.{length-map}
use Rattle.std.proofs.lemmas.Option.{slice_get_within, slice_get-map}
use Rattle.rapid_model.specs.CellData.{CellData}
use Rattle.rapid_model.specs.ScriptData.{IsScript, ScriptData, row_of}
use Rattle.rapid_model.specs.declared.script_task.ScriptTask.{ScriptTask}
use Rattle.rapid_model.specs.declared.task_row.TaskRow.{TaskRow}
use Rattle.rapid_model.proofs.Lists.{there_is}
use Rattle.rapid_model.proofs.Scripts.{few_tasks, script_starts}
use Rattle.typed_trees.specs.Plain.{TypedPers, TypedTree}
use Rattle.rule_checks.proofs.Steps.{behind, ok_same}
use Rattle.cell_assembly.specs.Cells.{MeetingTables, PersInfo, cell_tables, tables, give_all, trees_meetings, trees_pers}
use Rattle.cell_assembly.specs.Made.{MadeCell, cell_of, make_cell, numbered, pers_cell, with_numbers}
use Rattle.name_laws.specs.Declared.{AreEach}
use Rattle.name_laws.proofs.Tree.{each_length}
use Rattle.name_laws.proofs.Means.{partner}
use Rattle.tree_typing.specs.Numbered.{IsOne, Numbered}
use Rattle.tree_typing.specs.WellTyped.{WellTyped}
use Rattle.tree_typing.proofs.Rows.{all_at}
use Rattle.accepted_cells.proofs.CellMeetings.{MeetingsOf, meetings_numbered}
use Rattle.accepted_cells.proofs.CellPers.{IsOf, TreeOf, pers_numbered}
use Rattle.accepted_cells.proofs.SameRows.{stays}

-- a tree that has its numbers
pub record IsNumbered (trees : List TypedTree) (pers meetings : List (List ℕ)) (k : ℕ) (tree : TypedTree) : Type 0 where
  pub before : TypedTree
  pub pers_of : List ℕ
  pub meeting_of : List ℕ
  pub is_tree : slice_get trees k ≡ Some before
  pub are_pers : slice_get pers k ≡ Some pers_of
  pub are_meetings : slice_get meetings k ≡ Some meeting_of
  pub is : tree ≡ with_numbers before pers_of meeting_of

numbered_at : (trees : List TypedTree) (pers meetings : List (List ℕ)) (k : ℕ) (tree : TypedTree) → slice_get (numbered trees pers meetings) k ≡ Some tree → IsNumbered trees pers meetings k tree
numbered_at (t ∷ ts) (p ∷ ps) (m ∷ ms) zero tree is = record { before = t; pers_of = p; meeting_of = m; is_tree = refl; are_pers = refl; are_meetings = refl; is = cc }
numbered_at (t ∷ ts) (p ∷ ps) (m ∷ ms) (suc k) tree is =
    let h = numbered_at ts ps ms k tree is in
    record { before = h.before; pers_of = h.pers_of; meeting_of = h.meeting_of; is_tree = h.is_tree; are_pers = h.are_pers; are_meetings = h.are_meetings; is = h.is }
numbered_at _ _ _ k tree is = absurd cc

-- the cell and the trees of a script
pub record IsMade (script : ScriptData) (trees : List TypedTree) (made : MadeCell) : Type 0 where
  pub pers : List PersInfo
  pub lists : List (List ℕ)
  pub each : AreEach (TreeOf pers) trees lists
  pub is : made ≡ record {
    cell = cell_of script (record { pers = pers; pers_of = lists; meetings = (trees_meetings (record { names = []; lists = [] }) trees).names; meeting_of = (trees_meetings (record { names = []; lists = [] }) trees).lists });
    trees = numbered trees lists (trees_meetings (record { names = []; lists = [] }) trees).lists;
  }

pub is_made : (script : ScriptData) (trees : List TypedTree) (made : MadeCell) → make_cell script trees ≡ Ok made → IsMade script trees made
is_made script trees made e =
    let P : Type 0 = IsMade script trees made in
    behind P made (cell_tables script.pers trees) _ e (λ all tabled last.
    behind P all (trees_pers (record { pers = []; lists = [] }) 0 trees) _ tabled (λ t walked rest.
    behind P all (give_all t.pers 0 script.pers) _ rest (λ ps given done.
    let same = ok_same (tables t ps (trees_meetings (record { names = []; lists = [] }) trees)) all done in
    let made_is = ok_same _ made last in
    record {
      pers = ps;
      lists = t.lists;
      each = pers_numbered trees t script.pers ps walked given;
      is = sym made_is ∙ ap (λ x. record { cell = cell_of script x; trees = numbered trees x.pers_of x.meeting_of }) (sym same);
    })))

names_same : (tasks : List ScriptTask) → map (λ (row : TaskRow). row.name) (map row_of tasks) ≡ map (λ (task : ScriptTask). task.name) tasks
names_same [] = refl
names_same (task ∷ tasks) = ap (λ l. task.name ∷ l) (names_same tasks)

-- a persistent by its number in the cell
one_right : (cell : CellData) (ps : List PersInfo) (row : TypedPers) (number : ℕ) → cell.pers ≡ map pers_cell ps → IsOf ps row number → IsOne cell row number
one_right cell ps row number are h = record {
  cell_row = pers_cell h.p;
  there = ap (λ l. slice_get l number) are ∙ slice_get-map pers_cell ps number ∙ ap (option_map pers_cell) h.is;
  same_sort = h.same_sort;
  same_len = h.same_length;
}

module _ (script : ScriptData) (trees : List TypedTree) (made : MadeCell) (made_is : make_cell script trees ≡ Ok made) where
  abbrev all : IsMade script trees made
  all = is_made script trees made made_is

  abbrev met : MeetingTables
  met = trees_meetings (record { names = []; lists = [] }) trees

  tree_made : (k : ℕ) (tree : TypedTree) → slice_get made.trees k ≡ Some tree → IsNumbered trees all.lists met.lists k tree
  tree_made k tree is = numbered_at trees all.lists met.lists k tree (ap (λ (m : MadeCell). slice_get m.trees k) (sym all.is) ∙ is)

  -- the numbers are those of the cell
  pub made_right : (k : ℕ) (tree : TypedTree) → IsScript script → length trees ≡ length script.tasks → slice_get made.trees k ≡ Some tree → tree.tasks ≡ map (λ (task : ScriptTask). task.name) script.tasks
      → ((task : ScriptTask) → slice_get script.tasks k ≡ Some task → tree.axes ≡ task.axes) → Numbered made.cell k tree
  made_right k tree is_script as_many is named counted =
      let t = tree_made k tree is in
      let p = partner (TreeOf all.pers) trees all.lists k t.before all.each t.is_tree in
      let m = partner (MeetingsOf (length met.names)) trees met.lists k t.before (meetings_numbered trees) t.is_tree in
      let same_pers : p.y ≡ t.pers_of = let e : Some p.y ≡ Some t.pers_of = sym p.is ∙ t.are_pers in cc in
      let same_meetings : m.y ≡ t.meeting_of = let e : Some m.y ≡ Some t.meeting_of = sym m.is ∙ t.are_meetings in cc in
      let each : AreEach (IsOf all.pers) t.before.pers t.pers_of = subst (AreEach (IsOf all.pers) t.before.pers) same_pers p.such in
      let meet : MeetingsOf (length met.names) t.before t.meeting_of = subst (MeetingsOf (length met.names) t.before) same_meetings m.such in
      let within = slice_get_within trees k t.before t.is_tree in
      let task = there_is script.tasks k (omega (arith, within, as_many)) in
      subst (λ (x : MadeCell). Numbered x.cell k tree) (sym all.is)
      (subst (Numbered (cell_of script (record { pers = all.pers; pers_of = all.lists; meetings = met.names; meeting_of = met.lists })) k) (sym t.is) (record {
        task_row = row_of task.0;
        there = slice_get-map row_of script.tasks k ∙ ap (option_map row_of) task.1;
        tasks = ap (λ (x : TypedTree). x.tasks) (sym t.is) ∙ named ∙ sym (names_same script.tasks);
        few_tasks = omega (arith, few_tasks script is_script, length-map script.tasks row_of);
        axes = ap (λ (x : TypedTree). x.axes) (sym t.is) ∙ counted task.0 task.1;
        starts = script_starts script k task.0 is_script task.1;
        as_many_pers = sym (each_length (IsOf all.pers) t.before.pers t.pers_of each);
        pers = λ row number pers is so.
            let found = partner (IsOf all.pers) t.before.pers t.pers_of row pers each so in
            let same : found.y ≡ number = let e : Some found.y ≡ Some number = sym found.is ∙ is in cc in
            one_right _ all.pers pers number refl (subst (IsOf all.pers pers) same found.such);
        as_many_meetings = meet.as_many;
        meetings = λ row number is. all_at (λ (n : ℕ). n < length met.names) t.meeting_of row number meet.below is;
      }))

  -- and the trees stay well typed
  pub made_typed : (signals : ℕ) (k : ℕ) (before tree : TypedTree) → slice_get trees k ≡ Some before → slice_get made.trees k ≡ Some tree → WellTyped signals before → WellTyped signals tree
  made_typed signals k before tree there is typed =
      let t = tree_made k tree is in
      let same : before ≡ t.before = let e : Some before ≡ Some t.before = sym there ∙ t.is_tree in cc in
      subst (WellTyped signals) (sym t.is) (stays signals t.before t.pers_of t.meeting_of (subst (WellTyped signals) same typed))

  -- a numbered tree has the axes it had
  pub made_counted : (k : ℕ) (tree : TypedTree) (axes : ℕ) → slice_get made.trees k ≡ Some tree → ((before : TypedTree) → slice_get trees k ≡ Some before → before.axes ≡ axes) → tree.axes ≡ axes
  made_counted k tree axes is counted =
      let t = tree_made k tree is in ap (λ (x : TypedTree). x.axes) t.is ∙ counted t.before t.is_tree

  -- a numbered tree has the names it had
  pub made_named : (k : ℕ) (tree : TypedTree) (names : List (List ℕ)) → slice_get made.trees k ≡ Some tree → ((before : TypedTree) → slice_get trees k ≡ Some before → before.tasks ≡ names) → tree.tasks ≡ names
  made_named k tree names is named =
      let t = tree_made k tree is in ap (λ (x : TypedTree). x.tasks) t.is ∙ named t.before t.is_tree

  -- and its routines
  pub made_routines : (k : ℕ) (before tree : TypedTree) → slice_get trees k ≡ Some before → slice_get made.trees k ≡ Some tree → tree.routines ≡ before.routines
  made_routines k before tree there is =
      let t = tree_made k tree is in
      let same : t.before ≡ before = let e : Some t.before ≡ Some before = sym t.is_tree ∙ there in cc in
      ap (λ (x : TypedTree). x.routines) t.is ∙ ap (λ (x : TypedTree). x.routines) same

  pub made_of : (k : ℕ) (tree : TypedTree) → slice_get made.trees k ≡ Some tree → (before : TypedTree) × (slice_get trees k ≡ Some before)
  made_of k tree is = let t = tree_made k tree is in (t.before, t.is_tree)

  pub tasks_are : made.cell.tasks ≡ map row_of script.tasks
  tasks_are = ap (λ (x : MadeCell). x.cell.tasks) all.is

  pub signals_are : made.cell.signals ≡ script.signals
  signals_are = ap (λ (x : MadeCell). x.cell.signals) all.is
