-- The trees of an accepted cell are well typed, and have its numbers.
use Rattle.std.proofs.Common.{◌≡◌, ℕ, zero, suc, Bool, List, [], ◌∷◌, length, map, Option, Some, slice_get, Ok, refl, sym, ap, subst, ◌∙◌}
use Rattle.std.specs.List.{All}
use Rattle.std.specs.Option.{option_map}
use Rattle.std.proofs.lemmas.Option.{slice_get-map}
use Rattle.rapid_model.specs.ScriptData.{ScriptData, row_of}
use Rattle.rapid_model.specs.declared.script_task.ScriptTask.{ScriptTask}
use Rattle.rapid_model.specs.declared.signal_row.SignalRow.{SignalRow}
use Rattle.rapid_model.specs.declared.task_row.TaskRow.{TaskRow}
use Rattle.rapid_model.proofs.Scripts.{script_starts, start_axes}
use Rattle.raw_trees.specs.Plain.{PlainModule}
use Rattle.typed_trees.specs.Plain.{TypedTree}
use Rattle.task_types.specs.Task.{task_of}
use Rattle.type_laws.specs.Tasks.{IsTyped}
use Rattle.type_laws.proofs.TaskLaws.{task_law}
use Rattle.cell_assembly.specs.Made.{MadeCell}
use Rattle.tree_typing.specs.Numbered.{Numbered}
use Rattle.tree_typing.specs.WellTyped.{WellTyped}
use Rattle.rapid_model.specs.declared.answer.Answer.{Answer}
use Rattle.rapid_meaning.specs.Runs.{FitsSteps}
use Rattle.code_laws.specs.Orderly.{NumbersLabels}
use Rattle.code_laws.specs.Standing.{StandsBy}
use Rattle.code_laws.proofs.Whole.{typed_stands}
use Rattle.accepted_cells.proofs.LabelNumbers.{labels_count}
use Rattle.accepted_cells.proofs.TextLabels.{labels_apart}
use Rattle.accepted_cells.specs.Accepted.{AreChecked, AreRead, IsAccepted}
use Rattle.accepted_cells.proofs.Cells.{made_counted, made_named, made_routines, made_of, made_right, made_typed, signals_are, tasks_are}
use Rattle.accepted_cells.proofs.Grammar.{traps_take}
use Rattle.accepted_cells.proofs.Tree.{tree_right}

-- the task of a tree, and its modules
record IsChecked (script : ScriptData) (tasks : List ScriptTask) (k : ℕ) (tree : TypedTree) : Type 0 where
  pub task : ScriptTask
  pub there : slice_get tasks k ≡ Some task
  pub modules : List PlainModule
  pub read : AreRead modules
  pub is : task_of modules (map (λ (t : ScriptTask). t.name) script.tasks) script.signals task.axes ≡ Ok tree

checked_at : (script : ScriptData) (tasks : List ScriptTask) (modules : List (List PlainModule)) (trees : List TypedTree) (k : ℕ) (tree : TypedTree) → AreChecked script tasks modules trees → slice_get trees k ≡ Some tree
    → IsChecked script tasks k tree
checked_at script [] [] [] k tree h is = absurd cc
checked_at script (task ∷ tasks) (ms ∷ more) (t ∷ trees) zero tree h is =
    let same : t ≡ tree = cc in
    record { task = task; there = refl; modules = ms; read = h.0; is = h.1 ∙ ap Ok same }
checked_at script (task ∷ tasks) (ms ∷ more) (t ∷ trees) (suc k) tree h is =
    let found = checked_at script tasks more trees k tree h.2 is in
    record { task = found.task; there = found.there; modules = found.modules; read = found.read; is = found.is }
checked_at script _ _ _ k tree h is = absurd h

checked_length : (script : ScriptData) (tasks : List ScriptTask) (modules : List (List PlainModule)) (trees : List TypedTree) → AreChecked script tasks modules trees → length trees ≡ length tasks
checked_length script [] [] [] h = refl
checked_length script (task ∷ tasks) (ms ∷ more) (t ∷ trees) h = ap suc (checked_length script tasks more trees h.2)
checked_length script _ _ _ h = absurd h

row_there : (tasks : List ScriptTask) (rows : List TaskRow) (k : ℕ) (task : ScriptTask) → rows ≡ map row_of tasks → slice_get tasks k ≡ Some task → slice_get rows k ≡ Some (row_of task)
row_there tasks rows k task are there = ap (λ (l : List TaskRow). slice_get l k) are ∙ slice_get-map row_of tasks k ∙ ap (option_map row_of) there

names_are : (modules : List PlainModule) (tasks : List (List ℕ)) (signals : List SignalRow) (axes : ℕ) (tree : TypedTree) → IsTyped modules tasks signals axes tree → tree.tasks ≡ tasks
names_are modules tasks signals axes tree typed = ap (λ (x : TypedTree). x.tasks) typed.is_tree

axes_are : (modules : List PlainModule) (tasks : List (List ℕ)) (signals : List SignalRow) (axes : ℕ) (tree : TypedTree) → IsTyped modules tasks signals axes tree → tree.axes ≡ axes
axes_are modules tasks signals axes tree typed = ap (λ (x : TypedTree). x.axes) typed.is_tree

one_task : (task other : ScriptTask) (o : Option ScriptTask) → o ≡ Some task → o ≡ Some other → task ≡ other
one_task task other o is also = cc

-- a tree of an accepted cell; code rests on the numbers of its labels
pub record IsRight (made : MadeCell) (number : ℕ) (tree : TypedTree) : Type 0 where
  pub row : TaskRow
  pub there : slice_get made.cell.tasks number ≡ Some row
  pub typed : WellTyped (length made.cell.signals) tree
  pub numbered : Numbered made.cell number tree
  pub labels : All NumbersLabels tree.routines

pub accepted_right : (script : ScriptData) (made : MadeCell) (number : ℕ) (tree : TypedTree) → IsAccepted script made → slice_get made.trees number ≡ Some tree → IsRight made number tree
accepted_right script made number tree accepted is =
    let trees = accepted.trees in
    let before = made_of script trees made accepted.is_made number tree is in
    let checked = checked_at script script.tasks accepted.modules trees number before.0 accepted.are_checked before.1 in
    let names : List (List ℕ) = map (λ (t : ScriptTask). t.name) script.tasks in
    let typed : IsTyped checked.modules names script.signals checked.task.axes before.0 = (task_law checked.modules names script.signals checked.task.axes before.0).0 checked.is in
    let takes = traps_take checked.modules checked.read in
    let start = script_starts script number checked.task accepted.is_script checked.there in
    let right : WellTyped (length script.signals) before.0 = tree_right checked.modules names script.signals checked.task.axes before.0 typed takes (start_axes checked.task.axes checked.task.arm start) in
    let stayed = made_typed script trees made accepted.is_made (length script.signals) number before.0 tree before.1 is right in
    let named : tree.tasks ≡ names = made_named script trees made accepted.is_made number tree names is (λ t there.
    let same : before.0 ≡ t = let e : Some before.0 ≡ Some t = sym before.1 ∙ there in cc in
    subst (λ (x : TypedTree). x.tasks ≡ names) same (names_are checked.modules names script.signals checked.task.axes before.0 typed)) in
    let counted : (t : ScriptTask) → slice_get script.tasks number ≡ Some t → tree.axes ≡ t.axes = λ t is_there.
    made_counted script trees made accepted.is_made number tree t.axes is (λ b there.
    let same : before.0 ≡ b = let e : Some before.0 ≡ Some b = sym before.1 ∙ there in cc in
    subst (λ (x : TypedTree). x.axes ≡ t.axes) same
    (axes_are checked.modules names script.signals checked.task.axes before.0 typed
    ∙ ap (λ (x : ScriptTask). x.axes) (one_task checked.task t (slice_get script.tasks number) checked.there is_there))) in
    record {
      row = row_of checked.task;
      there = row_there script.tasks made.cell.tasks number checked.task (tasks_are script trees made accepted.is_made) checked.there;
      typed = subst (λ (l : List SignalRow). WellTyped (length l) tree) (sym (signals_are script trees made accepted.is_made)) stayed;
      numbered = made_right script trees made accepted.is_made number tree accepted.is_script (checked_length script script.tasks accepted.modules trees accepted.are_checked) is named counted;
      labels =
          subst (All NumbersLabels) (sym (made_routines script trees made accepted.is_made number before.0 tree before.1 is))
          (labels_count checked.modules names script.signals checked.task.axes before.0 typed (labels_apart checked.modules checked.read));
    }

-- so its code is in the same state
pub runs_as_code : (script : ScriptData) (made : MadeCell) (number : ℕ) (tree : TypedTree) (answers : List Answer) → IsAccepted script made → slice_get made.trees number ≡ Some tree → FitsSteps tree answers
    → (k : ℕ) × StandsBy tree answers k
runs_as_code script made number tree answers accepted there fits =
    let h = accepted_right script made number tree accepted there in
    typed_stands (length made.cell.signals) made.cell number tree answers h.typed h.numbered h.labels fits
