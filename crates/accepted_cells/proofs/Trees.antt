-- Each task of an accepted cell has a tree.
use Rattle.std.proofs.Common.{◌≡◌, ℕ, zero, suc, ◌<◌, List, [], ◌∷◌, length, Some, slice_get, refl, sym, ap, ◌∙◌, subst, arith}
use Rattle.std.proofs.lemmas.List.{length-map}
use Rattle.rapid_model.specs.ScriptData.{ScriptData, row_of}
use Rattle.rapid_model.specs.declared.script_task.ScriptTask.{ScriptTask}
use Rattle.rapid_model.specs.declared.task_row.TaskRow.{TaskRow}
use Rattle.raw_trees.specs.Plain.{PlainModule}
use Rattle.typed_trees.specs.Plain.{TypedTree}
use Rattle.name_laws.proofs.Means.{partner}
use Rattle.cell_assembly.specs.Cells.{MeetingTables, trees_meetings}
use Rattle.cell_assembly.specs.Made.{MadeCell, numbered, with_numbers}
use Rattle.accepted_cells.specs.Accepted.{AreChecked, IsAccepted}
use Rattle.accepted_cells.proofs.CellMeetings.{MeetingsOf, meetings_numbered}
use Rattle.accepted_cells.proofs.CellPers.{TreeOf}
use Rattle.accepted_cells.proofs.Cells.{IsMade, is_made, tasks_are}

-- an element that exists
abbrev pub Element : {A : Type 0} → List A → ℕ → Type 0
Element {A} xs k = (x : A) × (slice_get xs k ≡ Some x)

checked_tree : (script : ScriptData) (tasks : List ScriptTask) (modules : List (List PlainModule)) (trees : List TypedTree) (k : ℕ) → AreChecked script tasks modules trees → k < length tasks → Element trees k
checked_tree script [] [] [] k h within = absurd (omega arith)
checked_tree script (task ∷ tasks) (ms ∷ more) (tree ∷ trees) zero h within = (tree, refl)
checked_tree script (task ∷ tasks) (ms ∷ more) (tree ∷ trees) (suc k) h within = checked_tree script tasks more trees k h.2 (omega arith)
checked_tree script _ _ _ k h within = absurd h

-- a tree, its persistents and its meetings with their numbers make a tree of the cell
numbered_there : (trees : List TypedTree) (pers meetings : List (List ℕ)) (k : ℕ) (tree : TypedTree) (p m : List ℕ) → slice_get trees k ≡ Some tree → slice_get pers k ≡ Some p
    → slice_get meetings k ≡ Some m → Element (numbered trees pers meetings) k
numbered_there (t ∷ trees) (q ∷ pers) (n ∷ meetings) zero tree p m is has meets = (with_numbers t q n, refl)
numbered_there (t ∷ trees) (q ∷ pers) (n ∷ meetings) (suc k) tree p m is has meets = numbered_there trees pers meetings k tree p m is has meets
numbered_there _ _ _ k tree p m is has meets = absurd cc

pub tree_there : (script : ScriptData) (made : MadeCell) (task : ℕ) → IsAccepted script made → task < length made.cell.tasks → Element made.trees task
tree_there script made task accepted within =
    let trees : List TypedTree = accepted.trees in
    let all : IsMade script trees made = is_made script trees made accepted.is_made in
    let met : MeetingTables = trees_meetings (record { names = []; lists = [] }) trees in
    let count : length made.cell.tasks ≡ length script.tasks = ap (λ (rows : List TaskRow). length rows) (tasks_are script trees made accepted.is_made) ∙ length-map script.tasks row_of in
    let before = checked_tree script script.tasks accepted.modules trees task accepted.are_checked (omega (arith, within, count)) in
    let p = partner (TreeOf all.pers) trees all.lists task before.0 all.each before.1 in
    let m = partner (MeetingsOf (length met.names)) trees met.lists task before.0 (meetings_numbered trees) before.1 in
    subst (λ (x : MadeCell). Element x.trees task) (sym all.is) (numbered_there trees all.lists met.lists task before.0 p.y m.y before.1 p.is m.is)
