-- The state that the code of each task's tree is in is that of the tree.
use Rattle.std.proofs.Common.{◌≡◌, ◌<◌, sym, ap, ◌∙◌, subst, ℕ, ◌+◌, List, length, map, Some, arith}
use Rattle.std.specs.Prelude.{◌↔◌, All, slice_get, ⊤}
use Rattle.std.proofs.lemmas.List.{length-map}
use Rattle.std.proofs.lemmas.Option.{get_or_from_slice_get, slice_get_within}
use Rattle.rapid_model.specs.CellData.{CellData}
use Rattle.rapid_model.specs.Own.{answers_of}
use Rattle.rapid_model.specs.declared.answer.Answer.{Answer}
use Rattle.rapid_model.specs.declared.event.Event.{Event}
use Rattle.rapid_model.proofs.Lists.{there_is}
use Rattle.typed_trees.specs.Plain.{TypedTree}
use Rattle.rapid_meaning.specs.Answering.{Outcome}
use Rattle.rapid_meaning.specs.Runs.{FitsSteps}
use Rattle.stack_code.specs.CodeRuns.{code_after}
use Rattle.stack_code.specs.Compiled.{compiled}
use Rattle.task_code.specs.Asking.{CodeAsks}
use Rattle.task_code.specs.Live.{CodeFits}
use Rattle.code_laws.specs.Checked.{IsChecked}
use Rattle.code_laws.specs.Standing.{StandsBy}
use Rattle.cell_meaning.specs.Asking.{Asking, with_inputs}
use Rattle.cell_meaning.specs.Histories.{IsLegal}
use Rattle.cell_crew.specs.Courses.{SuitTasks}
use Rattle.cell_crew.specs.Crew.{AskAsPrograms}
use Rattle.cell_crew.proofs.Courses.{own_fit}
use Rattle.cell_crew.proofs.Crews.{map_at}
use Rattle.cell_state.specs.Codes.{IsReachedBy, IsStateByCodes}
use Rattle.cell_state.specs.States.{CellStateData, IsStateAfter, TaskStateData, reached, state_in}

-- what the code of a tree is in, the tree is in
pub tree_reached : (tree : TypedTree) (answers : List Answer) (k : ℕ) (here : TaskStateData) → StandsBy tree answers k → IsReachedBy (compiled tree) answers here → reached tree answers ≡ Some here
tree_reached tree answers k here stands by =
    let moved : by.operations + k ≡ k + by.operations = omega arith in
    ap (λ (o : Outcome ⊤). state_in o) (sym (stands by.operations)) ∙ ap (λ (n : ℕ). state_in (code_after (compiled tree) n answers)) (sym moved) ∙ by.stands k

module _ (asks : Asking) (cell : CellData) (trees : List TypedTree) (history : List Event) (state : CellStateData) (one_each : length trees ≡ length cell.tasks) (checked : All IsChecked trees)
    (ask : AskAsPrograms CodeFits CodeAsks asks (map compiled trees)) (suit : SuitTasks CodeFits CodeAsks cell (map compiled trees)) (legal : IsLegal (with_inputs asks cell) cell history)
    (fits : (tree : TypedTree) (answers : List Answer) → IsChecked tree → CodeFits (compiled tree) answers ↔ FitsSteps tree answers)
    (stands : (tree : TypedTree) (answers : List Answer) → IsChecked tree → FitsSteps tree answers → (k : ℕ) × StandsBy tree answers k)
    (by : IsStateByCodes cell (map compiled trees) history state) where
  task_there : (task : ℕ) (tree : TypedTree) → slice_get trees task ≡ Some tree → slice_get state.tasks task ≡ reached tree (answers_of task history)
  task_there task tree there =
      let within : task < length trees = slice_get_within trees task tree there in
      let same : length state.tasks ≡ length trees = by.one_each ∙ length-map trees compiled in
      let here : (x : TaskStateData) × (slice_get state.tasks task ≡ Some x) = there_is state.tasks task (omega (arith, within, same)) in
      let code : slice_get (map compiled trees) task ≡ Some (compiled tree) = map_at compiled trees task tree there in
      let is_checked : IsChecked tree = subst IsChecked (get_or_from_slice_get trees task tree tree there) (checked task tree within) in
      let code_fits : CodeFits (compiled tree) (answers_of task history) =
      own_fit CodeAsks cell task (compiled tree) CodeFits asks (omega (arith, within, one_each)) (ask.each task (compiled tree) code) (suit.each task (compiled tree) code).fit history legal in
      let it : (k : ℕ) × StandsBy tree (answers_of task history) k = stands tree (answers_of task history) is_checked ((fits tree (answers_of task history) is_checked).0 code_fits) in
      here.1 ∙ sym (tree_reached tree (answers_of task history) it.0 here.0 it.1 (by.tasks task (compiled tree) here.0 code here.1))

  pub trees_there : IsStateAfter cell trees history state
  trees_there = record { one_each = by.one_each ∙ length-map trees compiled; tasks = task_there; pers = by.pers }
