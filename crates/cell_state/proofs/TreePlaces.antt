-- The place at which the code of a task's tree asks an event is that of the tree.
use Rattle.std.proofs.Common.{◌≡◌, ◌<◌, sym, ap, ◌∙◌, subst, ℕ, List, length, map, Option, Some, None, refl, arith}
use Rattle.std.specs.Prelude.{◌↔◌, All, slice_get}
use Rattle.std.specs.Option.{option_and_then, option_map}
use Rattle.std.proofs.lemmas.Option.{get_or_from_slice_get, slice_get_within, slice_get-map}
use Rattle.rapid_model.specs.CellData.{CellData}
use Rattle.rapid_model.specs.Own.{answers_of}
use Rattle.rapid_model.specs.declared.answer.Answer.{Answer}
use Rattle.rapid_model.specs.declared.at.At.{At}
use Rattle.rapid_model.specs.declared.event.Event.{Event}
use Rattle.typed_trees.specs.Plain.{TypedTree}
use Rattle.rapid_meaning.specs.Runs.{FitsSteps}
use Rattle.stack_code.specs.CodeData.{CodeData}
use Rattle.stack_code.specs.Compiled.{compiled}
use Rattle.task_code.specs.Asking.{CodeAsks}
use Rattle.task_code.specs.Live.{CodeFits}
use Rattle.code_laws.specs.Checked.{IsChecked}
use Rattle.code_laws.specs.Standing.{StandsBy}
use Rattle.cell_meaning.specs.Asking.{Asking, with_inputs}
use Rattle.cell_meaning.specs.Histories.{IsLegal}
use Rattle.cell_crew.specs.Courses.{SuitTasks}
use Rattle.cell_crew.specs.Crew.{AskAsPrograms}
use Rattle.cell_crew.proofs.Courses.{own_fit}
use Rattle.cell_crew.proofs.Crews.{map_at}
use Rattle.cell_state.specs.States.{TaskStateData}
use Rattle.cell_state.specs.Traces.{IsAskedAt, IsPlaceBy, event_place, place_after}
use Rattle.cell_state.proofs.TreeStates.{tree_reached}

module _ (asks : Asking) (cell : CellData) (trees : List TypedTree) (before : List Event) (e : Event) (place : Option At) (one_each : length trees ≡ length cell.tasks) (checked : All IsChecked trees)
    (ask : AskAsPrograms CodeFits CodeAsks asks (map compiled trees)) (suit : SuitTasks CodeFits CodeAsks cell (map compiled trees)) (legal : IsLegal (with_inputs asks cell) cell before)
    (fits : (tree : TypedTree) (answers : List Answer) → IsChecked tree → CodeFits (compiled tree) answers ↔ FitsSteps tree answers)
    (stands : (tree : TypedTree) (answers : List Answer) → IsChecked tree → FitsSteps tree answers → (k : ℕ) × StandsBy tree answers k) where
  -- the tree of the task stands as its code does
  stands_there : (tree : TypedTree) → slice_get trees e.actor ≡ Some tree → (k : ℕ) × StandsBy tree (answers_of e.actor before) k
  stands_there tree there =
      let within : e.actor < length trees = slice_get_within trees e.actor tree there in
      let code : slice_get (map compiled trees) e.actor ≡ Some (compiled tree) = map_at compiled trees e.actor tree there in
      let is_checked : IsChecked tree = subst IsChecked (get_or_from_slice_get trees e.actor tree tree there) (checked e.actor tree within) in
      let code_fits : CodeFits (compiled tree) (answers_of e.actor before) =
      own_fit CodeAsks cell e.actor (compiled tree) CodeFits asks (omega (arith, within, one_each)) (ask.each e.actor (compiled tree) code) (suit.each e.actor (compiled tree) code).fit before legal in
      stands tree (answers_of e.actor before) is_checked ((fits tree (answers_of e.actor before) is_checked).0 code_fits)

  place_by : (found : Option TypedTree) → slice_get trees e.actor ≡ found → IsPlaceBy (option_map compiled found) (answers_of e.actor before) place
      → place ≡ option_and_then (λ (tree : TypedTree). place_after tree (answers_of e.actor before)) found
  place_by None there is = is
  place_by (Some tree) there is =
      let it = stands_there tree there in
      is.2 ∙ ap (λ (o : Option TaskStateData). option_and_then (λ (state : TaskStateData). state.place) o) (sym (tree_reached tree (answers_of e.actor before) it.0 is.0 it.1 is.1))

  pub place_there : IsAskedAt (map compiled trees) before e place → place ≡ event_place trees before e
  place_there is =
      place_by (slice_get trees e.actor) refl
      (subst (λ (o : Option CodeData). IsPlaceBy o (answers_of e.actor before) place) (slice_get-map compiled trees e.actor) is)
