-- The compiled code of each task of an accepted cell suits its task: a course of the code is one of the task's tree, so
-- the answers fit both, and the task may ask what is asked next.
use Rattle.std.proofs.Common.{◌≡◌, subst, ℕ, List, length, map, is_some, Some, slice_get}
use Rattle.rapid_model.specs.ScriptData.{ScriptData}
use Rattle.rapid_model.specs.declared.event.Event.{Event}
use Rattle.rapid_model.specs.declared.request.Request.{Request}
use Rattle.rapid_model.proofs.Lists.{made_there}
use Rattle.typed_trees.specs.Plain.{TypedTree}
use Rattle.cell_assembly.specs.Made.{MadeCell}
use Rattle.cell_meaning.proofs.Lists.{from_front}
use Rattle.rapid_meaning.specs.Runs.{FitsSteps}
use Rattle.tree_typing.proofs.Until.{fits_steps}
use Rattle.stack_code.specs.CodeData.{CodeData}
use Rattle.stack_code.specs.Compiled.{compiled}
use Rattle.task_code.specs.Asking.{CodeAsks}
use Rattle.task_code.specs.Live.{CodeFits}
use Rattle.code_laws.specs.Asking.{AsksAs}
use Rattle.code_laws.proofs.Lives.{asks_as}
use Rattle.cell_crew.specs.Courses.{IsCourse, IsStep, SuitTasks, SuitsTask, answers_in}
use Rattle.cell_crew.proofs.Courses.{course_more, course_none}
use Rattle.accepted_cells.specs.Accepted.{IsAccepted}
use Rattle.accepted_cells.proofs.Accepted.{IsRight, accepted_right}
use Rattle.accepted_cells.proofs.Checking.{checked_is}
use Rattle.accepted_cells.proofs.Asking.{may_next}
use Rattle.accepted_cells.proofs.Parts.{TreeAsks, tree_fit, tree_own}
use Rattle.accepted_cells.proofs.Programs.{tree_due}

module _ (script : ScriptData) (made : MadeCell) (task : ℕ) (tree : TypedTree) (accepted : IsAccepted script made) (there : slice_get made.trees task ≡ Some tree) where
  right : IsRight made task tree
  right = accepted_right script made task tree accepted there

  same : AsksAs tree (compiled tree)
  same = asks_as tree (checked_is script made task tree accepted there)

  abbrev IsCodeCourse : List Event → Type 0
  IsCodeCourse mine = IsCourse CodeAsks made.cell task (compiled tree) mine

  abbrev IsTreeCourse : List Event → Type 0
  IsTreeCourse mine = IsCourse TreeAsks made.cell task tree mine

  fits_tree : (mine : List Event) → IsTreeCourse mine → FitsSteps tree (answers_in mine)
  fits_tree mine course =
      fits_steps (length made.cell.signals) made.cell task tree mine right.typed right.numbered (tree_own made.cell task tree mine course) (tree_fit made.cell task tree mine course)

  -- what the code asks after a course of the tree, the tree asks
  due_next : (mine : List Event) (request : Request) → IsTreeCourse mine → CodeAsks (compiled tree) (answers_in mine) request → TreeAsks tree (answers_in mine) request
  due_next mine request course asking = tree_due tree (compiled tree) (answers_in mine) request same (fits_tree mine course) asking

  next_step : (mine : List Event) (e : Event) → IsTreeCourse mine → IsStep CodeAsks made.cell task (compiled tree) mine e → IsStep TreeAsks made.cell task tree mine e
  next_step mine e course step = record { own = step.own; asked = due_next mine e.request course step.asked; fits = step.fits }

  tree_course : (mine : List Event) → IsCodeCourse mine → IsTreeCourse mine
  tree_course mine course =
      from_front (λ (es : List Event). IsCourse TreeAsks made.cell task tree es) mine (course_none TreeAsks made.cell task tree)
      (λ before after e cut past. course_more TreeAsks made.cell task tree before e past (next_step before e past (course.at before after e cut)))

  suits_task : SuitsTask CodeFits CodeAsks made.cell task (compiled tree)
  suits_task = record {
    fit = λ mine course. (same.fits (answers_in mine)).1 (fits_tree mine (tree_course mine course));
    may = λ mine request course asking.
        let of_tree = tree_course mine course in
        may_next script made task tree mine request accepted there (tree_own made.cell task tree mine of_tree) (due_next mine request of_tree asking);
  }

pub suit_tasks : (script : ScriptData) (made : MadeCell) → IsAccepted script made → SuitTasks CodeFits CodeAsks made.cell (map compiled made.trees)
suit_tasks script made accepted = record {
  each = λ task program is.
      let of = made_there compiled made.trees task program is in
      subst (λ (code : CodeData). SuitsTask CodeFits CodeAsks made.cell task code) of.2 (suits_task script made task of.0 accepted of.1);
}
