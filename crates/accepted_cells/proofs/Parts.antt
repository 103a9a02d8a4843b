-- A task's own events in a legal history are a course of its tree: each request is due by the tree after the answers so
-- far, and each answer fits.
use Rattle.std.proofs.Common.{◌≡◌, ℕ, ◌<◌, List, length, Option, Some, slice_get, sym, subst}
use Rattle.std.specs.Prelude.{⊤, IsSomeAnd}
use Rattle.rapid_model.specs.CellData.{CellData}
use Rattle.rapid_model.specs.Own.{part_of}
use Rattle.rapid_model.specs.declared.answer.Answer.{Answer}
use Rattle.rapid_model.specs.declared.event.Event.{Event}
use Rattle.rapid_model.specs.declared.request.Request.{Request}
use Rattle.typed_trees.specs.Plain.{TypedTree}
use Rattle.cell_meaning.specs.Asking.{with_inputs}
use Rattle.cell_meaning.specs.Histories.{IsLegal}
use Rattle.rapid_meaning.specs.Asking.{tree_asks}
use Rattle.rapid_meaning.specs.Runs.{asks, asked_after}
use Rattle.tree_typing.specs.OwnEvents.{AreFit, AreOwn}
use Rattle.cell_crew.specs.Courses.{IsCourse}
use Rattle.cell_crew.proofs.Courses.{own_course}

-- the request is due by the tree after these answers
abbrev pub TreeAsks : TypedTree → List Answer → Request → Type 0
TreeAsks tree answers request = asked_after tree answers ≡ asks request

-- a task that has a tree asks what is due by that tree, and nothing else
pub due_by : (trees : List TypedTree) (task : ℕ) (tree : TypedTree) (answers : List Answer) (request : Request) → slice_get trees task ≡ Some tree → tree_asks trees task answers request
    → TreeAsks tree answers request
due_by trees task tree answers request there asking = subst (λ (o : Option TypedTree). IsSomeAnd o (λ t. asked_after t answers ≡ asks request)) there asking

pub asks_by : (trees : List TypedTree) (task : ℕ) (tree : TypedTree) (answers : List Answer) (request : Request) → slice_get trees task ≡ Some tree → TreeAsks tree answers request
    → tree_asks trees task answers request
asks_by trees task tree answers request there due = subst (λ (o : Option TypedTree). IsSomeAnd o (λ t. asked_after t answers ≡ asks request)) (sym there) due

pub own_part : (trees : List TypedTree) (cell : CellData) (history : List Event) (task : ℕ) (tree : TypedTree) → task < length cell.tasks → slice_get trees task ≡ Some tree
    → IsLegal (with_inputs (tree_asks trees) cell) cell history → IsCourse TreeAsks cell task tree (part_of task history)
own_part trees cell history task tree within there legal =
    own_course TreeAsks cell task tree (λ t answers. ⊤) (tree_asks trees) within
    (record { same = λ answers request fits. (λ asking. due_by trees task tree answers request there asking, λ due. asks_by trees task tree answers request there due) }) (λ mine course. tt) history legal

-- a course of a tree, as the laws on trees take it
pub tree_own : (cell : CellData) (task : ℕ) (tree : TypedTree) (mine : List Event) → IsCourse TreeAsks cell task tree mine → AreOwn task tree mine
tree_own cell task tree mine course = record { its = λ before after e cut. (course.at before after e cut).own; due = λ before after e cut. (course.at before after e cut).asked }

pub tree_fit : (cell : CellData) (task : ℕ) (tree : TypedTree) (mine : List Event) → IsCourse TreeAsks cell task tree mine → AreFit cell task mine
tree_fit cell task tree mine course = record { at = λ before after e cut. (course.at before after e cut).fits }
