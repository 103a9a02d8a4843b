-- Accepted trees are checked.
use Rattle.std.proofs.Common.{◌≡◌, ℕ, List, Some, slice_get, length, is_some}
use Rattle.std.specs.Prelude.{IsTrue}
use Rattle.rapid_model.specs.Requests.{suits_actor}
use Rattle.rapid_model.specs.ScriptData.{ScriptData}
use Rattle.rapid_model.specs.declared.answer.Answer.{Answer}
use Rattle.rapid_model.specs.declared.request.Request.{Request}
use Rattle.typed_trees.specs.Plain.{TypedTree}
use Rattle.cell_assembly.specs.Made.{MadeCell}
use Rattle.rapid_meaning.specs.Answering.{Asking}
use Rattle.rapid_meaning.specs.Data.{Data}
use Rattle.tree_typing.specs.OwnEvents.{own_events}
use Rattle.tree_typing.proofs.Own.{asks_it, may_be_asked}
use Rattle.stack_code.specs.CodeRuns.{code_after}
use Rattle.stack_code.specs.Compiled.{compiled}
use Rattle.task_code.specs.Live.{CodeFits}
use Rattle.code_laws.specs.Checked.{IsChecked}
use Rattle.code_laws.proofs.Lives.{asks_same, fits_tree}
use Rattle.accepted_cells.specs.Accepted.{IsAccepted}
use Rattle.accepted_cells.proofs.Accepted.{accepted_right}

pub checked_is : (script : ScriptData) (made : MadeCell) (number : ℕ) (tree : TypedTree) → IsAccepted script made → slice_get made.trees number ≡ Some tree → IsChecked tree
checked_is script made number tree accepted there =
    let h = accepted_right script made number tree accepted there in record {
      signals = length made.cell.signals;
      cell = made.cell;
      number = number;
      typed = h.typed;
      numbered = h.numbered;
      labels = h.labels;
    }

pub code_suits : (script : ScriptData) (made : MadeCell) (number : ℕ) (tree : TypedTree) (answers : List Answer) (k : ℕ) (request : Request) (d : Data) → IsAccepted script made
    → slice_get made.trees number ≡ Some tree → CodeFits (compiled tree) answers → code_after (compiled tree) k answers ≡ Asking request d
    → IsTrue (suits_actor made.cell number (own_events number tree answers) request)
code_suits script made number tree answers k request d accepted there fits e =
    let h = accepted_right script made number tree accepted there in
    let checked = checked_is script made number tree accepted there in
    let same = asks_same tree answers k request d checked (fits_tree tree answers checked fits) e in
    may_be_asked made.cell number h.row tree answers request h.there h.typed h.numbered (asks_it tree answers request d same)
