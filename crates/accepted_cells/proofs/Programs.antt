-- The tasks of an accepted cell ask as the compiled code of their trees.
use Rattle.std.proofs.Common.{◌≡◌, ◌∙◌, subst, ℕ, ◌+◌, List, map, Some, slice_get}
use Rattle.rapid_model.specs.ScriptData.{ScriptData}
use Rattle.rapid_model.specs.declared.answer.Answer.{Answer}
use Rattle.rapid_model.specs.declared.request.Request.{Request}
use Rattle.rapid_model.proofs.Lists.{made_there}
use Rattle.typed_trees.specs.Plain.{TypedTree}
use Rattle.cell_assembly.specs.Made.{MadeCell}
use Rattle.rapid_meaning.specs.Answering.{Asking}
use Rattle.rapid_meaning.specs.Asking.{tree_asks}
use Rattle.rapid_meaning.specs.Data.{Data}
use Rattle.rapid_meaning.specs.Runs.{FitsSteps, asks, asked_after, state_after}
use Rattle.tree_typing.proofs.Own.{asks_it, is_asking}
use Rattle.stack_code.specs.CodeData.{CodeData}
use Rattle.stack_code.specs.CodeRuns.{code_after}
use Rattle.stack_code.specs.Compiled.{compiled}
use Rattle.task_code.specs.Asking.{CodeAsks}
use Rattle.task_code.specs.Live.{CodeFits}
use Rattle.code_laws.specs.Asking.{AsksAs}
use Rattle.code_laws.proofs.Lives.{asks_as}
use Rattle.cell_crew.specs.Crew.{AskAsPrograms, AsksAsProgram}
use Rattle.accepted_cells.specs.Accepted.{IsAccepted}
use Rattle.accepted_cells.proofs.Checking.{checked_is}
use Rattle.accepted_cells.proofs.Parts.{asks_by, due_by}

-- code asks what its tree asks
code_asks : (tree : TypedTree) (code : CodeData) (answers : List Answer) (request : Request) → AsksAs tree code → FitsSteps tree answers → asked_after tree answers ≡ asks request
    → CodeAsks code answers request
code_asks tree code answers request same fits due =
    let now : (d : Data) × (state_after tree answers ≡ Asking request d) = is_asking tree answers request due in
    let by : (k : ℕ) × ((more : ℕ) → code_after code (k + more) answers ≡ state_after tree answers) = same.stands answers fits in
    record { standing = now.0; by = record { operations = by.0; asked = λ more. by.1 more ∙ now.1 } }

pub tree_due : (tree : TypedTree) (code : CodeData) (answers : List Answer) (request : Request) → AsksAs tree code → FitsSteps tree answers → CodeAsks code answers request
    → asked_after tree answers ≡ asks request
tree_due tree code answers request same fits asking =
    asks_it tree answers request asking.standing (same.asks answers (asking.by.operations + 0) request asking.standing fits (asking.by.asked 0))

-- a task asks what the code of its tree asks
asks_as_code : (script : ScriptData) (made : MadeCell) (task : ℕ) (tree : TypedTree) → IsAccepted script made → slice_get made.trees task ≡ Some tree
    → AsksAsProgram CodeFits CodeAsks (tree_asks made.trees) task (compiled tree)
asks_as_code script made task tree accepted there =
    let same : AsksAs tree (compiled tree) = asks_as tree (checked_is script made task tree accepted there) in
    record {
      same = λ answers request fits.
          let steps : FitsSteps tree answers = (same.fits answers).0 fits in (
            λ asking. code_asks tree (compiled tree) answers request same steps (due_by made.trees task tree answers request there asking),
            λ asking. asks_by made.trees task tree answers request there (tree_due tree (compiled tree) answers request same steps asking),
          );
    }

pub ask_as_code : (script : ScriptData) (made : MadeCell) → IsAccepted script made → AskAsPrograms CodeFits CodeAsks (tree_asks made.trees) (map compiled made.trees)
ask_as_code script made accepted = record {
  each = λ task program is.
      let of = made_there compiled made.trees task program is in
      subst (λ (code : CodeData). AsksAsProgram CodeFits CodeAsks (tree_asks made.trees) task code) of.2 (asks_as_code script made task of.0 accepted of.1);
}
