-- Code asks what a tree asks.
use Rattle.std.specs.Prelude.{◌≡◌, ◌↔◌, ℕ, ◌+◌, List}
use Rattle.rapid_model.specs.declared.answer.Answer.{Answer}
use Rattle.rapid_model.specs.declared.request.Request.{Request}
use Rattle.typed_trees.specs.Plain.{TypedTree}
use Rattle.rapid_meaning.specs.Answering.{Asking}
use Rattle.rapid_meaning.specs.Data.{Data}
use Rattle.rapid_meaning.specs.Runs.{FitsSteps, state_after}
use Rattle.stack_code.specs.CodeData.{CodeData}
use Rattle.stack_code.specs.CodeRuns.{code_after}
use Rattle.task_code.specs.Live.{CodeFits}

-- The same answers fit step by step. After them code is in the same state as the tree, within some number of operations
-- and within any larger number. Whenever it asks, the tree asks the same, with the same data, including the place of
-- the last Look.
pub record AsksAs (tree : TypedTree) (code : CodeData) : Type 0 where
  pub fits : (answers : List Answer) → CodeFits code answers ↔ FitsSteps tree answers
  pub stands : (answers : List Answer) → FitsSteps tree answers → (k : ℕ) × ((more : ℕ) → code_after code (k + more) answers ≡ state_after tree answers)
  pub asks : (answers : List Answer) (k : ℕ) (request : Request) (d : Data) → FitsSteps tree answers → code_after code k answers ≡ Asking request d
      → state_after tree answers ≡ Asking request d
