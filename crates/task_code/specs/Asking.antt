-- What code asks, as a relation.
use Rattle.std.specs.Prelude.{◌≡◌, ℕ, ◌+◌, List}
use Rattle.rapid_model.specs.declared.answer.Answer.{Answer}
use Rattle.rapid_model.specs.declared.request.Request.{Request}
use Rattle.rapid_meaning.specs.Answering.{Asking}
use Rattle.rapid_meaning.specs.Data.{Data}
use Rattle.stack_code.specs.CodeData.{CodeData}
use Rattle.stack_code.specs.CodeRuns.{code_after}

-- after these answers, within some number of operations and within any larger number, code asks the request with these
-- data
pub record AsksWith (code : CodeData) (answers : List Answer) (request : Request) (standing : Data) : Type 0 where
  pub operations : ℕ
  pub asked : (more : ℕ) → code_after code (operations + more) answers ≡ Asking request standing

-- after these answers code asks the request
pub record CodeAsks (code : CodeData) (answers : List Answer) (request : Request) : Type 0 where
  pub standing : Data
  pub by : AsksWith code answers request standing
