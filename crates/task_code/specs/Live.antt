-- Live code always goes on: after any answers that fit step by step it reaches a request, or has ended, within some
-- number of operations and within any larger number. So no operation lacks its operands, and no frame holds more than
-- the code says.
use Rattle.std.specs.Prelude.{◌≡◌, ℕ, ◌+◌, List, ◌∷◌, ◌++◌, IsTrue, ⊤}
use Rattle.rapid_model.specs.Fits.{fits_request}
use Rattle.rapid_model.specs.declared.answer.Answer.{Answer}
use Rattle.rapid_model.specs.declared.request.Request.{Request}
use Rattle.rapid_meaning.specs.Answering.{Outcome, Asking, Ended}
use Rattle.rapid_meaning.specs.Data.{Data}
use Rattle.stack_code.specs.CodeData.{CodeData}
use Rattle.stack_code.specs.CodeRuns.{code_after, fitting_by}

-- an answer fits the request that code asks after these answers
pub record CodeFitsNext (code : CodeData) (before : List Answer) (a : Answer) : Type 0 where
  pub operations : ℕ
  pub request : Request
  pub standing : Data
  pub asked : code_after code operations before ≡ Asking request standing
  pub fits : IsTrue (fits_request (fitting_by code standing.trapped) request a)

-- each answer fits the request that is pending after those before it
pub record CodeFits (code : CodeData) (answers : List Answer) : Type 0 where
  pub at : (before after : List Answer) (a : Answer) → answers ≡ before ++ a ∷ after → CodeFitsNext code before a

-- a request is pending, or the task has ended
abbrev pub Stands : {A : Type 0} → Outcome A → Type 0
Stands (Asking request d) = ⊤
Stands (Ended d) = ⊤
Stands outcome = ⊥

pub record IsLive (code : CodeData) : Type 0 where
  pub goes_on : (answers : List Answer) → CodeFits code answers → (k : ℕ) × ((more : ℕ) → Stands (code_after code (k + more) answers))
