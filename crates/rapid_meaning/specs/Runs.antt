-- What a task asks after given answers.
use Rattle.std.specs.Prelude.{◌≡◌, ℕ, zero, suc, List, [], ◌∷◌, ◌++◌, length, Option, None, Some, IsTrue, ⊤}
use Rattle.rapid_model.specs.Fits.{fits_request}
use Rattle.rapid_model.specs.declared.answer.Answer.{Answer}
use Rattle.rapid_model.specs.declared.fate.Fate.TheVariants as fates
use Rattle.rapid_model.specs.declared.fate.Fault.TheVariants.{Unhandled}
use Rattle.rapid_model.specs.declared.request.Request.{Request}
use Rattle.typed_trees.specs.Plain.{TypedTree}
use Rattle.rapid_meaning.specs.Answering as outcomes
use Rattle.rapid_meaning.specs.Answering.{Outcome, Run, NoFuel, Asking, Ended, fitting_of, performed}
use Rattle.rapid_meaning.specs.Calls.{part}
use Rattle.rapid_meaning.specs.Data.{Data}
use Rattle.rapid_meaning.specs.Doings.{Doing, Ends, Does, fault}
use Rattle.rapid_meaning.specs.Flows.{Call}
use Rattle.rapid_meaning.specs.Frames.{initial}

-- a task calls main once, and is done when main ends; an error that leaves main is a fault
abbrev pub task : TypedTree → Doing ⊤
task tree = Does (Call tree.main []) (λ _. Ends fates.Done) (λ error. fault (Unhandled error))

-- the parts of a program, nested to this depth at most
unfoldable pub deep : TypedTree → ℕ → Run
deep tree zero p d answers = NoFuel
deep tree (suc n) p d answers = performed (fitting_of tree) (deep tree n) (part tree p) d answers

-- The outcome of a task for these answers. Each part asks before it does another, so parts never nest deeper than the
-- number of answers.
unfoldable pub state_after : TypedTree → List Answer → Outcome ⊤
state_after tree answers = performed (fitting_of tree) (deep tree (suc (length answers))) (task tree) (initial tree) answers

-- the next request; or the task has ended, or an answer did not fit its request, or no checked task gets here
pub data Next : Type 0 where
  asks : Request → Next
  ended : Next
  unfit : Next
  misfit : Next

abbrev pub next_of : {A : Type 0} → Outcome A → Next
next_of (Asking request d) = asks request
next_of (Ended d) = ended
next_of outcomes.Unfit = unfit
next_of _ = misfit

-- what the task of this tree asks after these answers
unfoldable pub asked_after : TypedTree → List Answer → Next
asked_after tree answers = next_of (state_after tree answers)

abbrev pub data_in : {A : Type 0} → Outcome A → Option Data
data_in (Asking request d) = Some d
data_in (Ended d) = Some d
data_in _ = None

-- the data of a task that asks, or has ended, after these answers
unfoldable pub data_after : TypedTree → List Answer → Option Data
data_after tree answers = data_in (state_after tree answers)

-- an answer fits the request that the task asks after these answers
pub record FitsNext (tree : TypedTree) (before : List Answer) (a : Answer) : Type 0 where
  pub request : Request
  pub standing : Data
  pub asked : state_after tree before ≡ Asking request standing
  pub fits : IsTrue (fits_request (fitting_of tree standing.trapped) request a)

-- each answer fits the request that is pending after those before it, and none follows the end
pub record FitsSteps (tree : TypedTree) (answers : List Answer) : Type 0 where
  pub at : (before after : List Answer) (a : Answer) → answers ≡ before ++ a ∷ after → FitsNext tree before a
