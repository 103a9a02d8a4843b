-- Code is in the same state as its tree.
use Rattle.std.specs.Prelude.{◌≡◌, ℕ, ◌+◌, List, ⊤}
use Rattle.rapid_model.specs.declared.answer.Answer.{Answer}
use Rattle.typed_trees.specs.Plain.{TypedTree}
use Rattle.rapid_meaning.specs.Answering.{Outcome, Misfits, NoFuel}
use Rattle.rapid_meaning.specs.Runs.{state_after}
use Rattle.stack_code.specs.CodeRuns.{code_after}
use Rattle.stack_code.specs.Compiled.{compiled}

-- an outcome that neither misfits nor is cut short
abbrev pub Fine : {A : Type 0} → Outcome A → Type 0
Fine Misfits = ⊥
Fine NoFuel = ⊥
Fine outcome = ⊤

-- within k operations, and within any larger number, code is in the same state after these answers as its tree: it asks
-- the same, with the same data
abbrev pub StandsBy : TypedTree → List Answer → ℕ → Type 0
StandsBy tree answers k = (more : ℕ) → code_after (compiled tree) (k + more) answers ≡ state_after tree answers

-- the code of a tree is always in the same state as the tree, unless the tree misfits
abbrev pub Simulates : TypedTree → Type 0
Simulates tree = (answers : List Answer) → Fine (state_after tree answers) → (k : ℕ) × StandsBy tree answers k
