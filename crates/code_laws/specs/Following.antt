-- Code does what a part of a program does, and what follows it.
use Rattle.std.specs.Prelude.{◌≡◌, ℕ, List, ⊤}
use Rattle.rapid_model.specs.declared.answer.Answer.{Answer}
use Rattle.rapid_meaning.specs.Answering.{Outcome, joined}
use Rattle.rapid_meaning.specs.Data.{Data}
use Rattle.rapid_meaning.specs.Doings.{Doing}
use Rattle.stack_code.specs.CodeData.{CodeData}
use Rattle.stack_code.specs.CodeRuns.{fitting_by, goes}
use Rattle.stack_code.specs.Confs.{Conf}
use Rattle.code_laws.specs.Standing.{Fine}

-- what follows an outcome in code, within this many operations: from where the result leads, or the error
abbrev pub followed : {A : Type 0} → CodeData → ℕ → (A → Doing Conf) → (ℕ → Doing Conf) → Outcome A → Outcome ⊤
followed code k next failed o =
    joined o (λ v d left. goes (fitting_by code) code k (next v) d left) (λ error d left. goes (fitting_by code) code k (failed error) d left)

-- Code from `start` does what a part of a program does, for any data and answers: the outcome of the part followed by k
-- operations is also the outcome of code, within some number of operations, unless it misfits or is cut short.
pub record DoesAs {A : Type 0} (code : CodeData) (start : Doing Conf) (part : Data → List Answer → Outcome A) (next : A → Doing Conf) (failed : ℕ → Doing Conf) : Type 0 where
  pub comes : (d : Data) (answers : List Answer) (k : ℕ) → Fine (followed code k next failed (part d answers))
      → (j : ℕ) × (goes (fitting_by code) code j start d answers ≡ followed code k next failed (part d answers))
