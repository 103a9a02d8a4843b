-- The point that code has reached after given answers.
use Rattle.std.specs.Prelude.{◌≡◌, ℕ, ◌+◌, List, ◌++◌}
use Rattle.rapid_model.specs.declared.answer.Answer.{Answer}
use Rattle.rapid_meaning.specs.Data.{Data}
use Rattle.rapid_meaning.specs.Doings.{Doing}
use Rattle.stack_code.specs.CodeData.{CodeData}
use Rattle.stack_code.specs.CodeRuns.{code_after, fitting_by, goes}
use Rattle.stack_code.specs.Confs.{Conf}

-- After these answers and some number of operations, code does this next, with these data: it goes on from there,
-- whatever answers follow.
abbrev pub Reached : CodeData → Doing Conf → Data → List Answer → Type 0
Reached code m d answers =
    (done : ℕ) × ((more : ℕ) (left : List Answer) → code_after code (done + more) (answers ++ left) ≡ goes (fitting_by code) code more m d left)
