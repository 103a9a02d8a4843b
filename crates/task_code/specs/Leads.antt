-- How many operations lead to the next request.
use Rattle.std.specs.Prelude.{◌≡◌, ℕ, zero, suc, true, nat_le, List, [], length, IsTrue, ⊤}
use Rattle.std.specs.Coded.{Coded-set, coded_bool}
use Rattle.rapid_model.specs.declared.answer.Answer.{Answer}
use Rattle.rapid_meaning.specs.Answering.{Outcome, Gave, Asking, Ended, performed}
use Rattle.rapid_meaning.specs.Data.{Data}
use Rattle.rapid_meaning.specs.Doings.{Doing}
use Rattle.stack_code.specs.CodeData.{CodeData}
use Rattle.stack_code.specs.CodeRuns.{fitting_by, no_part}
use Rattle.stack_code.specs.Confs.{Conf}
use Rattle.stack_code.specs.Steps.{step}

-- exactly this many operations lead from an outcome to a request or to the end, each with room for its operands
unfoldable pub Comes : CodeData → ℕ → Outcome Conf → Type 0
Comes code zero (Asking request d) = ⊤
Comes code zero (Ended d) = ⊤
Comes code (suc k) (Gave c d left) = IsTrue (nat_le (length c.stack) code.deepest) × Comes code k (performed (fitting_by code) no_part (step code c) d left)
Comes code k outcome = ⊥

-- exactly this many operations lead from a doing, with these data, to the next request
abbrev pub Leads : CodeData → ℕ → Doing Conf → Data → Type 0
Leads code k m d = Comes code k (performed (fitting_by code) no_part m d [])

-- some number of operations leads from a doing, with these data, to the next request
abbrev pub Runs : CodeData → Doing Conf → Data → Type 0
Runs code m d = (k : ℕ) × Leads code k m d

-- the operations that lead to the next request; their number is unique, and so is the proof
abbrev pub Coming : CodeData → Outcome Conf → Type 0
Coming code o = (k : ℕ) × Comes code k o

one_more : (code : CodeData) (c : Conf) (d : Data) (left : List Answer) → IsTrue (nat_le (length c.stack) code.deepest)
    → Coming code (performed (fitting_by code) no_part (step code c) d left) → Coming code (Gave c d left)
unfolding Comes
one_more code c d left room come = (suc come.0, (room, come.1))

pub comes_once : (code : CodeData) (k j : ℕ) (o : Outcome Conf) (a : Comes code k o) (b : Comes code j o) → ◌≡◌ {A = Coming code o} (k, a) (j, b)
unfolding Comes one_more
comes_once code zero zero (Asking request d) a b = λ i. (zero, tt)
comes_once code zero zero (Ended d) a b = λ i. (zero, tt)
comes_once code zero zero o a b = absurd a
comes_once code zero (suc j) (Asking request d) a b = absurd b
comes_once code zero (suc j) (Ended d) a b = absurd b
comes_once code zero (suc j) o a b = absurd a
comes_once code (suc k) zero (Gave c d left) a b = absurd b
comes_once code (suc k) zero o a b = absurd a
comes_once code (suc k) (suc j) (Gave c d left) a b = λ i.
    one_more code c d left (Coded-set coded_bool (nat_le (length c.stack) code.deepest) true a.0 b.0 i)
    (comes_once code k j (performed (fitting_by code) no_part (step code c) d left) a.1 b.1 i)
comes_once code (suc k) (suc j) o a b = absurd a

pub runs_prop : (code : CodeData) (m : Doing Conf) (d : Data) → IsProp (Runs code m d)
runs_prop code m d a b = comes_once code a.0 b.0 (performed (fitting_by code) no_part m d []) a.1 b.1
