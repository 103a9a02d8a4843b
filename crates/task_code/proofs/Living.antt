-- Live code goes on from every point that it reaches.
use Rattle.std.proofs.Common.{◌≡◌, ap, ◌∙◌, subst, ℕ, zero, suc, ◌+◌, nat_le, Bool, true, false, List, [], length, if◌then◌else◌, IsTrue, refl, arith}
use Rattle.std.specs.Prelude.{⊤}
use Rattle.rapid_model.specs.declared.answer.Answer.{Answer}
use Rattle.rapid_meaning.specs.Answering.{Outcome, Gave, Asking, Ended, Misfits, joined, performed}
use Rattle.rapid_meaning.specs.Data.{Data}
use Rattle.rapid_meaning.specs.Doings.{Doing}
use Rattle.stack_code.specs.CodeData.{CodeData}
use Rattle.stack_code.specs.CodeRuns.{code_after, exec, fitting_by, goes, no_part}
use Rattle.stack_code.specs.Confs.{Conf}
use Rattle.stack_code.specs.Steps.{step}
use Rattle.task_code.specs.Leads.{Comes, Runs}
use Rattle.task_code.specs.Live.{CodeFits, IsLive, Stands}
use Rattle.task_code.specs.Reached.{Reached}
use Rattle.task_code.proofs.Reaching.{stands_at}

room_in : (b : Bool) (o : Outcome ⊤) → Stands (if b then o else Misfits) → IsTrue b × Stands o
room_in true o stands = (refl, stands)
room_in false o stands = absurd stands

-- code that reaches a request within some number of operations does so after an exact number of them
comes_in : (code : CodeData) (k : ℕ) (o : Outcome Conf) → Stands (joined o (λ next e left. exec (fitting_by code) code k next e left) (λ n e left. Misfits))
    → (j : ℕ) × Comes code j o
unfolding exec Comes
comes_in code zero (Asking request d) stands = (zero, tt)
comes_in code zero (Ended d) stands = (zero, tt)
comes_in code zero o stands = absurd stands
comes_in code (suc k) (Asking request d) stands = (zero, tt)
comes_in code (suc k) (Ended d) stands = (zero, tt)
comes_in code (suc k) (Gave c d left) stands =
    let within : IsTrue (nat_le (length c.stack) code.deepest) × Stands (goes (fitting_by code) code k (step code c) d left) =
    room_in (nat_le (length c.stack) code.deepest) (goes (fitting_by code) code k (step code c) d left) stands in
    let come : (j : ℕ) × Comes code j (performed (fitting_by code) no_part (step code c) d left) =
    comes_in code k (performed (fitting_by code) no_part (step code c) d left) within.1 in
    (suc come.0, (within.0, come.1))
comes_in code (suc k) o stands = absurd stands

pub live_runs : (code : CodeData) (m : Doing Conf) (d : Data) (answers : List Answer) → IsLive code → CodeFits code answers → Reached code m d answers → Runs code m d
live_runs code m d answers live fits here =
    let on : (k : ℕ) × ((more : ℕ) → Stands (code_after code (k + more) answers)) = live.goes_on answers fits in
    let moved : on.0 + here.0 ≡ here.0 + on.0 = omega arith in
    let same : code_after code (on.0 + here.0) answers ≡ goes (fitting_by code) code on.0 m d [] =
    ap (λ (k : ℕ). code_after code k answers) moved ∙ stands_at code m d answers here on.0 in
    comes_in code on.0 (performed (fitting_by code) no_part m d []) (subst (λ (o : Outcome ⊤). Stands o) same (on.1 here.0))
