-- The number of operations that lead to the next request, step by step.
use Rattle.std.proofs.Common.{◌≡◌, ap, ℕ, zero, suc, nat_le, [], length, IsTrue}
use Rattle.rapid_meaning.specs.Answering.{performed}
use Rattle.rapid_meaning.specs.Data.{Data}
use Rattle.rapid_meaning.specs.Doings.{Doing, Gives, Misfit}
use Rattle.stack_code.specs.CodeData.{CodeData}
use Rattle.stack_code.specs.CodeRuns.{fitting_by, no_part}
use Rattle.stack_code.specs.Confs.{Conf}
use Rattle.stack_code.specs.Steps.{step}
use Rattle.task_code.specs.Leads.{Comes, Coming, Leads, Runs, comes_once}

pub leads_room : (code : CodeData) (k : ℕ) (c : Conf) (d : Data) → Leads code k (Gives c) d → IsTrue (nat_le (length c.stack) code.deepest)
unfolding Comes performed
leads_room code zero c d lead = absurd lead
leads_room code (suc k) c d lead = lead.0

pub leads_once : (code : CodeData) (k j : ℕ) (m : Doing Conf) (d : Data) → Leads code k m d → Leads code j m d → k ≡ j
leads_once code k j m d a b = ap (λ (come : Coming code (performed (fitting_by code) no_part m d [])). come.0) (comes_once code k j (performed (fitting_by code) no_part m d []) a b)

stepped : (code : CodeData) (k : ℕ) (c : Conf) (d : Data) → Leads code k (Gives c) d → (next : Runs code (step code c) d) × (k ≡ suc next.0)
unfolding Comes performed
stepped code zero c d lead = absurd lead
stepped code (suc k) c d lead = ((k, lead.1), λ i. suc k)

-- one operation fewer
pub runs_step : (code : CodeData) (c : Conf) (d : Data) (run : Runs code (Gives c) d) → (next : Runs code (step code c) d) × (run.0 ≡ suc next.0)
runs_step code c d run = stepped code run.0 c d run.1

pub runs_room : (code : CodeData) (c : Conf) (d : Data) → Runs code (Gives c) d → IsTrue (nat_le (length c.stack) code.deepest)
runs_room code c d run = leads_room code run.0 c d run.1

-- code that does not go on

pub leads_misfit : (code : CodeData) (k : ℕ) (d : Data) → Leads code k Misfit d → ⊥
unfolding Comes performed
leads_misfit code zero d lead = lead
leads_misfit code (suc k) d lead = lead

pub runs_misfit : (code : CodeData) (d : Data) → Runs code Misfit d → ⊥
runs_misfit code d run = leads_misfit code run.0 d run.1
