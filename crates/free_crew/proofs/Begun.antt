-- A crew whose first requests are due.
use Rattle.std.proofs.Common.{◌≡◌, ℕ, zero, suc, ◌+◌, ◌<◌, List, [], ◌∷◌, ◌++◌, length, map, replicate, Option, Some, refl, sym, ◌∙◌, ap, subst, arith}
use Rattle.std.specs.Prelude.{slice_get}
use Rattle.std.proofs.lemmas.Option.{slice_get_within}
use Rattle.rapid_model.specs.Own.{has_ended}
use Rattle.rapid_model.specs.declared.answer.Answer.{Answer}
use Rattle.rapid_model.specs.declared.event.Event.{Event}
use Rattle.rapid_model.specs.declared.request.Request.{Request}
use Rattle.cell_gate.specs.Calls.{fresh_pass, fresh_passes}
use Rattle.cell_gate.specs.GateData.{GateData}
use Rattle.cell_gate.specs.PassData.{PassData}
use Rattle.cell_gate.proofs.Dealing.{fresh_more}
use Rattle.cell_crew.specs.Courses.{IsCourse, SuitsTask, SuitTasks}
use Rattle.cell_crew.specs.UnderWay.{UnderWay, AreUnderWay}
use Rattle.cell_crew.proofs.Courses.{course_none}
use Rattle.cell_crew.proofs.Crews.{map_at}
use Rattle.free_crew.specs.Amid.{HasCause, IsAmid}
use Rattle.free_crew.specs.Crews.{IsEven, IsScript, jobs_of}
use Rattle.free_crew.specs.Runs.{MayRun}
use Rattle.free_crew.specs.declared.crew.Crew.{Crew}
use Rattle.free_crew.specs.declared.job.Job.{Job}
use Rattle.free_crew.specs.declared.standing.Standing.{Standing}
use Rattle.free_crew.specs.declared.standing.Standing.TheVariants as standings
use Rattle.free_crew.proofs.Rows.{job_parts, snoc_same}

pub fresh_at : (gate : GateData) (first others k : ℕ) (p : PassData) → slice_get (fresh_passes gate first others) k ≡ Some p → p ≡ fresh_pass gate (first + k)
fresh_at gate first zero k p at = absurd cc
fresh_at gate first (suc others) zero p at =
    let is : fresh_pass gate first ≡ p = cc in
    sym is ∙ ap (λ (k : ℕ). fresh_pass gate k) (omega arith)
fresh_at gate first (suc others) (suc k) p at = fresh_at gate (first + 1) others k p at ∙ ap (λ (n : ℕ). fresh_pass gate n) (omega arith)

pub fresh_length : (gate : GateData) (first others : ℕ) → length (fresh_passes gate first others) ≡ others
fresh_length gate first zero = refl
fresh_length gate first (suc others) = ap suc (fresh_length gate (first + 1) others)

-- the passes of a gate are those of the tasks, and the input script's
pub script_last : (gate : GateData) (tasks : ℕ) (all passes : List PassData) (script : PassData) → all ≡ fresh_passes gate 0 (tasks + 1) → all ≡ passes ++ script ∷ []
    → (passes ≡ fresh_passes gate 0 tasks) × (script ≡ fresh_pass gate tasks)
script_last gate tasks all passes script fresh is =
    let both = snoc_same passes (fresh_passes gate 0 tasks) script (fresh_pass gate (0 + tasks)) (sym is ∙ fresh ∙ fresh_more gate 0 tasks) in
    (both.0, both.1 ∙ ap (λ (k : ℕ). fresh_pass gate k) (omega arith))

pub is_script : (gate : GateData) (script : PassData) → script ≡ fresh_pass gate (length gate.cell.tasks) → IsScript gate script
is_script gate script is = record { gate_is = ap (λ (p : PassData). p.gate) is; script = ap (λ (p : PassData). p.actor) is }

-- each element of a list of copies is the thing copied
same_at : {A : Type 0} (x y : A) (n k : ℕ) → slice_get (replicate n x) k ≡ Some y → y ≡ x
same_at x y zero k at = absurd cc
same_at x y (suc n) zero at = let is : x ≡ y = cc in sym is
same_at x y (suc n) (suc k) at = same_at x y n k at

module _ {M P : Type 0} (program : M → P) (fits : P → List Answer → Type 0) (program_asks : P → List Answer → Request → Type 0) (stands_for : M → List Answer → Type 0) (due : M → Option Request) where
  -- a task that has seen nothing is under way
  begun : (gate : GateData) (task : ℕ) (job : Job M) → job.pass ≡ fresh_pass gate task → job.standing ≡ standings.Going → task < length gate.cell.tasks
      → SuitsTask fits program_asks gate.cell task (program job.machine) → UnderWay stands_for due job.machine [] → IsAmid program fits program_asks stands_for due gate task job
  begun gate task job fresh going within suits way =
      let none : job.pass.mine ≡ [] = ap (λ (p : PassData). p.mine) fresh in
      record {
        gate_is = ap (λ (p : PassData). p.gate) fresh;
        actor_is = ap (λ (p : PassData). p.actor) fresh;
        within = within;
        suits = suits;
        course = subst (λ (es : List Event). IsCourse program_asks gate.cell task (program job.machine) es) (sym none) (course_none program_asks gate.cell task (program job.machine));
        way = subst (λ (es : List Event). UnderWay stands_for due job.machine es) (sym none) way;
        cause = subst (λ (s : Standing). HasCause (due job.machine) gate.cell job.pass s) (sym going) (ap (λ (es : List Event). has_ended es) none);
      }

  -- so is each task of a crew whose passes are those of the gate
  pub may_begin : (gate : GateData) (first : List M) (all : List PassData) (crew : Crew M) → length first ≡ length gate.cell.tasks → SuitTasks fits program_asks gate.cell (map program first)
      → all ≡ fresh_passes gate 0 (length gate.cell.tasks + 1) → IsEven crew → all ≡ crew.passes.items ++ crew.script ∷ [] → crew.standings.items ≡ replicate (length first) standings.Going
      → map program crew.machines.items ≡ map program first → AreUnderWay stands_for due crew.machines.items [] → MayRun program fits program_asks stands_for due gate crew
  may_begin gate first all crew one_each suit fresh even is going runs ways = record {
    even = even;
    amid = record { each = each };
    script = is_script gate crew.script split.1;
  }
    where
      split : (crew.passes.items ≡ fresh_passes gate 0 (length gate.cell.tasks)) × (crew.script ≡ fresh_pass gate (length gate.cell.tasks))
      split = script_last gate (length gate.cell.tasks) all crew.passes.items crew.script fresh is

      each : (task : ℕ) (job : Job M) → slice_get (jobs_of crew) task ≡ Some job → IsAmid program fits program_asks stands_for due gate task job
      each task job at =
          let parts = job_parts crew.machines.items crew.passes.items crew.standings.items task job at in
          let there : slice_get (fresh_passes gate 0 (length gate.cell.tasks)) task ≡ Some job.pass = ap (λ (ps : List PassData). slice_get ps task) (sym split.0) ∙ parts.1 in
          let pass : job.pass ≡ fresh_pass gate task = fresh_at gate 0 (length gate.cell.tasks) task job.pass there ∙ ap (λ (k : ℕ). fresh_pass gate k) (omega arith) in
          let standing : job.standing ≡ standings.Going = same_at standings.Going job.standing (length first) task (ap (λ (ss : List Standing). slice_get ss task) (sym going) ∙ parts.2) in
          let count = fresh_length gate 0 (length gate.cell.tasks) in
          let lt = slice_get_within (fresh_passes gate 0 (length gate.cell.tasks)) task job.pass there in
          let suits = suit.each task (program job.machine) (ap (λ (programs : List P). slice_get programs task) (sym runs) ∙ map_at program crew.machines.items task job.machine parts.0) in
          begun gate task job pass standing (omega (arith, count, lt)) suits (ways.each task job.machine parts.0)
