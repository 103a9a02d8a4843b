-- The passes of a crew that has run, and what they say of the core's history.
use Rattle.std.proofs.Common.{◌≡◌, inl, inr, ℕ, zero, suc, ◌<◌, List, [], ◌∷◌, ◌++◌, length, map, Option, Some, refl, sym, ◌∙◌, ap, subst, arith}
use Rattle.std.specs.Prelude.{Any, slice_get}
use Rattle.std.specs.List.{AllByRecursion}
use Rattle.std.proofs.lemmas.Bool.{cases_lt}
use Rattle.std.proofs.lemmas.List.Elements.{All-from_recursion, All-push, recursion_from_All}
use mathlib.Core.List.{IsPrefix}
use Rattle.rapid_model.proofs.Lists.{between, in_front, some_at, there_is}
use Rattle.rapid_model.specs.Own.{part_of}
use Rattle.rapid_model.specs.declared.answer.Answer.{Answer}
use Rattle.rapid_model.specs.declared.event.Event.{Event}
use Rattle.rapid_model.specs.declared.request.Request.{Request}
use Rattle.cell_meaning.specs.Asking.{Asking}
use Rattle.cell_gate.specs.Calls.{AreAllPasses, AreOfHistory}
use Rattle.cell_gate.specs.GateData.{GateData}
use Rattle.cell_gate.specs.PassData.{PassData}
use Rattle.cell_crew.specs.Courses.{IsCourse}
use Rattle.cell_crew.specs.Crew.{AskAsPrograms, Stand}
use Rattle.cell_crew.specs.UnderWay.{UnderWay}
use Rattle.cell_crew.proofs.Crews.{all_at, map_at}
use Rattle.free_crew.specs.Amid.{AreAmid, HaveStopped}
use Rattle.free_crew.specs.Crews.{IsScript, jobs_in}
use Rattle.free_crew.specs.declared.job.Job.{Job}
use Rattle.free_crew.specs.declared.standing.Standing.{Standing}
use Rattle.free_crew.proofs.Ending.{Stops}
use Rattle.free_crew.proofs.Rows.{job_of, job_parts, job_there, jobs_length}

all_from : {A : Type 0} (Q : A → Type 0) (xs : List A) → ((k : ℕ) (x : A) → slice_get xs k ≡ Some x → Q x) → AllByRecursion Q xs
all_from Q [] at = tt
all_from Q (x ∷ xs) at = (at 0 x refl, all_from Q xs (λ k y is. at (suc k) y is))

-- each pass of a row is one of a task
pass_there : {M : Type 0} (ms : List M) (ps : List PassData) (ss : List Standing) (k : ℕ) (p : PassData) → length ps ≡ length ms → length ss ≡ length ms → slice_get ps k ≡ Some p
    → (job : Job M) × (slice_get (jobs_in ms ps ss) k ≡ Some job) × (job.pass ≡ p)
pass_there ms [] ss k p e f at = absurd cc
pass_there [] (y ∷ ps) ss k p e f at = absurd (omega (arith, e))
pass_there (x ∷ ms) (y ∷ ps) [] k p e f at = absurd (omega (arith, f))
pass_there (x ∷ ms) (y ∷ ps) (z ∷ ss) zero p e f at = let is : y ≡ p = cc in (job_of x y z, refl, is)
pass_there (x ∷ ms) (y ∷ ps) (z ∷ ss) (suc k) p e f at = pass_there ms ps ss k p (omega (arith, e)) (omega (arith, f)) at

module _ {M P : Type 0} (program : M → P) (fits : P → List Answer → Type 0) (program_asks : P → List Answer → Request → Type 0) (stands_for : M → List Answer → Type 0) (due : M → Option Request)
    (gate : GateData) (ms : List M) (ps : List PassData) (ss : List Standing) (script : PassData) (even : length ps ≡ length ms) (alike : length ss ≡ length ms)
    (one_each : length ms ≡ length gate.cell.tasks) (amid : AreAmid program fits program_asks stands_for due gate (jobs_in ms ps ss)) where
  job_at : (task : ℕ) → task < length gate.cell.tasks → (job : Job M) × (slice_get (jobs_in ms ps ss) task ≡ Some job)
  job_at task within = there_is (jobs_in ms ps ss) task (let all = jobs_length ms ps ss even alike in omega (arith, all, one_each, within))

  -- the gate may be closed by them
  pub all_passes : IsScript gate script → AreAllPasses gate (ps ++ script ∷ [])
  all_passes of_script = record {
    of_gate = All-push (λ p. p.gate ≡ gate) ps script (All-from_recursion (λ p. p.gate ≡ gate) ps (all_from (λ p. p.gate ≡ gate) ps own_gate)) of_script.gate_is;
    every = λ actor le. elim (cases_lt actor (length gate.cell.tasks)) [
      | inl less ↦ of_task actor less
      | inr more ↦ some_at (λ p. p.actor ≡ actor) (ps ++ script ∷ []) (length ps) script (between ps [] script) (of_script.script ∙ omega (arith, le, more))
    ];
  }
    where
      own_gate : (k : ℕ) (p : PassData) → slice_get ps k ≡ Some p → p.gate ≡ gate
      own_gate k p at =
          let there = pass_there ms ps ss k p even alike at in
          ap (λ (q : PassData). q.gate) (sym there.2) ∙ (amid.each k there.0 there.1).gate_is

      of_task : (actor : ℕ) → actor < length gate.cell.tasks → Any (λ p. p.actor ≡ actor) (ps ++ script ∷ [])
      of_task actor less =
          let job = job_at actor less in
          some_at (λ p. p.actor ≡ actor) (ps ++ script ∷ []) actor job.0.pass (in_front ps (script ∷ []) actor job.0.pass (job_parts ms ps ss actor job.0 job.1).1) (amid.each actor job.0 job.1).actor_is

  module _ (history : List Event) (tell : AreOfHistory (ps ++ script ∷ []) history) where
    told_at : (k : ℕ) (p : PassData) → slice_get (ps ++ script ∷ []) k ≡ Some p → IsPrefix p.seen history × (p.mine ≡ part_of p.actor history)
    told_at k p at = (
      all_at (λ (q : PassData). IsPrefix q.seen history) (ps ++ script ∷ []) k p (recursion_from_All (λ (q : PassData). IsPrefix q.seen history) (ps ++ script ∷ []) tell.begins) at,
      all_at (λ (q : PassData). q.mine ≡ part_of q.actor history) (ps ++ script ∷ []) k p (recursion_from_All (λ (q : PassData). q.mine ≡ part_of q.actor history) (ps ++ script ∷ []) tell.mine) at,
    )

    pub script_begins : IsPrefix script.seen history
    script_begins = (told_at (length ps) script (between ps [] script)).0

    its_part : (task : ℕ) (job : Job M) → slice_get (jobs_in ms ps ss) task ≡ Some job → job.pass.mine ≡ part_of task history
    its_part task job at =
        (told_at task job.pass (in_front ps (script ∷ []) task job.pass (job_parts ms ps ss task job at).1)).1 ∙ ap (λ (k : ℕ). part_of k history) (amid.each task job at).actor_is

    -- each task has stopped for a cause
    pub each_stops : (asks : Asking) → HaveStopped (jobs_in ms ps ss) → AskAsPrograms fits program_asks asks (map program ms) → (task : ℕ) → task < length gate.cell.tasks
        → Stops program fits program_asks stands_for due asks gate.cell history task
    each_stops asks stopped programs task within =
        let found = job_at task within in
        let job = found.0 in
        let at = found.1 in
        let this = amid.each task job at in
        let part = its_part task job at in
        record {
          machine = job.machine;
          pass = job.pass;
          standing = job.standing;
          asks_as = programs.each task (program job.machine) (map_at program ms task job.machine (job_parts ms ps ss task job at).0);
          suits = this.suits;
          course = subst (λ (es : List Event). IsCourse program_asks gate.cell task (program job.machine) es) part this.course;
          way = subst (λ (es : List Event). UnderWay stands_for due job.machine es) part this.way;
          mine = part;
          begins = (told_at task job.pass (in_front ps (script ∷ []) task job.pass (job_parts ms ps ss task job at).1)).0;
          cause = this.cause;
          stopped = stopped.each task job at;
        }

    pub all_stand : Stand stands_for ms history
    all_stand = record {
      each = λ task m at.
          let there = job_there ms ps ss task m even alike at in
          let way = subst (λ (es : List Event). UnderWay stands_for due there.0.machine es) (its_part task there.0 there.1) (amid.each task there.0 there.1).way in
          (subst (λ (x : M). UnderWay stands_for due x (part_of task history)) there.2 way).stands;
    }
