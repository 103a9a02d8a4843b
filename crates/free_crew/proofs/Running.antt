-- A crew whose last task is run apart from the others.
use Rattle.std.proofs.Common.{◌≡◌, ℕ, ◌+◌, true, List, [], ◌∷◌, ◌++◌, length, Option, refl, sym, ◌∙◌, ap, subst, arith}
use Rattle.rapid_model.specs.declared.answer.Answer.{Answer}
use Rattle.rapid_model.specs.declared.request.Request.{Request}
use Rattle.cell_gate.specs.GateData.{GateData}
use Rattle.cell_gate.specs.PassData.{PassData}
use Rattle.free_crew.specs.Amid.{GoesOnAs, IsAmid, is_stopped}
use Rattle.free_crew.specs.Crews.{IsEven, IsFed, IsSameRoom, IsScript, jobs_of}
use Rattle.free_crew.specs.Runs.{HasRun, MayRun}
use Rattle.free_crew.specs.declared.crew.Crew.{Crew}
use Rattle.free_crew.specs.declared.job.Job.{Job}
use Rattle.free_crew.proofs.Rows.{crew_length, each_less, each_more, programs_more, size_more}

module _ {M P : Type 0} (program : M → P) (fits : P → List Answer → Type 0) (program_asks : P → List Answer → Request → Type 0) (stands_for : M → List Answer → Type 0) (due : M → Option Request)
    (gate : GateData) where
  -- without its last task
  pub may_less : (all less : Crew M) (job : Job M) → jobs_of all ≡ jobs_of less ++ job ∷ [] → IsEven less → less.script ≡ all.script → MayRun program fits program_asks stands_for due gate all
      → MayRun program fits program_asks stands_for due gate less
  may_less all less job is even script may = record {
    even = even;
    amid = each_less (λ task j. IsAmid program fits program_asks stands_for due gate task j) (jobs_of all) (jobs_of less) job is may.amid;
    script = subst (λ (p : PassData). IsScript gate p) (sym script) may.script;
  }

  -- with its last task back, as it came out
  pub may_more : (less all : Crew M) (old came : Job M) (task : ℕ) → jobs_of all ≡ jobs_of less ++ came ∷ [] → task ≡ length less.machines.items → IsEven less → IsEven all → all.script ≡ less.script
      → MayRun program fits program_asks stands_for due gate less → GoesOnAs program fits program_asks stands_for due gate task old came → MayRun program fits program_asks stands_for due gate all
  may_more less all old came task is here was even script may comes =
      let count = crew_length less was in
      record {
        even = even;
        amid = each_more (λ k j. IsAmid program fits program_asks stands_for due gate k j) (jobs_of all) (jobs_of less) came task is (omega (arith, count, here)) may.amid comes.amid;
        script = subst (λ (p : PassData). IsScript gate p) (sym script) may.script;
      }

  -- the others ran without the last task, which came back and was added after them
  pub ran_more : (start less later last : Crew M) (job sent came : Job M) (task : ℕ) → jobs_of start ≡ jobs_of less ++ job ∷ [] → length less.machines.items + 1 ≡ length start.machines.items → IsSameRoom start less
      → task ≡ length less.machines.items → HasRun program fits program_asks stands_for due gate less later → sent ≡ job → GoesOnAs program fits program_asks stands_for due gate task sent came
      → is_stopped came.standing ≡ true → jobs_of last ≡ jobs_of later ++ came ∷ [] → IsEven last → length last.machines.items ≡ length later.machines.items + 1 → IsSameRoom later last
      → last.script ≡ later.script → HasRun program fits program_asks stands_for due gate start last
  ran_more start less later last job sent came task taken fewer room here ran same comes stopped put even longer again script =
      let count = crew_length later ran.size.even in
      let len = ran.size.len in
      record {
        size = size_more start less later last fewer room ran.size even longer again;
        amid = each_more (λ k j. IsAmid program fits program_asks stands_for due gate k j) (jobs_of last) (jobs_of later) came task put (omega (arith, count, len, here)) ran.amid comes.amid;
        programs = programs_more program (jobs_of start) (jobs_of last) (jobs_of less) (jobs_of later) job came taken put ran.programs (comes.program_is ∙ ap (λ (j : Job M). program j.machine) same);
        stopped = each_more (λ k j. is_stopped j.standing ≡ true) (jobs_of last) (jobs_of later) came (length (jobs_of later)) put refl ran.stopped stopped;
        fed = subst (λ (p : PassData). IsFed gate p) (sym script) ran.fed;
      }
