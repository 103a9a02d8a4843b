-- The rows of a crew, and what holds of the tasks in them.
use Rattle.std.proofs.Common.{◌≡◌, ◌⊎◌, inl, inr, ℕ, zero, suc, ◌+◌, List, [], ◌∷◌, ◌++◌, length, length-append, map, Option, Some, refl, sym, ◌∙◌, ap, ap₂, subst, arith}
use Rattle.std.specs.Prelude.{slice_get}
use Rattle.std.proofs.lemmas.List.{length-map, map-append}
use Rattle.rapid_model.proofs.Cuts.{last_or_before}
use Rattle.rapid_model.specs.declared.answer.Answer.{Answer}
use Rattle.rapid_model.specs.declared.request.Request.{Request}
use Rattle.rapid_model.proofs.Lists.{between, in_front}
use Rattle.cell_gate.specs.GateData.{GateData}
use Rattle.cell_gate.specs.PassData.{PassData}
use Rattle.free_crew.specs.Amid.{EachJob, GoesOnAs, IsSamePrograms}
use Rattle.free_crew.specs.Crews.{IsEven, IsSameRoom, IsSameSize, jobs_in, jobs_of}
use Rattle.free_crew.specs.declared.crew.Crew.{Crew}
use Rattle.free_crew.specs.declared.job.Job.{Job}
use Rattle.free_crew.specs.declared.standing.Standing.{Standing}

-- an element of a list with one more is that one, or was there before
get_more : {A : Type 0} (xs : List A) (x y : A) (k : ℕ) → slice_get (xs ++ x ∷ []) k ≡ Some y → (slice_get xs k ≡ Some y) ⊎ ((k ≡ length xs) × (y ≡ x))
get_more [] x y zero p = let same : x ≡ y = cc in inr (refl, sym same)
get_more [] x y (suc k) p = absurd cc
get_more (z ∷ xs) x y zero p = inl p
get_more (z ∷ xs) x y (suc k) p = elim (get_more xs x y k p) [ inl w ↦ inl w | inr w ↦ inr (ap suc w.0, w.1) ]

-- the last element, by its place
pub last_at : {A : Type 0} (all xs : List A) (x : A) (k : ℕ) → all ≡ xs ++ x ∷ [] → k ≡ length xs → slice_get all k ≡ Some x
last_at all xs x k is here = ap (λ ys. slice_get ys k) is ∙ ap (λ (n : ℕ). slice_get (xs ++ x ∷ []) n) here ∙ between xs [] x

-- lists that are the same with one more element each
pub snoc_same : {A : Type 0} (xs ys : List A) (x y : A) → xs ++ x ∷ [] ≡ ys ++ y ∷ [] → (xs ≡ ys) × (x ≡ y)
snoc_same {A = A} xs ys x y p =
    elim (last_or_before xs ys [] x y p) [
      | inl w ↦ (sym w.0, sym w.1)
      | inr w ↦ (
          let a : length (xs ++ x ∷ []) ≡ length (ys ++ y ∷ []) = ap (λ (zs : List A). length zs) p in
          let b : length xs ≡ length (ys ++ y ∷ w.0) = ap (λ (zs : List A). length zs) w.1 in
          absurd (omega (arith, a, b, length-append xs (x ∷ []), length-append ys (y ∷ []), length-append ys (y ∷ w.0)))
          )
    ]

module _ {M : Type 0} where
  abbrev pub job_of : M → PassData → Standing → Job M
  job_of m p s = record { machine = m; pass = p; standing = s }

  -- one more at the end of each row
  pub jobs_more : (ms : List M) (ps : List PassData) (ss : List Standing) (m : M) (p : PassData) (s : Standing) → length ps ≡ length ms → length ss ≡ length ms
      → jobs_in (ms ++ m ∷ []) (ps ++ p ∷ []) (ss ++ s ∷ []) ≡ jobs_in ms ps ss ++ job_of m p s ∷ []
  jobs_more [] [] [] m p s e f = refl
  jobs_more [] (y ∷ ps) ss m p s e f = absurd (omega (arith, e))
  jobs_more [] [] (z ∷ ss) m p s e f = absurd (omega (arith, f))
  jobs_more (x ∷ ms) [] ss m p s e f = absurd (omega (arith, e))
  jobs_more (x ∷ ms) (y ∷ ps) [] m p s e f = absurd (omega (arith, f))
  jobs_more (x ∷ ms) (y ∷ ps) (z ∷ ss) m p s e f =
      ap (λ (js : List (Job M)). job_of x y z ∷ js) (jobs_more ms ps ss m p s (omega (arith, e)) (omega (arith, f)))

  pub jobs_length : (ms : List M) (ps : List PassData) (ss : List Standing) → length ps ≡ length ms → length ss ≡ length ms → length (jobs_in ms ps ss) ≡ length ms
  jobs_length [] ps ss e f = refl
  jobs_length (x ∷ ms) [] ss e f = absurd (omega (arith, e))
  jobs_length (x ∷ ms) (y ∷ ps) [] e f = absurd (omega (arith, f))
  jobs_length (x ∷ ms) (y ∷ ps) (z ∷ ss) e f = ap suc (jobs_length ms ps ss (omega (arith, e)) (omega (arith, f)))

  -- what the rows have in one place
  pub job_parts : (ms : List M) (ps : List PassData) (ss : List Standing) (k : ℕ) (job : Job M) → slice_get (jobs_in ms ps ss) k ≡ Some job
      → (slice_get ms k ≡ Some job.machine) × (slice_get ps k ≡ Some job.pass) × (slice_get ss k ≡ Some job.standing)
  job_parts [] ps ss k job at = absurd cc
  job_parts (x ∷ ms) [] ss k job at = absurd cc
  job_parts (x ∷ ms) (y ∷ ps) [] k job at = absurd cc
  job_parts (x ∷ ms) (y ∷ ps) (z ∷ ss) zero job at =
      let is : job_of x y z ≡ job = cc in
      (ap (λ (j : Job M). Some j.machine) is, ap (λ (j : Job M). Some j.pass) is, ap (λ (j : Job M). Some j.standing) is)
  job_parts (x ∷ ms) (y ∷ ps) (z ∷ ss) (suc k) job at = job_parts ms ps ss k job at

  -- each machine is a task's
  pub job_there : (ms : List M) (ps : List PassData) (ss : List Standing) (k : ℕ) (m : M) → length ps ≡ length ms → length ss ≡ length ms → slice_get ms k ≡ Some m
      → (job : Job M) × (slice_get (jobs_in ms ps ss) k ≡ Some job) × (job.machine ≡ m)
  job_there [] ps ss k m e f at = absurd cc
  job_there (x ∷ ms) [] ss k m e f at = absurd (omega (arith, e))
  job_there (x ∷ ms) (y ∷ ps) [] k m e f at = absurd (omega (arith, f))
  job_there (x ∷ ms) (y ∷ ps) (z ∷ ss) zero m e f at = let is : x ≡ m = cc in (job_of x y z, refl, is)
  job_there (x ∷ ms) (y ∷ ps) (z ∷ ss) (suc k) m e f at = job_there ms ps ss k m (omega (arith, e)) (omega (arith, f)) at

  pub jobs_programs : {P : Type 0} (program : M → P) (ms : List M) (ps : List PassData) (ss : List Standing) → length ps ≡ length ms → length ss ≡ length ms
      → map (λ (job : Job M). program job.machine) (jobs_in ms ps ss) ≡ map program ms
  jobs_programs program [] ps ss e f = refl
  jobs_programs program (x ∷ ms) [] ss e f = absurd (omega (arith, e))
  jobs_programs program (x ∷ ms) (y ∷ ps) [] e f = absurd (omega (arith, f))
  jobs_programs {P = P} program (x ∷ ms) (y ∷ ps) (z ∷ ss) e f =
      ap (λ (programs : List P). program x ∷ programs) (jobs_programs program ms ps ss (omega (arith, e)) (omega (arith, f)))

  -- rows with one more task
  pub rows_more : (ms later_ms : List M) (ps later_ps : List PassData) (ss later_ss : List Standing) (job : Job M) → later_ms ≡ ms ++ job.machine ∷ [] → later_ps ≡ ps ++ job.pass ∷ []
      → later_ss ≡ ss ++ job.standing ∷ [] → length ps ≡ length ms → length ss ≡ length ms → jobs_in later_ms later_ps later_ss ≡ jobs_in ms ps ss ++ job ∷ []
  rows_more ms later_ms ps later_ps ss later_ss job m p s e f =
      ap (λ (xs : List M). jobs_in xs later_ps later_ss) m
      ∙ ap (λ (xs : List PassData). jobs_in (ms ++ job.machine ∷ []) xs later_ss) p
      ∙ ap (λ (xs : List Standing). jobs_in (ms ++ job.machine ∷ []) (ps ++ job.pass ∷ []) xs) s
      ∙ jobs_more ms ps ss job.machine job.pass job.standing e f

  pub crew_length : (crew : Crew M) → IsEven crew → length (jobs_of crew) ≡ length crew.machines.items
  crew_length crew even = jobs_length crew.machines.items crew.passes.items crew.standings.items even.passes even.standings

  -- a task was removed, the others stayed as many, and it was added again
  pub size_more : (start less later last : Crew M) → length less.machines.items + 1 ≡ length start.machines.items → IsSameRoom start less → IsSameSize less later
      → IsEven last → length last.machines.items ≡ length later.machines.items + 1 → IsSameRoom later last → IsSameSize start last
  size_more start less later last taken out size even put back =
      let len = size.len in
      record {
        even = even;
        len = omega (arith, taken, len, put);
        room = record {
          machines = back.machines ∙ size.room.machines ∙ out.machines;
          passes = back.passes ∙ size.room.passes ∙ out.passes;
        };
      }

module _ {M : Type 0} (Q : ℕ → Job M → Type 0) where
  -- what holds of each task, without the last
  pub each_less : (all jobs : List (Job M)) (job : Job M) → all ≡ jobs ++ job ∷ [] → EachJob Q all → EachJob Q jobs
  each_less all jobs job is each = record {
    each = λ task x at. each.each task x (ap (λ (js : List (Job M)). slice_get js task) is ∙ in_front jobs (job ∷ []) task x at);
  }

  -- and with one more
  pub each_more : (all jobs : List (Job M)) (job : Job M) (task : ℕ) → all ≡ jobs ++ job ∷ [] → task ≡ length jobs → EachJob Q jobs → Q task job → EachJob Q all
  each_more all jobs job task is here before last = record {
    each = λ k x at. elim (get_more jobs job x k (ap (λ (js : List (Job M)). slice_get js k) (sym is) ∙ at)) [
      | inl w ↦ before.each k x w
      | inr w ↦ subst (λ (j : Job M). Q k j) (sym w.1) (subst (λ (n : ℕ). Q n job) (here ∙ sym w.0) last)
    ];
  }

module _ {M P : Type 0} (program : M → P) where
  -- lists of machines with the same programs have the same length
  pub same_count : (xs ys : List M) → map program xs ≡ map program ys → length xs ≡ length ys
  same_count xs ys same = sym (length-map xs program) ∙ ap (λ (ps : List P). length ps) same ∙ length-map ys program

  pub ran_programs : (old new : Crew M) (first : List M) → IsEven old → IsEven new → IsSamePrograms program (jobs_of old) (jobs_of new) → map program old.machines.items ≡ map program first
      → map program new.machines.items ≡ map program first
  ran_programs old new first was even same begun =
      sym (jobs_programs program new.machines.items new.passes.items new.standings.items even.passes even.standings) ∙ same.same
      ∙ jobs_programs program old.machines.items old.passes.items old.standings.items was.passes was.standings ∙ begun

  pub programs_more : (old new before after : List (Job M)) (job came : Job M) → old ≡ before ++ job ∷ [] → new ≡ after ++ came ∷ [] → IsSamePrograms program before after
      → program came.machine ≡ program job.machine → IsSamePrograms program old new
  programs_more old new before after job came is was same one = record {
    same =
        ap (λ (js : List (Job M)). map (λ (j : Job M). program j.machine) js) was
        ∙ map-append (λ (j : Job M). program j.machine) after (came ∷ [])
        ∙ ap₂ (λ (ps qs : List P). ps ++ qs) same.same (ap (λ (p : P). p ∷ []) one)
        ∙ sym (map-append (λ (j : Job M). program j.machine) before (job ∷ []))
        ∙ ap (λ (js : List (Job M)). map (λ (j : Job M). program j.machine) js) (sym is);
  }

module _ {M P : Type 0} (program : M → P) (fits : P → List Answer → Type 0) (program_asks : P → List Answer → Request → Type 0) (stands_for : M → List Answer → Type 0) (due : M → Option Request) where
  -- a thread or a round after another
  pub came_on : (gate : GateData) (task : ℕ) (a b c : Job M) → GoesOnAs program fits program_asks stands_for due gate task a b → GoesOnAs program fits program_asks stands_for due gate task b c
      → GoesOnAs program fits program_asks stands_for due gate task a c
  came_on gate task a b c p q = record { amid = q.amid; program_is = q.program_is ∙ p.program_is }
