-- Code has the outcome of a doing of the source, and how such facts compose.
use Rattle.std.proofs.Common.{◌≡◌, refl, sym, ap, ◌∙◌, subst, ℕ, zero, suc, nat_le, Bool, true, false, List, [], ◌∷◌, length, if◌then◌else◌, IsTrue}
use Rattle.std.specs.Prelude.{⊤}
use Rattle.rapid_model.specs.Fits.{Fitting, fits_request}
use Rattle.rapid_model.specs.declared.answer.Answer.{Answer}
use Rattle.rapid_model.specs.declared.fate.Fate.{Fate}
use Rattle.rapid_model.specs.declared.request.Request.{Request}
use Rattle.typed_trees.specs.Plain.{TypedTree}
use Rattle.rapid_meaning.specs.Answering.{Outcome, Gave, Raised, Asking, Ended, Misfits, Unfit, NoFuel, Run, joined, fitting_of, performed}
use Rattle.rapid_meaning.specs.Calls.{part}
use Rattle.rapid_meaning.specs.Data.{Data}
use Rattle.rapid_meaning.specs.Doings.{Doing, Gives, Raises, Asks, Ends, Misfit, Reads, Writes, Does, after}
use Rattle.rapid_meaning.specs.Flows.{Flow, Part}
use Rattle.rapid_meaning.specs.Runs.{deep}
use Rattle.rapid_meaning.proofs.Composing.{ending_joined, performed_after}
use Rattle.rapid_meaning.proofs.Follows.{after_after}
use Rattle.stack_code.specs.CodeData.{CodeData}
use Rattle.stack_code.specs.CodeRuns.{exec, goes, no_part}
use Rattle.stack_code.specs.Confs.{Conf}
use Rattle.stack_code.specs.Steps.{step}
use Rattle.code_laws.specs.Standing.{Fine}

-- the code, and the answers that fit
pub record Target : Type 0 where
  pub code : CodeData
  pub by : Bool → Fitting

-- the outcome of a doing and then this many operations
abbrev pub goes_on : Target → ℕ → Doing Conf → Data → List Answer → Outcome ⊤
goes_on t k m d left = goes t.by t.code k m d left

-- what follows an outcome in code, after a result and after an error, within this many operations
abbrev pub followed : {A : Type 0} → Target → ℕ → (A → Doing Conf) → (ℕ → Doing Conf) → Outcome A → Outcome ⊤
followed t k next failed o = joined o (λ v e left. goes_on t k (next v) e left) (λ n e left. goes_on t k (failed n) e left)

-- Code from s has the outcome of m followed by code from next, or by code from failed if m raises an error.
pub record Sim {A : Type 0} (t : Target) (run : Run) (s : Doing Conf) (m : Doing A) (next : A → Doing Conf) (failed : ℕ → Doing Conf) : Type 0 where
  pub by : (d : Data) (left : List Answer) (k : ℕ) → Fine (followed t k next failed (performed t.by run m d left))
      → (j : ℕ) × (goes_on t j s d left ≡ followed t k next failed (performed t.by run m d left))

-- the same for a part of the program
pub record SimPart (t : Target) (run : Run) (s : Doing Conf) (p : Part) (next : Flow → Doing Conf) (failed : ℕ → Doing Conf) : Type 0 where
  pub by : (d : Data) (left : List Answer) (k : ℕ) → Fine (followed t k next failed (run p d left))
      → (j : ℕ) × (goes_on t j s d left ≡ followed t k next failed (run p d left))

-- outcomes

followed_joined : {A B : Type 0} (t : Target) (k : ℕ) (next : B → Doing Conf) (failed : ℕ → Doing Conf) (o : Outcome A)
    (f : A → Data → List Answer → Outcome B) (r : ℕ → Data → List Answer → Outcome B)
    → followed t k next failed (joined o f r) ≡ joined o (λ v e rest. followed t k next failed (f v e rest)) (λ n e rest. followed t k next failed (r n e rest))
followed_joined t k next failed (Gave v d left) f r = refl
followed_joined t k next failed (Raised n d left) f r = refl
followed_joined t k next failed (Asking q d) f r = refl
followed_joined t k next failed (Ended d) f r = refl
followed_joined t k next failed Misfits f r = refl
followed_joined t k next failed Unfit f r = refl
followed_joined t k next failed NoFuel f r = refl

pub followed_after : {A B : Type 0} (t : Target) (run : Run) (k : ℕ) (next : B → Doing Conf) (failed : ℕ → Doing Conf) (m : Doing A) (f : A → Doing B) (r : ℕ → Doing B) (d : Data) (left : List Answer)
    → followed t k next failed (performed t.by run (after m f r) d left)
    ≡ joined (performed t.by run m d left) (λ v e rest. followed t k next failed (performed t.by run (f v) e rest)) (λ n e rest. followed t k next failed (performed t.by run (r n) e rest))
followed_after t run k next failed m f r d left =
    ap (λ (o : Outcome _). followed t k next failed o) (performed_after t.by run m f r d left)
    ∙ followed_joined t k next failed (performed t.by run m d left) (λ v e rest. performed t.by run (f v) e rest) (λ n e rest. performed t.by run (r n) e rest)

-- code has this outcome within this many operations
abbrev pub Comes : Target → Doing Conf → Data → List Answer → Outcome ⊤ → Type 0
Comes t s d left o = (j : ℕ) × (goes_on t j s d left ≡ o)

fine_back : (o p : Outcome ⊤) → o ≡ p → Fine p → Fine o
fine_back o p e fine = subst (λ (x : Outcome ⊤). Fine x) (sym e) fine

-- code that reaches one point, and from there another
pub chain : {A : Type 0} (t : Target) (s : Doing Conf) (next : A → Doing Conf) (failed : ℕ → Doing Conf) (d : Data) (left : List Answer) (o : Outcome A)
    (f : A → Data → List Answer → Outcome ⊤) (r : ℕ → Data → List Answer → Outcome ⊤)
    → ((k : ℕ) → Fine (followed t k next failed o) → Comes t s d left (followed t k next failed o))
    → ((v : A) (e : Data) (rest : List Answer) → Fine (f v e rest) → Comes t (next v) e rest (f v e rest))
    → ((n : ℕ) (e : Data) (rest : List Answer) → Fine (r n e rest) → Comes t (failed n) e rest (r n e rest))
    → Fine (joined o f r) → Comes t s d left (joined o f r)
chain t s next failed d left (Gave v e rest) f r first then_gave then_failed fine =
    let second = then_gave v e rest fine in
    let begun = first second.0 (fine_back (goes_on t second.0 (next v) e rest) (f v e rest) second.1 fine) in
    (begun.0, begun.1 ∙ second.1)
chain t s next failed d left (Raised n e rest) f r first then_gave then_failed fine =
    let second = then_failed n e rest fine in
    let begun = first second.0 (fine_back (goes_on t second.0 (failed n) e rest) (r n e rest) second.1 fine) in
    (begun.0, begun.1 ∙ second.1)
chain t s next failed d left (Asking q e) f r first then_gave then_failed fine = first zero fine
chain t s next failed d left (Ended e) f r first then_gave then_failed fine = first zero fine
chain t s next failed d left Misfits f r first then_gave then_failed fine = absurd fine
chain t s next failed d left Unfit f r first then_gave then_failed fine = first zero fine
chain t s next failed d left NoFuel f r first then_gave then_failed fine = absurd fine

-- one doing after another

pub sim_after : {A B : Type 0} {t : Target} {run : Run} {s : Doing Conf} {m : Doing A} {f : A → Doing B} {r : ℕ → Doing B}
    (between : A → Doing Conf) (raised : ℕ → Doing Conf) {next : B → Doing Conf} {failed : ℕ → Doing Conf}
    → Sim t run s m between raised → ((v : A) → Sim t run (between v) (f v) next failed) → ((n : ℕ) → Sim t run (raised n) (r n) next failed)
    → Sim t run s (after m f r) next failed
sim_after {t = t} {run = run} {s = s} {m = m} {f = f} {r = r} between raised {next = next} {failed = failed} first second third = record {
  by = λ d left k fine.
      let same = followed_after t run k next failed m f r d left in
      let come = chain t s between raised d left (performed t.by run m d left)
      (λ v e rest. followed t k next failed (performed t.by run (f v) e rest)) (λ n e rest. followed t k next failed (performed t.by run (r n) e rest))
      (λ j good. first.by d left j good) (λ v e rest good. (second v).by e rest k good) (λ n e rest good. (third n).by e rest k good)
      (subst (λ (x : Outcome ⊤). Fine x) same fine) in
      (come.0, come.1 ∙ sym same);
}

pub sim_gives : {A : Type 0} {t : Target} {run : Run} (v : A) {next : A → Doing Conf} {failed : ℕ → Doing Conf} → Sim t run (next v) (Gives v) next failed
unfolding performed
sim_gives v = record { by = λ d left k fine. (k, refl) }

pub sim_raises : {A : Type 0} {t : Target} {run : Run} (n : ℕ) {next : A → Doing Conf} {failed : ℕ → Doing Conf} → Sim t run (failed n) (Raises n) next failed
unfolding performed
sim_raises n = record { by = λ d left k fine. (k, refl) }

-- an error of the first skips the second
pub sim_then : {A B : Type 0} {t : Target} {run : Run} {s : Doing Conf} {m : Doing A} {f : A → Doing B}
    (between : A → Doing Conf) {next : B → Doing Conf} {failed : ℕ → Doing Conf}
    → Sim t run s m between failed → ((v : A) → Sim t run (between v) (f v) next failed) → Sim t run s (after m f Raises) next failed
sim_then between {failed = failed} first second = sim_after between failed first second (λ n. sim_raises n)

-- doings with the same outcome
pub sim_like : {A : Type 0} {t : Target} {run : Run} {s : Doing Conf} (m n : Doing A) {next : A → Doing Conf} {failed : ℕ → Doing Conf}
    → ((d : Data) (left : List Answer) → performed t.by run m d left ≡ performed t.by run n d left) → Sim t run s m next failed → Sim t run s n next failed
sim_like {t = t} {run = run} m n {next = next} {failed = failed} same sim = record {
  by = λ d left k fine.
      let e : followed t k next failed (performed t.by run m d left) ≡ followed t k next failed (performed t.by run n d left) =
      ap (λ (o : Outcome _). followed t k next failed o) (same d left) in
      let come = sim.by d left k (fine_back _ _ e fine) in
      (come.0, come.1 ∙ e);
}

-- one action

pub sim_misfit : {A : Type 0} {t : Target} {run : Run} {s : Doing Conf} {next : A → Doing Conf} {failed : ℕ → Doing Conf} → Sim t run s Misfit next failed
unfolding performed
sim_misfit = record { by = λ d left k fine. absurd fine }

pub sim_reads : {A : Type 0} {t : Target} {run : Run} {s : Data → Doing Conf} {m : Data → Doing A} {next : A → Doing Conf} {failed : ℕ → Doing Conf}
    → ((d : Data) → Sim t run (s d) (m d) next failed) → Sim t run (Reads s) (Reads m) next failed
unfolding performed
sim_reads more = record { by = λ d left k fine. (more d).by d left k fine }

pub sim_writes : {A : Type 0} {t : Target} {run : Run} (e : Data) {s : Doing Conf} {m : Doing A} {next : A → Doing Conf} {failed : ℕ → Doing Conf}
    → Sim t run s m next failed → Sim t run (Writes e s) (Writes e m) next failed
unfolding performed
sim_writes e more = record { by = λ d left k fine. more.by e left k fine }

pub sim_ends : {A : Type 0} {t : Target} {run : Run} (fate : Fate) {next : A → Doing Conf} {failed : ℕ → Doing Conf} → Sim t run (Ends fate) (Ends fate) next failed
unfolding performed
sim_ends {A = A} {t = t} fate {next = next} {failed = failed} = record {
  by = λ d left k fine. (
    zero,
    sym (ending_joined {A = Conf} {B = ⊤} t.by fate d left (λ c e rest. exec t.by t.code zero c e rest) (λ n e rest. Misfits))
        ∙ ending_joined {A = A} {B = ⊤} t.by fate d left (λ v e rest. goes_on t k (next v) e rest) (λ n e rest. goes_on t k (failed n) e rest),
  );
}

pub comes_when : {A : Type 0} (t : Target) (b : Bool) (x : Doing Conf) (o : Outcome A) (next : A → Doing Conf) (failed : ℕ → Doing Conf) (d : Data) (left : List Answer) (k : ℕ)
    → (IsTrue b → Fine (followed t k next failed o) → Comes t x d left (followed t k next failed o)) → Fine (followed t k next failed (if b then o else Unfit))
    → (j : ℕ) × (joined (if b then performed t.by no_part x d left else Unfit) (λ c e rest. exec t.by t.code j c e rest) (λ n e rest. Misfits) ≡ followed t k next failed (if b then o else Unfit))
comes_when t true x o next failed d left k comes fine = comes refl fine
comes_when t false x o next failed d left k comes fine = (zero, refl)

asked_by : {A : Type 0} (t : Target) (run : Run) (request : Request) (s : Answer → Doing Conf) (m : Answer → Doing A) (next : A → Doing Conf) (failed : ℕ → Doing Conf)
    → ((a : Answer) (trapped : Bool) → IsTrue (fits_request (t.by trapped) request a) → Sim t run (s a) (m a) next failed) → (d : Data) (left : List Answer) (k : ℕ)
    → Fine (followed t k next failed (performed t.by run (Asks request m) d left)) → Comes t (Asks request s) d left (followed t k next failed (performed t.by run (Asks request m) d left))
unfolding performed
asked_by t run request s m next failed more d [] k fine = (zero, refl)
asked_by t run request s m next failed more d (a ∷ left) k fine =
    comes_when t (fits_request (t.by d.trapped) request a) (s a) (performed t.by run (m a) d left) next failed d left k (λ fits good. (more a d.trapped fits).by d left k good) fine

-- by an answer that fits
pub sim_asked : {A : Type 0} {t : Target} {run : Run} (request : Request) {s : Answer → Doing Conf} {m : Answer → Doing A} {next : A → Doing Conf} {failed : ℕ → Doing Conf}
    → ((a : Answer) (trapped : Bool) → IsTrue (fits_request (t.by trapped) request a) → Sim t run (s a) (m a) next failed) → Sim t run (Asks request s) (Asks request m) next failed
sim_asked {t = t} {run = run} request {s = s} {m = m} {next = next} {failed = failed} more = record { by = λ d left k fine. asked_by t run request s m next failed more d left k fine }

pub sim_asks : {A : Type 0} {t : Target} {run : Run} (request : Request) {s : Answer → Doing Conf} {m : Answer → Doing A} {next : A → Doing Conf} {failed : ℕ → Doing Conf}
    → ((a : Answer) → Sim t run (s a) (m a) next failed) → Sim t run (Asks request s) (Asks request m) next failed
sim_asks request more = sim_asked request (λ a trapped fits. more a)

-- a part of the program, and what follows it
pub sim_does : {A : Type 0} {t : Target} {run : Run} {s : Doing Conf} {p : Part} {f : Flow → Doing A} {r : ℕ → Doing A}
    (ends : Flow → Doing Conf) (raises : ℕ → Doing Conf) {next : A → Doing Conf} {failed : ℕ → Doing Conf}
    → SimPart t run s p ends raises → ((flow : Flow) → Sim t run (ends flow) (f flow) next failed) → ((n : ℕ) → Sim t run (raises n) (r n) next failed)
    → Sim t run s (Does p f r) next failed
unfolding performed
sim_does {t = t} {run = run} {s = s} {p = p} {f = f} {r = r} ends raises {next = next} {failed = failed} first second third = record {
  by = λ d left k fine.
      let same = followed_joined t k next failed (run p d left) (λ flow e rest. performed t.by run (f flow) e rest) (λ n e rest. performed t.by run (r n) e rest) in
      let come = chain t s ends raises d left (run p d left)
      (λ flow e rest. followed t k next failed (performed t.by run (f flow) e rest)) (λ n e rest. followed t k next failed (performed t.by run (r n) e rest))
      (λ j good. first.by d left j good) (λ flow e rest good. (second flow).by e rest k good) (λ n e rest good. (third n).by e rest k good)
      (subst (λ (x : Outcome ⊤). Fine x) same fine) in
      (come.0, come.1 ∙ sym same);
}

-- parts of the program, nested to this depth

pub part_zero : (tree : TypedTree) {t : Target} {s : Doing Conf} {p : Part} {next : Flow → Doing Conf} {failed : ℕ → Doing Conf} → SimPart t (deep tree zero) s p next failed
unfolding deep
part_zero tree = record { by = λ d left k fine. absurd fine }

pub part_deep : (tree : TypedTree) (n : ℕ) {t : Target} {s : Doing Conf} {p : Part} {next : Flow → Doing Conf} {failed : ℕ → Doing Conf}
    → t.by ≡ fitting_of tree → Sim t (deep tree n) s (part tree p) next failed → SimPart t (deep tree (suc n)) s p next failed
unfolding deep
part_deep tree n {t = t} {s = s} {p = p} {next = next} {failed = failed} same sim = record {
  by = λ d left k fine. subst (λ (x : Bool → Fitting). Fine (followed t k next failed (performed x (deep tree n) (part tree p) d left))
      → Comes t s d left (followed t k next failed (performed x (deep tree n) (part tree p) d left))) same (λ good. sim.by d left k good) fine;
}

-- equal doings

pub sim_to : {A : Type 0} {t : Target} {run : Run} {s : Doing Conf} {m n : Doing A} {next : A → Doing Conf} {failed : ℕ → Doing Conf} → m ≡ n → Sim t run s n next failed → Sim t run s m next failed
sim_to {t = t} {run = run} {s = s} {next = next} {failed = failed} e sim = subst (λ (x : Doing _). Sim t run s x next failed) (sym e) sim

pub sim_from : {A : Type 0} {t : Target} {run : Run} {s x : Doing Conf} {m : Doing A} {next : A → Doing Conf} {failed : ℕ → Doing Conf} → s ≡ x → Sim t run x m next failed → Sim t run s m next failed
sim_from {t = t} {run = run} {m = m} {next = next} {failed = failed} e sim = subst (λ (y : Doing Conf). Sim t run y m next failed) (sym e) sim

-- a doing and what follows it, both with errors handled alike: as one doing with its errors handled so
pub sim_assoc : {A B C : Type 0} {t : Target} {run : Run} {s : Doing Conf} (m : Doing A) (f : A → Doing B) (g : B → Doing C) (r : ℕ → Doing C) {next : C → Doing Conf} {failed : ℕ → Doing Conf}
    → Sim t run s (after m (λ v. after (f v) g r) r) next failed → Sim t run s (after (after m f Raises) g r) next failed
unfolding after
sim_assoc m f g r sim = sim_to (after_after m f Raises g r) sim

-- a step

pub within : (b : Bool) (o : Outcome ⊤) → IsTrue b → (if b then o else Misfits) ≡ o
within true o room = refl
within false o room = cc

pub sim_step : {A : Type 0} {t : Target} {run : Run} {c : Conf} {m : Doing A} {next : A → Doing Conf} {failed : ℕ → Doing Conf}
    → IsTrue (nat_le (length c.stack) t.code.deepest) → Sim t run (step t.code c) m next failed → Sim t run (Gives c) m next failed
unfolding performed exec
sim_step {t = t} {c = c} room sim = record {
  by = λ d left k fine.
      let come = sim.by d left k fine in
      (suc come.0, within (nat_le (length c.stack) t.code.deepest) (goes_on t come.0 (step t.code c) d left) room ∙ come.1);
}
