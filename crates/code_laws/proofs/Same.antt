-- Operations that do what the source does.
use Rattle.std.proofs.Common.{ℕ}
use Rattle.std.specs.Prelude.{⊤}
use Rattle.rapid_model.specs.declared.answer.Answer.{Answer}
use Rattle.rapid_meaning.specs.Answering.{Run}
use Rattle.rapid_meaning.specs.Data.{Data}
use Rattle.rapid_meaning.specs.Doings.{Doing, Gives, Raises, Asks, Ends, Misfit, Reads, Writes, Does, after}
use Rattle.stack_code.specs.Confs.{Conf}
use Rattle.code_laws.proofs.Sim.{Sim, Target, sim_asks, sim_ends, sim_gives, sim_misfit, sim_raises, sim_reads, sim_writes}

-- it does no part of a program
abbrev pub NoPart : {A : Type 0} → Doing A → Type 0
NoPart (Gives v) = ⊤
NoPart (Raises n) = ⊤
NoPart (Asks request k) = (a : Answer) → NoPart (k a)
NoPart (Ends fate) = ⊤
NoPart Misfit = ⊤
NoPart (Reads k) = (d : Data) → NoPart (k d)
NoPart (Writes d m) = NoPart m
NoPart (Does p k h) = ⊥

-- and raises no error
abbrev pub IsCalm : {A : Type 0} → Doing A → Type 0
IsCalm (Gives v) = ⊤
IsCalm (Raises n) = ⊥
IsCalm (Asks request k) = (a : Answer) → IsCalm (k a)
IsCalm (Ends fate) = ⊤
IsCalm Misfit = ⊤
IsCalm (Reads k) = (d : Data) → IsCalm (k d)
IsCalm (Writes d m) = IsCalm m
IsCalm (Does p k h) = ⊥

pub no_part_after : {A B : Type 0} (m : Doing A) (f : A → Doing B) (r : ℕ → Doing B) → NoPart m → ((v : A) → NoPart (f v)) → ((n : ℕ) → NoPart (r n)) → NoPart (after m f r)
unfolding after
no_part_after (Gives v) f r own next failed = next v
no_part_after (Raises n) f r own next failed = failed n
no_part_after (Asks request k) f r own next failed = λ a. no_part_after (k a) f r (own a) next failed
no_part_after (Ends fate) f r own next failed = tt
no_part_after Misfit f r own next failed = tt
no_part_after (Reads k) f r own next failed = λ d. no_part_after (k d) f r (own d) next failed
no_part_after (Writes d m) f r own next failed = no_part_after m f r own next failed
no_part_after (Does p k h) f r own next failed = absurd own

pub no_part_then : {A B : Type 0} (m : Doing A) (f : A → Doing B) → NoPart m → ((v : A) → NoPart (f v)) → NoPart (after m f Raises)
no_part_then m f own next = no_part_after m f Raises own next (λ n. tt)

-- both first do the same, and then what is alike
pub sim_same : {A B : Type 0} {t : Target} {run : Run} (m : Doing A) {s : A → Doing Conf} {q : ℕ → Doing Conf} {f : A → Doing B} {r : ℕ → Doing B}
    {next : B → Doing Conf} {failed : ℕ → Doing Conf} → NoPart m
    → ((v : A) → Sim t run (s v) (f v) next failed) → ((n : ℕ) → Sim t run (q n) (r n) next failed) → Sim t run (after m s q) (after m f r) next failed
unfolding after
sim_same (Gives v) own gave raised = gave v
sim_same (Raises n) own gave raised = raised n
sim_same (Asks request k) own gave raised = sim_asks request (λ a. sim_same (k a) (own a) gave raised)
sim_same (Ends fate) own gave raised = sim_ends fate
sim_same Misfit own gave raised = sim_misfit
sim_same (Reads k) own gave raised = sim_reads (λ d. sim_same (k d) (own d) gave raised)
sim_same (Writes d m) own gave raised = sim_writes d (sim_same m own gave raised)
sim_same (Does p k h) own gave raised = absurd own

-- it raises no error
pub sim_calm : {A B : Type 0} {t : Target} {run : Run} (m : Doing A) {s : A → Doing Conf} (q : ℕ → Doing Conf) {f : A → Doing B} (r : ℕ → Doing B)
    {next : B → Doing Conf} {failed : ℕ → Doing Conf} → IsCalm m
    → ((v : A) → Sim t run (s v) (f v) next failed) → Sim t run (after m s q) (after m f r) next failed
unfolding after
sim_calm (Gives v) q r own gave = gave v
sim_calm (Raises n) q r own gave = absurd own
sim_calm (Asks request k) q r own gave = sim_asks request (λ a. sim_calm (k a) q r (own a) gave)
sim_calm (Ends fate) q r own gave = sim_ends fate
sim_calm Misfit q r own gave = sim_misfit
sim_calm (Reads k) q r own gave = sim_reads (λ d. sim_calm (k d) q r (own d) gave)
sim_calm (Writes d m) q r own gave = sim_writes d (sim_calm m q r own gave)
sim_calm (Does p k h) q r own gave = absurd own

-- an operation that does what the source does
pub same : {A : Type 0} {t : Target} {run : Run} (m : Doing A) {next : A → Doing Conf} {failed : ℕ → Doing Conf} → NoPart m → Sim t run (after m next failed) m next failed
unfolding after
same (Gives v) own = sim_gives v
same (Raises n) own = sim_raises n
same (Asks request k) own = sim_asks request (λ a. same (k a) (own a))
same (Ends fate) own = sim_ends fate
same Misfit own = sim_misfit
same (Reads k) own = sim_reads (λ d. same (k d) (own d))
same (Writes d m) own = sim_writes d (same m own)
same (Does p k h) own = absurd own
