-- What holds of a doing holds of one that comes to the same.
use Rattle.std.proofs.Common.{◌≡◌, refl, ap, ◌∙◌, subst, ℕ, ◌+◌, List, []}
use Rattle.rapid_model.specs.declared.answer.Answer.{Answer}
use Rattle.rapid_meaning.specs.Answering.{Outcome, Misfits, joined, performed}
use Rattle.rapid_meaning.specs.Data.{Data}
use Rattle.rapid_meaning.specs.Doings.{Doing}
use Rattle.stack_code.specs.CodeData.{CodeData}
use Rattle.stack_code.specs.CodeRuns.{exec, fitting_by, no_part}
use Rattle.stack_code.specs.Confs.{Conf}
use Rattle.stack_code.specs.Steps.{jumps, to_next}
use Rattle.task_code.specs.Leads.{Comes, Runs}
use Rattle.task_code.specs.Reached.{Reached}
use Rattle.task_steps.specs.Alike.{Alike}
use Rattle.task_steps.specs.Doing.{doing_of, here_of}
use Rattle.task_steps.specs.Phases as phases
use Rattle.task_steps.specs.Seen.{Seen}

pub alike_is : (code : CodeData) (m n : Doing Conf) (d : Data) → m ≡ n → Alike code m d n d
alike_is code m n d e = record { same = λ left. ap (λ (x : Doing Conf). performed (fitting_by code) no_part x d left) e }

pub alike_then : (code : CodeData) (m n o : Doing Conf) (d e f : Data) → Alike code m d n e → Alike code n e o f → Alike code m d o f
alike_then code m n o d e f a b = record { same = λ left. a.same left ∙ b.same left }

pub runs_along : (code : CodeData) (m n : Doing Conf) (d e : Data) → Alike code m d n e → Runs code m d → Runs code n e
runs_along code m n d e a run = (run.0, subst (λ (o : Outcome Conf). Comes code run.0 o) (a.same []) run.1)

-- by as many operations
pub runs_along-count : (code : CodeData) (m n : Doing Conf) (d e : Data) (a : Alike code m d n e) (run : Runs code m d) → (runs_along code m n d e a run).0 ≡ run.0
unfolding runs_along
runs_along-count code m n d e a run = refl

pub reached_along : (code : CodeData) (m n : Doing Conf) (d e : Data) (answers : List Answer) → Alike code m d n e → Reached code m d answers → Reached code n e answers
reached_along code m n d e answers a here = (
  here.0,
  λ more left.
      here.1 more left ∙ ap (λ (o : Outcome Conf). joined o (λ next f rest. exec (fitting_by code) code more next f rest) (λ error f rest. Misfits)) (a.same left),
)

-- a task that goes on with the next operation, or at another
pub went_next : (code : CodeData) (s : Seen) → s.phase ≡ phases.Going → Alike code (to_next (here_of code s.conf) s.conf.stack) s.data' (doing_of code s.phase (record s.conf { pc = s.conf.pc + 1 })) s.data'
went_next code s going = rw going (record { same = λ left. refl })

pub went_to : (code : CodeData) (s : Seen) (to : ℕ) → s.phase ≡ phases.Going → Alike code (jumps (here_of code s.conf) to s.conf.stack) s.data' (doing_of code s.phase (record s.conf { pc = to })) s.data'
went_to code s to going = rw going (record { same = λ left. refl })
