-- A step of a task that goes on.
use Rattle.std.proofs.Common.{◌≡◌, ◌∙◌, suc, ◌<◌, List, arith}
use Rattle.rapid_model.specs.declared.answer.Answer.{Answer}
use Rattle.rapid_meaning.specs.Data.{Data}
use Rattle.rapid_meaning.specs.Doings.{Doing, Gives}
use Rattle.stack_code.specs.CodeData.{CodeData}
use Rattle.stack_code.specs.Confs.{Conf}
use Rattle.stack_code.specs.Steps.{step}
use Rattle.task_code.specs.Leads.{Runs}
use Rattle.task_code.specs.Reached.{Reached}
use Rattle.task_code.proofs.Leading.{leads_once, runs_room, runs_step}
use Rattle.task_code.proofs.Reaching.{steps}
use Rattle.task_steps.specs.Alike.{Alike, Follows}
use Rattle.task_steps.specs.Doing.{doing_of}
use Rattle.task_steps.specs.Points.{conf_in}
use Rattle.task_steps.specs.Seen.{Seen}
use Rattle.task_steps.specs.Phases.{Phase}
use Rattle.task_steps.specs.Phases as phases
use Rattle.task_steps.proofs.Along.{reached_along, runs_along, runs_along-count}

-- what a task that goes on does
pub gives_it : (code : CodeData) (s : Seen) → s.phase ≡ phases.Going → Runs code (doing_of code s.phase s.conf) s.data' → Runs code (Gives (conf_in code s.conf)) s.data'
gives_it code s going run = rw going at run

pub steps_it : (code : CodeData) (s : Seen) → s.phase ≡ phases.Going → Runs code (doing_of code s.phase s.conf) s.data' → Runs code (step code (conf_in code s.conf)) s.data'
steps_it code s going run = (runs_step code (conf_in code s.conf) s.data' (gives_it code s going run)).0

pub goes_it : (code : CodeData) (s t : Seen) → s.phase ≡ phases.Going → Runs code (doing_of code s.phase s.conf) s.data' → Follows code (step code (conf_in code s.conf)) s.data' t → Runs code (doing_of code t.phase t.conf) t.data'
goes_it code s t going run on = runs_along code (step code (conf_in code s.conf)) (doing_of code t.phase t.conf) s.data' t.data' on (steps_it code s going run)

-- with one operation less it reaches the next request
fewer : (code : CodeData) (c : Conf) (d e : Data) (n : Doing Conf) (run : Runs code (Gives c) d) (next : Runs code n e) → Alike code (step code c) d n e → next.0 < run.0
fewer code c d e n run next on =
    let one : (next : Runs code (step code c) d) × (run.0 ≡ suc next.0) = runs_step code c d run in
    let moved : Runs code n e = runs_along code (step code c) n d e on one.0 in
    let same : next.0 ≡ one.0.0 = leads_once code next.0 moved.0 n e next.1 moved.1 ∙ runs_along-count code (step code c) n d e on one.0 in
    let falls : run.0 ≡ suc one.0.0 = one.1 in
    omega (arith, same, falls)

pub nearer : (code : CodeData) (s t : Seen) (going : s.phase ≡ phases.Going) (run : Runs code (doing_of code s.phase s.conf) s.data') (next : Runs code (doing_of code t.phase t.conf) t.data')
    → Follows code (step code (conf_in code s.conf)) s.data' t → next.0 < run.0
nearer code s t going run next on =
    by s.phase going run
  where
    by : (phase : Phase) → phase ≡ phases.Going → (r : Runs code (doing_of code phase s.conf) s.data') → next.0 < r.0
    by phases.New e r = cc
    by phases.Going e r = fewer code (conf_in code s.conf) s.data' t.data' (doing_of code t.phase t.conf) r next on
    by (phases.Asking request then) e r = cc
    by (phases.Over fate) e r = cc

-- code has come there
pub comes_it : (code : CodeData) (s t : Seen) (answers : List Answer) → s.phase ≡ phases.Going → Runs code (doing_of code s.phase s.conf) s.data' → Follows code (step code (conf_in code s.conf)) s.data' t
    → Reached code (doing_of code s.phase s.conf) s.data' answers → Reached code (doing_of code t.phase t.conf) t.data' answers
comes_it code s t answers going run on here =
    let gives : Runs code (Gives (conf_in code s.conf)) s.data' = gives_it code s going run in
    let stood : Reached code (Gives (conf_in code s.conf)) s.data' answers = rw going at here in
    reached_along code (step code (conf_in code s.conf)) (doing_of code t.phase t.conf) s.data' t.data' answers on (steps code (conf_in code s.conf) s.data' answers stood (runs_room code (conf_in code s.conf) s.data' gives))
