-- A Look that is due has a place.
use Rattle.std.proofs.Common.{ap, subst, [], Option}
use Rattle.std.specs.Option.{unwrap_or}
use Rattle.rapid_model.specs.declared.request.Request.{Request}
use Rattle.rapid_meaning.specs.Answering.{Outcome, performed}
use Rattle.rapid_meaning.specs.Data.{Data}
use Rattle.rapid_meaning.specs.Doings.{Doing}
use Rattle.stack_code.specs.CodeData.{CodeData}
use Rattle.stack_code.specs.CodeRuns.{fitting_by, no_part}
use Rattle.stack_code.specs.Confs.{Conf}
use Rattle.task_steps.specs.Alike.{Follows}
use Rattle.task_steps.specs.Doing.{doing_of}
use Rattle.task_steps.specs.Points.{Point}
use Rattle.task_steps.specs.Seen.{Seen}
use Rattle.task_steps.specs.Phases.{Phase}
use Rattle.task_steps.specs.Phases as phases
use Rattle.task_machine.specs.Standing.{HasPlace}
use Rattle.task_machine.proofs.Placing.{AskedWith, Due, Placed, placed_asks}

-- a request that is due was asked with these data
due_in : (code : CodeData) (phase : Phase) (c : Point) (d : Data) → AskedWith (performed (fitting_by code) no_part (doing_of code phase c) d []) → HasPlace phase d
unfolding performed
due_in code phases.New c d own = λ due. cc
due_in code phases.Going c d own = λ due. cc
due_in code (phases.Asking request pending) c d own = λ due. subst (λ (r : Request). Due r d) (ap (λ (o : Option Request). unwrap_or o request) due) own
due_in code (phases.Over fate) c d own = λ due. cc

pub has_place : (code : CodeData) (m : Doing Conf) (d : Data) (t : Seen) → Placed m d → Follows code m d t → HasPlace t.phase t.data'
has_place code m d t own on = due_in code t.phase t.conf t.data' (subst (λ (o : Outcome Conf). AskedWith o) (on.same []) (placed_asks (fitting_by code) m d own))
