-- Errors that go into an ERROR part or leave routines.
use Rattle.std.proofs.Common.{◌≡◌, refl, ℕ, List, [], ◌∷◌, Option, None, Some}
use Rattle.rapid_model.specs.declared.fate.Fate.TheVariants as fates
use Rattle.rapid_model.specs.declared.fate.Fault.TheVariants.{Unhandled}
use Rattle.typed_trees.specs.declared.datum.Datum.{Datum}
use Rattle.rapid_meaning.specs.Answering.{performed}
use Rattle.rapid_meaning.specs.Data.{Data, below_first}
use Rattle.rapid_meaning.specs.Doings.{Gives, Ends, Misfit, after}
use Rattle.rapid_meaning.specs.Flows.{Way}
use Rattle.stack_code.specs.CodeData.{CodeData}
use Rattle.stack_code.specs.Confs.{Running, Saved, Started, Called, Trapped, conf, in_part}
use Rattle.stack_code.specs.Placed.{Own}
use Rattle.stack_code.specs.Raising.{handler_of, raised, raised_out, raised_to}
use Rattle.std.proofs.Common.{false, reverse}
use Rattle.std.specs.Option.{is_some}
use Rattle.machine_stacks.specs.OperandStack.{OperandStack}
use Rattle.task_steps.specs.Alike.{Alike}
use Rattle.task_steps.specs.Doing.{doing_of, raised_at}
use Rattle.task_steps.specs.Points.{own_at, point, running_in, saved_in}
use Rattle.task_steps.specs.Savings.{saved_of}
use Rattle.task_steps.specs.Tasks.{seen_task}
use Rattle.task_steps.specs.Phases as phases
use Rattle.task_steps.specs.Phases.{phase_of}
use Rattle.task_steps.specs.declared.task.Task.TheInside.{Inside}

abbrev pub left_data : Data → Data
left_data d = record d { frames = below_first d.frames }

-- an error that leaves a routine that was called is raised in the statement that called it
pub out_called : (code : CodeData) (saved : List Saved) (d e : Data) (at : ℕ) (own : Own) (stack : List Datum) (frame : Running) (below : List Saved) (error : ℕ)
    → saved ≡ Called at own stack frame ∷ below → e ≡ left_data d → Alike code (raised_out code saved error) d (raised code own frame below error) e
unfolding performed after raised_to
out_called code saved d e at own stack frame below error is moved = rw (is, moved) (record { same = λ left. refl })

-- one that leaves the first routine, or a trap, ends the task
pub out_started : (code : CodeData) (saved : List Saved) (d e : Data) (below : List Saved) (error : ℕ)
    → saved ≡ Started ∷ below → e ≡ left_data d → Alike code (raised_out code saved error) d (Ends (fates.Fault (Unhandled error))) e
unfolding performed after raised_to
out_started code saved d e below error is moved = rw (is, moved) (record { same = λ left. refl })

pub out_trapped : (code : CodeData) (saved : List Saved) (d e : Data) (at : ℕ) (frame : Running) (way : Option Way) (below : List Saved) (error : ℕ)
    → saved ≡ Trapped at frame way ∷ below → e ≡ left_data d → Alike code (raised_out code saved error) d (Ends (fates.Fault (Unhandled error))) e
unfolding performed after raised_to
out_trapped code saved d e at frame way below error is moved = rw (is, moved) (record { same = λ left. refl })

-- there is a routine to leave
pub out_none : (code : CodeData) (saved : List Saved) (d : Data) (error : ℕ) → saved ≡ [] → Alike code (raised_out code saved error) d Misfit d
unfolding performed after raised_to
out_none code saved d error is = rw is (record { same = λ left. refl })

-- the ERROR part begins
pub part_begins : (code : CodeData) (own : Own) (frame : Running) (saved : List Saved) (error handler : ℕ) (d : Data) → frame.failed ≡ None → handler_of code frame.routine ≡ Some handler
    → Alike code (raised code own frame saved error) d (Gives (conf handler [] (in_part frame own error) saved)) (record d { errno = error })
unfolding performed after
part_begins code own frame saved error handler d none there = rw (there, none) (record { same = λ left. refl })

pub not_some : {A : Type 0} (o : Option A) → is_some o ≡ false → o ≡ None
not_some None e = refl
not_some (Some x) e = cc

-- a task in whose routine it has begun
pub part_stands : (code : CodeData) (t : Inside) (o : OperandStack) (place error handler : ℕ) → phase_of t.stage t.asked t.then ≡ phases.Going → o ≡ record t.operands { top = [] } → t.frame.failed ≡ None
    → handler_of code t.frame.routine ≡ Some handler
    → Alike code (raised_at code place (seen_task t).conf error) (seen_task t).data'
    (doing_of code (phase_of t.stage t.asked t.then) (point handler o.top (record { routine = t.frame.routine; failed = Some (record { place = place; error = error }) }) (saved_of (reverse t.rows.items) o.below)))
    (record (seen_task t).data' { errno = error })
part_stands code t o place error handler going cleared none there =
    rw (going, cleared) (part_begins code (own_at code place) (running_in code t.frame) (saved_in code (saved_of (reverse t.rows.items) t.operands.below)) error handler (seen_task t).data' (rw none refl) there)
