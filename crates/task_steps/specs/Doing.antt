-- What a machine does next, by its phase.
use Rattle.std.specs.Prelude.{ℕ, ◌+◌, ◌-◌, false, ◌==◌, ◌∷◌, List, bytes_eq, position, Option, None, Some, if◌then◌else◌}
use Rattle.rapid_model.specs.declared.answer.Answer.{Answer}
use Rattle.rapid_model.specs.declared.request.Request.TheVariants.{Rise}
use Rattle.rapid_model.specs.declared.value.Value.{Value}
use Rattle.typed_trees.specs.declared.datum.Datum.TheVariants.{Plain, Mark}
use Rattle.rapid_meaning.specs.Doings.{Doing, Gives, Asks, Ends, Misfit, ◌>>=◌, ◌>>◌, after, change, tells, when_ok}
use Rattle.rapid_meaning.specs.Flows as flows
use Rattle.rapid_meaning.specs.Functions.{when_at, when_bit}
use Rattle.rapid_meaning.specs.Interrupts.{when_connected, when_known, when_ordered}
use Rattle.rapid_meaning.specs.Meetings.{task_or_fault, when_arrived, with_task, with_tasks}
use Rattle.rapid_meaning.specs.Moves.{cap_of, when_given, when_located}
use Rattle.rapid_meaning.specs.Places.{store, when_read, when_tested}
use Rattle.rapid_meaning.specs.Signals.{when_written}
use Rattle.rapid_meaning.specs.Values.{of_bit, text_in, value_in, whole}
use Rattle.rapid_meaning.specs.Zones.{when_numbered, when_zoned}
use Rattle.stack_code.specs.CodeData.{CodeData}
use Rattle.stack_code.specs.Confs.{Conf}
use Rattle.stack_code.specs.Entering.{started}
use Rattle.stack_code.specs.Raising.{raised, raised_out}
use Rattle.stack_code.specs.Steps.{Here, as_truth, does, fails, jumps, looked, moves_on, pushes, sets_out, to_next}
use Rattle.task_steps.specs.declared.requests.departure.Departure.{Departure}
use Rattle.task_steps.specs.declared.steps.done.Done.{Done}
use Rattle.task_steps.specs.declared.steps.done.Done.TheVariants as dones
use Rattle.task_steps.specs.declared.operands.gathering.Gathering.{Gathering}
use Rattle.task_steps.specs.declared.requests.pending.Pending.{Pending}
use Rattle.task_steps.specs.declared.requests.pending.Pending.TheVariants as pendings
use Rattle.task_steps.specs.Phases.{Phase}
use Rattle.task_steps.specs.Phases as phases
use Rattle.task_steps.specs.declared.steps.way.Way.{Way}
use Rattle.task_steps.specs.declared.steps.way.Way.TheVariants as ways
use Rattle.task_steps.specs.Points.{Point, conf_in, own_at, running_in, saved_in}
use Rattle.task_steps.specs.Seen.{Seen}

-- code where it is
abbrev pub here_of : CodeData → Point → Here
here_of code p = record { code = code; own = own_at code p.pc; conf = conf_in code p }

-- an error of the operation at a place of a machine
abbrev pub raised_at : CodeData → ℕ → Point → ℕ → Doing Conf
raised_at code place p error = raised code (own_at code place) (running_in code p.frame) (saved_in code p.saved) error

-- an error that leaves the running routine
abbrev pub leaves_with : CodeData → Point → ℕ → Doing Conf
leaves_with code p error = raised_out code (saved_in code p.saved) error

-- a set with the task of a name
abbrev pub named : List (List ℕ) → ℕ → Value → Doing ℕ
named names set v = do
  name ← text_in v
  task ← task_or_fault (position (bytes_eq name) names)
  Gives (with_task task set)

-- a set with the task that an element names, and then with those of the elements after it
abbrev pub gathered : List (List ℕ) → Gathering → Value → Doing ℕ
gathered names g v = named names g.set v >>= λ more. with_tasks names g.list (g.len - (g.read + 1)) (g.read + 1 + 1) more

-- the move of an arm begins; a departure of another arm is none
abbrev pub departs : ℕ → Departure → Answer → Doing flows.Way
departs axes departure a = if departure.axes == axes then when_located axes departure.target (cap_of departure.speed) a else Misfit

-- what an operation does with the answer that it waits for
abbrev pub answered : Here → Pending → Answer → Doing Conf
answered h pendings.Looked a = looked h a
answered h pendings.Read a = pushes h h.conf.stack (λ x. x) (when_read a)
answered h (pendings.Gathered g) a = pushes h h.conf.stack (λ set. Plain (whole set)) ((when_read a >>= value_in) >>= gathered h.code.tasks g)
answered h pendings.Confirmed a = does h h.conf.stack (when_ok a)
answered h pendings.Tested a = pushes h h.conf.stack as_truth (when_tested a)
answered h pendings.Sensed a = pushes h h.conf.stack (λ bit. Plain (of_bit bit)) (when_bit a)
answered h pendings.Written a = does h h.conf.stack (when_written a)
answered h pendings.Arrived a = pushes h h.conf.stack as_truth (when_arrived a)
answered h pendings.Located a = pushes h h.conf.stack Plain (when_at a)
answered h (pendings.Departed departure) a = after (departs h.code.axes departure a) (sets_out h h.conf.stack) (fails h)
answered h (pendings.Pointed past) a = when_given (moves_on h past h.conf.way) a
answered h (pendings.Connected place) a = does h h.conf.stack (when_connected place a)
answered h pendings.Ordered a = does h h.conf.stack (when_ordered a)
answered h pendings.Known a = does h h.conf.stack (when_known a)
answered h (pendings.Supervised place) a = does h h.conf.stack (when_numbered place a)
answered h pendings.Zoned a = does h h.conf.stack (when_zoned a)
answered h (pendings.Freed place) a = does h h.conf.stack (when_zoned a >> store place (Mark 0))
answered h (pendings.Held to) a = when_ok a >> (tells Rise >> jumps h to h.conf.stack)
answered h (pendings.Risen to) a = when_ok a >> jumps h to h.conf.stack
answered h pendings.Left a = when_ok a >> (change (λ d. record d { trapped = false }) >> Gives h.conf)

-- the outcome of an operation
abbrev pub effect : Here → Done → Doing Conf
effect h dones.Next = to_next h h.conf.stack
effect h (dones.Push x) = to_next h (x ∷ h.conf.stack)
effect h (dones.Jump to) = jumps h to h.conf.stack
effect h dones.Stay = Gives h.conf
effect h (dones.Raise error) = fails h error
effect h (dones.Escape error) = raised_out h.code h.conf.saved error
effect h (dones.Ask request pending) = Asks request (answered h pending)
effect h (dones.End fate) = Ends fate

-- no operation of live code lacks its operands
abbrev pub came : Here → Option Done → Doing Conf
came h None = Misfit
came h (Some done) = effect h done

-- what a machine does, by its phase
abbrev pub doing_of : CodeData → Phase → Point → Doing Conf
doing_of code phases.New p = started code
doing_of code phases.Going p = Gives (conf_in code p)
doing_of code (phases.Asking request pending) p = Asks request (answered (here_of code p) pending)
doing_of code (phases.Over fate) p = Ends fate

-- what a machine does that goes on in this way
abbrev pub gone : CodeData → Option Way → Seen → Doing Conf
gone code None s = Misfit
gone code (Some ways.Next) s = to_next (here_of code s.conf) s.conf.stack
gone code (Some (ways.Jump to)) s = jumps (here_of code s.conf) to s.conf.stack
gone code (Some ways.Stay) s = doing_of code s.phase s.conf
gone code (Some (ways.Raise error)) s = fails (here_of code s.conf) error
gone code (Some (ways.Escape error)) s = leaves_with code s.conf error
gone code (Some (ways.End fate)) s = Ends fate
