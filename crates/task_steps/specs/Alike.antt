-- Doings that come to the same.
use Rattle.std.specs.Prelude.{◌≡◌, List, [], ◌∷◌, Option, None, Some, Result, Ok, Err}
use Rattle.rapid_model.specs.declared.answer.Answer.{Answer}
use Rattle.rapid_model.specs.declared.fate.Fault.{Fault}
use Rattle.typed_trees.specs.declared.datum.Datum.{Datum}
use Rattle.rapid_meaning.specs.Answering.{performed}
use Rattle.rapid_meaning.specs.Data.{Data}
use Rattle.rapid_meaning.specs.Doings.{Doing, Gives, Misfit, fault}
use Rattle.stack_code.specs.CodeData.{CodeData}
use Rattle.stack_code.specs.CodeRuns.{fitting_by, no_part}
use Rattle.stack_code.specs.Confs.{Conf}
use Rattle.task_steps.specs.Doing.{came, doing_of, gone, here_of}
use Rattle.task_steps.specs.Seen.{Seen}
use Rattle.task_steps.specs.declared.steps.done.Done.{Done}
use Rattle.task_steps.specs.declared.steps.way.Way.{Way}

-- whatever answers come, one doing has with its data the outcome of another with its own
pub record Alike (code : CodeData) (m : Doing Conf) (d : Data) (n : Doing Conf) (e : Data) : Type 0 where
  pub same : (left : List Answer) → performed (fitting_by code) no_part m d left ≡ performed (fitting_by code) no_part n e left

-- a machine is where a doing leads
abbrev pub Follows : CodeData → Doing Conf → Data → Seen → Type 0
Follows code m d s = Alike code m d (doing_of code s.phase s.conf) s.data'

-- the outcome of an operation of a machine
abbrev pub Turns : CodeData → Doing Conf → Data → Option Done → Seen → Type 0
Turns code m d done s = Alike code m d (came (here_of code s.conf) done) s.data'

-- an operation was done, and the machine goes this way
abbrev pub Goes : CodeData → Doing Conf → Data → Option Way → Seen → Type 0
Goes code m d way s = Alike code m d (gone code way s) s.data'

-- a machine whose running routine has these operands
abbrev pub with_stack : List Datum → Seen → Seen
with_stack stack s = record s { conf = record s.conf { stack = stack } }

-- what follows an operand that was popped, if it was there
abbrev pub popped : {A : Type 0} → Option A → List Datum → (A → List Datum → Doing Conf) → Doing Conf
popped None rest next = Misfit
popped (Some x) rest next = next x rest

-- a test of a value that may be a fault
abbrev pub tested : {A : Type 0} → Option (Result A Fault) → Doing A
tested None = Misfit
tested (Some (Ok x)) = Gives x
tested (Some (Err why)) = fault why

-- operands with one on top, or none if there was none
abbrev pub heaped : Option Datum → List Datum → List Datum
heaped None rest = []
heaped (Some x) rest = x ∷ rest
