-- The instructions (RAPID Instructions, Functions and Data types): the order in which each evaluates, asks and stores.
-- Each but MoveAbsJ gives whether it is done; a wait that is not ready is not.
use Rattle.std.specs.Prelude.{ℕ, Bool, true, false, ℤ, pos, List, [], ◌∷◌, codes, bytes_eq, slice_get, ◌||◌}
use Rattle.rapid_num.specs.Arithmetic.{sum_of, difference_of}
use Rattle.rapid_num.specs.declared.joints.Joints.{Joints}
use Rattle.rapid_model.specs.declared.instruction.Instruction.{Instruction}
use Rattle.rapid_model.specs.declared.instruction.Instruction.TheVariants as instructions
use Rattle.rapid_model.specs.declared.request.Request.TheVariants as requests
use Rattle.rapid_model.specs.declared.tail.Tail.{Tail}
use Rattle.rapid_model.specs.declared.tail.Tail.TheVariants as tails
use Rattle.rapid_model.specs.declared.watched.Watched.TheVariants as watched
use Rattle.typed_trees.specs.Plain.{TypedArg, TypedArgs, TypedExpr, TypedPlace, TypedRoutine, TypedTree, Given, Lent, OfSignal, OfMeeting, Itself, Optional, Argument, NoArgs, MoreArgs}
use Rattle.typed_trees.specs.declared.datum.Datum.TheVariants.{Mark}
use Rattle.typed_trees.specs.declared.datum.Lvalue.{Lvalue}
use Rattle.rapid_meaning.specs.Doings.{Doing, Gives, Misfit, ◌>>=◌, ◌>>◌, or_misfit, tells}
use Rattle.rapid_meaning.specs.Expressions.{expr, lent_length, place}
use Rattle.rapid_meaning.specs.Flows.{Way}
use Rattle.rapid_meaning.specs.Interrupts.{asks_of_number, number_at, order, pers_at}
use Rattle.rapid_meaning.specs.Meetings.{arrive, tasks_in}
use Rattle.rapid_meaning.specs.Moves.{aim, still}
use Rattle.rapid_meaning.specs.Places.{load, read_value, store, test_and_set, write_value}
use Rattle.rapid_meaning.specs.Signals.{has_value, write_signal}
use Rattle.rapid_meaning.specs.Values.{bit_in, in_range, num_in, shape_in, target_in, text_in, tool_speed_in, truth_in, whole}
use Rattle.rapid_meaning.specs.Zones.{asks_of_zone, define, define_home, shape_at, supervise, tie}

-- the arguments without the options, in order
abbrev pub needed : TypedArgs → List TypedArg
needed NoArgs = []
needed (MoreArgs (Optional name value) more) = needed more
needed (MoreArgs arg more) = arg ∷ needed more

-- the options, in order
abbrev pub options : TypedArgs → List TypedArg
options NoArgs = []
options (MoreArgs (Optional name value) more) = Optional name value ∷ options more
options (MoreArgs arg more) = options more

unfoldable pub has : List ℕ → List TypedArg → Bool
has name [] = false
has name (Optional other value ∷ more) = bytes_eq other name || has name more
has name (arg ∷ more) = has name more

-- the instruction is done
abbrev pub ready : Doing Bool
ready = Gives true

-- the value of an expression of a known type
abbrev pub num : TypedTree → TypedRoutine → TypedExpr → Doing ℤ
num tree routine e = expr tree routine e >>= num_in

abbrev pub truth : TypedTree → TypedRoutine → TypedExpr → Doing Bool
truth tree routine e = expr tree routine e >>= truth_in

abbrev pub text : TypedTree → TypedRoutine → TypedExpr → Doing (List ℕ)
text tree routine e = expr tree routine e >>= text_in

abbrev pub target : TypedTree → TypedRoutine → TypedExpr → Doing Joints
target tree routine e = expr tree routine e >>= target_in

-- a signal value, 0 or 1
abbrev pub bit : TypedTree → TypedRoutine → TypedExpr → Doing Bool
bit tree routine e = expr tree routine e >>= bit_in

-- what follows for the place of an interrupt or zone variable and the number that it holds
abbrev pub marked : {A : Type 0} → TypedTree → TypedRoutine → TypedPlace → (Lvalue → ℕ → Doing A) → Doing A
marked tree routine p next = do
  q ← place tree routine p
  number ← number_at q
  next q number

-- what follows the text of TPWrite
abbrev pub tail_named : TypedTree → TypedRoutine → Bool → TypedExpr → Doing Tail
tail_named tree routine true e = do
  n ← num tree routine e
  Gives (tails.Num n)
tail_named tree routine false e = do
  b ← truth tree routine e
  Gives (tails.Bool b)

abbrev pub tail : TypedTree → TypedRoutine → List TypedArg → Doing Tail
tail tree routine [] = Gives tails.None
tail tree routine (Optional name (Argument (Given e)) ∷ []) = tail_named tree routine (bytes_eq name (codes "Num")) e
tail tree routine _ = Misfit

-- MoveAbsJ before its first setpoint
abbrev pub aimed : TypedTree → TypedRoutine → List TypedArg → Doing Way
aimed tree routine (Given to ∷ Given speed ∷ Itself _ ∷ Itself _ ∷ []) = do
  still
  joints ← target tree routine to
  v ← expr tree routine speed
  n ← tool_speed_in v
  aim tree.axes joints n
aimed tree routine args = Misfit

-- any other instruction
abbrev pub instructed : TypedTree → TypedRoutine → Instruction → List TypedArg → List TypedArg → Doing Bool
-- signals
instructed tree routine instructions.Set (OfSignal signal ∷ []) options = write_signal signal true >> ready
instructed tree routine instructions.Reset (OfSignal signal ∷ []) options = write_signal signal false >> ready
instructed tree routine instructions.SetDO (OfSignal signal ∷ Given e ∷ []) options = do
  b ← bit tree routine e
  write_signal signal b
  ready
-- waits
instructed tree routine instructions.WaitDI (OfSignal signal ∷ Given e ∷ []) options = do
  b ← bit tree routine e
  has_value signal b
instructed tree routine instructions.WaitDO (OfSignal signal ∷ Given e ∷ []) options = do
  b ← bit tree routine e
  has_value signal b
instructed tree routine instructions.WaitUntil (Given e ∷ []) options = truth tree routine e
instructed tree routine instructions.WaitTime (Given e ∷ []) options = num tree routine e >> ready
instructed tree routine instructions.WaitTestAndSet (Lent p ∷ []) options = do
  q ← place tree routine p
  test_and_set q
instructed tree routine instructions.WaitSyncTask (OfMeeting number ∷ Lent list ∷ []) options = do
  meeting ← or_misfit (slice_get tree.meeting_of number)
  q ← place tree routine list
  tasks ← tasks_in tree.tasks q (lent_length tree routine list)
  arrive meeting tasks
-- texts for the operator
instructed tree routine instructions.TPWrite (Given e ∷ []) options = do
  said ← text tree routine e
  more ← tail tree routine options
  tells (requests.Say said more)
  ready
instructed tree routine instructions.TPErase [] options = ready
-- interrupts
instructed tree routine instructions.ISignalDI (OfSignal signal ∷ Given e ∷ Lent p ∷ []) options = do
  b ← bit tree routine e
  marked tree routine p (λ q number. order number (watched.Signal signal b) (has (codes "Single") options) >> ready)
instructed tree routine instructions.ISignalDO (OfSignal signal ∷ Given e ∷ Lent p ∷ []) options = do
  b ← bit tree routine e
  marked tree routine p (λ q number. order number (watched.Signal signal b) (has (codes "Single") options) >> ready)
instructed tree routine instructions.IPers (Lent watch ∷ Lent p ∷ []) options = do
  w ← place tree routine watch
  pers ← pers_at w.root
  marked tree routine p (λ q number. order number (watched.Pers pers) (has (codes "Single") options) >> ready)
instructed tree routine instructions.ISleep (Lent p ∷ []) options = marked tree routine p (λ q number. asks_of_number (requests.Sleep number) >> ready)
instructed tree routine instructions.IWatch (Lent p ∷ []) options = marked tree routine p (λ q number. asks_of_number (requests.Watch number) >> ready)
instructed tree routine instructions.IDelete (Lent p ∷ []) options = marked tree routine p (λ q number. asks_of_number (requests.Delete number) >> ready)
instructed tree routine instructions.IDisable [] options = tells requests.Disable >> ready
instructed tree routine instructions.IEnable [] options = tells requests.Enable >> ready
-- world zones
instructed tree routine instructions.WZLimJointDef (Lent shape ∷ Given low ∷ Given high ∷ []) options = do
  q ← place tree routine shape
  l ← target tree routine low
  h ← target tree routine high
  define tree.axes q (has (codes "Inside") options) l h
  ready
instructed tree routine instructions.WZHomeJointDef (Lent shape ∷ Given middle ∷ Given delta ∷ []) options = do
  q ← place tree routine shape
  m ← target tree routine middle
  d ← target tree routine delta
  define_home tree.axes q (has (codes "Inside") options) m d
  ready
instructed tree routine instructions.WZLimSup (Lent zone ∷ Lent shape ∷ []) options = marked tree routine zone (λ q old. do
  p ← place tree routine shape
  s ← shape_at p
  supervise q old (has (codes "Temp") options) s
  ready)
instructed tree routine instructions.WZDOSet (Lent zone ∷ Lent shape ∷ OfSignal signal ∷ Given e ∷ []) options = marked tree routine zone (λ q old. do
  p ← place tree routine shape
  v ← load p
  held ← shape_in v
  b ← bit tree routine e
  tie q old (has (codes "Temp") options) held signal b
  ready)
instructed tree routine instructions.WZDisable (Lent zone ∷ []) options = marked tree routine zone (λ q number. asks_of_zone (requests.ZoneOff number) >> ready)
instructed tree routine instructions.WZEnable (Lent zone ∷ []) options = marked tree routine zone (λ q number. asks_of_zone (requests.ZoneOn number) >> ready)
instructed tree routine instructions.WZFree (Lent zone ∷ []) options =
    marked tree routine zone (λ q number. asks_of_zone (requests.ZoneFree number) >> (store q (Mark 0) >> ready))
-- counters
instructed tree routine instructions.Incr (Lent p ∷ []) options = do
  q ← place tree routine p
  v ← read_value q
  n ← num_in v
  w ← in_range (sum_of n (pos 1_000))
  write_value q w
  ready
instructed tree routine instructions.Decr (Lent p ∷ []) options = do
  q ← place tree routine p
  v ← read_value q
  n ← num_in v
  w ← in_range (difference_of n (pos 1_000))
  write_value q w
  ready
instructed tree routine instructions.Clear (Lent p ∷ []) options = do
  q ← place tree routine p
  write_value q (whole 0)
  ready
instructed tree routine instructions.Add (Lent p ∷ Given e ∷ []) options = do
  q ← place tree routine p
  m ← num tree routine e
  v ← read_value q
  n ← num_in v
  w ← in_range (sum_of n m)
  write_value q w
  ready
instructed tree routine instruction args options = Misfit
