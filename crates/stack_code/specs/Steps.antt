-- What each operation does. Operations ask, read and write by the definitions of the meaning of trees.
use Rattle.std.specs.Prelude.{ℕ, ◌+◌, ◌/◌, nat_lt, ◌^◌, Bool, true, false, ℤ, pos, List, [], ◌∷◌, length, Option, None, Some, if◌then◌else◌, slice_get}
use Rattle.rapid_num.specs.Arithmetic.{sum_of}
use Rattle.rapid_model.specs.declared.answer.Answer.{Answer}
use Rattle.rapid_model.specs.declared.answer.Answer.TheVariants as answers
use Rattle.rapid_model.specs.declared.fate.Fate.TheVariants as fates
use Rattle.rapid_model.specs.declared.fate.Fault.TheVariants.{NoReturn, TrapFlood}
use Rattle.rapid_model.specs.declared.function.Function.TheVariants as functions
use Rattle.rapid_model.specs.declared.request.Request.TheVariants as requests
use Rattle.rapid_model.specs.declared.request.Request.TheVariants.{Look, Position, Hold, Rise, Say}
use Rattle.rapid_model.specs.declared.tail.Tail.TheVariants as tails
use Rattle.rapid_model.specs.declared.value.Value.{Value}
use Rattle.rapid_model.specs.declared.value.Value.TheVariants as values
use Rattle.rapid_model.specs.declared.watched.Watched.TheVariants as watched
use Rattle.rapid_values.specs.Operators.{apply}
use Rattle.rapid_values.specs.Components.{components}
use Rattle.rapid_values.specs.Values.{made_of}
use Rattle.typed_trees.specs.declared.datum.Datum.{Datum}
use Rattle.typed_trees.specs.declared.datum.Datum.TheVariants.{Plain, Mark, Place}
use Rattle.typed_trees.specs.declared.datum.Root.TheVariants as roots
use Rattle.rapid_meaning.specs.Data.{seen_in, with_seen}
use Rattle.rapid_meaning.specs.Flows.{Way}
use Rattle.rapid_meaning.specs.Doings.{Doing, Gives, Asks, Ends, Misfit, Reads, Act, ◌>>=◌, ◌>>◌, after, change, fault, or_misfit, tells}
use Rattle.rapid_meaning.specs.Functions.{read_signal, when_at}
use Rattle.rapid_meaning.specs.Interrupts.{asks_of_number, connect, order}
use Rattle.rapid_meaning.specs.Loops.{has_passed}
use Rattle.rapid_meaning.specs.Meetings.{arrive, with_tasks}
use Rattle.rapid_meaning.specs.Moves.{aim, further, has_next, point, still}
use Rattle.rapid_meaning.specs.Places.{at_root, indexed, kept_place, load, own_place, part_at, read_value, store, test_and_set, write_value}
use Rattle.rapid_meaning.specs.Signals.{write_signal}
use Rattle.rapid_meaning.specs.Statements as statements
use Rattle.rapid_meaning.specs.Values.{applied, bit_in, num_in, of_bit, opposite, target_in, text_in, tool_speed_in, truth_in, whole, with_sign}
use Rattle.rapid_meaning.specs.Zones.{asks_of_zone, define, define_home, defined, supervise, tie}
use Rattle.stack_code.specs.Functions.{of_value, of_values}
use Rattle.stack_code.specs.CodeData.{CodeData}
use Rattle.stack_code.specs.Confs.{Conf, Called, Trapped}
use Rattle.stack_code.specs.Entering.{enter, entered}
use Rattle.stack_code.specs.Operands.{on_many, on_mark, on_place, on_shape, on_top, on_truth, on_value, on_values}
use Rattle.stack_code.specs.Placed.{Own, Placed, placed_at}
use Rattle.stack_code.specs.Raising.{raised, raised_again, retried, returned, skipped}
use Rattle.stack_code.specs.declared.irq_op.IrqOp.TheVariants as irqs
use Rattle.stack_code.specs.declared.op.Op.{Op}
use Rattle.stack_code.specs.declared.op.Op.TheVariants as ops
use Rattle.stack_code.specs.declared.order_on.OrderOn.TheVariants as orders
use Rattle.stack_code.specs.declared.tail_kind.TailKind.TheVariants as kinds
use Rattle.stack_code.specs.declared.unary_op.UnaryOp.TheVariants as unary
use Rattle.stack_code.specs.declared.zone_op.ZoneOp.TheVariants as zones

-- code at an operation of a statement
pub record Here : Type 0 where
  pub code : CodeData
  pub own : Own
  pub conf : Conf

-- goes on to the next operation, or to one at another place, with these operands, and in the same move
abbrev pub to_next : Here → List Datum → Doing Conf
to_next h stack = Gives (record h.conf { pc = h.conf.pc + 1; stack = stack })

abbrev pub jumps : Here → ℕ → List Datum → Doing Conf
jumps h to stack = Gives (record h.conf { pc = to; stack = stack })

-- an error is the statement's
abbrev pub fails : Here → ℕ → Doing Conf
fails h error = raised h.code h.own h.conf.frame h.conf.saved error

-- pushes the result of a doing, in this form
abbrev pub pushes : {A : Type 0} → Here → List Datum → (A → Datum) → Doing A → Doing Conf
pushes h stack form m = after m (λ v. to_next h (form v ∷ stack)) (fails h)

-- pushes nothing
abbrev pub does : {A : Type 0} → Here → List Datum → Doing A → Doing Conf
does h stack m = after m (λ _. to_next h stack) (fails h)

abbrev pub as_truth : Bool → Datum
as_truth b = Plain (values.Bool b)

abbrev pub looked : Here → Answer → Doing Conf
looked h (answers.Go seen) = change (λ d. record d { frames = with_seen seen d.frames }) >> to_next h h.conf.stack
looked h (answers.Trap number trap) = change (λ d. record d { trapped = true }) >> enter h.code trap [] (Trapped h.conf.pc h.conf.frame h.conf.way ∷ h.conf.saved)
looked h answers.Flood = fault TrapFlood
looked h _ = Misfit

abbrev pub looks : Here → Doing Conf
looks h = change (λ d. record d { place = Some h.own.at }) >> Asks Look (looked h)

-- the call of a routine, with as many operands as it takes
abbrev pub calls : Here → ℕ → Doing Conf
calls h routine = or_misfit (slice_get h.code.routines routine) >>= λ row. on_many row.args h.conf.stack (λ args rest.
    entered h.code routine row args (Called h.conf.pc h.own rest h.conf.frame ∷ h.conf.saved))

-- one of the three data of a FOR
abbrev pub counter_at : ℕ → Doing ℤ
counter_at at = do
  p ← Reads (λ d. Gives (own_place at d.frames))
  v ← read_value p
  num_in v

abbrev pub set_counter_at : ℕ → ℤ → Act
set_counter_at at n = do
  p ← Reads (λ d. Gives (own_place at d.frames))
  write_value p (values.Num n)

-- whether the FOR whose variable is at this place has passed its last value
abbrev pub passed : ℕ → Doing Bool
passed at = do
  variable ← counter_at at
  last ← counter_at (at + 1)
  step ← counter_at (at + 2)
  Gives (has_passed variable last step)

-- where a Turn jumps
abbrev pub past_turn : Here → Option Op → Doing Conf
past_turn h (Some (ops.Turn k a)) = jumps h a h.conf.stack
past_turn h _ = Misfit

-- if the variable leaves the range of num, the Turn counts as passed
abbrev pub stepped : Here → ℕ → ℕ → Option ℤ → Doing Conf
stepped h k a None = past_turn h (slice_get h.code.ops a)
stepped h k a (Some n) = set_counter_at k n >> jumps h a h.conf.stack

-- a wait that is not ready holds with the count that its own Look found, and rises
abbrev pub holds : Here → ℕ → List Datum → Doing Conf
holds h to stack = Reads (λ d. tells (Hold (seen_in d.frames)) >> (tells Rise >> jumps h to stack))

-- goes on to the next operation in a move
abbrev pub sets_out : Here → List Datum → Way → Doing Conf
sets_out h stack way = Gives (record h.conf { pc = h.conf.pc + 1; stack = stack; way = Some way })

-- a setpoint is given: to the next operation if another one is left, else past the move
abbrev pub moves_on : Here → ℕ → Option Way → Doing Conf
moves_on h past None = Misfit
moves_on h past (Some way) = if has_next (further way) then sets_out h h.conf.stack (further way) else Gives (record h.conf { pc = past; way = None })

abbrev pub points : Here → ℕ → Option Way → Doing Conf
points h past None = Misfit
points h past (Some way) = point way (moves_on h past (Some way))

-- a request names at most sixteen tasks
abbrev pub task_set : ℕ → Doing ℕ
task_set set = if nat_lt set (2 ^ 16) then Gives set else Misfit

-- a set of tasks on the stack is a num
abbrev pub set_in : Value → Doing ℕ
set_in (values.Num (pos n)) = task_set (n / 1_000)
set_in _ = Misfit

-- The table, with a line for each operation, or for each of its kinds. The operands of the innermost frame are
-- h.conf.stack.
abbrev pub act : Here → Op → Doing Conf
act h (ops.Push datum) = to_next h (datum ∷ h.conf.stack)
act h ops.Errno = Reads (λ d. to_next h (Plain (whole d.errno) ∷ h.conf.stack))
act h ops.Drop = on_top h.conf.stack (λ x rest. to_next h rest)
act h ops.Dup = on_top h.conf.stack (λ x rest. to_next h (x ∷ x ∷ rest))
act h ops.Over = on_top h.conf.stack (λ y rest. on_top rest (λ x below. to_next h (x ∷ y ∷ x ∷ below)))
-- places
act h (ops.Slot k) = to_next h (Place (at_root (roots.Slot k)) ∷ h.conf.stack)
act h (ops.Local k) = pushes h h.conf.stack Place (Reads (λ d. Gives (own_place k d.frames)))
act h (ops.Pers p) = to_next h (Place (at_root (roots.Pers p 0)) ∷ h.conf.stack)
act h (ops.Ref k) = pushes h h.conf.stack Place (Reads (λ d. or_misfit (kept_place k d.frames)))
act h (ops.Index n) = on_value h.conf.stack (λ v rest. on_place rest (λ p below. pushes h below Place (indexed (Some n) p v)))
act h (ops.Part x) = on_place h.conf.stack (λ p rest. pushes h rest Place (part_at x p))
act h ops.Load = on_place h.conf.stack (λ p rest. pushes h rest (λ x. x) (load p))
act h ops.Store = on_top h.conf.stack (λ x rest. on_place rest (λ p below. does h below (store p x)))
-- signals
act h (ops.GetSignal s) = pushes h h.conf.stack (λ bit. Plain (of_bit bit)) (read_signal s)
act h (ops.PutSignal s) = on_value h.conf.stack (λ v rest. does h rest (bit_in v >>= λ bit. write_signal s bit))
act h ops.Bit = on_value h.conf.stack (λ v rest. does h h.conf.stack (bit_in v))
-- values
act h (ops.Pack t) = on_values (length (components t)) h.conf.stack (λ vs rest. pushes h rest Plain (or_misfit (made_of t vs)))
act h (ops.Binary o) = on_value h.conf.stack (λ w rest. on_value rest (λ v below. pushes h below Plain (applied (apply o v w))))
act h (ops.Unary unary.Minus) = on_value h.conf.stack (λ v rest. pushes h rest Plain (with_sign true v))
act h (ops.Unary unary.Not) = on_value h.conf.stack (λ v rest. pushes h rest Plain (opposite v))
act h (ops.Func functions.NumToStr) = on_value h.conf.stack (λ w rest. on_value rest (λ v below. pushes h below Plain (of_values functions.NumToStr v w)))
act h (ops.Func f) = on_value h.conf.stack (λ v rest. pushes h rest Plain (of_value f v))
-- jumps
act h (ops.Jump a) = jumps h a h.conf.stack
act h (ops.JumpTrue a) = on_truth h.conf.stack (λ b rest. if b then jumps h a rest else to_next h rest)
act h (ops.JumpFalse a) = on_truth h.conf.stack (λ b rest. if b then to_next h rest else jumps h a rest)
-- statements and routines
act h ops.Look = looks h
act h (ops.Call r) = calls h r
act h ops.Back = returned h.conf.saved None
act h ops.BackWith = on_value h.conf.stack (λ v rest. returned h.conf.saved (Some v))
act h ops.NoBack = fault NoReturn
act h ops.Raise = on_value h.conf.stack (λ v rest. does h rest (statements.raised v))
act h ops.Again = raised_again h.code h.conf h.conf.frame.failed
act h ops.Retry = retried h.conf h.conf.frame.failed
act h ops.Next = skipped h.conf h.conf.frame.failed
act h ops.Exit = Ends fates.Exit
-- loops and waits
act h (ops.Turn k a) = passed k >>= λ b. if b then jumps h a h.conf.stack else to_next h h.conf.stack
act h (ops.Step k a) = counter_at k >>= λ variable. counter_at (k + 2) >>= λ step. stepped h k a (sum_of variable step)
act h (ops.Wait a) = on_truth h.conf.stack (λ b rest. if b then to_next h rest else holds h a rest)
act h ops.TestSet = on_place h.conf.stack (λ p rest. pushes h rest as_truth (test_and_set p))
act h (ops.TaskSet n) = on_place h.conf.stack (λ list rest. pushes h rest (λ set. Plain (whole set)) (with_tasks h.code.tasks list n 1 0))
act h (ops.Arrive g) = on_value h.conf.stack (λ set rest. pushes h rest as_truth (set_in set >>= λ tasks. arrive g tasks))
-- moves
act h ops.Here = pushes h h.conf.stack Plain (Asks Position when_at)
act h ops.Still = does h h.conf.stack still
act h ops.Aim = on_value h.conf.stack (λ speed rest. on_value rest (λ to below. after (target_in to >>= λ joints. tool_speed_in speed >>= λ n. aim h.code.axes joints n) (sets_out h below) (fails h)))
act h (ops.Point past) = points h past h.conf.way
-- interrupts
act h (ops.Connect r) = on_mark h.conf.stack (λ old rest. on_place rest (λ p below. does h below (connect p old r)))
act h (ops.Order (orders.Signal s) b) = on_mark h.conf.stack (λ n rest. on_value rest (λ v below. does h below (bit_in v >>= λ bit. order n (watched.Signal s bit) b)))
act h (ops.Order (orders.Pers p) b) = on_mark h.conf.stack (λ n rest. does h rest (order n (watched.Pers p) b))
act h (ops.Irq irqs.Sleep) = on_mark h.conf.stack (λ n rest. does h rest (asks_of_number (requests.Sleep n)))
act h (ops.Irq irqs.Watch) = on_mark h.conf.stack (λ n rest. does h rest (asks_of_number (requests.Watch n)))
act h (ops.Irq irqs.Delete) = on_mark h.conf.stack (λ n rest. does h rest (asks_of_number (requests.Delete n)))
act h (ops.Irq irqs.Disable) = does h h.conf.stack (tells requests.Disable)
act h (ops.Irq irqs.Enable) = does h h.conf.stack (tells requests.Enable)
-- zones
act h (ops.Shape inside false) = on_value h.conf.stack (λ w rest. on_value rest (λ v below. on_place below (λ p bottom. does h bottom (target_in v >>= λ low. target_in w >>= λ high. define h.code.axes p inside low high))))
act h (ops.Shape inside true) = on_value h.conf.stack (λ w rest. on_value rest (λ v below. on_place below (λ p bottom. does h bottom (target_in v >>= λ middle. target_in w >>= λ delta. define_home h.code.axes p inside middle delta))))
act h (ops.ZoneSet temporary) = on_shape h.conf.stack (λ held rest. on_mark rest (λ old below. on_place below (λ p bottom. does h bottom (defined held >>= λ shape. supervise p old temporary shape))))
act h (ops.ZoneTie temporary s) = on_value h.conf.stack (λ v rest. on_shape rest (λ held below. on_mark below (λ old bottom. on_place bottom (λ p base. does h base (bit_in v >>= λ bit. tie p old temporary held s bit)))))
act h (ops.Zone zones.On) = on_mark h.conf.stack (λ n rest. on_place rest (λ p below. does h below (asks_of_zone (requests.ZoneOn n))))
act h (ops.Zone zones.Off) = on_mark h.conf.stack (λ n rest. on_place rest (λ p below. does h below (asks_of_zone (requests.ZoneOff n))))
act h (ops.Zone zones.Free) = on_mark h.conf.stack (λ n rest. on_place rest (λ p below. does h below (asks_of_zone (requests.ZoneFree n) >> store p (Mark 0))))
-- texts for the operator
act h (ops.Say kinds.None) = on_value h.conf.stack (λ v rest. does h rest (text_in v >>= λ text. tells (Say text tails.None)))
act h (ops.Say kinds.Num) = on_value h.conf.stack (λ w rest. on_value rest (λ v below. does h below (text_in v >>= λ text. num_in w >>= λ n. tells (Say text (tails.Num n)))))
act h (ops.Say kinds.Bool) = on_value h.conf.stack (λ w rest. on_value rest (λ v below. does h below (text_in v >>= λ text. truth_in w >>= λ b. tells (Say text (tails.Bool b)))))

abbrev pub act_at : CodeData → Conf → Option Placed → Doing Conf
act_at code c None = Misfit
act_at code c (Some placed) = act (record { code = code; own = placed.own; conf = c }) placed.op

-- a step: the operation at the current place
abbrev pub step : CodeData → Conf → Doing Conf
step code c = act_at code c (placed_at code c.pc)
