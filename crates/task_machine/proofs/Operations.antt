-- What an operation asks, and what it does with an answer: a Look alone asks a Look, and keeps its place first.
use Rattle.std.proofs.Common.{refl, ℕ, ◌+◌, ◌-◌, ◌/◌, ◌^◌, ◌==◌, Bool, true, false, ℤ, pos, negsuc, List, [], ◌∷◌, length, reverse, take, drop, Option, None, Some, slice_get, if◌then◌else◌}
use Rattle.std.specs.Prelude.{⊤, bytes_eq, nat_le, nat_lt, position}
use Rattle.rapid_num.specs.declared.shape.Shape.{Shape}
use Rattle.rapid_num.specs.Arithmetic.{sum_of}
use Rattle.rapid_model.specs.declared.answer.Answer.{Answer}
use Rattle.rapid_model.specs.declared.answer.Answer.TheVariants as answers
use Rattle.rapid_model.specs.declared.fate.Fault.TheVariants.{DepthLimit, MoveInTrap}
use Rattle.rapid_model.specs.declared.function.Function.{Function}
use Rattle.rapid_model.specs.declared.function.Function.TheVariants as functions
use Rattle.rapid_model.specs.declared.request.Request.TheVariants as requests
use Rattle.rapid_model.specs.declared.value.Value.{Value}
use Rattle.rapid_model.specs.declared.value.Value.TheVariants as values
use Rattle.rapid_values.specs.Components.{components}
use Rattle.rapid_values.specs.Operators.{apply}
use Rattle.rapid_values.specs.Values.{made_of}
use Rattle.typed_trees.specs.declared.datum.Datum.{Datum}
use Rattle.typed_trees.specs.declared.datum.Datum.TheVariants as datums
use Rattle.typed_trees.specs.declared.datum.Lvalue.{Lvalue}
use Rattle.rapid_meaning.specs.Data.{Data, Frame}
use Rattle.rapid_meaning.specs.Doings.{Doing, Gives, Misfit, Asks, Reads, Writes, ◌>>=◌, ◌>>◌, after, change, done, fault, or_misfit, tells, when_ok}
use Rattle.rapid_meaning.specs.Flows.{Way}
use Rattle.rapid_meaning.specs.Frames.{enters, has_room, leaves}
use Rattle.rapid_meaning.specs.Functions.{read_signal, shown, when_at, when_bit}
use Rattle.rapid_meaning.specs.Interrupts.{connect, when_connected, when_known, when_ordered}
use Rattle.rapid_meaning.specs.Meetings.{arrive, task_or_fault, when_arrived, with_tasks}
use Rattle.rapid_meaning.specs.Moves.{aim, cap_of, further, has_next, still, when_located}
use Rattle.rapid_meaning.specs.Places.{indexed, kept_place, load, own_place, part_at, read_value, store, test_and_set, when_read, when_tested}
use Rattle.rapid_meaning.specs.Signals.{when_written}
use Rattle.rapid_meaning.specs.Values.{applied, bit_in, num_in, of_bit, opposite, target_in, text_in, tool_speed_in, truth_in, value_in, whole, with_sign}
use Rattle.rapid_meaning.specs.Zones.{asks_of_zone, defined, when_numbered, when_zoned}
use Rattle.stack_code.specs.CodeData.{CodeData}
use Rattle.stack_code.specs.Confs.{Conf, Failed, Running, Saved, Started, Called, Trapped, conf}
use Rattle.stack_code.specs.Entering.{enter, entered, frame_in, started}
use Rattle.stack_code.specs.Functions.{of_value}
use Rattle.stack_code.specs.Operands.{on_many, on_mark, on_place, on_shape, on_top, on_truth, on_value, on_values, values_in}
use Rattle.stack_code.specs.Placed.{Own, Placed as Laid, placed_at}
use Rattle.stack_code.specs.Raising.{back_to, handler_of, part_or, part_unless, raised_again, raised_out, raised_to, retried, returned, skipped}
use Rattle.stack_code.specs.Steps.{Here, act, act_at, as_truth, calls, counter_at, does, fails, holds, jumps, looked, looks, moves_on, passed, past_turn, points, pushes, set_counter_at, set_in, sets_out, step, stepped, to_next}
use Rattle.stack_code.specs.declared.irq_op.IrqOp.TheVariants as irqs
use Rattle.stack_code.specs.declared.op.Op.{Op}
use Rattle.stack_code.specs.declared.op.Op.TheVariants as ops
use Rattle.stack_code.specs.declared.order_on.OrderOn.TheVariants as orders
use Rattle.stack_code.specs.declared.routine_row.RoutineRow.{RoutineRow}
use Rattle.stack_code.specs.declared.tail_kind.TailKind.TheVariants as kinds
use Rattle.stack_code.specs.declared.unary_op.UnaryOp.TheVariants as unary
use Rattle.stack_code.specs.declared.zone_op.ZoneOp.TheVariants as zones
use Rattle.task_steps.specs.Doing.{answered, departs, gathered, named}
use Rattle.task_steps.specs.declared.operands.gathering.Gathering.{Gathering}
use Rattle.task_steps.specs.declared.requests.departure.Departure.{Departure}
use Rattle.task_steps.specs.declared.requests.pending.Pending.{Pending}
use Rattle.task_steps.specs.declared.requests.pending.Pending.TheVariants as pendings
use Rattle.task_machine.proofs.Placing.{Placed, placed_after, placed_aim, placed_applied, placed_bit, placed_connected, placed_define, placed_defined, placed_given, placed_home, placed_if, placed_indexed, placed_known, placed_load, placed_not, placed_num, placed_numbered, placed_or_misfit, placed_ordered, placed_part, placed_raised, placed_read, placed_read_value, placed_sign, placed_speed, placed_store, placed_target, placed_task, placed_tasks, placed_test, placed_text, placed_then, placed_truth, placed_value, placed_way, placed_written, placed_zoned}

-- errors
placed_part_unless : (o : Option Failed) (handler : ℕ) (own : Own) (frame : Running) (saved : List Saved) (error : ℕ) (outside : Doing Conf) (d : Data) → Placed outside d
    → Placed (part_unless o handler own frame saved error outside) d
placed_part_unless (Some failed) handler own frame saved error outside d it = it
placed_part_unless None handler own frame saved error outside d it = placed_then (change (λ e. record e { errno = error })) _ d tt (λ v e. tt)

placed_part_or : (o : Option ℕ) (own : Own) (frame : Running) (saved : List Saved) (error : ℕ) (outside : Doing Conf) (d : Data) → Placed outside d
    → Placed (part_or o own frame saved error outside) d
placed_part_or None own frame saved error outside d it = it
placed_part_or (Some handler) own frame saved error outside d it = placed_part_unless frame.failed handler own frame saved error outside d it

placed_raised_to : (code : CodeData) (saved : List Saved) (error : ℕ) (d : Data) → Placed (raised_to code saved error) d
unfolding raised_to
placed_raised_to code [] error d = tt
placed_raised_to code (Started ∷ saved) error d = tt
placed_raised_to code (Trapped at frame way ∷ saved) error d = tt
placed_raised_to code (Called at own stack frame ∷ saved) error d =
    placed_part_or (handler_of code frame.routine) own frame saved error _ d (placed_then leaves _ d tt (λ v e. placed_raised_to code saved error e))

placed_raised_out : (code : CodeData) (saved : List Saved) (error : ℕ) (d : Data) → Placed (raised_out code saved error) d
placed_raised_out code saved error d = placed_then leaves _ d tt (λ v e. placed_raised_to code saved error e)

placed_fails : (h : Here) (error : ℕ) (d : Data) → Placed (fails h error) d
placed_fails h error d = placed_part_or (handler_of h.code h.conf.frame.routine) h.own h.conf.frame h.conf.saved error _ d (placed_raised_out h.code h.conf.saved error d)

placed_pushes : {A : Type 0} (h : Here) (stack : List Datum) (form : A → Datum) (m : Doing A) (d : Data) → Placed m d → Placed (pushes h stack form m) d
placed_pushes h stack form m d own = placed_after m (λ v. to_next h (form v ∷ stack)) (fails h) d own (λ v e. tt) (λ n e. placed_fails h n e)

placed_does : {A : Type 0} (h : Here) (stack : List Datum) (m : Doing A) (d : Data) → Placed m d → Placed (does h stack m) d
placed_does h stack m d own = placed_after m (λ v. to_next h stack) (fails h) d own (λ v e. tt) (λ n e. placed_fails h n e)

-- operands
placed_top : (stack : List Datum) (next : Datum → List Datum → Doing Conf) (d : Data) → ((x : Datum) (rest : List Datum) → Placed (next x rest) d) → Placed (on_top stack next) d
placed_top [] next d own = tt
placed_top (x ∷ rest) next d own = own x rest

on_value_placed : (stack : List Datum) (next : Value → List Datum → Doing Conf) (d : Data) → ((v : Value) (rest : List Datum) → Placed (next v rest) d) → Placed (on_value stack next) d
on_value_placed (datums.Plain v ∷ rest) next d own = own v rest
on_value_placed stack next d own = tt

on_place_placed : (stack : List Datum) (next : Lvalue → List Datum → Doing Conf) (d : Data) → ((p : Lvalue) (rest : List Datum) → Placed (next p rest) d) → Placed (on_place stack next) d
on_place_placed (datums.Place p ∷ rest) next d own = own p rest
on_place_placed stack next d own = tt

on_mark_placed : (stack : List Datum) (next : ℕ → List Datum → Doing Conf) (d : Data) → ((n : ℕ) (rest : List Datum) → Placed (next n rest) d) → Placed (on_mark stack next) d
on_mark_placed (datums.Mark n ∷ rest) next d own = own n rest
on_mark_placed stack next d own = tt

on_shape_placed : (stack : List Datum) (next : Option Shape → List Datum → Doing Conf) (d : Data) → ((o : Option Shape) (rest : List Datum) → Placed (next o rest) d) → Placed (on_shape stack next) d
on_shape_placed (datums.Shape o ∷ rest) next d own = own o rest
on_shape_placed stack next d own = tt

on_truth_placed : (stack : List Datum) (next : Bool → List Datum → Doing Conf) (d : Data) → ((b : Bool) (rest : List Datum) (e : Data) → Placed (next b rest) e) → Placed (on_truth stack next) d
on_truth_placed stack next d own = on_value_placed stack _ d (λ v rest. placed_then (truth_in v) _ d (placed_truth v d) (λ b e. own b rest e))

on_many_placed : (count : ℕ) (stack : List Datum) (next : List Datum → List Datum → Doing Conf) (d : Data) → ((xs rest : List Datum) → Placed (next xs rest) d) → Placed (on_many count stack next) d
on_many_placed count stack next d own =
    placed_if {A = Conf} (nat_le count (length stack)) (next (reverse (take count stack)) (drop count stack)) Misfit d (own (reverse (take count stack)) (drop count stack)) tt

placed_values : (xs : List Datum) (d : Data) → Placed (values_in xs) d
placed_values [] d = tt
placed_values (x ∷ xs) d = placed_then (value_in x) _ d (placed_value x d) (λ v e. placed_then (values_in xs) _ e (placed_values xs e) (λ vs f. tt))

on_values_placed : (count : ℕ) (stack : List Datum) (next : List Value → List Datum → Doing Conf) (d : Data) → ((vs : List Value) (rest : List Datum) (e : Data) → Placed (next vs rest) e)
    → Placed (on_values count stack next) d
on_values_placed count stack next d own =
    on_many_placed count stack (λ xs rest. values_in xs >>= λ vs. next vs rest) d
    (λ xs rest. placed_then (values_in xs) (λ vs. next vs rest) d (placed_values xs d) (λ vs e. own vs rest e))

-- functions of values
placed_function : (f : Function) (v : Value) (d : Data) → Placed (of_value f v) d
placed_function functions.Abs v d = placed_then (num_in v) _ d (placed_num v d) (λ n e. tt)
placed_function functions.Trunc v d = placed_then (num_in v) _ d (placed_num v d) (λ n e. tt)
placed_function functions.StrLen v d = placed_then (text_in v) _ d (placed_text v d) (λ text e. tt)
placed_function f v d = tt

placed_shown : (v w : Value) (d : Data) → Placed (shown v w) d
placed_shown v w d = placed_then (num_in v) _ d (placed_num v d) (λ n e. placed_then (num_in w) _ e (placed_num w e) (λ count f. tt))

-- routines
placed_enters : (frame : Frame) (d : Data) → Placed (enters frame) d
placed_enters frame d = placed_if {A = ⊤} (has_room d.frames frame) (Writes (record d { frames = frame ∷ d.frames }) done) (fault DepthLimit) d tt tt

placed_entered : (code : CodeData) (routine : ℕ) (row : RoutineRow) (args : List Datum) (saved : List Saved) (d : Data) → Placed (entered code routine row args saved) d
placed_entered code routine row args saved d = placed_then (enters (frame_in code row args)) _ d (placed_enters (frame_in code row args) d) (λ v e. tt)

placed_enter : (code : CodeData) (routine : ℕ) (args : List Datum) (saved : List Saved) (d : Data) → Placed (enter code routine args saved) d
placed_enter code routine args saved d = placed_then (or_misfit (slice_get code.routines routine)) _ d (placed_or_misfit _ d) (λ row e. placed_entered code routine row args saved e)

pub placed_started : (code : CodeData) (d : Data) → Placed (started code) d
placed_started code d = placed_enter code code.main [] (Started ∷ []) d

placed_calls : (h : Here) (routine : ℕ) (d : Data) → Placed (calls h routine) d
placed_calls h routine d =
    placed_then (or_misfit (slice_get h.code.routines routine)) _ d (placed_or_misfit _ d) (λ row e.
    on_many_placed row.args h.conf.stack (λ args rest. entered h.code routine row args (Called h.conf.pc h.own rest h.conf.frame ∷ h.conf.saved)) e
    (λ args rest. placed_entered h.code routine row args (Called h.conf.pc h.own rest h.conf.frame ∷ h.conf.saved) e))

placed_back : (saved : List Saved) (o : Option Value) (d : Data) → Placed (back_to saved o) d
placed_back [] o d = tt
placed_back (Started ∷ saved) o d = tt
placed_back (Trapped at frame way ∷ saved) o d = placed_then (tells requests.Leave) _ d tt (λ v e. placed_then (change (λ g. record g { trapped = false })) _ e tt (λ w f. tt))
placed_back (Called at own stack frame ∷ saved) o d = tt

placed_returned : (saved : List Saved) (o : Option Value) (d : Data) → Placed (returned saved o) d
placed_returned saved o d = placed_then leaves _ d tt (λ v e. placed_back saved o e)

placed_again : (code : CodeData) (c : Conf) (o : Option Failed) (d : Data) → Placed (raised_again code c o) d
placed_again code c None d = tt
placed_again code c (Some failed) d = placed_raised_out code c.saved failed.error d

placed_retried : (c : Conf) (o : Option Failed) (d : Data) → Placed (retried c o) d
placed_retried c None d = tt
placed_retried c (Some failed) d = tt

placed_skipped : (c : Conf) (o : Option Failed) (d : Data) → Placed (skipped c o) d
placed_skipped c None d = tt
placed_skipped c (Some failed) d = tt

placed_looked : (h : Here) (a : Answer) (d : Data) → Placed (looked h a) d
placed_looked h (answers.Go seen) d = placed_then (change _) _ d tt (λ v e. tt)
placed_looked h (answers.Trap number trap) d = placed_then (change (λ g. record g { trapped = true })) _ d tt (λ v e. placed_enter h.code trap [] _ e)
placed_looked h answers.Flood d = tt
placed_looked h a d = tt

placed_look : (h : Here) (d : Data) → Placed (looks h) d
unfolding after
placed_look h d = refl

-- loops and waits
placed_counter : (at : ℕ) (d : Data) → Placed (counter_at at) d
placed_counter at d =
    placed_then (Reads (λ e. Gives (own_place at e.frames))) _ d tt (λ p e. placed_then (read_value p) num_in e (placed_read_value p e) placed_num)

placed_set_counter : (at : ℕ) (n : ℤ) (d : Data) → Placed (set_counter_at at n) d
placed_set_counter at n d = placed_then (Reads (λ e. Gives (own_place at e.frames))) _ d tt (λ p e. placed_store p (datums.Plain (values.Num n)) e)

placed_passed : (at : ℕ) (d : Data) → Placed (passed at) d
placed_passed at d =
    placed_then (counter_at at) _ d (placed_counter at d) (λ variable e.
    placed_then (counter_at (at + 1)) _ e (placed_counter (at + 1) e) (λ last f.
    placed_then (counter_at (at + 2)) _ f (placed_counter (at + 2) f) (λ step g. tt)))

placed_past_turn : (h : Here) (o : Option Op) (d : Data) → Placed (past_turn h o) d
placed_past_turn h None d = tt
placed_past_turn h (Some (ops.Turn k a)) d = tt
placed_past_turn h (Some op) d = tt

placed_stepped : (h : Here) (k a : ℕ) (o : Option ℤ) (d : Data) → Placed (stepped h k a o) d
placed_stepped h k a None d = placed_past_turn h (slice_get h.code.ops a) d
placed_stepped h k a (Some n) d = placed_then (set_counter_at k n) _ d (placed_set_counter k n d) (λ v e. tt)

placed_steps : (h : Here) (k a : ℕ) (d : Data) → Placed (act h (ops.Step k a)) d
placed_steps h k a d =
    placed_then (counter_at k) _ d (placed_counter k d) (λ variable e.
    placed_then (counter_at (k + 2)) _ e (placed_counter (k + 2) e) (λ step f. placed_stepped h k a (sum_of variable step) f))

placed_holds : (h : Here) (to : ℕ) (stack : List Datum) (d : Data) → Placed (holds h to stack) d
placed_holds h to stack d = placed_then (tells (requests.Hold _)) _ d tt (λ v e. placed_then (tells requests.Rise) _ e tt (λ w f. tt))

placed_set_in : (v : Value) (d : Data) → Placed (set_in v) d
placed_set_in (values.Num (pos n)) d = placed_if {A = ℕ} (nat_lt (n / 1_000) (2 ^ 16)) (Gives (n / 1_000)) Misfit d tt tt
placed_set_in (values.Num (negsuc n)) d = tt
placed_set_in v d = tt

-- moves
placed_moves_on : (h : Here) (past : ℕ) (o : Option Way) (d : Data) → Placed (moves_on h past o) d
placed_moves_on h past None d = tt
placed_moves_on h past (Some way) d = placed_if {A = Conf} (has_next (further way)) (sets_out h h.conf.stack (further way)) (Gives (record h.conf { pc = past; way = None })) d tt tt

placed_points : (h : Here) (past : ℕ) (o : Option Way) (d : Data) → Placed (points h past o) d
placed_points h past None d = tt
placed_points h past (Some way) d = tt

-- the table
pub placed_act : (h : Here) (op : Op) (d : Data) → Placed (act h op) d
placed_act h (ops.Push x) d = tt
placed_act h ops.Errno d = tt
placed_act h ops.Drop d = placed_top h.conf.stack _ d (λ x rest. tt)
placed_act h ops.Dup d = placed_top h.conf.stack _ d (λ x rest. tt)
placed_act h ops.Over d = placed_top h.conf.stack _ d (λ y rest. placed_top rest _ d (λ x below. tt))
placed_act h (ops.Slot k) d = tt
placed_act h (ops.Local k) d = placed_pushes h h.conf.stack datums.Place (Reads (λ e. Gives (own_place k e.frames))) d tt
placed_act h (ops.Pers p) d = tt
placed_act h (ops.Ref k) d = placed_pushes h h.conf.stack datums.Place (Reads (λ e. or_misfit (kept_place k e.frames))) d (placed_or_misfit (kept_place k d.frames) d)
placed_act h (ops.Index n) d = on_value_placed h.conf.stack _ d (λ v rest. on_place_placed rest _ d (λ p below. placed_pushes h below datums.Place (indexed (Some n) p v) d (placed_indexed n p v d)))
placed_act h (ops.Part x) d = on_place_placed h.conf.stack _ d (λ p rest. placed_pushes h rest datums.Place (part_at x p) d (placed_part x p d))
placed_act h ops.Load d = on_place_placed h.conf.stack _ d (λ p rest. placed_pushes h rest (λ x. x) (load p) d (placed_load p d))
placed_act h ops.Store d = placed_top h.conf.stack _ d (λ x rest. on_place_placed rest _ d (λ p below. placed_does h below _ d (placed_store p x d)))
placed_act h (ops.GetSignal s) d = placed_pushes h h.conf.stack (λ bit. datums.Plain (of_bit bit)) (read_signal s) d tt
placed_act h (ops.PutSignal s) d = on_value_placed h.conf.stack _ d (λ v rest. placed_does h rest _ d (placed_then (bit_in v) _ d (placed_bit v d) (λ bit e. tt)))
placed_act h ops.Bit d = on_value_placed h.conf.stack _ d (λ v rest. placed_does h h.conf.stack _ d (placed_bit v d))
placed_act h (ops.Pack t) d =
    on_values_placed (length (components t)) h.conf.stack (λ vs rest. pushes h rest datums.Plain (or_misfit (made_of t vs))) d
    (λ vs rest e. placed_pushes h rest datums.Plain (or_misfit (made_of t vs)) e (placed_or_misfit (made_of t vs) e))
placed_act h (ops.Binary o) d = on_value_placed h.conf.stack _ d (λ w rest. on_value_placed rest _ d (λ v below. placed_pushes h below datums.Plain (applied (apply o v w)) d (placed_applied (apply o v w) d)))
placed_act h (ops.Unary unary.Minus) d = on_value_placed h.conf.stack _ d (λ v rest. placed_pushes h rest datums.Plain (with_sign true v) d (placed_sign v d))
placed_act h (ops.Unary unary.Not) d = on_value_placed h.conf.stack _ d (λ v rest. placed_pushes h rest datums.Plain (opposite v) d (placed_not v d))
placed_act h (ops.Func functions.NumToStr) d = on_value_placed h.conf.stack _ d (λ w rest. on_value_placed rest _ d (λ v below. placed_pushes h below datums.Plain (shown v w) d (placed_shown v w d)))
placed_act h (ops.Func f) d = on_value_placed h.conf.stack _ d (λ v rest. placed_pushes h rest datums.Plain (of_value f v) d (placed_function f v d))
placed_act h (ops.Jump a) d = tt
placed_act h (ops.JumpTrue a) d = on_truth_placed h.conf.stack (λ b rest. if b then jumps h a rest else to_next h rest) d (λ b rest e. placed_if b (jumps h a rest) (to_next h rest) e tt tt)
placed_act h (ops.JumpFalse a) d = on_truth_placed h.conf.stack (λ b rest. if b then to_next h rest else jumps h a rest) d (λ b rest e. placed_if b (to_next h rest) (jumps h a rest) e tt tt)
placed_act h ops.Look d = placed_look h d
placed_act h (ops.Call r) d = placed_calls h r d
placed_act h ops.Back d = placed_returned h.conf.saved None d
placed_act h ops.BackWith d = on_value_placed h.conf.stack _ d (λ v rest. placed_returned h.conf.saved (Some v) d)
placed_act h ops.NoBack d = tt
placed_act h ops.Raise d = on_value_placed h.conf.stack _ d (λ v rest. placed_does h rest _ d (placed_raised v d))
placed_act h ops.Again d = placed_again h.code h.conf h.conf.frame.failed d
placed_act h ops.Retry d = placed_retried h.conf h.conf.frame.failed d
placed_act h ops.Next d = placed_skipped h.conf h.conf.frame.failed d
placed_act h ops.Exit d = tt
placed_act h (ops.Turn k a) d = placed_then (passed k) (λ b. if b then jumps h a h.conf.stack else to_next h h.conf.stack) d (placed_passed k d) (λ b e. placed_if b (jumps h a h.conf.stack) (to_next h h.conf.stack) e tt tt)
placed_act h (ops.Step k a) d = placed_steps h k a d
placed_act h (ops.Wait a) d = on_truth_placed h.conf.stack (λ b rest. if b then to_next h rest else holds h a rest) d (λ b rest e. placed_if b (to_next h rest) (holds h a rest) e tt (placed_holds h a rest e))
placed_act h ops.TestSet d = on_place_placed h.conf.stack _ d (λ p rest. placed_pushes h rest as_truth (test_and_set p) d (placed_test p d))
placed_act h (ops.TaskSet n) d = on_place_placed h.conf.stack _ d (λ list rest. placed_pushes h rest (λ set. datums.Plain (whole set)) (with_tasks h.code.tasks list n 1 0) d (placed_tasks h.code.tasks list n 1 0 d))
placed_act h (ops.Arrive g) d = on_value_placed h.conf.stack _ d (λ set rest. placed_pushes h rest as_truth (set_in set >>= λ tasks. arrive g tasks) d (placed_then (set_in set) _ d (placed_set_in set d) (λ tasks e. tt)))
placed_act h ops.Here d = placed_pushes h h.conf.stack datums.Plain (Asks requests.Position when_at) d tt
placed_act h ops.Still d = placed_does h h.conf.stack still d (placed_if {A = ⊤} d.trapped (fault MoveInTrap) done d tt tt)
placed_act h ops.Aim d =
    on_value_placed h.conf.stack _ d (λ speed rest. on_value_placed rest _ d (λ to below.
    placed_after (target_in to >>= λ joints. tool_speed_in speed >>= λ n. aim h.code.axes joints n) (sets_out h below) (fails h) d
    (placed_then (target_in to) _ d (placed_target to d) (λ joints e. placed_then (tool_speed_in speed) _ e (placed_speed speed e) (λ n f. placed_aim h.code.axes joints n f)))
    (λ way e. tt) (λ n e. placed_fails h n e)))
placed_act h (ops.Point past) d = placed_points h past h.conf.way d
placed_act h (ops.Connect r) d = on_mark_placed h.conf.stack _ d (λ old rest. on_place_placed rest _ d (λ p below. placed_does h below (connect p old r) d tt))
placed_act h (ops.Order (orders.Signal s) b) d =
    on_mark_placed h.conf.stack _ d (λ n rest. on_value_placed rest _ d (λ v below. placed_does h below _ d (placed_then (bit_in v) _ d (placed_bit v d) (λ bit e. tt))))
placed_act h (ops.Order (orders.Pers p) b) d = on_mark_placed h.conf.stack _ d (λ n rest. placed_does h rest _ d tt)
placed_act h (ops.Irq irqs.Sleep) d = on_mark_placed h.conf.stack _ d (λ n rest. placed_does h rest _ d tt)
placed_act h (ops.Irq irqs.Watch) d = on_mark_placed h.conf.stack _ d (λ n rest. placed_does h rest _ d tt)
placed_act h (ops.Irq irqs.Delete) d = on_mark_placed h.conf.stack _ d (λ n rest. placed_does h rest _ d tt)
placed_act h (ops.Irq irqs.Disable) d = placed_does h h.conf.stack (tells requests.Disable) d tt
placed_act h (ops.Irq irqs.Enable) d = placed_does h h.conf.stack (tells requests.Enable) d tt
placed_act h (ops.Shape inside false) d =
    on_value_placed h.conf.stack _ d (λ w rest. on_value_placed rest _ d (λ v below. on_place_placed below _ d (λ p bottom. placed_does h bottom _ d
    (placed_then (target_in v) _ d (placed_target v d) (λ low e. placed_then (target_in w) _ e (placed_target w e) (λ high f. placed_define h.code.axes p inside low high f))))))
placed_act h (ops.Shape inside true) d =
    on_value_placed h.conf.stack _ d (λ w rest. on_value_placed rest _ d (λ v below. on_place_placed below _ d (λ p bottom. placed_does h bottom _ d
    (placed_then (target_in v) _ d (placed_target v d) (λ middle e. placed_then (target_in w) _ e (placed_target w e) (λ delta f. placed_home h.code.axes p inside middle delta f))))))
placed_act h (ops.ZoneSet temporary) d =
    on_shape_placed h.conf.stack _ d (λ held rest. on_mark_placed rest _ d (λ old below. on_place_placed below _ d (λ p bottom. placed_does h bottom _ d
    (placed_then (defined held) _ d (placed_defined held d) (λ shape e. tt)))))
placed_act h (ops.ZoneTie temporary s) d =
    on_value_placed h.conf.stack _ d (λ v rest. on_shape_placed rest _ d (λ held below. on_mark_placed below _ d (λ old bottom. on_place_placed bottom _ d (λ p base. placed_does h base _ d
    (placed_then (bit_in v) _ d (placed_bit v d) (λ bit e. placed_then (defined held) _ e (placed_defined held e) (λ shape f. tt)))))))
placed_act h (ops.Zone zones.On) d = on_mark_placed h.conf.stack _ d (λ n rest. on_place_placed rest _ d (λ p below. placed_does h below _ d tt))
placed_act h (ops.Zone zones.Off) d = on_mark_placed h.conf.stack _ d (λ n rest. on_place_placed rest _ d (λ p below. placed_does h below _ d tt))
placed_act h (ops.Zone zones.Free) d =
    on_mark_placed h.conf.stack _ d (λ n rest. on_place_placed rest _ d (λ p below. placed_does h below _ d
    (placed_then (asks_of_zone (requests.ZoneFree n)) _ d tt (λ v e. placed_store p (datums.Mark 0) e))))
placed_act h (ops.Say kinds.None) d = on_value_placed h.conf.stack _ d (λ v rest. placed_does h rest _ d (placed_then (text_in v) _ d (placed_text v d) (λ text e. tt)))
placed_act h (ops.Say kinds.Num) d =
    on_value_placed h.conf.stack _ d (λ w rest. on_value_placed rest _ d (λ v below. placed_does h below _ d
    (placed_then (text_in v) _ d (placed_text v d) (λ text e. placed_then (num_in w) _ e (placed_num w e) (λ n f. tt)))))
placed_act h (ops.Say kinds.Bool) d =
    on_value_placed h.conf.stack _ d (λ w rest. on_value_placed rest _ d (λ v below. placed_does h below _ d
    (placed_then (text_in v) _ d (placed_text v d) (λ text e. placed_then (truth_in w) _ e (placed_truth w e) (λ b f. tt)))))

placed_act_at : (code : CodeData) (c : Conf) (o : Option Laid) (d : Data) → Placed (act_at code c o) d
placed_act_at code c None d = tt
placed_act_at code c (Some laid) d = placed_act (record { code = code; own = laid.own; conf = c }) laid.op d

pub placed_step : (code : CodeData) (c : Conf) (d : Data) → Placed (step code c) d
placed_step code c d = placed_act_at code c (placed_at code c.pc) d

-- what follows an answer
placed_ok : (a : Answer) (d : Data) → Placed (when_ok a) d
placed_ok answers.Ok d = tt
placed_ok a d = tt

placed_tested : (a : Answer) (d : Data) → Placed (when_tested a) d
placed_tested (answers.Yes met) d = tt
placed_tested a d = tt

placed_sensed : (a : Answer) (d : Data) → Placed (when_bit a) d
placed_sensed (answers.Bit bit) d = tt
placed_sensed a d = tt

placed_arrived : (a : Answer) (d : Data) → Placed (when_arrived a) d
placed_arrived answers.Met d = tt
placed_arrived answers.Apart d = tt
placed_arrived a d = tt

placed_located : (a : Answer) (d : Data) → Placed (when_at a) d
placed_located (answers.At position) d = tt
placed_located a d = tt

placed_gathered : (names : List (List ℕ)) (g : Gathering) (v : Value) (d : Data) → Placed (gathered names g v) d
placed_gathered names g v d =
    placed_then (named names g.set v) _ d
    (placed_then (text_in v) _ d (placed_text v d) (λ name e. placed_then (task_or_fault (position (bytes_eq name) names)) _ e (placed_task (position (bytes_eq name) names) e) (λ task f. tt)))
    (λ more e. placed_tasks names g.list (g.len - (g.read + 1)) (g.read + 1 + 1) more e)

placed_departs : (axes : ℕ) (departure : Departure) (a : Answer) (d : Data) → Placed (departs axes departure a) d
placed_departs axes departure a d =
    placed_if {A = Way} (departure.axes == axes) (when_located axes departure.target (cap_of departure.speed) a) Misfit d (placed_way axes departure.target (cap_of departure.speed) a d) tt

pub placed_answered : (h : Here) (pending : Pending) (a : Answer) (d : Data) → Placed (answered h pending a) d
placed_answered h pendings.Looked a d = placed_looked h a d
placed_answered h pendings.Read a d = placed_pushes h h.conf.stack (λ x. x) (when_read a) d (placed_read a d)
placed_answered h (pendings.Gathered g) a d =
    placed_pushes h h.conf.stack (λ set. datums.Plain (whole set)) ((when_read a >>= value_in) >>= gathered h.code.tasks g) d
    (placed_then (when_read a >>= value_in) (gathered h.code.tasks g) d (placed_then (when_read a) value_in d (placed_read a d) placed_value) (λ v e. placed_gathered h.code.tasks g v e))
placed_answered h pendings.Confirmed a d = placed_does h h.conf.stack (when_ok a) d (placed_ok a d)
placed_answered h pendings.Tested a d = placed_pushes h h.conf.stack as_truth (when_tested a) d (placed_tested a d)
placed_answered h pendings.Sensed a d = placed_pushes h h.conf.stack (λ bit. datums.Plain (of_bit bit)) (when_bit a) d (placed_sensed a d)
placed_answered h pendings.Written a d = placed_does h h.conf.stack (when_written a) d (placed_written a d)
placed_answered h pendings.Arrived a d = placed_pushes h h.conf.stack as_truth (when_arrived a) d (placed_arrived a d)
placed_answered h pendings.Located a d = placed_pushes h h.conf.stack datums.Plain (when_at a) d (placed_located a d)
placed_answered h (pendings.Departed departure) a d =
    placed_after (departs h.code.axes departure a) (sets_out h h.conf.stack) (fails h) d (placed_departs h.code.axes departure a d) (λ way e. tt) (λ n e. placed_fails h n e)
placed_answered h (pendings.Pointed past) a d = placed_given (moves_on h past h.conf.way) a d (placed_moves_on h past h.conf.way d)
placed_answered h (pendings.Connected place) a d = placed_does h h.conf.stack (when_connected place a) d (placed_connected place a d)
placed_answered h pendings.Ordered a d = placed_does h h.conf.stack (when_ordered a) d (placed_ordered a d)
placed_answered h pendings.Known a d = placed_does h h.conf.stack (when_known a) d (placed_known a d)
placed_answered h (pendings.Supervised place) a d = placed_does h h.conf.stack (when_numbered place a) d (placed_numbered place a d)
placed_answered h pendings.Zoned a d = placed_does h h.conf.stack (when_zoned a) d (placed_zoned a d)
placed_answered h (pendings.Freed place) a d =
    placed_does h h.conf.stack (when_zoned a >> store place (datums.Mark 0)) d (placed_then (when_zoned a) _ d (placed_zoned a d) (λ v e. placed_store place (datums.Mark 0) e))
placed_answered h (pendings.Held to) a d = placed_then (when_ok a) _ d (placed_ok a d) (λ v e. placed_then (tells requests.Rise) _ e tt (λ w f. tt))
placed_answered h (pendings.Risen to) a d = placed_then (when_ok a) _ d (placed_ok a d) (λ v e. tt)
placed_answered h pendings.Left a d = placed_then (when_ok a) _ d (placed_ok a d) (λ v e. placed_then (change (λ g. record g { trapped = false })) _ e tt (λ w f. tt))
