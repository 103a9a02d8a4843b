-- What every doing of a task keeps: its frames keep to their limits, it ends with as many frames as it began with, a
-- Hold carries the count that a Look of its own routine found, other routines leave that count as it is, and the task
-- looks after Rise.
use Rattle.std.proofs.Common.{◌≡◌, refl, sym, subst, ℕ, zero, suc, ◌+◌, ◌/◌, ◌%◌, ◌==◌, Bool, true, false, not, ℤ, pos, negsuc, int_lt, List, [], ◌∷◌, Option, None, Some, Result, Ok, Err, if◌then◌else◌, slice_get, position}
use Rattle.std.specs.Prelude.{⊤, ◌&&◌, nat_le, nat_lt, bytes_eq}
use Rattle.std.specs.Ordering.{int_eq}
use Rattle.rapid_limits.specs.declared.TheConstants.{MOST_TASKS}
use Rattle.rapid_num.specs.Reach.{is_reachable}
use Rattle.rapid_num.specs.declared.joints.Joints.{Joints}
use Rattle.rapid_num.specs.declared.shape.Shape.{Shape}
use Rattle.joint_clip.specs.Shapes.{made_shape}
use Rattle.joint_clip.specs.declared.shape_fault.ShapeFault.{ShapeFault}
use Rattle.rapid_model.specs.declared.answer.Answer.{Answer}
use Rattle.rapid_model.specs.declared.answer.Answer.TheVariants as answers
use Rattle.rapid_model.specs.declared.fate.Fate.{Fate}
use Rattle.rapid_model.specs.declared.fate.Fault.{Fault}
use Rattle.rapid_model.specs.declared.fate.Fault.TheVariants.{DepthLimit}
use Rattle.rapid_model.specs.declared.function.Function.{Function}
use Rattle.rapid_model.specs.declared.function.Function.TheVariants as functions
use Rattle.rapid_model.specs.declared.instruction.Instruction.{Instruction}
use Rattle.rapid_model.specs.declared.instruction.Instruction.TheVariants as instructions
use Rattle.rapid_model.specs.declared.part_name.PartName.{PartName}
use Rattle.rapid_model.specs.declared.request.Request.{Request}
use Rattle.rapid_model.specs.declared.request.Request.TheVariants as requests
use Rattle.rapid_model.specs.declared.value.Value.{Value}
use Rattle.rapid_model.specs.declared.value.Value.TheVariants as values
use Rattle.rapid_model.specs.declared.watched.Watched.{Watched}
use Rattle.rapid_model.specs.declared.operator.Operator.{Operator}
use Rattle.rapid_model.specs.declared.operator.Operator.TheVariants as operators
use Rattle.rapid_model.specs.declared.routine_kind.RoutineKind.{RoutineKind}
use Rattle.rapid_model.specs.declared.routine_kind.RoutineKind.TheVariants as kinds
use Rattle.rapid_values.specs.Operators.{apply}
use Rattle.rapid_values.specs.declared.applied.Applied.{Applied}
use Rattle.rapid_values.specs.declared.applied.Applied.TheVariants as applies
use Rattle.typed_trees.specs.Plain as trees
use Rattle.typed_trees.specs.Plain.{TypedArg, TypedArgs, TypedArms, TypedCases, TypedElse, TypedExpr, TypedExprs, TypedPlace, TypedRoutine, TypedSteps, TypedStmt, TypedStmts, TypedTree, NoExprs, MoreExprs, NoSteps, MoreSteps, NotHeld, Held, PlaceOf, Given, Lent, OfSignal, OfMeeting, Itself, Optional, Argument, NoArgs, MoreArgs, NoStmts, MoreStmts, NoArms, MoreArms, NoCases, MoreCases, NoElse, Else}
use Rattle.typed_trees.specs.declared.datum.Datum.{Datum}
use Rattle.typed_trees.specs.declared.datum.Datum.TheVariants as datums
use Rattle.typed_trees.specs.declared.datum.Lvalue.{Lvalue}
use Rattle.typed_trees.specs.declared.datum.Root.{Root}
use Rattle.typed_trees.specs.declared.datum.Root.TheVariants as roots
use Rattle.typed_trees.specs.declared.expr.TreeRoot.{TreeRoot}
use Rattle.typed_trees.specs.declared.expr.TreeRoot.TheVariants as tree_roots
use Rattle.rapid_meaning.specs.Calls.{body, called, part, result, within}
use Rattle.rapid_meaning.specs.Data.{Data, Frame, below_first, put_at, seen_in, with_seen}
use Rattle.rapid_meaning.specs.Doings.{Doing, Gives, Raises, Asks, Ends, Misfit, Reads, Writes, Does, ◌>>=◌, ◌>>◌, after, change, done, fault, goes_to, or_misfit, tells, when_ok}
use Rattle.rapid_meaning.specs.Errors.{failed_in, header, parted, raised_again}
use Rattle.rapid_meaning.specs.Expressions as expressions
use Rattle.rapid_meaning.specs.Expressions.{returned}
use Rattle.rapid_meaning.specs.Flows.{Flow, Normal, Jumps, Returns, Retries, Skips, Errors, Unguarded, Guarded, InPart, Way, Where, Part, Attempt, Turn, Leg, Rest, Call}
use Rattle.rapid_meaning.specs.Frames.{frame_of, has_room, leaves}
use Rattle.rapid_meaning.specs.Functions.{absolute, read_signal, shown, text_length, truncated, when_at, when_bit}
use Rattle.rapid_meaning.specs.Instructions as instructing
use Rattle.rapid_meaning.specs.Instructions.{aimed, instructed, needed, options}
use Rattle.rapid_meaning.specs.Interrupts.{connect, number_at, order, pers_at, when_connected, when_known, when_ordered}
use Rattle.rapid_meaning.specs.Lists as lists
use Rattle.rapid_meaning.specs.Lists.{behind, ended, items, jumped}
use Rattle.rapid_meaning.specs.Looks.{hold, interrupted, left, look, looked}
use Rattle.rapid_meaning.specs.Loops.{bounds, counted, counter, counter_place, counts_on, has_passed, set_counter, step_value, turn_due}
use Rattle.rapid_meaning.specs.Meetings.{arrive, task_or_fault, tasks_in, when_arrived, with_task, with_tasks}
use Rattle.rapid_meaning.specs.Moves.{aim, cap_of, further, has_next, point, still, when_given, when_located}
use Rattle.rapid_meaning.specs.Places.{at_element, element_or_fault, indexed, load, load_from, part_at, read_value, rooted, set_unless, store, store_at, test_and_set, test_at, when_read, when_tested, write_value, writes_at}
use Rattle.rapid_meaning.specs.Signals.{has_value, when_written, write_signal}
use Rattle.rapid_meaning.specs.Statements.{and_then, assign, byte_of, chosen, connects, done_or_held, follows, inner_or_not, instructs, is_among, leg, points, raised, selected, stmt, turn, turned}
use Rattle.rapid_meaning.specs.Values.{applied, between, bit_in, in_range, mark_in, num_in, opposite, shape_in, target_in, text_in, tool_speed_in, truth_in, value_in, with_sign}
use Rattle.rapid_meaning.specs.Zones.{define, define_home, defined, position_or_fault, shape_at, shaped, supervise, tie, when_numbered, when_zoned}
use Rattle.rapid_meaning.proofs.Counts.{AreKept, IsLeft, all_left, below_counts, counts, found, kept_further, kept_self, left_of_left, put_counts, seen_counts}
use Rattle.rapid_meaning.proofs.Room.{HasRoom, entered_room, left_room, put_room, seen_room}

-- a Hold carries the count of the innermost frame
abbrev pub Fair : Request → Data → Type 0
Fair (requests.Hold seen) d = seen ≡ seen_in d.frames
Fair _ d = ⊤

-- every statement but a label looks
abbrev pub Looks : TypedStmt → Type 0
Looks (trees.Label at label) = ⊥
Looks _ = ⊤

-- it does a part that begins with a Look
abbrev pub LooksNext : {A : Type 0} → Doing A → Type 0
LooksNext (Does (Attempt w s) ended raised) = Looks s
LooksNext (Does (Turn w s) ended raised) = ⊤
LooksNext _ = ⊥

-- after Rise the task looks; it asks End only as it ends
abbrev pub LeadsTo : {A : Type 0} → Request → Doing A → Type 0
LeadsTo requests.Rise m = LooksNext m
LeadsTo (requests.End fate) m = ⊥
LeadsTo _ m = ⊤

-- for any number of frames
abbrev pub Roomy : Bool → List Frame → Type 0
Roomy limited frames = (count : ℕ) × HasRoom limited count frames

-- It ends with this many frames, and at its requests and its end its frames keep these counts. A part of the program
-- leaves as many frames as it found.
abbrev pub Tidy : {A : Type 0} → Bool → ℕ → List ℕ → Doing A → Data → Type 0
Tidy limited count before (Gives v) d = HasRoom limited count d.frames × IsLeft (counts d.frames) before
Tidy limited count before (Raises n) d = HasRoom limited count d.frames × IsLeft (counts d.frames) before
Tidy limited count before (Asks request answered) d =
    Roomy limited d.frames × Fair request d × LeadsTo request (answered answers.Ok) × ((a : Answer) → Tidy limited count (found request a (counts d.frames)) (answered a) d)
    × AreKept request (counts d.frames) before
Tidy limited count before (Ends fate) d = Roomy limited d.frames
Tidy limited count before Misfit d = ⊤
Tidy limited count before (Reads with_data) d = Tidy limited count before (with_data d) d
Tidy limited count before (Writes e more) d = Tidy limited count before more e
Tidy limited count before (Does p ended raised) d =
    (here : ℕ) × HasRoom limited here d.frames × ((flow : Flow) (e : Data) → HasRoom limited here e.frames → Tidy limited count (counts e.frames) (ended flow) e)
    × ((n : ℕ) (e : Data) → HasRoom limited here e.frames → Tidy limited count (counts e.frames) (raised n) e) × IsLeft (counts d.frames) before

-- from any data, it ends with as many frames as it began with
pub record IsTidy {A : Type 0} (m : Doing A) : Type 0 where
  pub from : (limited : Bool) (count : ℕ) (d : Data) → HasRoom limited count d.frames → Tidy limited count (counts d.frames) m d

-- ---- one doing after another

still_looks : {A B : Type 0} (m : Doing A) (f : A → Doing B) (h : ℕ → Doing B) → LooksNext m → LooksNext (after m f h)
unfolding after
still_looks (Does (Attempt w s) k g) f h l = l
still_looks (Does (Turn w s) k g) f h l = l
still_looks (Does (Leg w s way) k g) f h l = absurd l
still_looks (Does (Rest w list more) k g) f h l = absurd l
still_looks (Does (Call routine args) k g) f h l = absurd l
still_looks (Gives v) f h l = absurd l
still_looks (Raises n) f h l = absurd l
still_looks (Asks request k) f h l = absurd l
still_looks (Ends fate) f h l = absurd l
still_looks Misfit f h l = absurd l
still_looks (Reads k) f h l = absurd l
still_looks (Writes d m) f h l = absurd l

still_leads : {A B : Type 0} (request : Request) (m : Doing A) (f : A → Doing B) (h : ℕ → Doing B) → LeadsTo request m → LeadsTo request (after m f h)
still_leads requests.Rise m f h l = still_looks m f h l
still_leads (requests.End fate) m f h l = absurd l
still_leads _ m f h l = tt

-- it keeps the counts that those are left of
tidy_further : {A : Type 0} (limited : Bool) (count : ℕ) (xs ys : List ℕ) (m : Doing A) (d : Data) → Tidy limited count xs m d → IsLeft xs ys → Tidy limited count ys m d
tidy_further limited count xs ys (Gives v) d t left = (t.0, left_of_left (counts d.frames) xs ys t.1 left)
tidy_further limited count xs ys (Raises n) d t left = (t.0, left_of_left (counts d.frames) xs ys t.1 left)
tidy_further limited count xs ys (Asks request k) d t left = (t.0, t.1, t.2, t.3, kept_further request (counts d.frames) xs ys t.4 left)
tidy_further limited count xs ys (Ends fate) d t left = t
tidy_further limited count xs ys Misfit d t left = tt
tidy_further limited count xs ys (Reads k) d t left = tidy_further limited count xs ys (k d) d t left
tidy_further limited count xs ys (Writes e m) d t left = tidy_further limited count xs ys m e t left
tidy_further limited count xs ys (Does p k g) d t left = (t.0, t.1, t.2, t.3, left_of_left (counts d.frames) xs ys t.4 left)

tidy_after : {A B : Type 0} (limited : Bool) (between count : ℕ) (before : List ℕ) (m : Doing A) (f : A → Doing B) (h : ℕ → Doing B) (d : Data) → Tidy limited between before m d
    → ((v : A) (e : Data) → HasRoom limited between e.frames → Tidy limited count (counts e.frames) (f v) e)
    → ((n : ℕ) (e : Data) → HasRoom limited between e.frames → Tidy limited count (counts e.frames) (h n) e) → Tidy limited count before (after m f h) d
unfolding after
tidy_after limited between count before (Gives v) f h d t tf th = tidy_further limited count (counts d.frames) before (f v) d (tf v d t.0) t.1
tidy_after limited between count before (Raises n) f h d t tf th = tidy_further limited count (counts d.frames) before (h n) d (th n d t.0) t.1
tidy_after limited between count before (Asks request k) f h d t tf th =
    (t.0, t.1, still_leads request (k answers.Ok) f h t.2, λ a. tidy_after limited between count (found request a (counts d.frames)) (k a) f h d (t.3 a) tf th, t.4)
tidy_after limited between count before (Ends fate) f h d t tf th = t
tidy_after limited between count before Misfit f h d t tf th = tt
tidy_after limited between count before (Reads k) f h d t tf th = tidy_after limited between count before (k d) f h d t tf th
tidy_after limited between count before (Writes e m) f h d t tf th = tidy_after limited between count before m f h e t tf th
tidy_after limited between count before (Does p k g) f h d t tf th = (
  t.0,
  t.1,
  λ flow e room. tidy_after limited between count (counts e.frames) (k flow) f h e (t.2 flow e room) tf th,
  λ n e room. tidy_after limited between count (counts e.frames) (g n) f h e (t.3 n e room) tf th,
  t.4,
)

t_after : {A B : Type 0} {m : Doing A} {f : A → Doing B} {h : ℕ → Doing B} → IsTidy m → ((v : A) → IsTidy (f v)) → ((n : ℕ) → IsTidy (h n)) → IsTidy (after m f h)
t_after {m = m} {f = f} {h = h} t tf th = record {
  from = λ limited count d room.
      tidy_after limited count count (counts d.frames) m f h d (t.from limited count d room) (λ v e later. (tf v).from limited count e later) (λ n e later. (th n).from limited count e later);
}

t_gives : {A : Type 0} {v : A} → IsTidy (Gives v)
t_gives = record { from = λ limited count d room. (room, all_left (counts d.frames)) }

t_raises : {A : Type 0} {n : ℕ} → IsTidy {A = A} (Raises n)
t_raises = record { from = λ limited count d room. (room, all_left (counts d.frames)) }

t_ends : {A : Type 0} {fate : Fate} → IsTidy {A = A} (Ends fate)
t_ends = record { from = λ limited count d room. (count, room) }

t_fault : {A : Type 0} {f : Fault} → IsTidy {A = A} (fault f)
t_fault = record { from = λ limited count d room. (count, room) }

t_misfit : {A : Type 0} → IsTidy {A = A} Misfit
t_misfit = record { from = λ limited count d room. tt }

pub t_then : {A B : Type 0} {m : Doing A} {f : A → Doing B} → IsTidy m → ((v : A) → IsTidy (f v)) → IsTidy (m >>= f)
t_then t tf = t_after t tf (λ n. t_raises)

t_next : {A B : Type 0} {m : Doing A} {k : Doing B} → IsTidy m → IsTidy k → IsTidy (m >> k)
t_next t tk = t_after t (λ _. tk) (λ n. t_raises)

t_reads : {A : Type 0} {k : Data → Doing A} → ((d : Data) → IsTidy (k d)) → IsTidy (Reads k)
t_reads t = record { from = λ limited count d room. (t d).from limited count d room }

t_change : (to : Data → Data) → ((d : Data) → (to d).frames ≡ d.frames) → IsTidy (change to)
t_change to keeps = record {
  from = λ limited count d room. subst (λ (later : List Frame). HasRoom limited count later × IsLeft (counts later) (counts d.frames)) (sym (keeps d)) (room, all_left (counts d.frames));
}

t_does : {A : Type 0} {p : Part} {k : Flow → Doing A} {h : ℕ → Doing A} → ((flow : Flow) → IsTidy (k flow)) → ((n : ℕ) → IsTidy (h n)) → IsTidy (Does p k h)
t_does tk th = record {
  from = λ limited count d room.
      (count, room, λ flow e later. (tk flow).from limited count e later, λ n e later. (th n).from limited count e later, all_left (counts d.frames));
}

t_goes : {p : Part} → IsTidy (goes_to p)
t_goes = t_does (λ flow. t_gives) (λ n. t_raises)

-- any request but a Look, a Hold, a Rise and an End
abbrev IsPlain : Request → Type 0
IsPlain (requests.End fate) = ⊥
IsPlain requests.Look = ⊥
IsPlain (requests.Hold seen) = ⊥
IsPlain requests.Rise = ⊥
IsPlain _ = ⊤

plain_fair : (request : Request) (d : Data) → IsPlain request → Fair request d
plain_fair (requests.Hold seen) d plain = absurd plain
plain_fair _ d plain = tt

plain_leads : {A : Type 0} (request : Request) (m : Doing A) → IsPlain request → LeadsTo request m
plain_leads requests.Rise m plain = absurd plain
plain_leads (requests.End fate) m plain = absurd plain
plain_leads _ m plain = tt

plain_found : (request : Request) (a : Answer) (before : List ℕ) → IsPlain request → before ≡ found request a before
plain_found requests.Look a before plain = absurd plain
plain_found _ a before plain = refl

t_asks : {A : Type 0} {request : Request} {k : Answer → Doing A} → IsPlain request → ((a : Answer) → IsTidy (k a)) → IsTidy (Asks request k)
t_asks {request = request} {k = k} plain t = record {
  from = λ limited count d room. (
    (count, room),
    plain_fair request d plain,
    plain_leads request (k answers.Ok) plain,
    λ a. subst (λ (before : List ℕ). Tidy limited count before (k a) d) (plain_found request a (counts d.frames) plain) ((t a).from limited count d room),
    kept_self request (counts d.frames),
  );
}

t_if : {A : Type 0} {m k : Doing A} (b : Bool) → IsTidy m → IsTidy k → IsTidy (if b then m else k)
t_if true t u = t
t_if false t u = u

t_or : {A : Type 0} (o : Option A) → IsTidy (or_misfit o)
t_or None = t_misfit
t_or (Some v) = t_gives

t_ok : (a : Answer) → IsTidy (when_ok a)
t_ok answers.Ok = t_gives
t_ok _ = t_misfit

t_tells : {request : Request} → IsPlain request → IsTidy (tells request)
t_tells plain = t_asks plain t_ok

-- ---- values

t_value_in : (x : Datum) → IsTidy (value_in x)
t_value_in (datums.Plain v) = t_gives
t_value_in _ = t_misfit

t_mark_in : (x : Datum) → IsTidy (mark_in x)
t_mark_in (datums.Mark n) = t_gives
t_mark_in _ = t_misfit

t_shape_in : (x : Datum) → IsTidy (shape_in x)
t_shape_in (datums.Shape s) = t_gives
t_shape_in _ = t_misfit

t_num_in : (v : Value) → IsTidy (num_in v)
t_num_in (values.Num n) = t_gives
t_num_in _ = t_misfit

t_truth_in : (v : Value) → IsTidy (truth_in v)
t_truth_in (values.Bool b) = t_gives
t_truth_in _ = t_misfit

t_text_in : (v : Value) → IsTidy (text_in v)
t_text_in (values.Text text) = t_gives
t_text_in _ = t_misfit

t_target_in : (v : Value) → IsTidy (target_in v)
t_target_in (values.Target joints) = t_gives
t_target_in _ = t_misfit

t_tool_speed_in : (v : Value) → IsTidy (tool_speed_in v)
t_tool_speed_in (values.Speed (tool ∷ others)) = t_gives
t_tool_speed_in (values.Speed []) = t_misfit
t_tool_speed_in _ = t_misfit

t_bit_in : (v : Value) → IsTidy (bit_in v)
t_bit_in (values.Num n) = t_if (int_eq n (pos 0)) t_gives (t_if (int_eq n (pos 1_000)) t_gives t_fault)
t_bit_in _ = t_misfit

t_in_range : (n : Option ℤ) → IsTidy (in_range n)
t_in_range (Some n) = t_gives
t_in_range None = t_fault

t_applied : (a : Applied) → IsTidy (applied a)
t_applied (applies.Gives v) = t_gives
t_applied (applies.Raises n) = t_raises
t_applied applies.OutOfRange = t_fault
t_applied applies.Unfit = t_misfit

t_between : (o : Operator) (v : Value) (right : Doing Value) → IsTidy right → IsTidy (between o v right)
t_between operators.And (values.Bool false) right t = t_gives
t_between operators.And (values.Bool true) right t = t_then t (λ w. t_applied (apply operators.And (values.Bool true) w))
t_between operators.And _ right t = t_misfit
t_between operators.Or (values.Bool true) right t = t_gives
t_between operators.Or (values.Bool false) right t = t_then t (λ w. t_applied (apply operators.Or (values.Bool false) w))
t_between operators.Or _ right t = t_misfit
t_between o v right t = t_then t (λ w. t_applied (apply o v w))

t_opposite : (v : Value) → IsTidy (opposite v)
t_opposite (values.Bool b) = t_gives
t_opposite _ = t_misfit

t_with_sign : (minus : Bool) (v : Value) → IsTidy (with_sign minus v)
t_with_sign minus (values.Num n) = t_gives
t_with_sign minus _ = t_misfit

-- ---- places

t_rooted : (tree : TypedTree) (routine : TypedRoutine) (root : TreeRoot) → IsTidy (rooted tree routine root)
t_rooted tree routine (tree_roots.Slot row) = t_gives
t_rooted tree routine (tree_roots.Local row) = t_reads (λ d. t_gives)
t_rooted tree routine (tree_roots.Ref row) = t_reads (λ d. t_or _)
t_rooted tree routine (tree_roots.Pers row) = t_or _

t_at_element : (p : Lvalue) (number : ℕ) → IsTidy (at_element p number)
t_at_element p number = t_reads (λ d. t_or _)

t_element_or_fault : (p : Lvalue) (number : Option ℕ) → IsTidy (element_or_fault p number)
t_element_or_fault p None = t_fault
t_element_or_fault p (Some number) = t_at_element p number

t_indexed : (len : Option ℕ) (p : Lvalue) (v : Value) → IsTidy (indexed len p v)
t_indexed None p v = t_misfit
t_indexed (Some len) p v = t_then (t_num_in v) (λ n. t_element_or_fault p _)

t_part_at : (part : PartName) (p : Lvalue) → IsTidy (part_at part p)
t_part_at part p = t_or _

t_when_read : (a : Answer) → IsTidy (when_read a)
t_when_read (answers.Val v) = t_gives
t_when_read _ = t_misfit

t_load_from : (root : Root) (part : PartName) → IsTidy (load_from root part)
t_load_from (roots.Pers pers index) part = t_asks tt t_when_read
t_load_from (roots.Slot slot) part = t_reads (λ d. t_or _)
t_load_from (roots.Frame frame at) part = t_reads (λ d. t_or _)

t_load : (p : Lvalue) → IsTidy (load p)
t_load p = t_load_from p.root p.part

t_read_value : (p : Lvalue) → IsTidy (read_value p)
t_read_value p = t_then (t_load p) t_value_in

tidy_writes : (limited : Bool) (count : ℕ) (root : Root) (d : Data) (new : Option Datum) → HasRoom limited count d.frames → Tidy limited count (counts d.frames) (writes_at root d new) d
tidy_writes limited count root d None room = tt
tidy_writes limited count root d (Some x) room =
    (put_room root x d room, subst (λ (before : List ℕ). IsLeft (counts (put_at root x d).frames) before) (put_counts root x d) (all_left (counts (put_at root x d).frames)))

t_store_at : (root : Root) (part : PartName) (new : Datum) → IsTidy (store_at root part new)
t_store_at (roots.Pers pers index) part new = t_then (t_value_in new) (λ v. t_tells tt)
t_store_at (roots.Slot slot) part new = record { from = λ limited count d room. tidy_writes limited count (roots.Slot slot) d _ room }
t_store_at (roots.Frame frame at) part new = record { from = λ limited count d room. tidy_writes limited count (roots.Frame frame at) d _ room }

t_store : (p : Lvalue) (new : Datum) → IsTidy (store p new)
t_store p new = t_store_at p.root p.part new

pub t_write_value : (p : Lvalue) (v : Value) → IsTidy (write_value p v)
t_write_value p v = t_store p (datums.Plain v)

t_when_tested : (a : Answer) → IsTidy (when_tested a)
t_when_tested (answers.Yes met) = t_gives
t_when_tested _ = t_misfit

t_set_unless : (p : Lvalue) (b : Bool) → IsTidy (set_unless p b)
t_set_unless p true = t_gives
t_set_unless p false = t_next (t_write_value p (values.Bool true)) t_gives

t_test_at : (root : Root) (p : Lvalue) → IsTidy (test_at root p)
t_test_at (roots.Pers pers index) p = t_asks tt t_when_tested
t_test_at (roots.Slot slot) p = t_then (t_read_value p) (λ v. t_then (t_truth_in v) (λ b. t_set_unless p b))
t_test_at (roots.Frame frame at) p = t_then (t_read_value p) (λ v. t_then (t_truth_in v) (λ b. t_set_unless p b))

t_test_and_set : (p : Lvalue) → IsTidy (test_and_set p)
t_test_and_set p = t_test_at p.root p

-- ---- functions

t_absolute : (v : Value) → IsTidy (absolute v)
t_absolute v = t_then (t_num_in v) (λ n. t_gives)

t_truncated : (v : Value) → IsTidy (truncated v)
t_truncated v = t_then (t_num_in v) (λ n. t_gives)

t_text_length : (v : Value) → IsTidy (text_length v)
t_text_length v = t_then (t_text_in v) (λ text. t_gives)

t_shown : (v w : Value) → IsTidy (shown v w)
t_shown v w = t_then (t_num_in v) (λ n. t_then (t_num_in w) (λ count. t_gives))

t_when_bit : (a : Answer) → IsTidy (when_bit a)
t_when_bit (answers.Bit bit) = t_gives
t_when_bit _ = t_misfit

t_read_signal : (signal : ℕ) → IsTidy (read_signal signal)
t_read_signal signal = t_asks tt t_when_bit

t_when_at : (a : Answer) → IsTidy (when_at a)
t_when_at (answers.At position) = t_gives
t_when_at _ = t_misfit

-- ---- expressions

t_returned : (flow : Flow) → IsTidy (returned flow)
t_returned (Returns (Some v)) = t_gives
t_returned (Returns None) = t_misfit
t_returned _ = t_misfit

mutual
  t_expr : (tree : TypedTree) (routine : TypedRoutine) (e : TypedExpr) → IsTidy (expressions.expr tree routine e)
  t_expr tree routine (trees.Known at sort v) = t_gives
  t_expr tree routine (trees.ErrorNumber at sort) = t_reads (λ d. t_gives)
  t_expr tree routine (trees.SignalValue at sort signal) = t_then (t_read_signal signal) (λ bit. t_gives)
  t_expr tree routine (trees.Stored at sort p) = t_then (t_place tree routine p) t_read_value
  t_expr tree routine (trees.Group at sort e) = t_expr tree routine e
  t_expr tree routine (trees.Aggregate at sort es) = t_then (t_exprs tree routine es) (λ vs. t_or _)
  t_expr tree routine (trees.Builtin at sort function args) = t_builtin tree routine function args
  t_expr tree routine (trees.Invoke at sort called args) = t_then (t_arguments tree routine args) (λ xs. t_then t_goes t_returned)
  t_expr tree routine (trees.Not at sort e) = t_then (t_expr tree routine e) t_opposite
  t_expr tree routine (trees.Signed at sort minus e) = t_then (t_expr tree routine e) (t_with_sign minus)
  t_expr tree routine (trees.Chain at sort e steps) = t_then (t_expr tree routine e) (t_along tree routine steps)

  t_exprs : (tree : TypedTree) (routine : TypedRoutine) (es : TypedExprs) → IsTidy (expressions.exprs tree routine es)
  t_exprs tree routine NoExprs = t_gives
  t_exprs tree routine (MoreExprs e es) = t_then (t_expr tree routine e) (λ v. t_then (t_exprs tree routine es) (λ vs. t_gives))

  t_along : (tree : TypedTree) (routine : TypedRoutine) (steps : TypedSteps) (v : Value) → IsTidy (expressions.along tree routine steps v)
  t_along tree routine NoSteps v = t_gives
  t_along tree routine (MoreSteps o e steps) v = t_then (t_between o v (expressions.expr tree routine e) (t_expr tree routine e)) (t_along tree routine steps)

  t_place : (tree : TypedTree) (routine : TypedRoutine) (p : TypedPlace) → IsTidy (expressions.place tree routine p)
  t_place tree routine (PlaceOf root NotHeld part sort) = t_then (t_rooted tree routine root) (t_part_at part)
  t_place tree routine (PlaceOf root (Held e) part sort) = t_then (t_rooted tree routine root) (λ p. t_then (t_expr tree routine e) (λ v. t_then (t_indexed _ p v) (t_part_at part)))

  t_arguments : (tree : TypedTree) (routine : TypedRoutine) (args : TypedArgs) → IsTidy (expressions.arguments tree routine args)
  t_arguments tree routine NoArgs = t_gives
  t_arguments tree routine (MoreArgs (Given e) more) = t_then (t_expr tree routine e) (λ v. t_then (t_arguments tree routine more) (λ xs. t_gives))
  t_arguments tree routine (MoreArgs (Lent p) more) = t_then (t_place tree routine p) (λ q. t_then (t_arguments tree routine more) (λ xs. t_gives))
  t_arguments tree routine (MoreArgs other more) = t_misfit

  t_builtin : (tree : TypedTree) (routine : TypedRoutine) (function : Function) (args : TypedArgs) → IsTidy (expressions.builtin tree routine function args)
  t_builtin tree routine functions.Abs (MoreArgs (Given e) NoArgs) = t_then (t_expr tree routine e) t_absolute
  t_builtin tree routine functions.Trunc (MoreArgs (Given e) NoArgs) = t_then (t_expr tree routine e) t_truncated
  t_builtin tree routine functions.StrLen (MoreArgs (Given e) NoArgs) = t_then (t_expr tree routine e) t_text_length
  t_builtin tree routine functions.NumToStr (MoreArgs (Given e) (MoreArgs (Given f) NoArgs)) = t_then (t_expr tree routine e) (λ v. t_then (t_expr tree routine f) (t_shown v))
  t_builtin tree routine functions.Dim (MoreArgs (Lent p) (MoreArgs one NoArgs)) = t_or _
  t_builtin tree routine functions.CJointT NoArgs = t_asks tt t_when_at
  t_builtin tree routine functions.TestDI (MoreArgs (OfSignal signal) NoArgs) = t_then (t_read_signal signal) (λ bit. t_gives)
  t_builtin tree routine functions.DOutput (MoreArgs (OfSignal signal) NoArgs) = t_then (t_read_signal signal) (λ bit. t_gives)
  t_builtin tree routine functions.TestAndSet (MoreArgs (Lent p) NoArgs) = t_then (t_place tree routine p) (λ q. t_then (t_test_and_set q) (λ met. t_gives))
  t_builtin tree routine function args = t_misfit

-- ---- instructions

pub t_num : (tree : TypedTree) (routine : TypedRoutine) (e : TypedExpr) → IsTidy (instructing.num tree routine e)
t_num tree routine e = t_then (t_expr tree routine e) t_num_in

t_truth : (tree : TypedTree) (routine : TypedRoutine) (e : TypedExpr) → IsTidy (instructing.truth tree routine e)
t_truth tree routine e = t_then (t_expr tree routine e) t_truth_in

t_text : (tree : TypedTree) (routine : TypedRoutine) (e : TypedExpr) → IsTidy (instructing.text tree routine e)
t_text tree routine e = t_then (t_expr tree routine e) t_text_in

t_target : (tree : TypedTree) (routine : TypedRoutine) (e : TypedExpr) → IsTidy (instructing.target tree routine e)
t_target tree routine e = t_then (t_expr tree routine e) t_target_in

t_bit : (tree : TypedTree) (routine : TypedRoutine) (e : TypedExpr) → IsTidy (instructing.bit tree routine e)
t_bit tree routine e = t_then (t_expr tree routine e) t_bit_in

t_tail_named : (tree : TypedTree) (routine : TypedRoutine) (b : Bool) (e : TypedExpr) → IsTidy (instructing.tail_named tree routine b e)
t_tail_named tree routine true e = t_then (t_num tree routine e) (λ n. t_gives)
t_tail_named tree routine false e = t_then (t_truth tree routine e) (λ b. t_gives)

t_tail : (tree : TypedTree) (routine : TypedRoutine) (args : List TypedArg) → IsTidy (instructing.tail tree routine args)
t_tail tree routine [] = t_gives
t_tail tree routine (Optional name (Argument (Given e)) ∷ []) = t_tail_named tree routine _ e
t_tail tree routine _ = t_misfit

t_when_written : (a : Answer) → IsTidy (when_written a)
t_when_written answers.Ok = t_gives
t_when_written answers.Tied = t_fault
t_when_written _ = t_misfit

t_write_signal : (signal : ℕ) (value : Bool) → IsTidy (write_signal signal value)
t_write_signal signal value = t_asks tt t_when_written

t_has_value : (signal : ℕ) (value : Bool) → IsTidy (has_value signal value)
t_has_value signal value = t_then (t_read_signal signal) (λ bit. t_gives)

t_task_or_fault : (task : Option ℕ) → IsTidy (task_or_fault task)
t_task_or_fault None = t_fault
t_task_or_fault (Some task) = t_if (nat_lt task MOST_TASKS) t_gives t_misfit

t_with_tasks : (names : List (List ℕ)) (list : Lvalue) (count number set : ℕ) → IsTidy (with_tasks names list count number set)
unfolding with_tasks
t_with_tasks names list zero number set = t_gives
t_with_tasks names list (suc count) number set =
    t_then (t_at_element list number) (λ p. t_then (t_read_value p) (λ v. t_then (t_text_in v) (λ name. t_then (t_task_or_fault (position (bytes_eq name) names))
    (λ task. t_with_tasks names list count (number + 1) (with_task task set)))))

t_tasks_in : (names : List (List ℕ)) (list : Lvalue) (len : Option ℕ) → IsTidy (tasks_in names list len)
t_tasks_in names list None = t_misfit
t_tasks_in names list (Some len) = t_with_tasks names list len 1 0

t_when_arrived : (a : Answer) → IsTidy (when_arrived a)
t_when_arrived answers.Met = t_gives
t_when_arrived answers.Apart = t_gives
t_when_arrived _ = t_misfit

t_arrive : (meeting tasks : ℕ) → IsTidy (arrive meeting tasks)
t_arrive meeting tasks = t_asks tt t_when_arrived

t_number_at : (p : Lvalue) → IsTidy (number_at p)
t_number_at p = t_then (t_load p) t_mark_in

t_when_connected : (p : Lvalue) (a : Answer) → IsTidy (when_connected p a)
t_when_connected p (answers.Number number) = t_store p (datums.Mark number)
t_when_connected p answers.Already = t_raises
t_when_connected p answers.NoMore = t_raises
t_when_connected p _ = t_misfit

t_connect : (p : Lvalue) (old trap : ℕ) → IsTidy (connect p old trap)
t_connect p old trap = t_asks tt (t_when_connected p)

t_when_ordered : (a : Answer) → IsTidy (when_ordered a)
t_when_ordered answers.Ok = t_gives
t_when_ordered answers.Unknown = t_raises
t_when_ordered answers.Already = t_raises
t_when_ordered _ = t_misfit

t_order : (number : ℕ) (on : Watched) (single : Bool) → IsTidy (order number on single)
t_order number on single = t_asks tt t_when_ordered

t_when_known : (a : Answer) → IsTidy (when_known a)
t_when_known answers.Ok = t_gives
t_when_known answers.Unknown = t_raises
t_when_known _ = t_misfit

t_pers_at : (root : Root) → IsTidy (pers_at root)
t_pers_at (roots.Pers pers index) = t_gives
t_pers_at _ = t_misfit

t_shaped : (p : Lvalue) (made : Result Shape ShapeFault) → IsTidy (shaped p made)
t_shaped p (Ok shape) = t_store p (datums.Shape (Some shape))
t_shaped p (Err why) = t_fault

t_define : (axes : ℕ) (p : Lvalue) (inside : Bool) (low high : Joints) → IsTidy (define axes p inside low high)
t_define axes p inside low high = t_shaped p (made_shape inside low high axes)

t_position_or_fault : (axes : Option (List ℤ)) → IsTidy (position_or_fault axes)
t_position_or_fault None = t_fault
t_position_or_fault (Some axes) = t_gives

t_define_home : (axes : ℕ) (p : Lvalue) (inside : Bool) (middle delta : Joints) → IsTidy (define_home axes p inside middle delta)
t_define_home axes p inside middle delta = t_then (t_position_or_fault _) (λ low. t_then (t_position_or_fault _) (λ high. t_define axes p inside low high))

t_defined : (shape : Option Shape) → IsTidy (defined shape)
t_defined None = t_fault
t_defined (Some shape) = t_gives

t_shape_at : (p : Lvalue) → IsTidy (shape_at p)
t_shape_at p = t_then (t_load p) (λ held. t_then (t_shape_in held) t_defined)

t_when_numbered : (p : Lvalue) (a : Answer) → IsTidy (when_numbered p a)
t_when_numbered p (answers.Number number) = t_store p (datums.Mark number)
t_when_numbered p answers.ZoneUsed = t_fault
t_when_numbered p answers.ZoneFull = t_fault
t_when_numbered p answers.Tied = t_fault
t_when_numbered p _ = t_misfit

t_supervise : (p : Lvalue) (old : ℕ) (temporary : Bool) (shape : Shape) → IsTidy (supervise p old temporary shape)
t_supervise p old temporary shape = t_asks tt (t_when_numbered p)

t_tie : (p : Lvalue) (old : ℕ) (temporary : Bool) (held : Option Shape) (signal : ℕ) (value : Bool) → IsTidy (tie p old temporary held signal value)
t_tie p old temporary held signal value = t_then (t_defined held) (λ shape. t_asks tt (t_when_numbered p))

t_when_zoned : (a : Answer) → IsTidy (when_zoned a)
t_when_zoned answers.Ok = t_gives
t_when_zoned answers.NoZone = t_fault
t_when_zoned _ = t_misfit

t_still : IsTidy still
t_still = t_reads (λ d. t_if d.trapped t_fault t_gives)

t_when_located : (axes : ℕ) (target : Joints) (cap : ℕ) (a : Answer) → IsTidy (when_located axes target cap a)
t_when_located axes target cap (answers.At start) = t_gives
t_when_located axes target cap _ = t_misfit

t_aim : (axes : ℕ) (target : Joints) (speed : ℤ) → IsTidy (aim axes target speed)
t_aim axes target speed = t_if (not (is_reachable axes target)) t_fault (t_if (not (int_lt (pos 0) speed)) t_fault (t_asks tt (t_when_located axes target (cap_of speed))))

t_when_given : {A : Type 0} (next : Doing A) (a : Answer) → IsTidy next → IsTidy (when_given next a)
t_when_given next answers.Given t = t
t_when_given next (answers.Stopped zone) t = t_fault
t_when_given next _ t = t_misfit

t_point : {A : Type 0} (way : Way) (next : Doing A) → IsTidy next → IsTidy (point way next)
t_point way next t = t_asks tt (λ a. t_when_given next a t)

t_aimed : (tree : TypedTree) (routine : TypedRoutine) (args : List TypedArg) → IsTidy (aimed tree routine args)
t_aimed tree routine (Given to ∷ Given speed ∷ Itself _ ∷ Itself _ ∷ []) =
    t_next t_still (t_then (t_target tree routine to) (λ joints. t_then (t_expr tree routine speed) (λ v. t_then (t_tool_speed_in v) (λ n. t_aim tree.axes joints n))))
t_aimed tree routine args = t_misfit

t_instructed : (tree : TypedTree) (routine : TypedRoutine) (instruction : Instruction) (args options : List TypedArg) → IsTidy (instructed tree routine instruction args options)
t_instructed tree routine instructions.Set (OfSignal signal ∷ []) options = t_next (t_write_signal signal true) t_gives
t_instructed tree routine instructions.Reset (OfSignal signal ∷ []) options = t_next (t_write_signal signal false) t_gives
t_instructed tree routine instructions.SetDO (OfSignal signal ∷ Given e ∷ []) options = t_then (t_bit tree routine e) (λ b. t_next (t_write_signal signal b) t_gives)
t_instructed tree routine instructions.WaitDI (OfSignal signal ∷ Given e ∷ []) options = t_then (t_bit tree routine e) (t_has_value signal)
t_instructed tree routine instructions.WaitDO (OfSignal signal ∷ Given e ∷ []) options = t_then (t_bit tree routine e) (t_has_value signal)
t_instructed tree routine instructions.WaitUntil (Given e ∷ []) options = t_truth tree routine e
t_instructed tree routine instructions.WaitTime (Given e ∷ []) options = t_next (t_num tree routine e) t_gives
t_instructed tree routine instructions.WaitTestAndSet (Lent p ∷ []) options = t_then (t_place tree routine p) t_test_and_set
t_instructed tree routine instructions.WaitSyncTask (OfMeeting number ∷ Lent list ∷ []) options =
    t_then (t_or _) (λ meeting. t_then (t_place tree routine list) (λ q. t_then (t_tasks_in tree.tasks q _) (t_arrive meeting)))
t_instructed tree routine instructions.TPWrite (Given e ∷ []) options =
    t_then (t_text tree routine e) (λ said. t_then (t_tail tree routine options) (λ more. t_next (t_tells tt) t_gives))
t_instructed tree routine instructions.TPErase [] options = t_gives
t_instructed tree routine instructions.ISignalDI (OfSignal signal ∷ Given e ∷ Lent p ∷ []) options =
    t_then (t_bit tree routine e) (λ b. t_then (t_place tree routine p) (λ q. t_then (t_number_at q) (λ number. t_next (t_order number _ _) t_gives)))
t_instructed tree routine instructions.ISignalDO (OfSignal signal ∷ Given e ∷ Lent p ∷ []) options =
    t_then (t_bit tree routine e) (λ b. t_then (t_place tree routine p) (λ q. t_then (t_number_at q) (λ number. t_next (t_order number _ _) t_gives)))
t_instructed tree routine instructions.IPers (Lent watch ∷ Lent p ∷ []) options =
    t_then (t_place tree routine watch) (λ w. t_then (t_pers_at w.root) (λ pers. t_then (t_place tree routine p) (λ q. t_then (t_number_at q) (λ number. t_next (t_order number _ _) t_gives))))
t_instructed tree routine instructions.ISleep (Lent p ∷ []) options =
    t_then (t_place tree routine p) (λ q. t_then (t_number_at q) (λ number. t_next (t_asks tt t_when_known) t_gives))
t_instructed tree routine instructions.IWatch (Lent p ∷ []) options =
    t_then (t_place tree routine p) (λ q. t_then (t_number_at q) (λ number. t_next (t_asks tt t_when_known) t_gives))
t_instructed tree routine instructions.IDelete (Lent p ∷ []) options =
    t_then (t_place tree routine p) (λ q. t_then (t_number_at q) (λ number. t_next (t_asks tt t_when_known) t_gives))
t_instructed tree routine instructions.IDisable [] options = t_next (t_tells tt) t_gives
t_instructed tree routine instructions.IEnable [] options = t_next (t_tells tt) t_gives
t_instructed tree routine instructions.WZLimJointDef (Lent shape ∷ Given low ∷ Given high ∷ []) options =
    t_then (t_place tree routine shape) (λ q. t_then (t_target tree routine low) (λ l. t_then (t_target tree routine high) (λ h. t_next (t_define tree.axes q _ l h) t_gives)))
t_instructed tree routine instructions.WZHomeJointDef (Lent shape ∷ Given middle ∷ Given delta ∷ []) options =
    t_then (t_place tree routine shape) (λ q. t_then (t_target tree routine middle) (λ m. t_then (t_target tree routine delta) (λ d. t_next (t_define_home tree.axes q _ m d) t_gives)))
t_instructed tree routine instructions.WZLimSup (Lent zone ∷ Lent shape ∷ []) options =
    t_then (t_place tree routine zone) (λ q. t_then (t_number_at q) (λ old. t_then (t_place tree routine shape) (λ p. t_then (t_shape_at p) (λ s. t_next (t_supervise q old _ s) t_gives))))
t_instructed tree routine instructions.WZDOSet (Lent zone ∷ Lent shape ∷ OfSignal signal ∷ Given e ∷ []) options =
    t_then (t_place tree routine zone) (λ q. t_then (t_number_at q) (λ old. t_then (t_place tree routine shape) (λ p. t_then (t_load p) (λ v. t_then (t_shape_in v) (λ held. t_then (t_bit tree routine e) (λ b. t_next (t_tie q old _ held signal b) t_gives))))))
t_instructed tree routine instructions.WZDisable (Lent zone ∷ []) options =
    t_then (t_place tree routine zone) (λ q. t_then (t_number_at q) (λ number. t_next (t_asks tt t_when_zoned) t_gives))
t_instructed tree routine instructions.WZEnable (Lent zone ∷ []) options =
    t_then (t_place tree routine zone) (λ q. t_then (t_number_at q) (λ number. t_next (t_asks tt t_when_zoned) t_gives))
t_instructed tree routine instructions.WZFree (Lent zone ∷ []) options =
    t_then (t_place tree routine zone) (λ q. t_then (t_number_at q) (λ number. t_next (t_asks tt t_when_zoned) (t_next (t_store q (datums.Mark 0)) t_gives)))
t_instructed tree routine instructions.Incr (Lent p ∷ []) options =
    t_then (t_place tree routine p) (λ q. t_then (t_read_value q) (λ v. t_then (t_num_in v) (λ n. t_then (t_in_range _) (λ w. t_next (t_write_value q w) t_gives))))
t_instructed tree routine instructions.Decr (Lent p ∷ []) options =
    t_then (t_place tree routine p) (λ q. t_then (t_read_value q) (λ v. t_then (t_num_in v) (λ n. t_then (t_in_range _) (λ w. t_next (t_write_value q w) t_gives))))
t_instructed tree routine instructions.Clear (Lent p ∷ []) options = t_then (t_place tree routine p) (λ q. t_next (t_write_value q _) t_gives)
t_instructed tree routine instructions.Add (Lent p ∷ Given e ∷ []) options =
    t_then (t_place tree routine p) (λ q. t_then (t_num tree routine e) (λ m. t_then (t_read_value q) (λ v. t_then (t_num_in v) (λ n. t_then (t_in_range _) (λ w. t_next (t_write_value q w) t_gives)))))
t_instructed tree routine instruction args options = t_misfit

-- ---- loops

t_counter_place : (routine : TypedRoutine) (local which : ℕ) → IsTidy (counter_place routine local which)
t_counter_place routine local which = t_reads (λ d. t_gives)

t_counter : (routine : TypedRoutine) (local which : ℕ) → IsTidy (counter routine local which)
t_counter routine local which = t_then (t_counter_place routine local which) (λ p. t_then (t_read_value p) t_num_in)

t_set_counter : (routine : TypedRoutine) (local which : ℕ) (n : ℤ) → IsTidy (set_counter routine local which n)
t_set_counter routine local which n = t_then (t_counter_place routine local which) (λ p. t_write_value p (values.Num n))

pub t_step_value : (tree : TypedTree) (routine : TypedRoutine) (first last : ℤ) (step : Option TypedExpr) → IsTidy (step_value tree routine first last step)
t_step_value tree routine first last None = t_gives
t_step_value tree routine first last (Some step) = t_num tree routine step

t_bounds : (tree : TypedTree) (routine : TypedRoutine) (local : ℕ) (first last : TypedExpr) (step : Option TypedExpr) → IsTidy (bounds tree routine local first last step)
t_bounds tree routine local first last step =
    t_then (t_num tree routine first) (λ from. t_then (t_num tree routine last) (λ to. t_then (t_step_value tree routine from to step)
    (λ by. t_next (t_set_counter routine local 0 from) (t_next (t_set_counter routine local 1 to) (t_set_counter routine local 2 by)))))

t_turn_due : (w : Where) (s : TypedStmt) (local : ℕ) → IsTidy (turn_due w.routine local (Turn w s))
t_turn_due w s local =
    t_then (t_counter w.routine local 0) (λ variable. t_then (t_counter w.routine local 1) (λ last. t_then (t_counter w.routine local 2) (λ step. t_if (has_passed variable last step) t_gives t_goes)))

t_counted : (w : Where) (s : TypedStmt) (local : ℕ) (n : Option ℤ) → IsTidy (counted w.routine local (Turn w s) n)
t_counted w s local None = t_gives
t_counted w s local (Some n) = t_next (t_set_counter w.routine local 0 n) (t_turn_due w s local)

t_counts_on : (w : Where) (s : TypedStmt) (local : ℕ) → IsTidy (counts_on w.routine local (Turn w s))
t_counts_on w s local = t_then (t_counter w.routine local 0) (λ variable. t_then (t_counter w.routine local 2) (λ step. t_counted w s local _))

-- ---- looks and waits

t_left : (again : Part) → IsTidy (left again)
t_left again = t_next (t_tells tt) (t_next (t_change (λ d. record d { trapped = false }) (λ d. refl)) t_goes)

t_interrupted : (again : Part) (trap : ℕ) → IsTidy (interrupted again trap)
t_interrupted again trap = t_next (t_change (λ d. record d { trapped = true }) (λ d. refl)) (t_does (λ flow. t_left again) (λ n. t_fault))

-- a Look of the innermost frame
t_looked : (again : Part) (go : Doing Flow) → IsTidy go → IsTidy (Asks requests.Look (looked again go))
unfolding after
t_looked again go t = record { from = λ limited count d room. ((count, room), tt, tt, answered limited count d room, kept_self requests.Look (counts d.frames)) }
  where
    answered : (limited : Bool) (count : ℕ) (d : Data) → HasRoom limited count d.frames → (a : Answer) → Tidy limited count (found requests.Look a (counts d.frames)) (looked again go a) d
    answered limited count d room (answers.Go seen) =
        let e : Data = record d { frames = with_seen seen d.frames } in
        subst (λ (before : List ℕ). Tidy limited count before go e) (seen_counts seen d.frames) (t.from limited count e (seen_room seen d.frames room))
    answered limited count d room (answers.Trap number trap) = (t_interrupted again trap).from limited count d room
    answered limited count d room answers.Flood = (count, room)
    answered limited count d room _ = tt

t_look : (w : Where) (byte : ℕ) (again : Part) (go : Doing Flow) → IsTidy go → IsTidy (look w byte again go)
t_look w byte again go t = t_next (t_change _ (λ d. refl)) (t_looked again go t)

-- a wait holds, rises, and looks
t_hold : (w : Where) (s : TypedStmt) → Looks s → IsTidy (hold (Attempt w s))
unfolding after
t_hold w s looks = record { from = λ limited count d room. ((count, room), refl, tt, λ a. held limited count d room a, all_left (counts d.frames)) }
  where
    risen : (limited : Bool) (count : ℕ) (d : Data) → HasRoom limited count d.frames → (a : Answer) → Tidy limited count (counts d.frames) (when_ok a >> goes_to (Attempt w s)) d
    risen limited count d room answers.Ok = (t_goes {p = Attempt w s}).from limited count d room
    risen limited count d room _ = tt

    held : (limited : Bool) (count : ℕ) (d : Data) → HasRoom limited count d.frames → (a : Answer)
        → Tidy limited count (counts d.frames) (when_ok a >> (tells requests.Rise >> goes_to (Attempt w s))) d
    held limited count d room answers.Ok = ((count, room), tt, looks, λ a. risen limited count d room a, all_left (counts d.frames))
    held limited count d room _ = tt

-- ---- errors

t_parted : (w : Where) (s : TypedStmt) (error : ℕ) (flow : Flow) → IsTidy (parted w s error flow)
t_parted w s error Normal = t_raises
t_parted w s error (Jumps label) = t_misfit
t_parted w s error (Returns v) = t_gives
t_parted w s error Retries = t_goes
t_parted w s error Skips = t_gives

t_failed_in : (errors : Errors) (w : Where) (s : TypedStmt) (error : ℕ) → IsTidy (failed_in errors w s error)
t_failed_in Unguarded w s error = t_raises
t_failed_in (Guarded list) w s error = t_next (t_change (λ d. record d { errno = error }) (λ d. refl)) (t_does (t_parted w s error) (λ n. t_raises))
t_failed_in (InPart entered) w s error = t_raises

t_header : {A : Type 0} {own : Doing A} {next : A → Doing Flow} (w : Where) (s : TypedStmt) → IsTidy own → ((v : A) → IsTidy (next v)) → IsTidy (header w s own next)
t_header w s t tn = t_after t tn (t_failed_in w.errors w s)

t_raised_again : (errors : Errors) → IsTidy (raised_again errors)
t_raised_again (InPart entered) = t_raises
t_raised_again _ = t_misfit

-- ---- statements

t_inner_or_not : (w : Where) (other : TypedElse) → IsTidy (inner_or_not w other)
t_inner_or_not w NoElse = t_gives
t_inner_or_not w (Else list) = t_goes

t_and_then : (next : Doing Flow) (flow : Flow) → IsTidy next → IsTidy (and_then next flow)
t_and_then next Normal t = t
t_and_then next _ t = t_gives

t_done_or_held : (w : Where) (s : TypedStmt) (b : Bool) → Looks s → IsTidy (done_or_held (Attempt w s) b)
t_done_or_held w s true looks = t_gives
t_done_or_held w s false looks = t_hold w s looks

t_raised : (v : Value) → IsTidy (raised v)
t_raised (values.Num (pos n)) = t_if (n % 1_000 == 0 && nat_le 1 (n / 1_000) && nat_le (n / 1_000) 90) t_raises t_fault
t_raised (values.Num (negsuc n)) = t_fault
t_raised _ = t_misfit

t_chosen : (tree : TypedTree) (routine : TypedRoutine) (arms : TypedArms) (other : TypedElse) → IsTidy (chosen tree routine arms other)
t_chosen tree routine NoArms other = t_gives
t_chosen tree routine (MoreArms e list more) other = t_then (t_truth tree routine e) (λ b. t_if b t_gives (t_chosen tree routine more other))

t_is_among : (tree : TypedTree) (routine : TypedRoutine) (v : Value) (es : TypedExprs) → IsTidy (is_among tree routine v es)
t_is_among tree routine v NoExprs = t_gives
t_is_among tree routine v (MoreExprs e es) =
    t_then (t_expr tree routine e) (λ w. t_then (t_applied _) (λ equal. t_then (t_truth_in equal) (λ b. t_if b t_gives (t_is_among tree routine v es))))

t_selected : (tree : TypedTree) (routine : TypedRoutine) (v : Value) (cases : TypedCases) (other : TypedElse) → IsTidy (selected tree routine v cases other)
t_selected tree routine v NoCases other = t_gives
t_selected tree routine v (MoreCases es list more) other = t_then (t_is_among tree routine v es) (λ b. t_if b t_gives (t_selected tree routine v more other))

t_assign : (tree : TypedTree) (routine : TypedRoutine) (p : TypedPlace) (e : TypedExpr) → IsTidy (assign tree routine p e)
t_assign tree routine p e = t_then (t_place tree routine p) (λ q. t_then (t_expr tree routine e) (t_write_value q))

t_connects : (tree : TypedTree) (routine : TypedRoutine) (p : TypedPlace) (trap : ℕ) → IsTidy (connects tree routine p trap)
t_connects tree routine p trap = t_then (t_place tree routine p) (λ q. t_then (t_number_at q) (λ old. t_connect q old trap))

t_points : (w : Where) (s : TypedStmt) (way : Way) → IsTidy (points w s way)
t_points w s way = t_point way (if has_next (further way) then goes_to (Leg w s (further way)) else Gives Normal) (t_if (has_next (further way)) t_goes t_gives)

t_instructs : (tree : TypedTree) (w : Where) (s : TypedStmt) (instruction : Instruction) (args options : List TypedArg) → Looks s → IsTidy (instructs tree w s instruction args options)
t_instructs tree w s instructions.MoveAbsJ args options looks = t_header w s (t_aimed tree w.routine args) (t_points w s)
t_instructs tree w s instruction args options looks = t_header w s (t_instructed tree w.routine instruction args options) (λ b. t_done_or_held w s b looks)

t_follows : (tree : TypedTree) (w : Where) (s form : TypedStmt) → Looks s → IsTidy (follows tree w s form)
t_follows tree w s (trees.Assign at p e) looks = t_header w s (t_assign tree w.routine p e) (λ _. t_gives)
t_follows tree w s (trees.Instruct at instruction args) looks = t_instructs tree w s instruction (needed args) (options args) looks
t_follows tree w s (trees.Call at called args) looks = t_header w s (t_then (t_arguments tree w.routine args) (λ xs. t_goes)) (λ _. t_gives)
t_follows tree w s (trees.Label at label) looks = t_gives
t_follows tree w s (trees.Goto at label) looks = t_gives
t_follows tree w s (trees.Return at None) looks = t_gives
t_follows tree w s (trees.Return at (Some e)) looks = t_header w s (t_expr tree w.routine e) (λ v. t_gives)
t_follows tree w s (trees.Exit at) looks = t_ends
t_follows tree w s (trees.Raise at None) looks = t_raised_again w.errors
t_follows tree w s (trees.Raise at (Some e)) looks = t_header w s (t_then (t_expr tree w.routine e) t_raised) (λ _. t_gives)
t_follows tree w s (trees.Retry at) looks = t_gives
t_follows tree w s (trees.TryNext at) looks = t_gives
t_follows tree w s (trees.Connect at p trap) looks = t_header w s (t_connects tree w.routine p trap) (λ _. t_gives)
t_follows tree w s (trees.If at arms other) looks = t_header w s (t_chosen tree w.routine arms other) (t_inner_or_not w)
t_follows tree w s (trees.IfOne at e one) looks = t_header w s (t_truth tree w.routine e) (λ b. t_if b t_goes t_gives)
t_follows tree w s (trees.For at local first last step list) looks = t_header w s (t_bounds tree w.routine local first last step) (λ _. t_turn_due w s local)
t_follows tree w s (trees.While at e list) looks =
    t_header w s (t_truth tree w.routine e) (λ b. t_if b (t_then t_goes (λ flow. t_and_then (goes_to (Attempt w s)) flow t_goes)) t_gives)
t_follows tree w s (trees.Test at e cases other) looks = t_header w s (t_then (t_expr tree w.routine e) (λ v. t_selected tree w.routine v cases other)) (t_inner_or_not w)

t_stmt : (tree : TypedTree) (w : Where) (s : TypedStmt) → IsTidy (stmt tree w s)
t_stmt tree w (trees.Label at label) = t_gives
t_stmt tree w s = t_look w (byte_of s) (Attempt w s) (follows tree w s s) (t_follows tree w s s tt)

t_turned : (w : Where) (s form : TypedStmt) → IsTidy (turned w (Turn w s) form)
t_turned w s (trees.For at local first last step list) = t_then t_goes (λ flow. t_and_then (counts_on w.routine local (Turn w s)) flow (t_counts_on w s local))
t_turned w s _ = t_misfit

t_turn : (w : Where) (s : TypedStmt) → IsTidy (turn w s)
t_turn w s = t_look w (byte_of s) (Turn w s) (turned w (Turn w s) s) (t_turned w s s)

t_leg : (w : Where) (s : TypedStmt) (way : Way) → IsTidy (leg w s way)
t_leg w s way = t_look w (byte_of s) (Leg w s way) (points w s way) (t_points w s way)

-- ---- lists and routines

t_items : (tree : TypedTree) (w : Where) (list : TypedStmts) → IsTidy (items tree w list)
t_items tree w NoStmts = t_gives
t_items tree w (MoreStmts s more) = t_then (t_stmt tree w s) (λ flow. t_and_then (items tree w more) flow (t_items tree w more))

t_jumped : (w : Where) (list : TypedStmts) (label : ℕ) (more : Option TypedStmts) → IsTidy (jumped w list label more)
t_jumped w list label None = t_gives
t_jumped w list label (Some more) = t_goes

t_ended : (w : Where) (list : TypedStmts) (flow : Flow) → IsTidy (ended w list flow)
t_ended w list (Jumps label) = t_jumped w list label (behind label list)
t_ended w list _ = t_gives

t_rest : (tree : TypedTree) (w : Where) (list more : TypedStmts) → IsTidy (lists.rest tree w list more)
t_rest tree w list more = t_then (t_items tree w more) (t_ended w list)

-- a routine's frame is there until it is left

left_then : {A : Type 0} (limited : Bool) (count : ℕ) (m : Doing A) (d : Data) → IsTidy m → HasRoom limited (suc count) d.frames → Tidy limited count (counts d.frames) (leaves >> m) d
unfolding after
left_then limited count m d t room =
    let e : Data = record d { frames = below_first d.frames } in
    tidy_further limited count (counts e.frames) (counts d.frames) m e (t.from limited count e (left_room d.frames room)) (below_counts d.frames)

ended_with : (limited : Bool) (count : ℕ) (kind : RoutineKind) (flow : Flow) (d : Data) → HasRoom limited (suc count) d.frames → Tidy limited count (counts d.frames) (result kind flow) d
ended_with limited count kinds.Func (Returns (Some v)) d room = left_then limited count (Gives (Returns (Some v))) d t_gives room
ended_with limited count kinds.Func (Returns None) d room = tt
ended_with limited count kinds.Func Normal d room = (suc count, room)
ended_with limited count kinds.Func (Jumps label) d room = tt
ended_with limited count kinds.Func Retries d room = tt
ended_with limited count kinds.Func Skips d room = tt
ended_with limited count kinds.Proc Normal d room = left_then limited count (Gives Normal) d t_gives room
ended_with limited count kinds.Trap Normal d room = left_then limited count (Gives Normal) d t_gives room
ended_with limited count kinds.Proc (Returns None) d room = left_then limited count (Gives Normal) d t_gives room
ended_with limited count kinds.Trap (Returns None) d room = left_then limited count (Gives Normal) d t_gives room
ended_with limited count kinds.Proc _ d room = tt
ended_with limited count kinds.Trap _ d room = tt

does_body : (limited : Bool) (count : ℕ) (tree : TypedTree) (routine : TypedRoutine) (d : Data) → HasRoom limited (suc count) d.frames
    → Tidy limited count (counts d.frames) (after (body tree routine) (result routine.kind) (λ error. leaves >> Raises error)) d
does_body limited count tree routine d room =
    tidy_after limited (suc count) count (counts d.frames) (body tree routine) (result routine.kind) (λ error. leaves >> Raises error) d
    ((t_rest tree (within routine) routine.list routine.list).from limited (suc count) d room)
    (λ flow e later. ended_with limited count routine.kind flow e later) (λ n e later. left_then limited count (Raises n) e t_raises later)

-- it may make a frame before its first request
pub record IsTidyPart (m : Doing Flow) : Type 0 where
  pub first : Data → List ℕ
  pub from : (limited : Bool) (count : ℕ) (d : Data) → HasRoom limited count d.frames → Tidy limited count (first d) m d

as_part : {m : Doing Flow} → IsTidy m → IsTidyPart m
as_part t = record { first = λ d. counts d.frames; from = λ limited count d room. t.from limited count d room }

t_called : (tree : TypedTree) (args : List Datum) (routine : Option TypedRoutine) → IsTidyPart (called tree args routine)
unfolding after
t_called tree args None = as_part t_misfit
t_called tree args (Some routine) = record {
  first = λ d. 0 ∷ counts d.frames;
  from = λ limited count d room. by limited count d room (has_room d.frames (frame_of routine args)) refl;
}
  where
    by : (limited : Bool) (count : ℕ) (d : Data) → HasRoom limited count d.frames → (b : Bool) → has_room d.frames (frame_of routine args) ≡ b
        → Tidy limited count (0 ∷ counts d.frames) (after (if b then Writes (record d { frames = frame_of routine args ∷ d.frames }) done else fault DepthLimit)
        (λ _. after (body tree routine) (result routine.kind) (λ error. leaves >> Raises error)) Raises) d
    by limited count d room true is = does_body limited count tree routine (record d { frames = frame_of routine args ∷ d.frames }) (entered_room d.frames (frame_of routine args) room is)
    by limited count d room false is = (count, room)

pub t_part : (tree : TypedTree) (p : Part) → IsTidyPart (part tree p)
t_part tree (Attempt w s) = as_part (t_stmt tree w s)
t_part tree (Turn w s) = as_part (t_turn w s)
t_part tree (Leg w s way) = as_part (t_leg w s way)
t_part tree (Rest w list more) = as_part (t_rest tree w list more)
t_part tree (Call routine args) = t_called tree args (slice_get tree.routines routine)
