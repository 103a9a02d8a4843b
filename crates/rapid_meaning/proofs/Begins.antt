-- Each part of a program looks before it asks anything else and before it does another part.
use Rattle.std.proofs.Common.{◌≡◌, refl, ap, subst, ℕ, Bool, true, false, List, ◌∷◌, Option, Some, None, if◌then◌else◌}
use Rattle.std.specs.Prelude.{⊤, drop, slice_get}
use Rattle.rapid_model.specs.declared.fate.Fault.TheVariants.{DepthLimit}
use Rattle.rapid_model.specs.declared.request.Request.{Request}
use Rattle.rapid_model.specs.declared.request.Request.TheVariants as requests
use Rattle.rapid_model.specs.declared.routine_kind.RoutineKind.{RoutineKind}
use Rattle.rapid_model.specs.declared.routine_kind.RoutineKind.TheVariants as kinds
use Rattle.typed_trees.specs.Plain as trees
use Rattle.typed_trees.specs.Plain.{TypedRoutine, TypedStmt, TypedStmts, TypedTree, NoStmts, MoreStmts}
use Rattle.typed_trees.specs.declared.datum.Datum.{Datum}
use Rattle.rapid_meaning.specs.Calls.{body, called, part, result, within}
use Rattle.rapid_meaning.specs.Data.{Data, Frame, below_first}
use Rattle.rapid_meaning.specs.Doings.{Doing, Gives, Raises, Asks, Ends, Misfit, Reads, Writes, Does, ◌>>◌, after, done, fault}
use Rattle.rapid_meaning.specs.Flows.{Flow, Normal, Jumps, Returns, Retries, Skips, Way, Where, Part, Attempt, Turn, Leg, Rest, Call}
use Rattle.rapid_meaning.specs.Frames.{frame_of, has_room, leaves}
use Rattle.rapid_meaning.specs.Lists.{ended, items, rest}
use Rattle.rapid_meaning.specs.Statements.{and_then, stmt}
use Rattle.rapid_meaning.proofs.Counts.{IsLeft, all_left, counts}

abbrev pub Anything : {A : Type 0} → A → Type 0
Anything v = ⊤

abbrev pub IsNormal : Flow → Type 0
IsNormal Normal = ⊤
IsNormal _ = ⊥

-- the request is a Look, and this holds
abbrev pub AtLook : Request → Type 0 → Type 0
AtLook requests.Look P = P
AtLook _ P = ⊥

-- Its first request is a Look, with these frames, and it does no part and raises no error before. A result that comes
-- before it is of this kind, with those frames.
abbrev pub Begins : {A : Type 0} → List Frame → List Frame → (A → Type 0) → Doing A → Data → Type 0
Begins looking ending P (Gives v) d = P v × (d.frames ≡ ending)
Begins looking ending P (Raises n) d = ⊥
Begins looking ending P (Asks request answered) d = AtLook request (d.frames ≡ looking)
Begins looking ending P (Ends fate) d = ⊤
Begins looking ending P Misfit d = ⊤
Begins looking ending P (Reads with_data) d = Begins looking ending P (with_data d) d
Begins looking ending P (Writes e more) d = Begins looking ending P more e
Begins looking ending P (Does p ended raised) d = ⊥

begins_after : {A B : Type 0} (looking between ending : List Frame) (P : A → Type 0) (Q : B → Type 0) (m : Doing A) (f : A → Doing B) (h : ℕ → Doing B) (d : Data)
    → Begins looking between P m d → ((v : A) (e : Data) → P v → e.frames ≡ between → Begins looking ending Q (f v) e) → Begins looking ending Q (after m f h) d
unfolding after
begins_after looking between ending P Q (Gives v) f h d b bf = bf v d b.0 b.1
begins_after looking between ending P Q (Raises n) f h d b bf = absurd b
begins_after looking between ending P Q (Asks request k) f h d b bf = b
begins_after looking between ending P Q (Ends fate) f h d b bf = tt
begins_after looking between ending P Q Misfit f h d b bf = tt
begins_after looking between ending P Q (Reads k) f h d b bf = begins_after looking between ending P Q (k d) f h d b bf
begins_after looking between ending P Q (Writes e m) f h d b bf = begins_after looking between ending P Q m f h e b bf
begins_after looking between ending P Q (Does p k g) f h d b bf = absurd b

weaker : {A : Type 0} (looking ending : List Frame) (P : A → Type 0) (m : Doing A) (d : Data) → Begins looking ending P m d → Begins looking ending Anything m d
weaker looking ending P (Gives v) d b = (tt, b.1)
weaker looking ending P (Raises n) d b = absurd b
weaker looking ending P (Asks request k) d b = b
weaker looking ending P (Ends fate) d b = tt
weaker looking ending P Misfit d b = tt
weaker looking ending P (Reads k) d b = weaker looking ending P (k d) d b
weaker looking ending P (Writes e m) d b = weaker looking ending P m e b
weaker looking ending P (Does p k h) d b = absurd b

-- a statement
stmt_begins : (tree : TypedTree) (w : Where) (s : TypedStmt) (d : Data) → Begins d.frames d.frames IsNormal (stmt tree w s) d
unfolding after
stmt_begins tree w (trees.Label at label) d = (tt, refl)
stmt_begins tree w s d = refl

turn_begins : (tree : TypedTree) (w : Where) (s : TypedStmt) (d : Data) → Begins d.frames d.frames Anything (part tree (Turn w s)) d
unfolding after
turn_begins tree w s d = refl

leg_begins : (tree : TypedTree) (w : Where) (s : TypedStmt) (way : Way) (d : Data) → Begins d.frames d.frames Anything (part tree (Leg w s way)) d
unfolding after
leg_begins tree w s way d = refl

and_then_begins : (looking ending : List Frame) (next : Doing Flow) (d : Data) → Begins looking ending IsNormal next d → (flow : Flow) → IsNormal flow
    → Begins looking ending IsNormal (and_then next flow) d
and_then_begins looking ending next d begins Normal normal = begins
and_then_begins looking ending next d begins _ normal = absurd normal

items_begin : (tree : TypedTree) (w : Where) (list : TypedStmts) (d : Data) → Begins d.frames d.frames IsNormal (items tree w list) d
items_begin tree w NoStmts d = (tt, refl)
items_begin tree w (MoreStmts s more) d =
    begins_after d.frames d.frames d.frames IsNormal IsNormal (stmt tree w s) (λ flow. and_then (items tree w more) flow) Raises d (stmt_begins tree w s d)
    (λ flow e normal same. and_then_begins d.frames d.frames (items tree w more) e
    (subst (λ (frames : List Frame). Begins frames frames IsNormal (items tree w more) e) same (items_begin tree w more e)) flow normal)

rest_begins : (tree : TypedTree) (w : Where) (list more : TypedStmts) (d : Data) → Begins d.frames d.frames IsNormal (rest tree w list more) d
rest_begins tree w list more d = begins_after d.frames d.frames d.frames IsNormal IsNormal (items tree w more) (ended w list) Raises d (items_begin tree w more d) behind
  where
    behind : (flow : Flow) (e : Data) → IsNormal flow → e.frames ≡ d.frames → Begins d.frames d.frames IsNormal (ended w list flow) e
    behind Normal e normal same = (tt, same)
    behind (Jumps label) e normal same = absurd normal
    behind (Returns v) e normal same = absurd normal
    behind Retries e normal same = absurd normal
    behind Skips e normal same = absurd normal

-- the routine's frame is left
result_begins : (kind : RoutineKind) (flow : Flow) (frame : Frame) (below : List Frame) (d : Data) → IsNormal flow → d.frames ≡ frame ∷ below
    → Begins (frame ∷ below) below Anything (result kind flow) d
unfolding after
result_begins kinds.Func Normal frame below d normal same = tt
result_begins kinds.Proc Normal frame below d normal same = (tt, ap below_first same)
result_begins kinds.Trap Normal frame below d normal same = (tt, ap below_first same)
result_begins kind (Jumps label) frame below d normal same = absurd normal
result_begins kind (Returns v) frame below d normal same = absurd normal
result_begins kind Retries frame below d normal same = absurd normal
result_begins kind Skips frame below d normal same = absurd normal

body_begins : (tree : TypedTree) (routine : TypedRoutine) (frame : Frame) (below : List Frame) (d : Data) → d.frames ≡ frame ∷ below
    → Begins (frame ∷ below) below Anything (after (body tree routine) (result routine.kind) (λ error. leaves >> Raises error)) d
body_begins tree routine frame below d same =
    begins_after (frame ∷ below) (frame ∷ below) below IsNormal Anything (body tree routine) (result routine.kind) (λ error. leaves >> Raises error) d
    (subst (λ (frames : List Frame). Begins frames frames IsNormal (body tree routine) d) same (rest_begins tree (within routine) routine.list routine.list d))
    (λ flow e normal on. result_begins routine.kind flow frame below e normal on)

called_begins : (tree : TypedTree) (args : List Datum) (routine : TypedRoutine) (d : Data)
    → Begins (frame_of routine args ∷ d.frames) d.frames Anything (called tree args (Some routine)) d
unfolding after
called_begins tree args routine d = by (has_room d.frames (frame_of routine args))
  where
    by : (b : Bool) → Begins (frame_of routine args ∷ d.frames) d.frames Anything
        (after (if b then Writes (record d { frames = frame_of routine args ∷ d.frames }) done else fault DepthLimit)
        (λ _. after (body tree routine) (result routine.kind) (λ error. leaves >> Raises error)) Raises) d
    by true = body_begins tree routine (frame_of routine args) d.frames (record d { frames = frame_of routine args ∷ d.frames }) refl
    by false = tt

-- it looks with the frames that are there, or with a new one
pub record LooksFirst (m : Doing Flow) (d : Data) : Type 0 where
  pub looking : List Frame
  pub there : IsLeft (drop 1 (counts looking)) (counts d.frames)
  pub begins : Begins looking d.frames Anything m d

as_before : {m : Doing Flow} {d : Data} → Begins d.frames d.frames Anything m d → LooksFirst m d
as_before {d = d} begins = record { looking = d.frames; there = record { fewer = 1; is = refl }; begins = begins }

call_begins : (tree : TypedTree) (args : List Datum) (routine : Option TypedRoutine) (d : Data) → LooksFirst (called tree args routine) d
call_begins tree args None d = as_before tt
call_begins tree args (Some routine) d = record { looking = frame_of routine args ∷ d.frames; there = all_left (counts d.frames); begins = called_begins tree args routine d }

pub part_begins : (tree : TypedTree) (p : Part) (d : Data) → LooksFirst (part tree p) d
part_begins tree (Attempt w s) d = as_before (weaker d.frames d.frames IsNormal (stmt tree w s) d (stmt_begins tree w s d))
part_begins tree (Turn w s) d = as_before (turn_begins tree w s d)
part_begins tree (Leg w s way) d = as_before (leg_begins tree w s way d)
part_begins tree (Rest w list more) d = as_before (weaker d.frames d.frames IsNormal (rest tree w list more) d (rest_begins tree w list more d))
part_begins tree (Call routine args) d = call_begins tree args (slice_get tree.routines routine) d
