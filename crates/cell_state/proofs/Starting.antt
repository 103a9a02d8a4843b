-- Before its first answer a task has asked once at most, and its module data hold their first values.
use Rattle.std.proofs.Common.{◌≡◌, refl, sym, ◌∙◌, subst, ℕ, Bool, true, false, List, [], ◌∷◌, Option, None, Some, if◌then◌else◌}
use Rattle.std.specs.Prelude.{flat_map, slice_get, ⊤}
use Rattle.rapid_model.specs.Fits.{Fitting}
use Rattle.rapid_model.specs.declared.answer.Answer.{Answer}
use Rattle.rapid_model.specs.declared.fate.Fate.TheVariants as fates
use Rattle.rapid_model.specs.declared.fate.Fault.TheVariants as faults
use Rattle.rapid_model.specs.declared.fate.Fault.TheVariants.{DepthLimit}
use Rattle.rapid_model.specs.declared.routine_kind.RoutineKind.{RoutineKind}
use Rattle.rapid_model.specs.declared.routine_kind.RoutineKind.TheVariants as kinds
use Rattle.typed_trees.specs.Plain as trees
use Rattle.typed_trees.specs.Plain.{TypedRoutine, TypedSlot, TypedStmt, TypedStmts, TypedTree, NoStmts, MoreStmts}
use Rattle.typed_trees.specs.declared.datum.Datum.{Datum}
use Rattle.rapid_meaning.specs.Answering.{Outcome, Gave, Raised, Asking, Ended, Misfits, Unfit, NoFuel, Run, fitting_of, joined, performed}
use Rattle.rapid_meaning.specs.Calls.{body, called, part, result, within}
use Rattle.rapid_meaning.specs.Data.{Data}
use Rattle.rapid_meaning.specs.Doings.{Doing, Gives, Raises, Asks, Ends, Misfit, Reads, Writes, Does, ◌>>◌, after, done, fault}
use Rattle.rapid_meaning.specs.Flows.{Flow, Normal, Jumps, Returns, Retries, Skips, Where, Call}
use Rattle.rapid_meaning.specs.Frames.{frame_of, has_room, initial, leaves}
use Rattle.rapid_meaning.specs.Lists.{ended, items}
use Rattle.rapid_meaning.specs.Runs.{deep, state_after}
use Rattle.rapid_meaning.specs.Statements.{and_then, stmt}
use Rattle.cell_state.specs.States.{TaskStateData, reached, state_in}

-- It does no part and raises no error before it asks. When it asks or ends, the module data are these; and if it is
-- done before, they are too, and it ends normally.
abbrev Still : {A : Type 0} → List Datum → (A → Type 0) → Doing A → Data → Type 0
Still slots P (Gives v) d = P v × (d.slots ≡ slots)
Still slots P (Raises n) d = ⊥
Still slots P (Asks request answered) d = d.slots ≡ slots
Still slots P (Ends fate) d = d.slots ≡ slots
Still slots P Misfit d = ⊤
Still slots P (Reads with_data) d = Still slots P (with_data d) d
Still slots P (Writes e more) d = Still slots P more e
Still slots P (Does p ended raised) d = ⊥

abbrev IsNormal : Flow → Type 0
IsNormal Normal = ⊤
IsNormal _ = ⊥

still_after : {A B : Type 0} (slots : List Datum) (P : A → Type 0) (Q : B → Type 0) (m : Doing A) (f : A → Doing B) (h : ℕ → Doing B) (d : Data) → Still slots P m d
    → ((v : A) (e : Data) → P v → e.slots ≡ slots → Still slots Q (f v) e) → Still slots Q (after m f h) d
unfolding after
still_after slots P Q (Gives v) f h d s sf = sf v d s.0 s.1
still_after slots P Q (Raises n) f h d s sf = absurd s
still_after slots P Q (Asks request k) f h d s sf = s
still_after slots P Q (Ends fate) f h d s sf = s
still_after slots P Q Misfit f h d s sf = tt
still_after slots P Q (Reads k) f h d s sf = still_after slots P Q (k d) f h d s sf
still_after slots P Q (Writes e m) f h d s sf = still_after slots P Q m f h e s sf
still_after slots P Q (Does p k g) f h d s sf = absurd s

stmt_still : (tree : TypedTree) (w : Where) (s : TypedStmt) (d : Data) → Still d.slots IsNormal (stmt tree w s) d
unfolding after
stmt_still tree w (trees.Label at label) d = (tt, refl)
stmt_still tree w s d = refl

and_then_still : (next : Doing Flow) (slots : List Datum) (flow : Flow) (d : Data) → IsNormal flow → Still slots IsNormal next d → Still slots IsNormal (and_then next flow) d
and_then_still next slots Normal d normal still = still
and_then_still next slots (Jumps label) d normal still = absurd normal
and_then_still next slots (Returns v) d normal still = absurd normal
and_then_still next slots Retries d normal still = absurd normal
and_then_still next slots Skips d normal still = absurd normal

items_still : (tree : TypedTree) (w : Where) (list : TypedStmts) (slots : List Datum) (d : Data) → d.slots ≡ slots → Still slots IsNormal (items tree w list) d
items_still tree w NoStmts slots d same = (tt, same)
items_still tree w (MoreStmts s more) slots d same =
    still_after slots IsNormal IsNormal (stmt tree w s) (λ flow. and_then (items tree w more) flow) Raises d
    (subst (λ (held : List Datum). Still held IsNormal (stmt tree w s) d) same (stmt_still tree w s d))
    (λ flow e normal on. and_then_still (items tree w more) slots flow e normal (items_still tree w more slots e on))

body_still : (tree : TypedTree) (routine : TypedRoutine) (slots : List Datum) (d : Data) → d.slots ≡ slots → Still slots IsNormal (body tree routine) d
body_still tree routine slots d same =
    still_after slots IsNormal IsNormal (items tree (within routine) routine.list) (ended (within routine) routine.list) Raises d (items_still tree (within routine) routine.list slots d same) behind
  where
    behind : (flow : Flow) (e : Data) → IsNormal flow → e.slots ≡ slots → Still slots IsNormal (ended (within routine) routine.list flow) e
    behind Normal e normal on = (tt, on)
    behind (Jumps label) e normal on = absurd normal
    behind (Returns v) e normal on = absurd normal
    behind Retries e normal on = absurd normal
    behind Skips e normal on = absurd normal

abbrev Anything : {A : Type 0} → A → Type 0
Anything v = ⊤

result_still : (kind : RoutineKind) (flow : Flow) (slots : List Datum) (d : Data) → IsNormal flow → d.slots ≡ slots → Still slots Anything (result kind flow) d
unfolding after
result_still kinds.Func Normal slots d normal same = same
result_still kinds.Proc Normal slots d normal same = (tt, same)
result_still kinds.Trap Normal slots d normal same = (tt, same)
result_still kind (Jumps label) slots d normal same = absurd normal
result_still kind (Returns v) slots d normal same = absurd normal
result_still kind Retries slots d normal same = absurd normal
result_still kind Skips slots d normal same = absurd normal

called_still : (tree : TypedTree) (args : List Datum) (routine : Option TypedRoutine) (d : Data) → Still d.slots Anything (called tree args routine) d
unfolding after
called_still tree args None d = tt
called_still tree args (Some routine) d = by (has_room d.frames (frame_of routine args))
  where
    by : (b : Bool) → Still d.slots Anything
        (after (if b then Writes (record d { frames = frame_of routine args ∷ d.frames }) done else fault DepthLimit)
        (λ _. after (body tree routine) (result routine.kind) (λ error. leaves >> Raises error)) Raises) d
    by true =
        still_after d.slots IsNormal Anything (body tree routine) (result routine.kind) (λ error. leaves >> Raises error) (record d { frames = frame_of routine args ∷ d.frames })
        (body_still tree routine d.slots (record d { frames = frame_of routine args ∷ d.frames }) refl) (λ flow e normal on. result_still routine.kind flow d.slots e normal on)
    by false = refl

-- an outcome with these module data
abbrev Holds : {A : Type 0} → List Datum → Outcome A → Type 0
Holds slots (Gave v d left) = (left ≡ []) × (d.slots ≡ slots)
Holds slots (Raised n d left) = ⊥
Holds slots (Asking request d) = d.slots ≡ slots
Holds slots (Ended d) = ⊥
Holds slots _ = ⊤

still_performed : (by : Bool → Fitting) (run : Run) (slots : List Datum) (m : Doing Flow) (d : Data) → Still slots Anything m d → Holds slots (performed by run m d [])
unfolding performed
still_performed by run slots (Gives v) d s = (refl, s.1)
still_performed by run slots (Raises n) d s = absurd s
still_performed by run slots (Asks request k) d s = s
still_performed by run slots (Ends fate) d s = s
still_performed by run slots Misfit d s = tt
still_performed by run slots (Reads k) d s = still_performed by run slots (k d) d s
still_performed by run slots (Writes e m) d s = still_performed by run slots m e s
still_performed by run slots (Does p k h) d s = absurd s

-- the end of main ends the task
ends_main : (by : Bool → Fitting) (run : Run) (slots : List Datum) (o : Outcome Flow) (h : ℕ → Data → List Answer → Outcome ⊤) → Holds slots o
    → Holds slots (joined o (λ flow e rest. performed {A = ⊤} by run (Ends fates.Done) e rest) h)
unfolding performed
ends_main by run slots (Gave v d left) h holds = subst (λ (rest : List Answer). Holds slots (performed {A = ⊤} by run (Ends fates.Done) d rest)) (sym holds.0) holds.1
ends_main by run slots (Raised n d left) h holds = absurd holds
ends_main by run slots (Asking request d) h holds = holds
ends_main by run slots (Ended d) h holds = absurd holds
ends_main by run slots Misfits h holds = tt
ends_main by run slots Unfit h holds = tt
ends_main by run slots NoFuel h holds = tt

starts_so : (tree : TypedTree) → Holds (initial tree).slots (state_after tree [])
unfolding state_after deep performed
starts_so tree =
    ends_main (fitting_of tree) (deep tree 1) (initial tree).slots (performed (fitting_of tree) (deep tree 0) (part tree (Call tree.main [])) (initial tree) [])
    (λ n e rest. performed (fitting_of tree) (deep tree 1) (fault {A = ⊤} (faults.Unhandled n)) e rest)
    (still_performed (fitting_of tree) (deep tree 0) (initial tree).slots (called tree [] (slice_get tree.routines tree.main)) (initial tree) (called_still tree [] (slice_get tree.routines tree.main) (initial tree)))

values_in : (slots : List Datum) (o : Outcome ⊤) (here : TaskStateData) → Holds slots o → state_in o ≡ Some here → here.values ≡ slots
values_in slots (Asking request d) here holds is = (let same : d.slots ≡ here.values = cc in sym same ∙ holds)
values_in slots (Ended d) here holds is = absurd holds
values_in slots o here holds is = cc

pub first_values : (tree : TypedTree) (here : TaskStateData) → reached tree [] ≡ Some here → here.values ≡ flat_map (λ (row : TypedSlot). row.first) tree.slots
first_values tree here is = values_in (initial tree).slots (state_after tree []) here (starts_so tree) is
