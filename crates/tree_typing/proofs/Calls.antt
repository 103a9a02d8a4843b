-- Calls of routines; each part of a program keeps what is claimed of it.
use Rattle.std.proofs.Common.{◌≡◌, refl, sym, subst, ℕ, Bool, true, false, List, [], ◌∷◌, map, flat_map, Option, Some, None, slice_get, if◌then◌else◌}
use Rattle.rapid_model.specs.declared.fate.Fault.TheVariants.{DepthLimit}
use Rattle.rapid_model.specs.declared.routine_kind.RoutineKind.{RoutineKind}
use Rattle.rapid_model.specs.declared.routine_kind.RoutineKind.TheVariants as kinds
use Rattle.typed_trees.specs.Plain.{TypedRoutine, TypedStmts}
use Rattle.typed_trees.specs.declared.datum.Datum.{Datum}
use Rattle.rapid_meaning.specs.Calls.{body, called, errors_of, part, result, within}
use Rattle.rapid_meaning.specs.Data.{Data}
use Rattle.rapid_meaning.specs.Doings.{Doing, Gives, Raises, Writes, ◌>>◌, after, done, fault}
use Rattle.rapid_meaning.specs.Flows.{Flow, Normal, Jumps, Returns, Retries, Skips, Attempt, Turn, Leg, Rest, Call}
use Rattle.rapid_meaning.specs.Frames.{frame_of, has_room, leaves}
use Rattle.tree_typing.specs.Kinds.{Cell, cells_of, kind_of, kinds_of, local_cells}
use Rattle.tree_typing.specs.Setting.{Setting}
use Rattle.tree_typing.specs.States.{AreInCells, IsState}
use Rattle.tree_typing.specs.Statements.{Around, AreStmts, into}
use Rattle.tree_typing.specs.WellTyped.{IsHandler, IsRoutine}
use Rattle.tree_typing.proofs.Frames.{frame_in, frames_below}
use Rattle.tree_typing.proofs.Looks.{Goes}
use Rattle.tree_typing.proofs.Meets.{meets_after}
use Rattle.tree_typing.proofs.Rows.{all_at}
use Rattle.tree_typing.proofs.Runs.{Keeps}
use Rattle.tree_typing.proofs.Safe.{Safe, scene_of}
use Rattle.tree_typing.proofs.Scene.{AreErrors, Facts, Ghost, IsEnd, IsFlow, IsPart, IsResult, IsResultBy, around_of, is_in_part, rules_of}
use Rattle.tree_typing.proofs.Statements.{leg_safe, rest_safe, stmt_safe, turn_safe}
use Rattle.tree_typing.proofs.OwnState.{calm}

no_part : (handler : Option TypedStmts) → is_in_part (errors_of handler) ≡ false
no_part None = refl
no_part (Some list) = refl

routine_errors : (c : Setting) (routine : TypedRoutine) (handler : Option TypedStmts) → IsHandler c routine handler → AreErrors c routine (errors_of handler)
routine_errors c routine None is = tt
routine_errors c routine (Some list) is = is

-- the context of a routine's list
abbrev outside : TypedRoutine → RoutineKind → Bool → Around
outside routine kind handler = record { places = kinds_of routine; kind = kind; result = routine.result; handler = handler; lists = [] }

-- the routine is left
left_with : (c : Setting) (g : Ghost) (name : ℕ) (args : List Datum) (cells : List Cell) (flow : Flow) (e : Data) → IsEnd c g (Call name args) flow → IsState c.tree g.trapped (cells ∷ g.frames) e
    → Goes c g (Call name args) (leaves >> Gives flow) (calm e) e
unfolding after
left_with c g name args cells flow e ends is = (
  record { not_held = refl; same = refl },
  (ends, record { slots = is.slots; frames_are = frames_below c.tree cells g.frames e.frames is.frames_are; called = is.called.1; in_trap = is.in_trap }),
)

left_by : (c : Setting) (g : Ghost) (name : ℕ) (args : List Datum) (cells : List Cell) (n : ℕ) (e : Data) → IsState c.tree g.trapped (cells ∷ g.frames) e
    → Goes c g (Call name args) (leaves >> Raises n) (calm e) e
unfolding after
left_by c g name args cells n e is = (
  record { not_held = refl; same = refl },
  record { slots = is.slots; frames_are = frames_below c.tree cells g.frames e.frames is.frames_are; called = is.called.1; in_trap = is.in_trap },
)

-- how a routine ends
result_goes : (c : Setting) (g : Ghost) (name : ℕ) (args : List Datum) (routine : TypedRoutine) (kind : RoutineKind) (flow : Flow) (e : Data)
    → ((x : Flow) → IsResultBy kind routine.result x → IsEnd c g (Call name args) x) → IsFlow (outside routine kind false) flow → IsState c.tree g.trapped (local_cells routine ∷ g.frames) e
    → Goes c g (Call name args) (result kind flow) (calm e) e
result_goes c g name args routine kinds.Func (Returns (Some v)) e ends is state =
    left_with c g name args (local_cells routine) (Returns (Some v)) e (ends (Returns (Some v)) (is.0, is.2, is.3)) state
result_goes c g name args routine kinds.Func Normal e ends is state =
    record { rises = refl; same = refl; asked = record { asked = refl; trapped = g.trapped; frames = local_cells routine ∷ g.frames; state = state } }
result_goes c g name args routine kinds.Func (Returns None) e ends is state = absurd is
result_goes c g name args routine kinds.Proc Normal e ends is state = left_with c g name args (local_cells routine) Normal e (ends Normal tt) state
result_goes c g name args routine kinds.Proc (Returns None) e ends is state = left_with c g name args (local_cells routine) Normal e (ends Normal tt) state
result_goes c g name args routine kinds.Proc (Returns (Some v)) e ends is state = let same : kinds.Proc ≡ kinds.Func = is.1 in absurd cc
result_goes c g name args routine kinds.Trap Normal e ends is state = left_with c g name args (local_cells routine) Normal e (ends Normal tt) state
result_goes c g name args routine kinds.Trap (Returns None) e ends is state = left_with c g name args (local_cells routine) Normal e (ends Normal tt) state
result_goes c g name args routine kinds.Trap (Returns (Some v)) e ends is state = let same : kinds.Trap ≡ kinds.Func = is.1 in absurd cc
result_goes c g name args routine kind (Jumps label) e ends is state = absurd is
result_goes c g name args routine kind Retries e ends is state = absurd cc
result_goes c g name args routine kind Skips e ends is state = absurd cc

-- the body, and how it ends
body_goes : (c : Setting) (facts : Facts c) (g : Ghost) (name : ℕ) (args : List Datum) (routine : TypedRoutine) (e : Data) → IsRoutine c routine
    → ((x : Flow) → IsResultBy routine.kind routine.result x → IsEnd c g (Call name args) x) → IsState c.tree g.trapped (local_cells routine ∷ g.frames) e
    → Goes c g (Call name args) (after (body c.tree routine) (result routine.kind) (λ error. leaves >> Raises error)) (calm e) e
body_goes c facts g name args routine e typed ends is =
    let inner : Ghost = record { trapped = g.trapped; frames = g.frames; lists = [] } in
    let list : AreStmts c (into (around_of (within routine) []) routine.list) routine.list =
    subst (λ (b : Bool). AreStmts c (into (outside routine routine.kind b) routine.list) routine.list) (sym (no_part routine.handler)) typed.list in
    meets_after (rules_of c) (λ flow x. IsFlow (around_of (within routine) []) flow × IsState c.tree g.trapped (local_cells routine ∷ g.frames) x) (λ n x. IsState c.tree g.trapped (local_cells routine ∷ g.frames) x)
    (λ flow x. IsEnd c g (Call name args) flow × IsState c.tree g.trapped g.frames x) (λ n x. IsState c.tree g.trapped g.frames x)
    (body c.tree routine) (result routine.kind) (λ error. leaves >> Raises error) (calm e) e
    (λ flow x ended. result_goes c g name args routine routine.kind flow x ends
    (subst (λ (b : Bool). IsFlow (outside routine routine.kind b) flow) (no_part routine.handler) ended.0) ended.1)
    (λ n x fails. left_by c g name args (local_cells routine) n x fails)
    (rest_safe c facts inner (within routine) routine.list routine.list (routine_errors c routine routine.handler typed.handler, list, list) e is)

entered_goes : (c : Setting) (g : Ghost) (name : ℕ) (args : List Datum) (m : Doing Flow) (room : Bool) (d e : Data) → IsState c.tree g.trapped g.frames d
    → Goes c g (Call name args) m (calm d) e → Goes c g (Call name args) (after (if room then Writes e done else fault DepthLimit) (λ _. m) Raises) (calm d) d
unfolding after
entered_goes c g name args m true d e is goes = goes
entered_goes c g name args m false d e is goes = record { rises = refl; same = refl; asked = record { asked = refl; trapped = g.trapped; frames = g.frames; state = is } }

called_safe : (c : Setting) (facts : Facts c) (g : Ghost) (name : ℕ) (args : List Datum) (routine : TypedRoutine) → slice_get c.tree.routines name ≡ Some routine
    → AreInCells c.tree g.frames (flat_map cells_of (map kind_of routine.params)) args
    → Safe (scene_of c facts g (Call name args)) (IsEnd c g (Call name args)) (called c.tree args (Some routine))
unfolding after
called_safe c facts g name args routine there are d is =
    let typed : IsRoutine c routine = all_at (IsRoutine c) c.tree.routines name routine facts.routines there in
    let e : Data = record d { frames = frame_of routine args ∷ d.frames } in
    entered_goes c g name args (after (body c.tree routine) (result routine.kind) (λ error. leaves >> Raises error)) (has_room d.frames (frame_of routine args)) d e is
    (body_goes c facts g name args routine e typed (λ x by. subst (λ (o : Option TypedRoutine). IsResult o x) (sym there) by)
    (record { slots = is.slots; frames_are = (frame_in c.tree g.frames routine args typed.locals are, is.frames_are); called = (record { number = name; routine = routine; there = there; are = refl }, is.called); in_trap = is.in_trap }))

call_keeps : (c : Setting) (facts : Facts c) (g : Ghost) (name : ℕ) (args : List Datum) → IsPart c g (Call name args)
    → Safe (scene_of c facts g (Call name args)) (IsEnd c g (Call name args)) (part c.tree (Call name args))
call_keeps c facts g name args is =
    subst (λ (o : Option TypedRoutine). Safe (scene_of c facts g (Call name args)) (IsEnd c g (Call name args)) (called c.tree args o)) (sym is.1) (called_safe c facts g name args is.0 is.1 is.2)

-- each part of a well typed task keeps what is claimed of it
pub keeps : (c : Setting) → Facts c → Keeps (rules_of c)
keeps c facts g (Attempt w s) d begins = stmt_safe c facts g w s begins.0 d begins.1
keeps c facts g (Turn w s) d begins = turn_safe c facts g w s begins.0 d begins.1
keeps c facts g (Leg w s way) d begins = leg_safe c facts g w s way begins.0 d begins.1
keeps c facts g (Rest w list more) d begins = rest_safe c facts g w list more begins.0 d begins.1
keeps c facts g (Call name args) d begins = call_keeps c facts g name args begins.0 d begins.1
