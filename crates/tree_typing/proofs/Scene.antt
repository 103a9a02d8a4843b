-- The context of a doing of a well typed task, and the rules that its parts keep.
use Rattle.std.proofs.Common.{◌≡◌, ℕ, ◌<◌, ◌≤◌, Bool, true, false, List, ◌∷◌, length, map, All, flat_map, Option, Some, None, slice_get, IsTrue}
use Rattle.std.specs.Prelude.{⊤}
use Rattle.rapid_num.specs.Reach.{is_position, is_reachable}
use Rattle.rapid_model.specs.Paths.{has_sort}
use Rattle.rapid_model.specs.Sorts.{has_values}
use Rattle.rapid_model.specs.declared.request.Request.{Request}
use Rattle.rapid_model.specs.declared.sort.Sort.{Sort}
use Rattle.rapid_model.specs.declared.routine_kind.RoutineKind.{RoutineKind}
use Rattle.rapid_model.specs.declared.routine_kind.RoutineKind.TheVariants as kinds
use Rattle.typed_trees.specs.Plain as trees
use Rattle.typed_trees.specs.Plain.{TypedPers, TypedRoutine, TypedStmt, TypedStmts}
use Rattle.rapid_meaning.specs.Answering.{sort_of_pers}
use Rattle.rapid_meaning.specs.Data.{Data}
use Rattle.rapid_meaning.specs.Flows.{Flow, Normal, Jumps, Returns, Retries, Skips, Errors, Unguarded, Guarded, InPart, Way, Where, Part, Attempt, Turn, Leg, Rest, Call}
use Rattle.tree_typing.specs.Asked.{IsAsked}
use Rattle.tree_typing.specs.Kinds.{Cell, cells_of, kind_of, kinds_of, local_cells}
use Rattle.tree_typing.specs.Setting.{Setting, has_arm}
use Rattle.tree_typing.specs.States.{IsPers, IsState, AreInCells}
use Rattle.tree_typing.specs.Statements.{Around, AreStmts, IsStmt, ReturnsNothing, Sees, into}
use Rattle.tree_typing.specs.WellTyped.{IsRoutine, around_in}
use Rattle.tree_typing.proofs.Meets.{Rules}

-- what the numbers of persistents and meetings satisfy, and the list of tasks
pub record Facts (c : Setting) : Type 0 where
  pub numbers : (row : ℕ) (p : TypedPers) → slice_get c.tree.pers row ≡ Some p → (number : ℕ) × (slice_get c.tree.pers_of row ≡ Some number)
  pub sorts : (number : ℕ) (p : TypedPers) → IsPers c.tree number p → sort_of_pers c.tree.pers_of c.tree.pers number ≡ Some p.sort
  pub valued : (number : ℕ) (p : TypedPers) → IsPers c.tree number p → IsTrue (has_values p.sort)
  pub routines : All (IsRoutine c) c.tree.routines
  pub meetings : (row : ℕ) → row < length c.tree.meetings → (number : ℕ) × (slice_get c.tree.meeting_of row ≡ Some number)
  pub few_tasks : length c.tree.tasks ≤ 16

-- in a trap or not, and with frames of these places
pub record Scene : Type 0 where
  pub c : Setting
  pub facts : Facts c
  pub trapped : Bool
  pub frames : List (List Cell)

abbrev pub InScene : Scene → Data → Type 0
InScene s d = IsState s.c.tree s.trapped s.frames d

-- the context of a part: of a statement or list, the frames below its routine's, and the lists around it; of a call,
-- all frames
pub record Ghost : Type 0 where
  pub trapped : Bool
  pub frames : List (List Cell)
  pub lists : List TypedStmts

abbrev pub frames_in : Ghost → Part → List (List Cell)
frames_in g (Attempt w s) = local_cells w.routine ∷ g.frames
frames_in g (Turn w s) = local_cells w.routine ∷ g.frames
frames_in g (Leg w s way) = local_cells w.routine ∷ g.frames
frames_in g (Rest w list more) = local_cells w.routine ∷ g.frames
frames_in g (Call routine args) = g.frames

abbrev pub is_in_part : Errors → Bool
is_in_part Unguarded = false
is_in_part (Guarded list) = false
is_in_part (InPart n) = true

abbrev pub around_of : Where → List TypedStmts → Around
around_of w lists = record { places = kinds_of w.routine; kind = w.routine.kind; result = w.routine.result; handler = is_in_part w.errors; lists = lists }

-- the ERROR part to which errors go is well typed
abbrev pub AreErrors : Setting → TypedRoutine → Errors → Type 0
AreErrors c routine Unguarded = ⊤
AreErrors c routine (Guarded list) = AreStmts c (around_in routine true list) list
AreErrors c routine (InPart n) = ⊤

abbrev pub IsFor : TypedStmt → Type 0
IsFor (trees.For at local first last step list) = ⊤
IsFor _ = ⊥

-- a move of the task's arm outside traps, from a position to a target in reach, with a setpoint left
pub record IsWay (c : Setting) (trapped : Bool) (way : Way) : Type 0 where
  pub arm : IsTrue (has_arm c)
  pub untrapped : trapped ≡ false
  pub axes : way.plan.axes ≡ c.tree.axes
  pub start : IsTrue (is_position c.tree.axes way.plan.start)
  pub target : IsTrue (is_reachable c.tree.axes way.plan.target)
  pub left : way.given < way.plan.count

abbrev pub IsPart : Setting → Ghost → Part → Type 0
IsPart c g (Attempt w s) = AreErrors c w.routine w.errors × IsStmt c (around_of w g.lists) s
IsPart c g (Turn w s) = AreErrors c w.routine w.errors × IsFor s × IsStmt c (around_of w g.lists) s
IsPart c g (Leg w s way) = IsWay c g.trapped way
IsPart c g (Rest w list more) = AreErrors c w.routine w.errors × AreStmts c (into (around_of w g.lists) list) list × AreStmts c (into (around_of w g.lists) list) more
IsPart c g (Call called args) =
    (routine : TypedRoutine) × (slice_get c.tree.routines called ≡ Some routine) × AreInCells c.tree g.frames (flat_map cells_of (map kind_of routine.params)) args

-- how a statement may end
abbrev pub IsFlow : Around → Flow → Type 0
IsFlow around Normal = ⊤
IsFlow around (Jumps label) = Sees label around.lists
IsFlow around (Returns None) = ReturnsNothing around.kind
IsFlow around (Returns (Some v)) = (sort : Sort) × (around.kind ≡ kinds.Func) × (around.result ≡ Some sort) × IsTrue (has_sort sort v)
IsFlow around Retries = IsTrue around.handler
IsFlow around Skips = IsTrue around.handler

-- how a routine may end: a function with a value of its result's type
abbrev pub IsResultBy : RoutineKind → Option Sort → Flow → Type 0
IsResultBy kinds.Func result (Returns (Some v)) = (sort : Sort) × (result ≡ Some sort) × IsTrue (has_sort sort v)
IsResultBy kinds.Func result flow = ⊥
IsResultBy kind result flow = ⊤

abbrev pub IsResult : Option TypedRoutine → Flow → Type 0
IsResult None flow = ⊥
IsResult (Some routine) flow = IsResultBy routine.kind routine.result flow

abbrev pub IsEnd : Setting → Ghost → Part → Flow → Type 0
IsEnd c g (Attempt w s) flow = IsFlow (around_of w g.lists) flow
IsEnd c g (Turn w s) flow = IsFlow (around_of w g.lists) flow
IsEnd c g (Leg w s way) flow = IsFlow (around_of w g.lists) flow
IsEnd c g (Rest w list more) flow = IsFlow (around_of w g.lists) flow
IsEnd c g (Call called args) flow = IsResult (slice_get c.tree.routines called) flow

-- the task may ask the request, and the data have their types
pub record IsDue (c : Setting) (d : Data) (request : Request) : Type 0 where
  pub asked : IsAsked c d request
  pub trapped : Bool
  pub frames : List (List Cell)
  pub state : IsState c.tree trapped frames d

abbrev pub rules_of : Setting → Rules
rules_of c = record {
  tree = c.tree;
  Ghost = Ghost;
  Asked = IsDue c;
  Begins = λ g p d. IsPart c g p × IsState c.tree g.trapped (frames_in g p) d;
  Ends = λ g p flow d. IsEnd c g p flow × IsState c.tree g.trapped (frames_in g p) d;
  Fails = λ g p n d. IsState c.tree g.trapped (frames_in g p) d;
}
