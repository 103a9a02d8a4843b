-- When a task's tree is well typed.
use Rattle.std.specs.Prelude.{◌≡◌, ℕ, Bool, true, false, IsTrue, List, [], ◌∷◌, length, Option, Some, None, slice_get, All, ⊤}
use Rattle.rapid_model.specs.Limits.{is_axes}
use Rattle.rapid_model.specs.Paths.{has_sort}
use Rattle.rapid_model.specs.Sorts.{has_values, width}
use Rattle.rapid_model.specs.declared.sort.Sort.{Sort}
use Rattle.rapid_model.specs.declared.sort.Sort.TheVariants as sorts
use Rattle.rapid_model.specs.declared.routine_kind.RoutineKind.{RoutineKind}
use Rattle.rapid_model.specs.declared.routine_kind.RoutineKind.TheVariants as routines
use Rattle.typed_trees.specs.Plain.{TypedLocal, TypedParam, TypedPers, TypedRoutine, TypedSlot, TypedStmts, TypedTree}
use Rattle.typed_trees.specs.declared.datum.Datum.{Datum}
use Rattle.typed_trees.specs.declared.datum.Datum.TheVariants as datums
use Rattle.tree_typing.specs.Kinds.{kinds_of}
use Rattle.tree_typing.specs.Setting.{Setting}
use Rattle.tree_typing.specs.Statements.{Around, AreStmts}

-- types whose data hold a number from the cell, or none
abbrev pub is_marked : Sort → Bool
is_marked sorts.IntNum = true
is_marked sorts.SyncIdent = true
is_marked sorts.WzTemporary = true
is_marked sorts.WzStationary = true
is_marked _ = false

-- a datum of a type: a complete value, a number, or a shape or none
abbrev pub is_datum_of : Sort → Datum → Bool
is_datum_of sort (datums.Plain v) = has_sort sort v
is_datum_of sort (datums.Mark number) = is_marked sort
is_datum_of sorts.ShapeData (datums.Shape shape) = true
is_datum_of sort _ = false

-- a datum of the type for each element
abbrev pub AreFirst : Sort → Option ℕ → List Datum → Type 0
AreFirst sort len first = (length first ≡ width len) × All (λ x. IsTrue (is_datum_of sort x)) first

-- the context of the statements of a routine's list, or of its ERROR part
abbrev pub around_in : TypedRoutine → Bool → TypedStmts → Around
around_in routine handler list = record { places = kinds_of routine; kind = routine.kind; result = routine.result; handler = handler; lists = list ∷ [] }

abbrev pub IsHandler : Setting → TypedRoutine → Option TypedStmts → Type 0
IsHandler c routine None = ⊤
IsHandler c routine (Some list) = AreStmts c (around_in routine true list) list

-- only a PROC and a FUNC have parameters
abbrev pub TakesByKind : RoutineKind → List TypedParam → Type 0
TakesByKind routines.Trap params = params ≡ []
TakesByKind _ params = ⊤

pub record IsRoutine (c : Setting) (routine : TypedRoutine) : Type 0 where
  pub locals : All (λ (row : TypedLocal). AreFirst row.sort row.len row.first) routine.locals
  pub list : AreStmts c (around_in routine false routine.list) routine.list
  pub handler : IsHandler c routine routine.handler
  pub takes : TakesByKind routine.kind routine.params

-- the main of a tree: a PROC without parameters
pub record IsMain (tree : TypedTree) : Type 0 where
  pub routine : TypedRoutine
  pub there : slice_get tree.routines tree.main ≡ Some routine
  pub procedure : routine.kind ≡ routines.Proc
  pub takes_nothing : routine.params ≡ []

-- a tree, in a cell with this many signals
pub record WellTyped (signals : ℕ) (tree : TypedTree) : Type 0 where
  pub slots : All (λ (row : TypedSlot). AreFirst row.sort row.len row.first) tree.slots
  pub pers : All (λ (row : TypedPers). IsTrue (has_values row.sort)) tree.pers
  pub routines : All (IsRoutine (record { signals = signals; tree = tree })) tree.routines
  pub main : IsMain tree
  pub axes : IsTrue (is_axes tree.axes)
