-- When expressions are well typed, one line for each form, from the kinds of the routine's rows. An expression has the
-- type that its form names.
use Rattle.std.specs.Prelude.{◌≡◌, ℕ, ◌<◌, ◌≤◌, Bool, true, false, not, ◌||◌, IsTrue, List, [], ◌∷◌, length, map, Option, Some, None, slice_get, ⊤}
use Rattle.rapid_model.specs.Paths.{has_sort, part_sort}
use Rattle.rapid_model.specs.Sorts.{has_values}
use Rattle.rapid_model.specs.declared.part_name.PartName.TheVariants as parts
use Rattle.rapid_model.specs.declared.predefined.Predefined.TheVariants as predefineds
use Rattle.rapid_model.specs.declared.sort.Sort.{Sort}
use Rattle.rapid_model.specs.declared.sort.Sort.TheVariants as sorts
use Rattle.rapid_values.specs.Components.{Component, components}
use Rattle.rapid_model.specs.declared.routine_kind.RoutineKind.TheVariants.{Func}
use Rattle.rapid_builtins.specs.Calls.{function_needs, function_needs_arm, function_result}
use Rattle.rapid_builtins.specs.declared.need.Need.{Need}
use Rattle.rapid_builtins.specs.declared.need.Need.TheVariants as needs
use Rattle.typed_trees.specs.Plain.{TypedArg, TypedArgs, TypedExpr, TypedExprs, TypedPers, TypedPlace, TypedRoutine, TypedSlot, TypedSteps, TypedTree, Known, ErrorNumber, SignalValue, Stored, Group, Aggregate, Builtin, Invoke, Not, Signed, Chain, NoExprs, MoreExprs, NoSteps, MoreSteps, NotHeld, Held, PlaceOf, Given, Lent, OfSignal, OfMeeting, Itself, NoArgs, MoreArgs}
use Rattle.typed_trees.specs.declared.expr.TreeRoot.{TreeRoot}
use Rattle.typed_trees.specs.declared.expr.TreeRoot.TheVariants as roots
use Rattle.tree_typing.specs.Kinds.{Kind, Owns, Keeps, Refers, Counts, need_of, slot_kind}
use Rattle.tree_typing.specs.Operations.{Operates}
use Rattle.tree_typing.specs.Setting.{Setting, has_arm}

-- a row of data of this type and length; a row that is written is not a constant's
abbrev pub IsOwn : Bool → Kind → Sort → Option ℕ → Type 0
IsOwn written (Owns own length) sort len = (own ≡ sort) × (length ≡ len)
IsOwn written (Keeps own length first) sort len = (own ≡ sort) × (length ≡ len) × (written ≡ false)
IsOwn written (Refers own) sort len = ⊥
IsOwn written Counts sort len = (sort ≡ sorts.Num) × (len ≡ None)

-- a root has this type, and this length if it is an array; it is not a constant if it is written
abbrev pub IsRoot : TypedTree → List Kind → Bool → TreeRoot → Sort → Option ℕ → Type 0
IsRoot tree kinds written (roots.Slot row) sort len = (s : TypedSlot) × (slice_get tree.slots row ≡ Some s) × IsOwn written (slot_kind s) sort len
IsRoot tree kinds written (roots.Local row) sort len = (kind : Kind) × (slice_get kinds row ≡ Some kind) × IsOwn written kind sort len
IsRoot tree kinds written (roots.Ref row) sort len = (slice_get kinds row ≡ Some (Refers sort)) × (len ≡ None)
IsRoot tree kinds written (roots.Pers row) sort len = (p : TypedPers) × (slice_get tree.pers row ≡ Some p) × (p.sort ≡ sort) × (p.len ≡ len)

-- an array without an index
abbrev pub IsArray : Setting → List Kind → TypedPlace → Sort → Type 0
IsArray c kinds (PlaceOf root NotHeld parts.Whole own) sort = (own ≡ sort) × (len : ℕ) × IsRoot c.tree kinds false root sort (Some len)
IsArray c kinds _ sort = ⊥

-- the name of a persistent, which may be an array
abbrev pub IsPersName : Setting → TypedPlace → Type 0
IsPersName c (PlaceOf (roots.Pers row) NotHeld parts.Whole own) = (p : TypedPers) × (slice_get c.tree.pers row ≡ Some p) × (p.sort ≡ own)
IsPersName c _ = ⊥

-- types of the variables of world zones
abbrev pub is_zone : Sort → Bool
is_zone sorts.WzTemporary = true
is_zone sorts.WzStationary = true
is_zone _ = false

abbrev mutual
  pub IsExpr : Setting → List Kind → TypedExpr → Sort → Type 0
  IsExpr c kinds (Known at own v) sort = (own ≡ sort) × IsTrue (has_sort sort v)
  IsExpr c kinds (ErrorNumber at own) sort = (own ≡ sort) × (sort ≡ sorts.Num)
  IsExpr c kinds (SignalValue at own signal) sort = (own ≡ sort) × (sort ≡ sorts.Num) × (signal < c.signals)
  IsExpr c kinds (Stored at own p) sort = (own ≡ sort) × IsTrue (has_values sort) × IsPlace c kinds false p sort
  IsExpr c kinds (Group at own e) sort = (own ≡ sort) × IsExpr c kinds e sort
  IsExpr c kinds (Aggregate at own es) sort = (own ≡ sort) × (1 ≤ length (components own)) × AreComponents c kinds es (components own)
  IsExpr c kinds (Builtin at own function args) sort =
      (own ≡ sort) × (function_result function ≡ sort) × IsTrue (not (function_needs_arm function) || has_arm c) × AreArgs c kinds args (function_needs function)
  IsExpr c kinds (Invoke at own called args) sort =
      (own ≡ sort) × (routine : TypedRoutine) × (slice_get c.tree.routines called ≡ Some routine) × (routine.kind ≡ Func) × (routine.result ≡ Some sort)
      × AreArgs c kinds args (map need_of routine.params)
  IsExpr c kinds (Not at own e) sort = (own ≡ sort) × (sort ≡ sorts.Bool) × IsExpr c kinds e sorts.Bool
  IsExpr c kinds (Signed at own minus e) sort = (own ≡ sort) × (sort ≡ sorts.Num) × IsExpr c kinds e sorts.Num
  IsExpr c kinds (Chain at own e steps) sort = (own ≡ sort) × (first : Sort) × IsExpr c kinds e first × AreSteps c kinds steps first sort

  -- the elements of brackets, each of its component's type
  pub AreComponents : Setting → List Kind → TypedExprs → List Component → Type 0
  AreComponents c kinds NoExprs [] = ⊤
  AreComponents c kinds (MoreExprs e es) (component ∷ more) = IsExpr c kinds e component.sort × AreComponents c kinds es more
  AreComponents c kinds _ _ = ⊥

  -- operators that follow an operand of the first type, and give a value of the second type
  pub AreSteps : Setting → List Kind → TypedSteps → Sort → Sort → Type 0
  AreSteps c kinds NoSteps first sort = first ≡ sort
  AreSteps c kinds (MoreSteps o e steps) first sort = (next : Sort) × Operates o first next × IsExpr c kinds e first × AreSteps c kinds steps next sort

  -- a place of a type, to read or to write: a datum that is not an array, an element of an array, or a part of these
  pub IsPlace : Setting → List Kind → Bool → TypedPlace → Sort → Type 0
  IsPlace c kinds written (PlaceOf root NotHeld part own) sort = (own ≡ sort) × (whole : Sort) × IsRoot c.tree kinds written root whole None × (part_sort whole part ≡ Some sort)
  IsPlace c kinds written (PlaceOf root (Held e) part own) sort =
      (own ≡ sort) × (whole : Sort) × (len : ℕ) × IsRoot c.tree kinds written root whole (Some len) × (part_sort whole part ≡ Some sort) × IsExpr c kinds e sorts.Num

  -- an argument is what its callee needs
  pub IsArg : Setting → List Kind → TypedArg → Need → Type 0
  IsArg c kinds (Given e) (needs.Value sort) = IsExpr c kinds e sort
  IsArg c kinds (Given e) needs.One = IsExpr c kinds e sorts.Num
  IsArg c kinds (Lent p) (needs.Var sort) = IsPlace c kinds true p sort
  IsArg c kinds (Lent p) (needs.Pers sort) = IsPlace c kinds true p sort
  IsArg c kinds (Lent p) (needs.VarOrPers sort) = IsPlace c kinds true p sort
  IsArg c kinds (Lent p) (needs.Written sort) = IsPlace c kinds true p sort
  IsArg c kinds (Lent p) (needs.Place sort) = IsPlace c kinds false p sort
  IsArg c kinds (Lent p) needs.WorldZone = (sort : Sort) × IsTrue (is_zone sort) × IsPlace c kinds true p sort
  IsArg c kinds (Lent p) needs.Array = (sort : Sort) × IsTrue (has_values sort) × IsArray c kinds p sort
  IsArg c kinds (Lent p) needs.TaskList = IsArray c kinds p sorts.Tasks
  IsArg c kinds (Lent p) needs.PersName = IsPersName c p
  IsArg c kinds (OfSignal signal) (needs.Signal output) = signal < c.signals
  IsArg c kinds (OfMeeting meeting) needs.Meeting = meeting < length c.tree.meetings
  IsArg c kinds (Itself name) needs.Fine = name ≡ predefineds.Fine
  IsArg c kinds (Itself name) needs.Tool = name ≡ predefineds.Tool0
  IsArg c kinds (Itself name) needs.WorkObject = name ≡ predefineds.Wobj0
  IsArg c kinds _ _ = ⊥

  pub AreArgs : Setting → List Kind → TypedArgs → List Need → Type 0
  AreArgs c kinds NoArgs [] = ⊤
  AreArgs c kinds (MoreArgs arg more) (need ∷ others) = IsArg c kinds arg need × AreArgs c kinds more others
  AreArgs c kinds _ _ = ⊥
