-- Well-typed arguments and calls, as facts. IsValue says which typed forms an argument has as a value, by what is
-- required of it; IsIndexed which ones its index has.
use Rattle.std.specs.Prelude.{◌≡◌, ℕ, Bool, true, false, not, ◌&&◌, nat_lt, ◌||◌, List, [], ◌∷◌, length, Option, Some, None, slice_get, codes}
use Rattle.raw_trees.specs.Plain.{PlainName, PlainExpr, PlainArgs, Place, NotHeld, PlaceOf}
use Rattle.rapid_model.specs.declared.routine_kind.RoutineKind.{RoutineKind}
use Rattle.rapid_model.specs.declared.routine_kind.RoutineKind.TheVariants as kinds
use Rattle.rapid_model.specs.declared.predefined.Predefined.{Predefined}
use Rattle.rapid_model.specs.declared.predefined.Predefined.TheVariants as predefineds
use Rattle.rapid_model.specs.declared.sort.Sort.{Sort}
use Rattle.rapid_model.specs.declared.sort.Sort.TheVariants as sorts
use Rattle.rapid_model.specs.declared.part_name.PartName.TheVariants as parts
use Rattle.rapid_builtins.specs.Calls.{OptionRow, function_result}
use Rattle.rapid_builtins.specs.declared.need.Need.{Need}
use Rattle.rapid_builtins.specs.declared.need.Need.TheVariants as needs
use Rattle.typed_trees.specs.Plain
use Rattle.typed_trees.specs.Plain.{TypedExpr, TypedHeld, TypedArg, Given, Lent, OfSignal, OfMeeting, Itself, NoArgument, Argument}
use Rattle.typed_trees.specs.declared.expr.TreeRoot.{TreeRoot}
use Rattle.typed_trees.specs.declared.expr.TreeRoot.TheVariants as roots
use Rattle.data_scopes.specs.declared.meant.Meant.{Meant}
use Rattle.data_scopes.specs.declared.meant.Meant.TheVariants as meants
use Rattle.data_scopes.specs.Called.{kind_of, params_of, result_of}
use Rattle.data_scopes.specs.Meetings.{is_meeting, meetings_before}
use Rattle.rapid_model.specs.Sorts.{has_values}
use Rattle.named_data.specs.declared.named.Access.{Access}
use Rattle.named_data.specs.declared.named.NamedDatum.{NamedDatum}
use Rattle.named_data.specs.declared.named.Source.{Source}
use Rattle.named_data.specs.declared.named.Source.TheVariants as sources
use Rattle.named_data.specs.declared.wanted.Wanted.{Wanted}
use Rattle.named_data.specs.declared.wanted.Wanted.TheVariants.{Any, Is}
use Rattle.named_data.specs.Data.{NamedPart, named}
use Rattle.named_data.specs.Rules.{Site}
use Rattle.named_data.specs.Wants.{same_sort}
use Rattle.expr_types.specs.declared.callee.Callee.TheVariants as callees
use Rattle.expr_types.specs.Arguments.{is_held, is_bare, lends, takes, has_direction, one_dimension}
use Rattle.expr_types.specs.Calls.{Called, Signature, Taking, are_counted, are_chosen, routine_signature, function_signature, is_excluded}
use Rattle.type_laws.specs.Names.{IsDatum, IsPlace}

abbrev pub Values : Type 1
Values = Wanted → TypedExpr → Type 0

abbrev pub Indexes : Type 1
Indexes = TypedHeld → Type 0

-- the place of a source in the task's data, with this access
abbrev pub Stands : Source → TreeRoot → Access → Type 0
Stands (sources.Place root access) r a = (r ≡ root) × (a ≡ access)
Stands _ r a = ⊥

-- a place passed by reference, if its access and type fit
pub record IsLent (fits : Access → NamedPart → Bool) (p : NamedPart) (arg : TypedArg) : Type 0 where
  pub root : TreeRoot
  pub access : Access
  pub stands : Stands p.source root access
  pub fitting : fits access p ≡ true
  pub is_it : arg ≡ Lent (Plain.PlaceOf root p.index p.part p.sort)

-- an argument that is a place, of which this holds
abbrev pub IsPlaceArg : Site → Bool → (Access → NamedPart → Bool) → PlainExpr → Indexes → TypedArg → Type 0
IsPlaceArg s whole fits (Place at (PlaceOf name held components)) IsIndexed arg =
    (index : TypedHeld) × (p : NamedPart) × IsIndexed index × IsPlace s whole name (is_held held) index components p × IsLent fits p arg
IsPlaceArg s whole fits e IsIndexed arg = ⊥

-- a place that a callee reads and writes
abbrev pub IsReference : Site → Need → PlainExpr → Indexes → TypedArg → Type 0
IsReference s need e IsIndexed arg = IsPlaceArg s false (λ access p. lends need access && takes need p.sort) e IsIndexed arg

-- an array without an index
abbrev pub IsWhole : Site → (Sort → Bool) → PlainExpr → Indexes → TypedArg → Type 0
IsWhole s of_sort (Place at (PlaceOf name NotHeld [])) IsIndexed arg =
    IsPlaceArg s true (λ access p. p.array && of_sort p.sort) (Place at (PlaceOf name NotHeld [])) IsIndexed arg
IsWhole s of_sort e IsIndexed arg = ⊥

-- just a name, which means this
abbrev pub Names : Site → PlainExpr → Meant → Type 0
Names s (Place at (PlaceOf name NotHeld [])) meant = named s name ≡ Some meant
Names s e meant = ⊥

abbrev pub IsSignal : Site → Bool → PlainExpr → TypedArg → Type 0
IsSignal s output e arg =
    (number : ℕ) × Names s e (meants.Signal number) × (has_direction output (slice_get s.names.outputs number) ≡ true) × (arg ≡ OfSignal number)

abbrev pub IsMeeting : Site → PlainExpr → TypedArg → Type 0
IsMeeting s e arg =
    (number : ℕ) × Names s e (meants.Slot number) × (is_meeting (slice_get s.names.rows.slots number) ≡ true)
    × (arg ≡ OfMeeting (meetings_before number s.names.rows.slots))

-- just the name of a declared PERS
abbrev pub IsPersName : Site → PlainExpr → TypedArg → Type 0
IsPersName s (Place at (PlaceOf name NotHeld [])) arg =
    (d : NamedDatum) × (number : ℕ) × (access : Access) × IsDatum s name d × Stands d.source (roots.Pers number) access
    × (arg ≡ Lent (Plain.PlaceOf (roots.Pers number) Plain.NotHeld parts.Whole d.sort))
IsPersName s e arg = ⊥

abbrev pub IsValueArg : Wanted → Values → TypedArg → Type 0
IsValueArg want IsValue arg = (t : TypedExpr) × IsValue want t × (arg ≡ Given t)

abbrev pub IsItself : Predefined → List ℕ → PlainExpr → TypedArg → Type 0
IsItself name text e arg = (is_bare text e ≡ true) × (arg ≡ Itself name)

-- an argument is what its callee needs
abbrev pub IsArgument : Site → Need → PlainExpr → Values → Indexes → TypedArg → Type 0
IsArgument s (needs.Value sort) e IsValue IsIndexed arg = IsValueArg (Is sort) IsValue arg
IsArgument s (needs.Signal output) e IsValue IsIndexed arg = IsSignal s output e arg
IsArgument s (needs.Var sort) e IsValue IsIndexed arg = IsReference s (needs.Var sort) e IsIndexed arg
IsArgument s (needs.Pers sort) e IsValue IsIndexed arg = IsReference s (needs.Pers sort) e IsIndexed arg
IsArgument s (needs.VarOrPers sort) e IsValue IsIndexed arg = IsReference s (needs.VarOrPers sort) e IsIndexed arg
IsArgument s (needs.Written sort) e IsValue IsIndexed arg = IsReference s (needs.Written sort) e IsIndexed arg
IsArgument s needs.WorldZone e IsValue IsIndexed arg = IsReference s needs.WorldZone e IsIndexed arg
IsArgument s (needs.Place sort) e IsValue IsIndexed arg = IsPlaceArg s false (λ access p. same_sort p.sort sort) e IsIndexed arg
IsArgument s needs.Array e IsValue IsIndexed arg = IsWhole s has_values e IsIndexed arg
IsArgument s needs.TaskList e IsValue IsIndexed arg = IsWhole s (same_sort sorts.Tasks) e IsIndexed arg
IsArgument s needs.One e IsValue IsIndexed arg = IsValueArg (one_dimension e) IsValue arg
IsArgument s needs.Fine e IsValue IsIndexed arg = IsItself predefineds.Fine (codes "fine") e arg
IsArgument s needs.Tool e IsValue IsIndexed arg = IsItself predefineds.Tool0 (codes "tool0") e arg
IsArgument s needs.WorkObject e IsValue IsIndexed arg = IsItself predefineds.Wobj0 (codes "wobj0") e arg
IsArgument s needs.Meeting e IsValue IsIndexed arg = IsMeeting s e arg
IsArgument s needs.PersName e IsValue IsIndexed arg = IsPersName s e arg

-- the next needed argument; any further one is a value, and IsCall says that there is none
abbrev pub IsNeeded : Site → List Need → PlainExpr → Values → Indexes → TypedArg → Type 0
IsNeeded s [] e IsValue IsIndexed arg = IsValueArg Any IsValue arg
IsNeeded s (need ∷ more) e IsValue IsIndexed arg = IsArgument s need e IsValue IsIndexed arg

-- an allowed option, without a value
abbrev pub IsPlainOption : Taking → Option OptionRow → TypedArg → Type 0
IsPlainOption t None arg = ⊥
IsPlainOption t (Some row) arg =
    (row.value ≡ None) × (is_excluded t.choice row.name t.before ≡ false) × (arg ≡ Plain.Optional row.name NoArgument)

-- an allowed option, with a value
abbrev pub IsValuedOption : Site → Taking → Option OptionRow → PlainExpr → Values → Indexes → TypedArg → Type 0
IsValuedOption s t None e IsValue IsIndexed arg = ⊥
IsValuedOption s t (Some row) e IsValue IsIndexed arg =
    (need : Need) × (x : TypedArg) × (row.value ≡ Some need) × IsArgument s need e IsValue IsIndexed x
    × (is_excluded t.choice row.name t.before ≡ false) × (arg ≡ Plain.Optional row.name (Argument x))

-- as many arguments as needed, an option if one is required, and an arm if one is needed
pub record IsCall (s : Site) (signature : Signature) (args : PlainArgs) : Type 0 where
  pub counted : are_counted args (length signature.needs) ≡ true
  pub chosen : are_chosen signature.choice args ≡ true
  pub armed : (not signature.arm || nat_lt 0 s.names.axes) ≡ true

-- a function of the task, or a predefined one
abbrev pub IsRoutine : Site → ℕ → Option RoutineKind → Option Sort → Called → Type 0
IsRoutine s routine (Some kinds.Func) (Some sort) called =
    called ≡ record { callee = callees.Routine routine; signature = routine_signature (params_of s.names.rows routine); sort = sort }
IsRoutine s routine kind sort called = ⊥

abbrev pub IsFunctionMeant : Site → Option Meant → Called → Type 0
IsFunctionMeant s (Some (meants.Function f)) called =
    called ≡ record { callee = callees.Builtin f; signature = function_signature f; sort = function_result f }
IsFunctionMeant s (Some (meants.Routine routine)) called = IsRoutine s routine (kind_of s.names.rows routine) (result_of s.names.rows routine) called
IsFunctionMeant s _ called = ⊥

abbrev pub IsFunction : Site → PlainName → Called → Type 0
IsFunction s name called = IsFunctionMeant s (named s name) called
