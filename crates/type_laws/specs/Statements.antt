-- Which typed form a statement has, one case per form (RAPID Kernel, statements). FORs are numbered in text order.
use Rattle.std.specs.Prelude.{◌≡◌, ℕ, ◌+◌, true, false, List, [], ◌∷◌, Option, Some, None}
use Rattle.raw_trees.specs.Plain.{PlainName, PlainExpr, PlainPlace, PlainArgs, PlainStmt, PlainStmts, PlainArms, PlainCases, PlainElse, PlaceOf, Assign, Call, Label, Goto, Return, Exit, Raise, Retry, TryNext, Connect, If, IfOne, For, While, Test, NoStmts, MoreStmts, NoArms, MoreArms, NoCases, MoreCases, NoElse, Else}
use Rattle.rapid_model.specs.declared.operator.Operator.TheVariants as operators
use Rattle.rapid_model.specs.declared.routine_kind.RoutineKind.{RoutineKind}
use Rattle.rapid_model.specs.declared.routine_kind.RoutineKind.TheVariants as kinds
use Rattle.rapid_model.specs.declared.sort.Sort.{Sort}
use Rattle.rapid_model.specs.declared.sort.Sort.TheVariants as sorts
use Rattle.typed_trees.specs.Plain
use Rattle.typed_trees.specs.Plain.{TypedExpr, TypedExprs, TypedHeld, TypedPlace, TypedArgs, TypedStmt, TypedStmts, TypedArms, TypedCases, TypedElse}
use Rattle.typed_trees.specs.declared.expr.TreeRoot.{TreeRoot}
use Rattle.data_scopes.specs.declared.meant.Meant.{Meant}
use Rattle.data_scopes.specs.declared.meant.Meant.TheVariants as meants
use Rattle.data_scopes.specs.Called.{kind_of, params_of, result_of}
use Rattle.rapid_model.specs.Sorts.{has_values}
use Rattle.named_data.specs.declared.named.Access.{Access}
use Rattle.named_data.specs.declared.wanted.Wanted.TheVariants.{Is, Same, Fits}
use Rattle.named_data.specs.Data.{NamedPart, named}
use Rattle.named_data.specs.Rules.{Site}
use Rattle.expr_types.specs.Arguments.{is_held, is_fixed}
use Rattle.expr_types.specs.Calls.{Signature, taking, routine_signature, instruction_signature}
use Rattle.expr_types.specs.Typing.{sort_of}
use Rattle.type_laws.specs.Names.{IsPlace}
use Rattle.type_laws.specs.Calls.{Stands, IsCall}
use Rattle.type_laws.specs.Expressions.{IsExpr, IsIndex, AreArguments}
use Rattle.stmt_types.specs.Labels.{label_number, is_first, is_visible}
use Rattle.stmt_types.specs.Bodies.{Body, Around, site, into, into_loop, counter_index, place_sort, is_signal, name_of}

-- a part of what the place names
abbrev pub IsNamed : Site → PlainPlace → NamedPart → Type 0
IsNamed s (PlaceOf name held components) p = (i : TypedHeld) × IsIndex s held i × IsPlace s false name (is_held held) i components p

-- the place of a part in the task's data
abbrev pub IsPlaceOf : NamedPart → TypedPlace → Type 0
IsPlaceOf p place = (root : TreeRoot) × (access : Access) × Stands p.source root access × (place ≡ Plain.PlaceOf root p.index p.part p.sort)

-- the left side of an assignment: a place that may be written, of a type that has values
abbrev pub IsTarget : Site → PlainPlace → TypedPlace → Type 0
IsTarget s written place =
    (p : NamedPart) × (is_signal (named s (name_of written)) ≡ false) × IsNamed s written p × (has_values p.sort ≡ true) × (is_fixed p.source ≡ false) × IsPlaceOf p place

abbrev pub AreCallArguments : Site → PlainArgs → Signature → TypedArgs → Type 0
AreCallArguments s args signature us = AreArguments s args (taking signature) us × IsCall s signature args

-- a procedure of the task, or an instruction
abbrev pub IsCalled : Site → ℕ → PlainArgs → Option Meant → TypedStmt → Type 0
IsCalled s at args (Some (meants.Instruction i)) t = (us : TypedArgs) × AreCallArguments s args (instruction_signature i args) us × (t ≡ Plain.Instruct at i us)
IsCalled s at args (Some (meants.Routine routine)) t =
    (us : TypedArgs) × (kind_of s.names.rows routine ≡ Some kinds.Proc) × AreCallArguments s args (routine_signature (params_of s.names.rows routine)) us
    × (t ≡ Plain.Call at routine us)
IsCalled s at args meant t = ⊥

abbrev pub IsReturnedValue : Site → ℕ → PlainExpr → RoutineKind → Option Sort → TypedStmt → Type 0
IsReturnedValue s at e kinds.Func (Some sort) t = (u : TypedExpr) × IsExpr s e (Is sort) u × (t ≡ Plain.Return at (Some u))
IsReturnedValue s at e kind sort t = ⊥

-- a function returns a value of its type; no other routine returns one
abbrev pub IsReturn : Body → Site → ℕ → Option PlainExpr → RoutineKind → TypedStmt → Type 0
IsReturn body s at None kinds.Func t = ⊥
IsReturn body s at None kind t = t ≡ Plain.Return at None
IsReturn body s at (Some e) kind t = IsReturnedValue s at e kind (result_of s.names.rows body.routine) t

abbrev pub IsRaise : Around → Site → ℕ → Option PlainExpr → TypedStmt → Type 0
IsRaise around s at None t = (around.handler ≡ true) × (t ≡ Plain.Raise at None)
IsRaise around s at (Some e) t = (u : TypedExpr) × IsExpr s e (Is sorts.Num) u × (t ≡ Plain.Raise at (Some u))

-- a place of an interrupt's number, and a trap
abbrev pub IsConnect : Site → ℕ → PlainPlace → PlainName → TypedStmt → Type 0
IsConnect s at written trap t =
    (p : NamedPart) × (place : TypedPlace) × (routine : ℕ) × (is_signal (named s (name_of written)) ≡ false) × IsNamed s written p × (p.sort ≡ sorts.IntNum)
    × IsPlaceOf p place × (named s trap ≡ Some (meants.Routine routine)) × (kind_of s.names.rows routine ≡ Some kinds.Trap)
    × (t ≡ Plain.Connect at place routine)

-- the step of a FOR, if it has one
abbrev pub IsStep : Site → Option PlainExpr → Option TypedExpr → Type 0
IsStep s None u = u ≡ None
IsStep s (Some e) u = (t : TypedExpr) × IsExpr s e (Is sorts.Num) t × (u ≡ Some t)

-- the values of a CASE
abbrev pub AreCaseValues : Site → Sort → List PlainExpr → TypedExprs → Type 0
AreCaseValues s sort [] us = us ≡ Plain.NoExprs
AreCaseValues s sort (e ∷ es) us =
    (t : TypedExpr) × (ts : TypedExprs) × IsExpr s e (Same sort) t × AreCaseValues s sort es ts × (us ≡ Plain.MoreExprs t ts)

-- the next FOR has the number next, and the one after these statements the number past
unfoldable mutual
  pub IsStmt : Body → PlainStmt → Around → ℕ → TypedStmt → ℕ → Type 0
  IsStmt body (Assign at written value) around next t past =
      (place : TypedPlace) × (u : TypedExpr) × IsTarget (site body around at) written place × IsExpr (site body around at) value (Is (place_sort place)) u
      × (t ≡ Plain.Assign at place u) × (past ≡ next)
  IsStmt body (Call at name args) around next t past = IsCalled (site body around at) at args (named (site body around at) name) t × (past ≡ next)
  IsStmt body (Label at name) around next t past =
      (is_first name body.labels ≡ true) × (t ≡ Plain.Label at (label_number name.text body.labels)) × (past ≡ next)
  IsStmt body (Goto at name) around next t past =
      (is_visible name.text around.labels ≡ true) × (t ≡ Plain.Goto at (label_number name.text body.labels)) × (past ≡ next)
  IsStmt body (Return at value) around next t past = IsReturn body (site body around at) at value body.kind t × (past ≡ next)
  IsStmt body (Exit at) around next t past = (t ≡ Plain.Exit at) × (past ≡ next)
  IsStmt body (Raise at number) around next t past = IsRaise around (site body around at) at number t × (past ≡ next)
  IsStmt body (Retry at) around next t past = (around.handler ≡ true) × (t ≡ Plain.Retry at) × (past ≡ next)
  IsStmt body (TryNext at) around next t past = (around.handler ≡ true) × (t ≡ Plain.TryNext at) × (past ≡ next)
  IsStmt body (Connect at written trap) around next t past = IsConnect (site body around at) at written trap t × (past ≡ next)
  IsStmt body (If at arms other) around next t past =
      (us : TypedArms) × (v : TypedElse) × (middle : ℕ) × AreBranches body arms (site body around at) around next us middle
      × IsOtherwise body other around middle v past × (t ≡ Plain.If at us v)
  IsStmt body (IfOne at test simple) around next t past =
      (u : TypedExpr) × (v : TypedStmt) × IsExpr (site body around at) test (Is sorts.Bool) u × IsStmt body simple around next v past
      × (t ≡ Plain.IfOne at u v)
  IsStmt body (For at name first last step list) around next t past =
      (f : TypedExpr) × (l : TypedExpr) × (u : Option TypedExpr) × (ts : TypedStmts) × IsExpr (site body around at) first (Is sorts.Num) f
      × IsExpr (site body around at) last (Is sorts.Num) l × IsStep (site body around at) step u
      × AreStmts body list (into_loop around next list) (next + 1) ts past × (t ≡ Plain.For at (counter_index body next) f l u ts)
  IsStmt body (While at test list) around next t past =
      (u : TypedExpr) × (ts : TypedStmts) × IsExpr (site body around at) test (Is sorts.Bool) u
      × AreStmts body list (into around list) next ts past × (t ≡ Plain.While at u ts)
  IsStmt body (Test at value cases other) around next t past =
      (u : TypedExpr) × (us : TypedCases) × (v : TypedElse) × (middle : ℕ) × IsExpr (site body around at) value (Fits operators.Equal) u
      × AreChoices body cases (site body around at) (sort_of u) around next us middle × IsOtherwise body other around middle v past
      × (t ≡ Plain.Test at u us v)

  pub AreStmts : Body → PlainStmts → Around → ℕ → TypedStmts → ℕ → Type 0
  AreStmts body NoStmts around next ts past = (ts ≡ Plain.NoStmts) × (past ≡ next)
  AreStmts body (MoreStmts first list) around next ts past =
      (u : TypedStmt) × (us : TypedStmts) × (middle : ℕ) × IsStmt body first around next u middle × AreStmts body list around middle us past
      × (ts ≡ Plain.MoreStmts u us)

  -- IF and ELSEIF
  pub AreBranches : Body → PlainArms → Site → Around → ℕ → TypedArms → ℕ → Type 0
  AreBranches body NoArms s around next ts past = (ts ≡ Plain.NoArms) × (past ≡ next)
  AreBranches body (MoreArms test list arms) s around next ts past =
      (u : TypedExpr) × (l : TypedStmts) × (us : TypedArms) × (middle : ℕ) × IsExpr s test (Is sorts.Bool) u
      × AreStmts body list (into around list) next l middle × AreBranches body arms s around middle us past × (ts ≡ Plain.MoreArms u l us)

  -- CASE
  pub AreChoices : Body → PlainCases → Site → Sort → Around → ℕ → TypedCases → ℕ → Type 0
  AreChoices body NoCases s sort around next ts past = (ts ≡ Plain.NoCases) × (past ≡ next)
  AreChoices body (MoreCases values list cases) s sort around next ts past =
      (vs : TypedExprs) × (l : TypedStmts) × (us : TypedCases) × (middle : ℕ) × AreCaseValues s sort values vs
      × AreStmts body list (into around list) next l middle × AreChoices body cases s sort around middle us past × (ts ≡ Plain.MoreCases vs l us)

  -- ELSE and DEFAULT
  pub IsOtherwise : Body → PlainElse → Around → ℕ → TypedElse → ℕ → Type 0
  IsOtherwise body NoElse around next t past = (t ≡ Plain.NoElse) × (past ≡ next)
  IsOtherwise body (Else list) around next t past =
      (l : TypedStmts) × AreStmts body list (into around list) next l past × (t ≡ Plain.Else l)
