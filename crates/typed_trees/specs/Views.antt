-- How contracts see the trees of a checked task: without pointers and memory layout.
use Rattle.std.specs.Prelude.{ℕ, List, map, option_map}
use Rattle.std.specs.declared.alloc.Global.{Global}
use Rattle.std.specs.declared.vec.Vec.{Vec}
use Rattle.rapid_model.specs.declared.sort.Sort.{Sort}
use Rattle.rapid_model.specs.declared.value.Value.TheVariants.{Num}
use Rattle.rapid_model.specs.declared.operator.Operator.{Operator}
use Rattle.typed_trees.specs.declared.expr.Expr.{Expr}
use Rattle.typed_trees.specs.declared.expr.ExprForm.{ExprForm, Number, Const, Errno, Signal, Place, Group', Aggregate', Builtin', Call', Not', Signed', Chain', Row_of-Expr, end_of-Expr, more_of-Expr, Row_of-Arg, end_of-Arg, more_of-Arg, Row_of-ExprForm-Chain-1-2, end_of-ExprForm-Chain-1-2, more_of-ExprForm-Chain-1-2}
use Rattle.typed_trees.specs.declared.expr.Arg.{Arg, Value', Place as Lent', Signal as OfSignal', Meeting, Known, Option', Held-Arg-Option-1, Arg-Option-1-None', Arg-Option-1-Some'}
use Rattle.typed_trees.specs.declared.expr.TreePlace.{TreePlace, TreePlace', Held-TreePlace-index, TreePlace-index-None', TreePlace-index-Some'}
use Rattle.typed_trees.specs.declared.stmt.Stmt.{Stmt}
use Rattle.typed_trees.specs.declared.stmt.Form.{Form, Assign, Instruct, Call, Label, Goto, Return, Exit, Raise, Retry, TryNext, Connect, If', IfOne', For', While', Test', Row_of-Stmt, end_of-Stmt, more_of-Stmt, Row_of-Form-If-0-3, end_of-Form-If-0-3, more_of-Form-If-0-3, Row_of-Form-Test-1-3, end_of-Form-Test-1-3, more_of-Form-Test-1-3, Held-Form-If-1, None', Some'}
use Rattle.typed_trees.specs.declared.routine.LocalRow.{LocalRow}
use Rattle.typed_trees.specs.declared.routine.Param.{Param}
use Rattle.typed_trees.specs.declared.routine.Routine.{Routine}
use Rattle.typed_trees.specs.declared.data_rows.PersRow.{PersRow}
use Rattle.typed_trees.specs.declared.data_rows.SlotRow.{SlotRow}
use Rattle.typed_trees.specs.declared.tree.Tree.{Tree}
use Rattle.typed_trees.specs.Plain
use Rattle.typed_trees.specs.Plain.{TypedExpr, TypedExprs, TypedSteps, TypedHeld, TypedPlace, TypedArg, TypedArgument, TypedArgs, TypedStmt, TypedStmts, TypedArms, TypedCases, TypedElse, TypedParam, TypedLocal, TypedRoutine, TypedSlot, TypedPers, TypedTree, args_of, exprs_of, stmts_of}

abbrev mutual
  -- the expression with a form, at a byte and of a type
  pub view_form : ℕ → Sort → ExprForm → TypedExpr
  view_form at sort (Number number) = Plain.Known at sort (Num number)
  view_form at sort (Const value) = Plain.Known at sort value.value
  view_form at sort Errno = Plain.ErrorNumber at sort
  view_form at sort (Signal signal) = Plain.SignalValue at sort signal
  view_form at sort (Place place) = Plain.Stored at sort (view_place place)
  view_form at sort (Group' pointer begin kind form) = Plain.Group at sort (view_form begin kind form)
  view_form at sort (Aggregate' shape row) = Plain.Aggregate at sort (view_exprs row)
  view_form at sort (Builtin' function shape row) = Plain.Builtin at sort function (view_args row)
  view_form at sort (Call' routine shape row) = Plain.Invoke at sort routine (view_args row)
  view_form at sort (Not' pointer begin kind form) = Plain.Not at sort (view_form begin kind form)
  view_form at sort (Signed' minus pointer begin kind form) = Plain.Signed at sort minus (view_form begin kind form)
  view_form at sort (Chain' pointer begin kind form shape row) = Plain.Chain at sort (view_form begin kind form) (view_steps row)

  pub view_arg : Arg → TypedArg
  view_arg (Value' begin kind form) = Plain.Given (view_form begin kind form)
  view_arg (Lent' place) = Plain.Lent (view_place place)
  view_arg (OfSignal' signal) = Plain.OfSignal signal
  view_arg (Meeting meeting) = Plain.OfMeeting meeting
  view_arg (Known name) = Plain.Itself name
  view_arg (Option' name value) = Plain.Optional name (view_argument value)

  pub view_argument : Held-Arg-Option-1 → TypedArgument
  view_argument Arg-Option-1-None' = Plain.NoArgument
  view_argument (Arg-Option-1-Some' pointer arg) = Plain.Argument (view_arg arg)

  pub view_place : TreePlace → TypedPlace
  view_place (TreePlace' root index part sort) = Plain.PlaceOf root (view_index index) part sort

  pub view_index : Held-TreePlace-index → TypedHeld
  view_index TreePlace-index-None' = Plain.NotHeld
  view_index (TreePlace-index-Some' pointer begin kind form) = Plain.Held (view_form begin kind form)

  pub view_exprs : {n : _} → Row_of-Expr n → TypedExprs
  view_exprs end_of-Expr = Plain.NoExprs
  view_exprs (more_of-Expr begin kind form row) = Plain.MoreExprs (view_form begin kind form) (view_exprs row)

  pub view_args : {n : _} → Row_of-Arg n → TypedArgs
  view_args end_of-Arg = Plain.NoArgs
  view_args (more_of-Arg arg row) = Plain.MoreArgs (view_arg arg) (view_args row)

  pub view_steps : {n : _} → Row_of-ExprForm-Chain-1-2 n → TypedSteps
  view_steps end_of-ExprForm-Chain-1-2 = Plain.NoSteps
  view_steps (more_of-ExprForm-Chain-1-2 operator begin kind form row) = Plain.MoreSteps operator (view_form begin kind form) (view_steps row)

abbrev pub view_expr : Expr → TypedExpr
view_expr e = view_form e.at e.sort e.form

-- an operator and the operand after it
abbrev pub view_step : Operator × Expr → Operator × TypedExpr
view_step s = (s.0, view_expr s.1)

abbrev mutual
  -- the statement with a form, at a byte
  pub view_stmt_form : ℕ → Form → TypedStmt
  view_stmt_form at (Assign place value) = Plain.Assign at (view_place place) (view_expr value)
  view_stmt_form at (Instruct instruction args) = Plain.Instruct at instruction (args_of (map view_arg args.items))
  view_stmt_form at (Call routine args) = Plain.Call at routine (args_of (map view_arg args.items))
  view_stmt_form at (Label label) = Plain.Label at label
  view_stmt_form at (Goto label) = Plain.Goto at label
  view_stmt_form at (Return value) = Plain.Return at (option_map view_expr value)
  view_stmt_form at Exit = Plain.Exit at
  view_stmt_form at (Raise number) = Plain.Raise at (option_map view_expr number)
  view_stmt_form at Retry = Plain.Retry at
  view_stmt_form at TryNext = Plain.TryNext at
  view_stmt_form at (Connect place trap) = Plain.Connect at (view_place place) trap
  view_stmt_form at (If' shape row other) = Plain.If at (view_arms row) (view_else other)
  view_stmt_form at (IfOne' test pointer begin form) = Plain.IfOne at (view_expr test) (view_stmt_form begin form)
  view_stmt_form at (For' local bounds shape row) = Plain.For at local (view_expr bounds.value.first) (view_expr bounds.value.last) (option_map view_expr bounds.value.step) (view_stmts row)
  view_stmt_form at (While' test shape row) = Plain.While at (view_expr test) (view_stmts row)
  view_stmt_form at (Test' value shape row other) = Plain.Test at (view_expr value) (view_cases row) (view_else other)

  pub view_stmts : {n : _} → Row_of-Stmt n → TypedStmts
  view_stmts end_of-Stmt = Plain.NoStmts
  view_stmts (more_of-Stmt begin form row) = Plain.MoreStmts (view_stmt_form begin form) (view_stmts row)

  pub view_arms : {n : _} → Row_of-Form-If-0-3 n → TypedArms
  view_arms end_of-Form-If-0-3 = Plain.NoArms
  view_arms (more_of-Form-If-0-3 test shape list row) = Plain.MoreArms (view_expr test) (view_stmts list) (view_arms row)

  pub view_cases : {n : _} → Row_of-Form-Test-1-3 n → TypedCases
  view_cases end_of-Form-Test-1-3 = Plain.NoCases
  view_cases (more_of-Form-Test-1-3 values shape list row) = Plain.MoreCases (exprs_of (map view_expr values.items)) (view_stmts list) (view_cases row)

  pub view_else : Held-Form-If-1 → TypedElse
  view_else None' = Plain.NoElse
  view_else (Some' shape list) = Plain.Else (view_stmts list)

abbrev pub view_stmt : Stmt → TypedStmt
view_stmt s = view_stmt_form s.at s.form

abbrev pub view_list : Vec Stmt Global → List TypedStmt
view_list list = map view_stmt list.items

-- IF or ELSEIF with its list
abbrev pub view_arm : Expr × Vec Stmt Global → TypedExpr × List TypedStmt
view_arm a = (view_expr a.0, view_list a.1)

-- CASE with its values and its list
abbrev pub view_case : Vec Expr Global × Vec Stmt Global → List TypedExpr × List TypedStmt
view_case c = (map view_expr c.0.items, view_list c.1)

abbrev pub view_param : Param → TypedParam
view_param p = record { name = p.name; mode = p.mode; sort = p.sort }

abbrev pub view_local : LocalRow → TypedLocal
view_local l = record { name = l.name; variable = l.variable; sort = l.sort; len = l.len; first = l.first }

abbrev pub view_routine : Routine → TypedRoutine
view_routine r = record {
  name = r.name;
  «module» = r.«module»;
  kind = r.kind;
  result = r.result;
  params = map view_param r.params.items;
  locals = map view_local r.locals.items;
  list = stmts_of (view_list r.list);
  handler = option_map (λ list. stmts_of (view_list list)) r.handler;
  loops = r.loops;
  at = r.at;
}

abbrev pub view_slot : SlotRow → TypedSlot
view_slot s = record { name = s.name; variable = s.variable; sort = s.sort; len = s.len; first = s.first }

abbrev pub view_pers : PersRow → TypedPers
view_pers p = record {
  name = p.name;
  «module» = p.«module»;
  at = p.at;
  own = p.own;
  sort = p.sort;
  len = p.len;
  first = option_map (λ v. v.items) p.first;
}

abbrev pub view_tree : Tree → TypedTree
view_tree t = record {
  modules = t.modules;
  tasks = t.tasks.items;
  slots = map view_slot t.slots.items;
  pers = map view_pers t.pers.items;
  meetings = t.meetings.items;
  routines = map view_routine t.routines.items;
  main = t.main;
  pers_of = t.pers_of.items;
  meeting_of = t.meeting_of.items;
  axes = t.axes;
}
