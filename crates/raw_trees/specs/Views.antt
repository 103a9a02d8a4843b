-- How contracts see the raw trees: without pointers, independent of memory.
use Rattle.std.specs.Prelude.{ℕ, List, map, option_map}
use Rattle.std.specs.declared.alloc.Global.{Global}
use Rattle.std.specs.declared.vec.Vec.{Vec}
use Rattle.raw_trees.specs.declared.raw_name.RawName.{RawName}
use Rattle.rapid_model.specs.declared.operator.Operator.{Operator}
use Rattle.raw_trees.specs.declared.raw_expr.RawExpr.{RawExpr}
use Rattle.raw_trees.specs.declared.raw_expr.RawExprForm.{RawExprForm, Number, Text, Bool, Group', Aggregate', Call', Place, Not', Signed', Chain', Row_of-RawExpr, end_of-RawExpr, more_of-RawExpr, Row_of-RawArg, end_of-RawArg, more_of-RawArg, Row_of-RawExprForm-Chain-1-2, end_of-RawExprForm-Chain-1-2, more_of-RawExprForm-Chain-1-2}
use Rattle.raw_trees.specs.declared.raw_expr.RawArg.{RawArg, Needed', Option', Held-RawArg-Option-1, RawArg-Option-1-None', RawArg-Option-1-Some'}
use Rattle.raw_trees.specs.declared.raw_expr.RawPlace.{RawPlace, RawPlace', Held-RawPlace-index, RawPlace-index-None', RawPlace-index-Some'}
use Rattle.raw_trees.specs.declared.raw_stmt.RawStmt.{RawStmt}
use Rattle.raw_trees.specs.declared.raw_stmt.RawForm.{RawForm, Assign, Call, Label, Goto, Return, Exit, Raise, Retry, TryNext, Connect, If', IfOne', For', While', Test', Row_of-RawStmt, end_of-RawStmt, more_of-RawStmt, Row_of-RawForm-If-0-3, end_of-RawForm-If-0-3, more_of-RawForm-If-0-3, Row_of-RawForm-Test-1-3, end_of-RawForm-Test-1-3, more_of-RawForm-Test-1-3, Held-RawForm-If-1, None', Some'}
use Rattle.raw_trees.specs.declared.raw_datum.RawDatum.{RawDatum}
use Rattle.raw_trees.specs.declared.raw_routine.RawParam.{RawParam}
use Rattle.raw_trees.specs.declared.raw_routine.RawRoutine.{RawRoutine}
use Rattle.raw_trees.specs.declared.raw_module.RawItem.{RawItem}
use Rattle.raw_trees.specs.declared.raw_module.RawItem.TheVariants.{Datum, Routine}
use Rattle.raw_trees.specs.declared.raw_module.RawModule.{RawModule}
use Rattle.raw_trees.specs.Plain
use Rattle.raw_trees.specs.Plain.{PlainName, PlainExpr, PlainExprs, PlainSteps, PlainHeld, PlainPlace, PlainArg, PlainArgs, PlainStmt, PlainStmts, PlainArms, PlainCases, PlainElse, PlainDatum, PlainParam, PlainRoutine, PlainItem, PlainModule, args_of}

abbrev pub view_name : RawName → PlainName
view_name n = record { text = n.text.now; at = n.at }

abbrev mutual
  -- the expression for a form that starts at a byte
  pub view_form : ℕ → RawExprForm → PlainExpr
  view_form at (Number text) = Plain.Number at text.now
  view_form at (Text text) = Plain.Quoted at text.now
  view_form at (Bool value) = Plain.Truth at value
  view_form at (Group' pointer begin form) = Plain.Group at (view_form begin form)
  view_form at (Aggregate' shape row) = Plain.Aggregate at (view_exprs row)
  view_form at (Call' name shape row) = Plain.Invoke at (view_name name) (view_args row)
  view_form at (Place place) = Plain.Place at (view_place place)
  view_form at (Not' pointer begin form) = Plain.Not at (view_form begin form)
  view_form at (Signed' minus pointer begin form) = Plain.Signed at minus (view_form begin form)
  view_form at (Chain' pointer begin form shape row) = Plain.Chain at (view_form begin form) (view_steps row)

  pub view_arg : RawArg → PlainArg
  view_arg (Needed' begin form) = Plain.Needed (view_form begin form)
  view_arg (Option' name value at) = Plain.Optional (view_name name) (view_option value) at

  pub view_place : RawPlace → PlainPlace
  view_place (RawPlace' name index parts) = Plain.PlaceOf (view_name name) (view_index index) (map view_name parts.items)

  pub view_option : Held-RawArg-Option-1 → PlainHeld
  view_option RawArg-Option-1-None' = Plain.NotHeld
  view_option (RawArg-Option-1-Some' begin form) = Plain.Held (view_form begin form)

  pub view_index : Held-RawPlace-index → PlainHeld
  view_index RawPlace-index-None' = Plain.NotHeld
  view_index (RawPlace-index-Some' pointer begin form) = Plain.Held (view_form begin form)

  pub view_exprs : {n : _} → Row_of-RawExpr n → PlainExprs
  view_exprs end_of-RawExpr = Plain.NoExprs
  view_exprs (more_of-RawExpr begin form row) = Plain.MoreExprs (view_form begin form) (view_exprs row)

  pub view_args : {n : _} → Row_of-RawArg n → PlainArgs
  view_args end_of-RawArg = Plain.NoArgs
  view_args (more_of-RawArg arg row) = Plain.MoreArgs (view_arg arg) (view_args row)

  pub view_steps : {n : _} → Row_of-RawExprForm-Chain-1-2 n → PlainSteps
  view_steps end_of-RawExprForm-Chain-1-2 = Plain.NoSteps
  view_steps (more_of-RawExprForm-Chain-1-2 operator begin form row) = Plain.MoreSteps operator (view_form begin form) (view_steps row)

abbrev pub view_expr : RawExpr → PlainExpr
view_expr e = view_form e.at e.form

-- an operator and the operand after it
abbrev pub view_step : Operator × RawExpr → Operator × PlainExpr
view_step s = (s.0, view_expr s.1)

abbrev mutual
  -- the statement for a form that starts at a byte
  pub view_stmt_form : ℕ → RawForm → PlainStmt
  view_stmt_form at (Assign place value) = Plain.Assign at (view_place place) (view_expr value)
  view_stmt_form at (Call name args) = Plain.Call at (view_name name) (args_of (map view_arg args.items))
  view_stmt_form at (Label name) = Plain.Label at (view_name name)
  view_stmt_form at (Goto name) = Plain.Goto at (view_name name)
  view_stmt_form at (Return value) = Plain.Return at (option_map view_expr value)
  view_stmt_form at Exit = Plain.Exit at
  view_stmt_form at (Raise value) = Plain.Raise at (option_map view_expr value)
  view_stmt_form at Retry = Plain.Retry at
  view_stmt_form at TryNext = Plain.TryNext at
  view_stmt_form at (Connect place trap) = Plain.Connect at (view_place place) (view_name trap)
  view_stmt_form at (If' shape row other) = Plain.If at (view_arms row) (view_else other)
  view_stmt_form at (IfOne' test pointer begin form) = Plain.IfOne at (view_expr test) (view_stmt_form begin form)
  view_stmt_form at (For' name bounds shape row) = Plain.For at (view_name name) (view_expr bounds.value.first) (view_expr bounds.value.last) (option_map view_expr bounds.value.step) (view_stmts row)
  view_stmt_form at (While' test shape row) = Plain.While at (view_expr test) (view_stmts row)
  view_stmt_form at (Test' value shape row other) = Plain.Test at (view_expr value) (view_cases row) (view_else other)

  pub view_stmts : {n : _} → Row_of-RawStmt n → PlainStmts
  view_stmts end_of-RawStmt = Plain.NoStmts
  view_stmts (more_of-RawStmt begin form row) = Plain.MoreStmts (view_stmt_form begin form) (view_stmts row)

  pub view_arms : {n : _} → Row_of-RawForm-If-0-3 n → PlainArms
  view_arms end_of-RawForm-If-0-3 = Plain.NoArms
  view_arms (more_of-RawForm-If-0-3 test shape list row) = Plain.MoreArms (view_expr test) (view_stmts list) (view_arms row)

  pub view_cases : {n : _} → Row_of-RawForm-Test-1-3 n → PlainCases
  view_cases end_of-RawForm-Test-1-3 = Plain.NoCases
  view_cases (more_of-RawForm-Test-1-3 values shape list row) = Plain.MoreCases (map view_expr values.items) (view_stmts list) (view_cases row)

  pub view_else : Held-RawForm-If-1 → PlainElse
  view_else None' = Plain.NoElse
  view_else (Some' shape list) = Plain.Else (view_stmts list)

abbrev pub view_stmt : RawStmt → PlainStmt
view_stmt s = view_stmt_form s.at s.form

abbrev pub view_list : Vec RawStmt Global → List PlainStmt
view_list list = map view_stmt list.items

-- IF or ELSEIF with its list
abbrev pub view_arm : RawExpr × Vec RawStmt Global → PlainExpr × List PlainStmt
view_arm a = (view_expr a.0, view_list a.1)

-- CASE with its values and its list
abbrev pub view_case : Vec RawExpr Global × Vec RawStmt Global → List PlainExpr × List PlainStmt
view_case c = (map view_expr c.0.items, view_list c.1)

abbrev pub view_datum : RawDatum → PlainDatum
view_datum d = record {
  kind = d.kind;
  sort = view_name d.sort;
  name = view_name d.name;
  len = option_map view_expr d.len;
  first = option_map view_expr d.first;
  at = d.at;
}

abbrev pub view_param : RawParam → PlainParam
view_param p = record { mode = p.mode; sort = view_name p.sort; name = view_name p.name; at = p.at }

abbrev pub view_routine : RawRoutine → PlainRoutine
view_routine r = record {
  local = r.local;
  kind = r.kind;
  result = option_map view_name r.result;
  name = view_name r.name;
  params = map view_param r.params.items;
  locals = map view_datum r.locals.items;
  list = view_list r.list;
  handler = option_map view_list r.handler;
  at = r.at;
}

abbrev pub view_item : RawItem → PlainItem
view_item (Datum local task datum at) = Plain.Datum local task (view_datum datum) at
view_item (Routine routine) = Plain.Routine (view_routine routine)

abbrev pub view_module : RawModule → PlainModule
view_module m = record {
  name = view_name m.name;
  attributes = m.attributes.items;
  items = map view_item m.items.items;
  at = m.at;
}
