-- The view of a tree with a Vec is made of the views of the Vec's elements, in order.
use Rattle.std.specs.Prelude.{Option, None, Some, option_map, ◌≡◌, ℕ, map, refl}
use Rattle.std.proofs.Common.{ap}
use Rattle.std.specs.declared.alloc.Global.{Global}
use Rattle.std.specs.declared.boxed.Box.{Box}
use Rattle.std.specs.declared.vec.Vec.{Vec}
use Rattle.raw_trees.specs.declared.raw_bounds.RawBounds.{RawBounds}
use Rattle.raw_trees.specs.declared.raw_name.RawName.{RawName}
use Rattle.rapid_model.specs.declared.operator.Operator.{Operator}
use Rattle.raw_trees.specs.declared.raw_expr.RawArg.{RawArg}
use Rattle.raw_trees.specs.declared.raw_expr.RawArg.TheBlock.{hidden-the_row-RawExpr-0, hidden-the_row-RawArg-1, hidden-the_row-RawExprForm-Chain-1-2-2}
use Rattle.raw_trees.specs.declared.raw_expr.RawExpr.{RawExpr}
use Rattle.raw_trees.specs.declared.raw_expr.RawExprForm.{Aggregate, Call, Chain, Row_of-RawExpr, end_of-RawExpr, more_of-RawExpr, items-the_row-RawExpr, items_hidden-the_row-RawExpr-0, Row_of-RawArg, end_of-RawArg, more_of-RawArg, items-the_row-RawArg, items_hidden-the_row-RawArg-1, Row_of-RawExprForm-Chain-1-2, end_of-RawExprForm-Chain-1-2, more_of-RawExprForm-Chain-1-2, items-the_row-RawExprForm-Chain-1-2, items_hidden-the_row-RawExprForm-Chain-1-2-2}
use Rattle.raw_trees.specs.declared.raw_stmt.RawStmt.{RawStmt}
use Rattle.raw_trees.specs.declared.raw_stmt.RawForm.TheBlock.{shown-the_row-RawStmt-0, hidden-the_row-RawStmt-0, hidden-the_row-RawForm-If-0-3-1, hidden-the_row-RawForm-Test-1-3-2}
use Rattle.raw_trees.specs.declared.raw_stmt.RawForm.{If, For, While, Test, Row_of-RawStmt, end_of-RawStmt, more_of-RawStmt, items-the_row-RawStmt, items_shown-the_row-RawStmt-0, items_hidden-the_row-RawStmt-0, Row_of-RawForm-If-0-3, end_of-RawForm-If-0-3, more_of-RawForm-If-0-3, items-the_row-RawForm-If-0-3, items_hidden-the_row-RawForm-If-0-3-1, Row_of-RawForm-Test-1-3, end_of-RawForm-Test-1-3, more_of-RawForm-Test-1-3, items-the_row-RawForm-Test-1-3, items_hidden-the_row-RawForm-Test-1-3-2, back-RawForm-If-1}
use Rattle.raw_trees.specs.Plain
use Rattle.raw_trees.specs.Plain.{arms_of, args_of, cases_of, else_of, exprs_of, steps_of, stmts_of}
use Rattle.raw_trees.specs.Views.{view_arg, view_args, view_arm, view_arms, view_case, view_cases, view_else, view_expr, view_exprs, view_form, view_list, view_name, view_step, view_steps, view_stmt, view_stmt_form, view_stmts}

row_exprs : {n : _} (row : Row_of-RawExpr n) →
    view_exprs row ≡ exprs_of (map view_expr (items-the_row-RawExpr n row))
row_exprs end_of-RawExpr = refl
row_exprs (more_of-RawExpr begin form row) = ap (Plain.MoreExprs (view_form begin form)) (row_exprs row)

row_args : {n : _} (row : Row_of-RawArg n) →
    view_args row ≡ args_of (map view_arg (items-the_row-RawArg n row))
row_args end_of-RawArg = refl
row_args (more_of-RawArg arg row) = ap (Plain.MoreArgs (view_arg arg)) (row_args row)

row_steps : {n : _} (row : Row_of-RawExprForm-Chain-1-2 n) →
    view_steps row ≡ steps_of (map view_step (items-the_row-RawExprForm-Chain-1-2 n row))
row_steps end_of-RawExprForm-Chain-1-2 = refl
row_steps (more_of-RawExprForm-Chain-1-2 operator begin form row) =
    ap (Plain.MoreSteps operator (view_form begin form)) (row_steps row)

pub aggregate_view : (at : ℕ) (values : Vec RawExpr Global) →
    view_form at (Aggregate values) ≡ Plain.Aggregate at (exprs_of (map view_expr values.items))
aggregate_view at values =
    rw (row_exprs (hidden-the_row-RawExpr-0 values), items_hidden-the_row-RawExpr-0 values)

pub invoke_view : (at : ℕ) (name : RawName) (args : Vec RawArg Global) →
    view_form at (Call name args) ≡ Plain.Invoke at (view_name name) (args_of (map view_arg args.items))
invoke_view at name args =
    rw (row_args (hidden-the_row-RawArg-1 args), items_hidden-the_row-RawArg-1 args)

pub chain_view : (at : ℕ) (first : Box RawExpr Global) (rest : Vec (Operator × RawExpr) Global) →
    view_form at (Chain first rest) ≡ Plain.Chain at (view_expr first.value) (steps_of (map view_step rest.items))
chain_view at first rest =
    rw (row_steps (hidden-the_row-RawExprForm-Chain-1-2-2 rest), items_hidden-the_row-RawExprForm-Chain-1-2-2 rest)

row_stmts : {n : _} (row : Row_of-RawStmt n) →
    view_stmts row ≡ stmts_of (map view_stmt (items-the_row-RawStmt n row))
row_stmts end_of-RawStmt = refl
row_stmts (more_of-RawStmt begin form row) = ap (Plain.MoreStmts (view_stmt_form begin form)) (row_stmts row)

-- the list of the Vec that a row was made from
hidden_stmts : (list : Vec RawStmt Global) →
    view_stmts (hidden-the_row-RawStmt-0 list) ≡ stmts_of (view_list list)
hidden_stmts list = rw (row_stmts (hidden-the_row-RawStmt-0 list), items_hidden-the_row-RawStmt-0 list)

-- the list of the Vec that a row makes
shown_stmts : (shape : _) (row : Row_of-RawStmt _) →
    view_stmts row ≡ stmts_of (view_list (shown-the_row-RawStmt-0 shape row))
shown_stmts shape row = rw (items_shown-the_row-RawStmt-0 shape row) (row_stmts row)

row_arms : {n : _} (row : Row_of-RawForm-If-0-3 n) →
    view_arms row ≡ arms_of (map view_arm (items-the_row-RawForm-If-0-3 n row))
row_arms end_of-RawForm-If-0-3 = refl
row_arms (more_of-RawForm-If-0-3 test shape list row) = rw (shown_stmts shape list, row_arms row)

row_cases : {n : _} (row : Row_of-RawForm-Test-1-3 n) →
    view_cases row ≡ cases_of (map view_case (items-the_row-RawForm-Test-1-3 n row))
row_cases end_of-RawForm-Test-1-3 = refl
row_cases (more_of-RawForm-Test-1-3 values shape list row) = rw (shown_stmts shape list, row_cases row)

held_else : (other : Option (Vec RawStmt Global)) →
    view_else (back-RawForm-If-1 other) ≡ else_of (option_map view_list other)
held_else None = refl
held_else (Some list) = ap Plain.Else (hidden_stmts list)

pub choice_view : (at : ℕ) (arms : Vec (RawExpr × Vec RawStmt Global) Global) (other : Option (Vec RawStmt Global)) →
    view_stmt_form at (If arms other) ≡ Plain.If at (arms_of (map view_arm arms.items)) (else_of (option_map view_list other))
choice_view at arms other =
    rw (row_arms (hidden-the_row-RawForm-If-0-3-1 arms), items_hidden-the_row-RawForm-If-0-3-1 arms, held_else other)

pub test_view : (at : ℕ) (value : RawExpr) (cases : Vec (Vec RawExpr Global × Vec RawStmt Global) Global) →
    (other : Option (Vec RawStmt Global)) →
    view_stmt_form at (Test value cases other)
    ≡ Plain.Test at (view_expr value) (cases_of (map view_case cases.items)) (else_of (option_map view_list other))
test_view at value cases other =
    rw (
      row_cases (hidden-the_row-RawForm-Test-1-3-2 cases),
      items_hidden-the_row-RawForm-Test-1-3-2 cases,
      held_else other,
    )

pub for_view : (at : ℕ) (name : RawName) (bounds : Box RawBounds Global) (list : Vec RawStmt Global) →
    let b = bounds.value in
    view_stmt_form at (For name bounds list)
    ≡ Plain.For at (view_name name) (view_expr b.first) (view_expr b.last) (option_map view_expr b.step) (stmts_of (view_list list))
for_view at name bounds list = rw (hidden_stmts list)

pub while_view : (at : ℕ) (test : RawExpr) (list : Vec RawStmt Global) →
    view_stmt_form at (While test list) ≡ Plain.While at (view_expr test) (stmts_of (view_list list))
while_view at test list = rw (hidden_stmts list)
