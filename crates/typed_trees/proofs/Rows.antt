-- The view of a tree that holds a Vec is made of the views of the Vec's elements, in order.
use Rattle.std.specs.Prelude.{Option, None, Some, option_map, ◌≡◌, ℕ, map, refl}
use Rattle.std.proofs.Common.{ap}
use Rattle.std.specs.declared.alloc.Global.{Global}
use Rattle.std.specs.declared.boxed.Box.{Box}
use Rattle.std.specs.declared.vec.Vec.{Vec}
use Rattle.rapid_model.specs.declared.operator.Operator.{Operator}
use Rattle.rapid_model.specs.declared.function.Function.{Function}
use Rattle.rapid_model.specs.declared.sort.Sort.{Sort}
use Rattle.typed_trees.specs.declared.bounds.Bounds.{Bounds}
use Rattle.typed_trees.specs.declared.expr.Arg.{Arg}
use Rattle.typed_trees.specs.declared.expr.Arg.TheBlock.{hidden-the_row-Expr-0, hidden-the_row-Arg-1, hidden-the_row-ExprForm-Chain-1-2-2}
use Rattle.typed_trees.specs.declared.expr.Expr.{Expr}
use Rattle.typed_trees.specs.declared.expr.ExprForm.{Aggregate, Builtin, Call, Chain, Row_of-Expr, end_of-Expr, more_of-Expr, items-the_row-Expr, items_hidden-the_row-Expr-0, Row_of-Arg, end_of-Arg, more_of-Arg, items-the_row-Arg, items_hidden-the_row-Arg-1, Row_of-ExprForm-Chain-1-2, end_of-ExprForm-Chain-1-2, more_of-ExprForm-Chain-1-2, items-the_row-ExprForm-Chain-1-2, items_hidden-the_row-ExprForm-Chain-1-2-2}
use Rattle.typed_trees.specs.declared.stmt.Stmt.{Stmt}
use Rattle.typed_trees.specs.declared.stmt.Form.TheBlock.{shown-the_row-Stmt-0, hidden-the_row-Stmt-0, hidden-the_row-Form-If-0-3-1, hidden-the_row-Form-Test-1-3-2}
use Rattle.typed_trees.specs.declared.stmt.Form.{If, For, While, Test, Row_of-Stmt, end_of-Stmt, more_of-Stmt, items-the_row-Stmt, items_shown-the_row-Stmt-0, items_hidden-the_row-Stmt-0, Row_of-Form-If-0-3, end_of-Form-If-0-3, more_of-Form-If-0-3, items-the_row-Form-If-0-3, items_hidden-the_row-Form-If-0-3-1, Row_of-Form-Test-1-3, end_of-Form-Test-1-3, more_of-Form-Test-1-3, items-the_row-Form-Test-1-3, items_hidden-the_row-Form-Test-1-3-2, back-Form-If-1}
use Rattle.typed_trees.specs.Plain
use Rattle.typed_trees.specs.Plain.{arms_of, args_of, cases_of, else_of, exprs_of, steps_of, stmts_of}
use Rattle.typed_trees.specs.Views.{view_arg, view_args, view_arm, view_arms, view_case, view_cases, view_else, view_expr, view_exprs, view_form, view_list, view_step, view_steps, view_stmt, view_stmt_form, view_stmts}

row_exprs : {n : _} (row : Row_of-Expr n) →
    view_exprs row ≡ exprs_of (map view_expr (items-the_row-Expr n row))
row_exprs end_of-Expr = refl
row_exprs (more_of-Expr begin kind form row) = ap (Plain.MoreExprs (view_form begin kind form)) (row_exprs row)

row_args : {n : _} (row : Row_of-Arg n) →
    view_args row ≡ args_of (map view_arg (items-the_row-Arg n row))
row_args end_of-Arg = refl
row_args (more_of-Arg arg row) = ap (Plain.MoreArgs (view_arg arg)) (row_args row)

row_steps : {n : _} (row : Row_of-ExprForm-Chain-1-2 n) →
    view_steps row ≡ steps_of (map view_step (items-the_row-ExprForm-Chain-1-2 n row))
row_steps end_of-ExprForm-Chain-1-2 = refl
row_steps (more_of-ExprForm-Chain-1-2 operator begin kind form row) =
    ap (Plain.MoreSteps operator (view_form begin kind form)) (row_steps row)

pub aggregate_view : (at : ℕ) (sort : Sort) (values : Vec Expr Global) →
    view_form at sort (Aggregate values) ≡ Plain.Aggregate at sort (exprs_of (map view_expr values.items))
aggregate_view at sort values =
    rw (row_exprs (hidden-the_row-Expr-0 values), items_hidden-the_row-Expr-0 values)

pub invoke_view : (at : ℕ) (sort : Sort) (routine : ℕ) (args : Vec Arg Global) →
    view_form at sort (Call routine args) ≡ Plain.Invoke at sort routine (args_of (map view_arg args.items))
invoke_view at sort routine args =
    rw (row_args (hidden-the_row-Arg-1 args), items_hidden-the_row-Arg-1 args)

pub builtin_view : (at : ℕ) (sort : Sort) (function : Function) (args : Vec Arg Global) →
    view_form at sort (Builtin function args) ≡ Plain.Builtin at sort function (args_of (map view_arg args.items))
builtin_view at sort function args =
    rw (row_args (hidden-the_row-Arg-1 args), items_hidden-the_row-Arg-1 args)

pub chain_view : (at : ℕ) (sort : Sort) (first : Box Expr Global) (rest : Vec (Operator × Expr) Global) →
    view_form at sort (Chain first rest) ≡ Plain.Chain at sort (view_expr first.value) (steps_of (map view_step rest.items))
chain_view at sort first rest =
    rw (row_steps (hidden-the_row-ExprForm-Chain-1-2-2 rest), items_hidden-the_row-ExprForm-Chain-1-2-2 rest)

row_stmts : {n : _} (row : Row_of-Stmt n) →
    view_stmts row ≡ stmts_of (map view_stmt (items-the_row-Stmt n row))
row_stmts end_of-Stmt = refl
row_stmts (more_of-Stmt begin form row) = ap (Plain.MoreStmts (view_stmt_form begin form)) (row_stmts row)

-- the list of the Vec that a row was made of
hidden_stmts : (list : Vec Stmt Global) →
    view_stmts (hidden-the_row-Stmt-0 list) ≡ stmts_of (view_list list)
hidden_stmts list = rw (row_stmts (hidden-the_row-Stmt-0 list), items_hidden-the_row-Stmt-0 list)

-- the list of the Vec that a row makes
shown_stmts : (shape : _) (row : Row_of-Stmt _) →
    view_stmts row ≡ stmts_of (view_list (shown-the_row-Stmt-0 shape row))
shown_stmts shape row = rw (items_shown-the_row-Stmt-0 shape row) (row_stmts row)

row_arms : {n : _} (row : Row_of-Form-If-0-3 n) →
    view_arms row ≡ arms_of (map view_arm (items-the_row-Form-If-0-3 n row))
row_arms end_of-Form-If-0-3 = refl
row_arms (more_of-Form-If-0-3 test shape list row) = rw (shown_stmts shape list, row_arms row)

row_cases : {n : _} (row : Row_of-Form-Test-1-3 n) →
    view_cases row ≡ cases_of (map view_case (items-the_row-Form-Test-1-3 n row))
row_cases end_of-Form-Test-1-3 = refl
row_cases (more_of-Form-Test-1-3 values shape list row) = rw (shown_stmts shape list, row_cases row)

held_else : (other : Option (Vec Stmt Global)) →
    view_else (back-Form-If-1 other) ≡ else_of (option_map view_list other)
held_else None = refl
held_else (Some list) = ap Plain.Else (hidden_stmts list)

pub choice_view : (at : ℕ) (arms : Vec (Expr × Vec Stmt Global) Global) (other : Option (Vec Stmt Global)) →
    view_stmt_form at (If arms other) ≡ Plain.If at (arms_of (map view_arm arms.items)) (else_of (option_map view_list other))
choice_view at arms other =
    rw (row_arms (hidden-the_row-Form-If-0-3-1 arms), items_hidden-the_row-Form-If-0-3-1 arms, held_else other)

pub test_view : (at : ℕ) (value : Expr) (cases : Vec (Vec Expr Global × Vec Stmt Global) Global) →
    (other : Option (Vec Stmt Global)) →
    view_stmt_form at (Test value cases other)
    ≡ Plain.Test at (view_expr value) (cases_of (map view_case cases.items)) (else_of (option_map view_list other))
test_view at value cases other =
    rw (
      row_cases (hidden-the_row-Form-Test-1-3-2 cases),
      items_hidden-the_row-Form-Test-1-3-2 cases,
      held_else other,
    )

pub for_view : (at : ℕ) (local : ℕ) (bounds : Box Bounds Global) (list : Vec Stmt Global) →
    let b = bounds.value in
    view_stmt_form at (For local bounds list)
    ≡ Plain.For at local (view_expr b.first) (view_expr b.last) (option_map view_expr b.step) (stmts_of (view_list list))
for_view at local bounds list = rw (hidden_stmts list)

pub while_view : (at : ℕ) (test : Expr) (list : Vec Stmt Global) →
    view_stmt_form at (While test list) ≡ Plain.While at (view_expr test) (stmts_of (view_list list))
while_view at test list = rw (hidden_stmts list)
