-- Lists of children whose operations are appended to a block one by one.
use Rattle.std.proofs.Common.{◌+◌, ap, arith}
use Rattle.rapid_model.specs.declared.operator.Operator.{Operator}
use Rattle.rapid_model.specs.declared.operator.Operator.TheVariants as operators
use Rattle.stack_code.specs.ExprLayouts.{args_code, expr_code, exprs_code, place_code, put, steps_code}
use Rattle.stack_code.specs.Placed.{Own}
use Rattle.stack_code.specs.Sizes.{args_size, expr_size, exprs_size, steps_size}
use Rattle.stack_code.specs.declared.op.Op.TheVariants as ops
use Rattle.typed_trees.specs.Plain.{TypedArg, TypedArgs, TypedExpr, TypedExprs, TypedSteps, Given, Lent, MoreArgs, MoreExprs, MoreSteps, NoArgs, NoSteps}
use Rattle.code_expr.specs.Adds.{AddsArgs, AddsExpr, AddsSteps, end_of, with_code}
use Rattle.code_expr.specs.Contexts.{routine_of, tree_of}
use Rattle.code_expr.specs.declared.block.Block.{Block}
use Rattle.code_expr.specs.declared.context.Context.{Context}
use Rattle.code_expr.proofs.Follow.{Left, left_step, left_then}

-- the block is another with the operations of all children except those that are left
abbrev pub LeftExprs : Own → Context → Block → Block → TypedExprs → TypedExprs → Type 0
LeftExprs own at a b all left = Left (with_code own a) (with_code own b) (end_of a) (end_of b)
    (exprs_size all) (λ pc ps. exprs_code (tree_of at) (routine_of at) own pc all ps)
    (exprs_size left) (λ pc ps. exprs_code (tree_of at) (routine_of at) own pc left ps)

abbrev pub LeftSteps : Own → Context → Block → Block → TypedSteps → TypedSteps → Type 0
LeftSteps own at a b all left = Left (with_code own a) (with_code own b) (end_of a) (end_of b)
    (steps_size all) (λ pc ps. steps_code (tree_of at) (routine_of at) own pc all ps)
    (steps_size left) (λ pc ps. steps_code (tree_of at) (routine_of at) own pc left ps)

abbrev pub LeftArgs : Own → Context → Block → Block → TypedArgs → TypedArgs → Type 0
LeftArgs own at a b all left = Left (with_code own a) (with_code own b) (end_of a) (end_of b)
    (args_size all) (λ pc ps. args_code (tree_of at) (routine_of at) own pc all ps)
    (args_size left) (λ pc ps. args_code (tree_of at) (routine_of at) own pc left ps)

pub one_expr_more : (own : Own) (at : Context) (a b d : Block) (all rest : TypedExprs) (e : TypedExpr) → LeftExprs own at a b all (MoreExprs e rest) → AddsExpr own at b d e → LeftExprs own at a d all rest
one_expr_more own at a b d all rest e left added = left_then left added

pub one_step_more : (own : Own) (at : Context) (a b d : Block) (all rest : TypedSteps) (o : Operator) (e : TypedExpr) → LeftSteps own at a b all (MoreSteps o e rest) → AddsSteps own at b d (MoreSteps o e NoSteps) → LeftSteps own at a d all rest
one_step_more own at a b d all rest operators.And e left added = left_step (steps_size rest) _ left added (omega arith) (λ ps.
    ap (λ pc. put own ops.Dup (put own (ops.JumpFalse (end_of b + 1 + 1 + 1 + expr_size e)) (put own ops.Drop (expr_code (tree_of at) (routine_of at) own (end_of b + 1 + 1 + 1) e (steps_code (tree_of at) (routine_of at) own pc rest ps))))) (omega arith))
one_step_more own at a b d all rest operators.Or e left added = left_step (steps_size rest) _ left added (omega arith) (λ ps.
    ap (λ pc. put own ops.Dup (put own (ops.JumpTrue (end_of b + 1 + 1 + 1 + expr_size e)) (put own ops.Drop (expr_code (tree_of at) (routine_of at) own (end_of b + 1 + 1 + 1) e (steps_code (tree_of at) (routine_of at) own pc rest ps))))) (omega arith))
one_step_more own at a b d all rest o e left added = left_step (steps_size rest) _ left added (omega arith) (λ ps.
    ap (λ pc. expr_code (tree_of at) (routine_of at) own (end_of b) e (put own (ops.Binary o) (steps_code (tree_of at) (routine_of at) own pc rest ps))) (omega arith))

pub one_arg_more : (own : Own) (at : Context) (a b d : Block) (all rest : TypedArgs) (arg : TypedArg) → LeftArgs own at a b all (MoreArgs arg rest) → AddsArgs own at b d (MoreArgs arg NoArgs) → LeftArgs own at a d all rest
one_arg_more own at a b d all rest (Given e) left added = left_step (args_size rest) _ left added (omega arith) (λ ps.
    ap (λ pc. expr_code (tree_of at) (routine_of at) own (end_of b) e (args_code (tree_of at) (routine_of at) own pc rest ps)) (omega arith))
one_arg_more own at a b d all rest (Lent p) left added = left_step (args_size rest) _ left added (omega arith) (λ ps.
    ap (λ pc. place_code (tree_of at) (routine_of at) own (end_of b) p (args_code (tree_of at) (routine_of at) own pc rest ps)) (omega arith))
one_arg_more own at a b d all rest arg left added = left_step (args_size rest) _ left added (omega arith) (λ ps.
    ap (λ pc. args_code (tree_of at) (routine_of at) own pc rest ps) (omega arith))
