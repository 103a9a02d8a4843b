-- The values of a CASE, appended to a block one by one.
use Rattle.std.proofs.Common.{ℕ, ◌+◌, ap, arith}
use Rattle.rapid_model.specs.declared.operator.Operator.TheVariants as operators
use Rattle.stack_code.specs.ExprLayouts.{expr_code, put}
use Rattle.stack_code.specs.Placed.{Own}
use Rattle.stack_code.specs.Sizes.{values_size}
use Rattle.stack_code.specs.StmtLayouts.{values_code}
use Rattle.stack_code.specs.declared.op.Op.TheVariants as ops
use Rattle.typed_trees.specs.Plain.{TypedExpr, TypedExprs, MoreExprs}
use Rattle.code_expr.specs.Adds.{Adds, AddsExpr, end_of, with_code}
use Rattle.code_expr.specs.Contexts.{routine_of, tree_of}
use Rattle.code_expr.specs.declared.block.Block.{Block}
use Rattle.code_expr.specs.declared.context.Context.{Context}
use Rattle.code_expr.proofs.Follow.{Left, follows_then, left_step}

abbrev pub LeftValues : Own → Context → ℕ → Block → Block → TypedExprs → TypedExprs → Type 0
LeftValues own at list a b all left = Left (with_code own a) (with_code own b) (end_of a) (end_of b)
    (values_size all) (λ pc ps. values_code (tree_of at) (routine_of at) own list pc all ps)
    (values_size left) (λ pc ps. values_code (tree_of at) (routine_of at) own list pc left ps)

-- a copy, a value, a comparison, and a jump
pub one_value_more : (own : Own) (at : Context) (list : ℕ) (a b c d e f : Block) (all rest : TypedExprs) (value : TypedExpr) →
    LeftValues own at list a b all (MoreExprs value rest) →
    Adds own b c 1 (λ pc ps. put own ops.Dup ps) → AddsExpr own at c d value → Adds own d e 1 (λ pc ps. put own (ops.Binary operators.Equal) ps) → Adds own e f 1 (λ pc ps. put own (ops.JumpTrue list) ps) →
    LeftValues own at list a f all rest
unfolding values_size values_code
one_value_more own at list a b c d e f all rest value left copied added compared jump =
    left_step (values_size rest) (λ pc ps. values_code (tree_of at) (routine_of at) own list pc rest ps) left (follows_then copied (follows_then added (follows_then compared jump))) (omega arith) (λ ps.
    ap (λ pc. put own ops.Dup (expr_code (tree_of at) (routine_of at) own (end_of b + 1) value (put own (ops.Binary operators.Equal) (put own (ops.JumpTrue list) (values_code (tree_of at) (routine_of at) own list pc rest ps))))) (omega arith))
