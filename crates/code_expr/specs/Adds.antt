-- Blocks, and the operations of expressions appended to them.
use Rattle.std.specs.Prelude.{ℕ, ◌+◌, List, map, ◌++◌, length}
use Rattle.rapid_model.specs.declared.function.Function.{Function}
use Rattle.stack_code.specs.ExprLayouts.{args_code, builtin_code, expr_code, exprs_code, place_code, steps_code}
use Rattle.stack_code.specs.Placed.{Own, Placed}
use Rattle.stack_code.specs.Sizes.{args_size, builtin_size, expr_size, exprs_size, place_size, steps_size}
use Rattle.stack_code.specs.declared.op.Op.{Op}
use Rattle.typed_trees.specs.Plain.{TypedArgs, TypedExpr, TypedExprs, TypedPlace, TypedSteps}
use Rattle.code_expr.specs.Contexts.{routine_of, tree_of}
use Rattle.code_expr.specs.Follows.{Code, Follows}
use Rattle.code_expr.specs.declared.block.Block.{Block}
use Rattle.code_expr.specs.declared.context.Context.{Context}

abbrev pub owned_by : Own → Op → Placed
owned_by own op = record { own = own; op = op }

-- operations of one owner
abbrev pub owned : Own → List Op → List Placed
owned own ops = map (owned_by own) ops

-- the place of the operation that comes next
abbrev pub end_of : Block → ℕ
end_of block = block.start + length block.ops.items

-- a block of one owner's operations and where it begins, with others after it
abbrev pub with_code : Own → Block → List Placed → ℕ × List Placed
with_code own block ps = (block.start, owned own block.ops.items ++ ps)

-- A block is another one with `size` operations appended, which are some code of that owner.
abbrev pub Adds : Own → Block → Block → ℕ → Code → Type 0
Adds own old new size code = Follows (with_code own old) (with_code own new) (end_of old) (end_of new) size code

abbrev pub AddsExpr : Own → Context → Block → Block → TypedExpr → Type 0
AddsExpr own at old new e = Adds own old new (expr_size e) (λ pc ps. expr_code (tree_of at) (routine_of at) own pc e ps)

abbrev pub AddsExprs : Own → Context → Block → Block → TypedExprs → Type 0
AddsExprs own at old new es = Adds own old new (exprs_size es) (λ pc ps. exprs_code (tree_of at) (routine_of at) own pc es ps)

abbrev pub AddsSteps : Own → Context → Block → Block → TypedSteps → Type 0
AddsSteps own at old new steps = Adds own old new (steps_size steps) (λ pc ps. steps_code (tree_of at) (routine_of at) own pc steps ps)

abbrev pub AddsPlace : Own → Context → Block → Block → TypedPlace → Type 0
AddsPlace own at old new p = Adds own old new (place_size p) (λ pc ps. place_code (tree_of at) (routine_of at) own pc p ps)

abbrev pub AddsArgs : Own → Context → Block → Block → TypedArgs → Type 0
AddsArgs own at old new args = Adds own old new (args_size args) (λ pc ps. args_code (tree_of at) (routine_of at) own pc args ps)

abbrev pub AddsBuiltin : Own → Context → Block → Block → Function → TypedArgs → Type 0
AddsBuiltin own at old new function args = Adds own old new (builtin_size function args) (λ pc ps. builtin_code (tree_of at) (routine_of at) own pc function args ps)
