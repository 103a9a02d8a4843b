-- Operations and rows of owners, with those of statements appended.
use Rattle.std.specs.Prelude.{ℕ, ◌+◌, List, map, ◌++◌, Option}
use Rattle.stack_code.specs.Compiled.{end_op, own_end, part_code, part_size, part_start, routine_size}
use Rattle.stack_code.specs.ExprLayouts.{put}
use Rattle.stack_code.specs.Placed.{Own, Placed}
use Rattle.stack_code.specs.Sizes.{arms_size, cases_size, else_size, stmt_size, stmts_size}
use Rattle.stack_code.specs.StmtLayouts.{arms_code, cases_code, else_code, own_of, stmt_code, stmts_code}
use Rattle.stack_code.specs.declared.op.Op.{Op}
use Rattle.stack_code.specs.declared.owner.Owner.{Owner}
use Rattle.typed_trees.specs.Plain.{TypedArms, TypedCases, TypedElse, TypedStmt, TypedStmts}
use Rattle.code_expr.specs.Adds.{end_of}
use Rattle.code_expr.specs.Contexts.{routine_of, tree_of}
use Rattle.code_expr.specs.Follows.{Code, Follows}
use Rattle.code_expr.specs.declared.context.Context.{Context}
use Rattle.code_stmt.specs.Runs.{with_rows}
use Rattle.code_stmt.specs.declared.written.Written.{Written}

abbrev pub ops_of : List Placed → List Op
ops_of ps = map (λ p. p.op) ps

-- where the operations begin, the operations, and the rows of owners, with more operations after them
abbrev pub with_placed : Written → List Placed → ℕ × (List Op × List Owner)
with_placed w ps = (w.code.start, (w.code.ops.items ++ ops_of ps, with_rows w.owners.items (end_of w.code) ps))

-- what was written is another with `size` operations of some code appended, and rows for these
abbrev pub Lays : Written → Written → ℕ → Code → Type 0
Lays old new size code = Follows (with_placed old) (with_placed new) (end_of old.code) (end_of new.code) size code

abbrev pub LaysStmt : Context → List ℕ → Written → Written → TypedStmt → Type 0
LaysStmt at labels old new s = Lays old new (stmt_size (tree_of at) (routine_of at) s)
    (λ pc ps. stmt_code (tree_of at) (routine_of at) labels (own_of (tree_of at) (routine_of at) pc s) pc s ps)

abbrev pub LaysList : Context → List ℕ → Written → Written → TypedStmts → Type 0
LaysList at labels old new list = Lays old new (stmts_size (tree_of at) (routine_of at) list)
    (λ pc ps. stmts_code (tree_of at) (routine_of at) labels pc list ps)

abbrev pub LaysArms : Context → List ℕ → Own → Written → Written → TypedArms → Type 0
LaysArms at labels own old new arms = Lays old new (arms_size (tree_of at) (routine_of at) arms)
    (λ pc ps. arms_code (tree_of at) (routine_of at) labels own pc arms ps)

abbrev pub LaysCases : Context → List ℕ → Own → Written → Written → TypedCases → Type 0
LaysCases at labels own old new cases = Lays old new (cases_size (tree_of at) (routine_of at) cases)
    (λ pc ps. cases_code (tree_of at) (routine_of at) labels own pc cases ps)

abbrev pub LaysElse : Context → List ℕ → Written → Written → TypedElse → Type 0
LaysElse at labels old new other = Lays old new (else_size (tree_of at) (routine_of at) other)
    (λ pc ps. else_code (tree_of at) (routine_of at) labels pc other ps)

-- the ERROR part of a routine, if it has one
abbrev pub LaysPart : Context → List ℕ → Written → Written → Option TypedStmts → Type 0
LaysPart at labels old new handler = Lays old new (part_size (tree_of at) (routine_of at) handler)
    (λ pc ps. part_code (tree_of at) (routine_of at) labels pc handler ps)

-- a routine: its list, its end, and its ERROR part, if its labels have these places
abbrev pub LaysRoutine : Context → List ℕ → Written → Written → Type 0
LaysRoutine at labels old new =
    let tree = tree_of at in
    let routine = routine_of at in
    Lays old new (routine_size tree routine) (λ pc ps.
    stmts_code tree routine labels pc routine.list
    (put (own_end routine (pc + stmts_size tree routine routine.list)) (end_op routine.kind)
    (part_code tree routine labels (part_start tree routine pc) routine.handler ps)))
