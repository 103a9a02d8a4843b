-- Lists whose statements are appended to what was written, one by one.
use Rattle.std.proofs.Common.{◌≡◌, ℕ, ◌+◌, List, ap, ◌∙◌, arith}
use Rattle.stack_code.specs.ExprLayouts.{expr_code, put}
use Rattle.stack_code.specs.Placed.{Own}
use Rattle.stack_code.specs.Sizes.{arms_size, cases_size, expr_size, stmts_size, values_size}
use Rattle.stack_code.specs.StmtLayouts.{arms_code, cases_code, stmts_code, values_code}
use Rattle.stack_code.specs.declared.op.Op.TheVariants as ops
use Rattle.typed_trees.specs.Plain.{TypedArms, TypedCases, TypedExpr, TypedExprs, TypedStmt, TypedStmts, MoreArms, MoreCases, MoreStmts}
use Rattle.code_expr.specs.Adds.{end_of}
use Rattle.code_expr.specs.Contexts.{routine_of, tree_of}
use Rattle.code_expr.specs.declared.context.Context.{Context}
use Rattle.code_expr.proofs.Follow.{Left, follows_then, left_step, left_then}
use Rattle.code_stmt.specs.Lays.{Lays, LaysList, LaysStmt, with_placed}
use Rattle.code_stmt.specs.declared.written.Written.{Written}

-- what was written is another with all of them except those that are left
abbrev pub LeftList : Context → List ℕ → Written → Written → TypedStmts → TypedStmts → Type 0
LeftList at labels a b all left = Left (with_placed a) (with_placed b) (end_of a.code) (end_of b.code)
    (stmts_size (tree_of at) (routine_of at) all) (λ pc ps. stmts_code (tree_of at) (routine_of at) labels pc all ps)
    (stmts_size (tree_of at) (routine_of at) left) (λ pc ps. stmts_code (tree_of at) (routine_of at) labels pc left ps)

abbrev pub LeftArms : Context → List ℕ → Own → Written → Written → TypedArms → TypedArms → Type 0
LeftArms at labels own a b all left = Left (with_placed a) (with_placed b) (end_of a.code) (end_of b.code)
    (arms_size (tree_of at) (routine_of at) all) (λ pc ps. arms_code (tree_of at) (routine_of at) labels own pc all ps)
    (arms_size (tree_of at) (routine_of at) left) (λ pc ps. arms_code (tree_of at) (routine_of at) labels own pc left ps)

abbrev pub LeftCases : Context → List ℕ → Own → Written → Written → TypedCases → TypedCases → Type 0
LeftCases at labels own a b all left = Left (with_placed a) (with_placed b) (end_of a.code) (end_of b.code)
    (cases_size (tree_of at) (routine_of at) all) (λ pc ps. cases_code (tree_of at) (routine_of at) labels own pc all ps)
    (cases_size (tree_of at) (routine_of at) left) (λ pc ps. cases_code (tree_of at) (routine_of at) labels own pc left ps)

pub one_stmt_more : (at : Context) (labels : List ℕ) (a b d : Written) (all rest : TypedStmts) (s : TypedStmt) → LeftList at labels a b all (MoreStmts s rest) → LaysStmt at labels b d s → LeftList at labels a d all rest
one_stmt_more at labels a b d all rest s left laid = left_then left laid

-- a condition, a jump past its list, the list, and a jump past the statement
pub one_arm_more : (at : Context) (labels : List ℕ) (own : Own) (a b c d e f : Written) (all rest : TypedArms) (test : TypedExpr) (list : TypedStmts) (behind : ℕ) →
    LeftArms at labels own a b all (MoreArms test list rest) →
    Lays b c (expr_size test) (λ pc ps. expr_code (tree_of at) (routine_of at) own pc test ps) →
    behind ≡ end_of c.code + (stmts_size (tree_of at) (routine_of at) list + 2) →
    Lays c d 1 (λ pc ps. put own (ops.JumpFalse behind) ps) →
    LaysList at labels d e list →
    Lays e f 1 (λ pc ps. put own (ops.Jump own.next) ps) →
    LeftArms at labels own a f all rest
one_arm_more at labels own a b c d e f all rest test list behind left tested place jump listed past =
    let tree = tree_of at in
    let routine = routine_of at in
    let pc = end_of b.code in
    let inside = pc + expr_size test + 1 in
    let after = pc + expr_size test + 1 + stmts_size tree routine list + 1 in
    let there : after ≡ behind = omega (arith, place, tested.grown) in
    left_step (arms_size tree routine rest) _ left (follows_then tested (follows_then jump (follows_then listed past))) (omega arith) (λ ps.
    ap (λ to. expr_code tree routine own pc test (put own (ops.JumpFalse to) (stmts_code tree routine labels inside list (put own (ops.Jump own.next) (arms_code tree routine labels own after rest ps))))) there
    ∙ ap (λ next. expr_code tree routine own pc test (put own (ops.JumpFalse behind) (stmts_code tree routine labels inside list (put own (ops.Jump own.next) (arms_code tree routine labels own next rest ps))))) (omega arith))

-- values, which jump to the list, a jump past that, the drop of the value tested, the list, and a jump past the
-- statement
pub one_case_more : (at : Context) (labels : List ℕ) (own : Own) (a b c d e f g : Written) (all rest : TypedCases) (values : TypedExprs) (list : TypedStmts) (first behind : ℕ) →
    LeftCases at labels own a b all (MoreCases values list rest) →
    first ≡ end_of b.code + (values_size values + 1) →
    Lays b c (values_size values) (λ pc ps. values_code (tree_of at) (routine_of at) own first pc values ps) →
    behind ≡ end_of c.code + (stmts_size (tree_of at) (routine_of at) list + 3) →
    Lays c d 1 (λ pc ps. put own (ops.Jump behind) ps) →
    Lays d e 1 (λ pc ps. put own ops.Drop ps) →
    LaysList at labels e f list →
    Lays f g 1 (λ pc ps. put own (ops.Jump own.next) ps) →
    LeftCases at labels own a g all rest
one_case_more at labels own a b c d e f g all rest values list first behind left place compared past jump dropped listed end =
    let tree = tree_of at in
    let routine = routine_of at in
    let pc = end_of b.code in
    let inside = pc + values_size values + 1 + 1 in
    let after = pc + values_size values + 1 + 1 + stmts_size tree routine list + 1 in
    let here : pc + values_size values + 1 ≡ first = omega (arith, place) in
    let there : after ≡ behind = omega (arith, past, compared.grown) in
    left_step (cases_size tree routine rest) _ left (follows_then compared (follows_then jump (follows_then dropped (follows_then listed end)))) (omega arith) (λ ps.
    ap (λ to. values_code tree routine own to pc values (put own (ops.Jump after) (put own ops.Drop (stmts_code tree routine labels inside list (put own (ops.Jump own.next) (cases_code tree routine labels own after rest ps)))))) here
    ∙ (ap (λ to. values_code tree routine own first pc values (put own (ops.Jump to) (put own ops.Drop (stmts_code tree routine labels inside list (put own (ops.Jump own.next) (cases_code tree routine labels own after rest ps)))))) there
    ∙ ap (λ next. values_code tree routine own first pc values (put own (ops.Jump behind) (put own ops.Drop (stmts_code tree routine labels inside list (put own (ops.Jump own.next) (cases_code tree routine labels own next rest ps)))))) (omega arith)))
