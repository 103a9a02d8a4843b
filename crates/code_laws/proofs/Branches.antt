-- IF of one statement, and WHILE.
use Rattle.std.proofs.Common.{◌≡◌, refl, ℕ, ◌+◌, ◌≤◌, Bool, true, false, List, [], if◌then◌else◌, arith}
use Rattle.typed_trees.specs.Plain as trees
use Rattle.typed_trees.specs.Plain.{TypedExpr, TypedStmt, TypedStmts, TypedTree}
use Rattle.rapid_meaning.specs.Answering.{Run}
use Rattle.rapid_meaning.specs.Doings.{Gives, goes_to}
use Rattle.rapid_meaning.specs.Flows.{Normal, Attempt}
use Rattle.rapid_meaning.specs.Instructions.{truth}
use Rattle.rapid_meaning.specs.Statements.{again_behind}
use Rattle.stack_code.specs.ExprLayouts.{put}
use Rattle.stack_code.specs.Needs.{expr_need, stmt_need, stmts_need}
use Rattle.stack_code.specs.Placed.{Own, Placed}
use Rattle.stack_code.specs.Sizes.{expr_size, stmt_size, stmts_size}
use Rattle.stack_code.specs.StmtLayouts.{own_of, stmt_code, stmts_code}
use Rattle.stack_code.specs.declared.op.Op.TheVariants as ops
use Rattle.code_laws.proofs.BehindLook.{BehindLook, lands_at, spot_at}
use Rattle.code_laws.proofs.Bodies.{Body, begins, lands, leaving}
use Rattle.code_laws.proofs.Claims.{Claims, ListAt, Stands, StmtAt}
use Rattle.code_laws.proofs.CodeOf.{IsCodeOf}
use Rattle.code_laws.proofs.InnerLists.{list_then_sim}
use Rattle.code_laws.proofs.Looks.{again_sim}
use Rattle.code_laws.proofs.Past.{past_expr}
use Rattle.code_laws.proofs.PastStmts.{past_stmts}
use Rattle.code_laws.proofs.Recovery.{header_sim}
use Rattle.code_laws.proofs.Rooms.{first_room, second_room}
use Rattle.code_laws.proofs.Sim.{Sim, Target, sim_gives}
use Rattle.code_laws.proofs.Spots.{sim_op}
use Rattle.code_laws.proofs.Truths.{truth_sim}

-- the statement after the condition
one_at : (t : Target) (tree : TypedTree) (b : Body) (pc at : ℕ) (e : TypedExpr) (one : TypedStmt) → StmtAt t tree b pc (trees.IfOne at e one) → StmtAt t tree b (pc + 1 + expr_size e + 1) one
one_at t tree b pc at e one place =
    let own : Own = own_of tree b.stands.routine pc (trees.IfOne at e one) in
    let x : ℕ = pc + 1 + expr_size e + 1 in
    record {
      behind = place.behind;
      code = (past_expr t.code tree b.stands.routine own (pc + 1) e
          (put own (ops.JumpFalse own.next) (stmt_code tree b.stands.routine b.labels (own_of tree b.stands.routine x one) x one place.behind)) place.code.1).1;
      calls = place.calls.1;
      labels = place.labels;
      room = second_room (expr_need e) (stmt_need tree b.stands.routine one) t.code.deepest place.room;
    }

one_when : (t : Target) (tree : TypedTree) (run : Run) → Claims t tree run → (b : Body) (x final : ℕ) (one : TypedStmt) → Stands t tree b b.stands.errors → StmtAt t tree b x one
    → x + stmt_size tree b.stands.routine one ≡ final → (v : Bool)
    → Sim t run (if v then begins b x else begins b final) (if v then goes_to (Attempt b.stands one) else Gives Normal) (lands b final) (leaving t b)
one_when t tree run claims b x final one stands place past true =
    lands_at b (begins b x) (goes_to (Attempt b.stands one)) (x + stmt_size tree b.stands.routine one) final past
    (again_sim (begins b x) (Attempt b.stands one) (lands b (x + stmt_size tree b.stands.routine one)) (leaving t b) (claims.attempts b x one stands place))
one_when t tree run claims b x final one stands place past false = sim_gives Normal

pub if_one_sim : (t : Target) (tree : TypedTree) (run : Run) → IsCodeOf tree t → Claims t tree run → (b : Body) (pc at : ℕ) (e : TypedExpr) (one : TypedStmt)
    → Stands t tree b b.stands.errors → StmtAt t tree b pc (trees.IfOne at e one) → BehindLook t tree run b pc (trees.IfOne at e one)
if_one_sim t tree run code claims b pc at e one stands place =
    let s : TypedStmt = trees.IfOne at e one in
    let x : ℕ = pc + 1 + expr_size e + 1 in
    let final : ℕ = pc + stmt_size tree b.stands.routine s in
    let room : expr_need e ≤ t.code.deepest = first_room (expr_need e) (stmt_need tree b.stands.routine one) t.code.deepest place.room in
    header_sim t tree run claims b pc s stands place (begins b (pc + 1)) (truth tree b.stands.routine e) (λ v. if v then goes_to (Attempt b.stands one) else Gives Normal)
    (λ v. if v then begins b x else begins b final)
    (truth_sim (spot_at t tree run b pc s) code claims (pc + 1) final [] e (stmt_code tree b.stands.routine b.labels (own_of tree b.stands.routine x one) x one place.behind)
    place.calls.0 place.code.1 (omega (arith, room)))
    (one_when t tree run claims b x final one stands (one_at t tree b pc at e one place) (omega arith))

-- the list of a WHILE, and the Jump after it

while_list : (t : Target) (tree : TypedTree) (b : Body) (pc at : ℕ) (e : TypedExpr) (list : TypedStmts) → StmtAt t tree b pc (trees.While at e list)
    → ListAt t tree b (pc + 1 + expr_size e + 1) (pc + 1 + expr_size e + 1 + stmts_size tree b.stands.routine list) list
while_list t tree b pc at e list place =
    let own : Own = own_of tree b.stands.routine pc (trees.While at e list) in
    let ps : List Placed = put own (ops.Jump own.retry) place.behind in
    record {
      behind = ps;
      code = (past_expr t.code tree b.stands.routine own (pc + 1) e
          (put own (ops.JumpFalse own.next) (stmts_code tree b.stands.routine b.labels (pc + 1 + expr_size e + 1) list ps)) place.code.1).1;
      calls = place.calls.1;
      labels = place.labels;
      room = second_room (expr_need e) (stmts_need tree b.stands.routine list) t.code.deepest place.room;
      past = refl;
    }

while_when : (t : Target) (tree : TypedTree) (run : Run) → Claims t tree run → (b : Body) (pc at : ℕ) (e : TypedExpr) (list : TypedStmts) → Stands t tree b b.stands.errors
    → StmtAt t tree b pc (trees.While at e list) → (v : Bool)
    → Sim t run (if v then begins b (pc + 1 + expr_size e + 1) else begins b (pc + stmt_size tree b.stands.routine (trees.While at e list)))
    (if v then again_behind b.stands (Attempt b.stands (trees.While at e list)) list else Gives Normal) (lands b (pc + stmt_size tree b.stands.routine (trees.While at e list))) (leaving t b)
unfolding while_list
while_when t tree run claims b pc at e list stands place true =
    let s : TypedStmt = trees.While at e list in
    let x : ℕ = pc + 1 + expr_size e + 1 in
    let end : ℕ = x + stmts_size tree b.stands.routine list in
    let final : ℕ = pc + stmt_size tree b.stands.routine s in
    let inside = while_list t tree b pc at e list place in
    list_then_sim t tree run claims b x end final list stands inside (goes_to (Attempt b.stands s))
    (sim_op (spot_at t tree run b pc s) end [] (ops.Jump pc) (past_stmts t.code tree b.stands.routine b.labels x list inside.behind inside.code).0 (omega arith)
    (again_sim (begins b pc) (Attempt b.stands s) (lands b final) (leaving t b) (claims.attempts b pc s stands place)))
while_when t tree run claims b pc at e list stands place false = sim_gives Normal

pub while_sim : (t : Target) (tree : TypedTree) (run : Run) → IsCodeOf tree t → Claims t tree run → (b : Body) (pc at : ℕ) (e : TypedExpr) (list : TypedStmts)
    → Stands t tree b b.stands.errors → StmtAt t tree b pc (trees.While at e list) → BehindLook t tree run b pc (trees.While at e list)
unfolding while_list
while_sim t tree run code claims b pc at e list stands place =
    let s : TypedStmt = trees.While at e list in
    let x : ℕ = pc + 1 + expr_size e + 1 in
    let final : ℕ = pc + stmt_size tree b.stands.routine s in
    let room : expr_need e ≤ t.code.deepest = first_room (expr_need e) (stmts_need tree b.stands.routine list) t.code.deepest place.room in
    let inside = while_list t tree b pc at e list place in
    header_sim t tree run claims b pc s stands place (begins b (pc + 1)) (truth tree b.stands.routine e) (λ v. if v then again_behind b.stands (Attempt b.stands s) list else Gives Normal)
    (λ v. if v then begins b x else begins b final)
    (truth_sim (spot_at t tree run b pc s) code claims (pc + 1) final [] e (stmts_code tree b.stands.routine b.labels x list inside.behind) place.calls.0 place.code.1 (omega (arith, room)))
    (while_when t tree run claims b pc at e list stands place)
