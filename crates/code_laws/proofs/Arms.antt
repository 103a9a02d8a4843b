-- IF with lists: the conditions in order, up to the first that is TRUE.
use Rattle.std.proofs.Common.{◌≡◌, refl, ap, ℕ, ◌+◌, ◌≤◌, max, Bool, true, false, List, [], if◌then◌else◌, arith}
use Rattle.typed_trees.specs.Plain as trees
use Rattle.typed_trees.specs.Plain.{TypedArms, TypedElse, TypedStmt, TypedStmts, TypedTree, NoArms, MoreArms, Else}
use Rattle.rapid_meaning.specs.Answering.{Run}
use Rattle.rapid_meaning.specs.Doings.{Gives, after}
use Rattle.rapid_meaning.specs.Errors.{failed}
use Rattle.rapid_meaning.specs.Instructions.{truth}
use Rattle.rapid_meaning.specs.Statements.{chosen, inner_or_not}
use Rattle.stack_code.specs.ExprLayouts.{put}
use Rattle.stack_code.specs.Needs.{arms_need, else_need, expr_need, stmts_need}
use Rattle.stack_code.specs.Placed.{Own, Placed, StandsAt}
use Rattle.stack_code.specs.Raising.{raised}
use Rattle.stack_code.specs.Sizes.{arms_size, expr_size, stmt_size, stmts_size}
use Rattle.stack_code.specs.StmtLayouts.{arms_code, else_code, own_of, stmts_code}
use Rattle.stack_code.specs.declared.op.Op.TheVariants as ops
use Rattle.code_laws.specs.Calls.{ArmsCalls}
use Rattle.code_laws.proofs.BehindLook.{BehindLook, spot_at}
use Rattle.code_laws.proofs.Bodies.{Body, begins, lands, leaving}
use Rattle.code_laws.proofs.Claims.{ArmsLabels, Claims, ListAt, Stands, StmtAt}
use Rattle.code_laws.proofs.CodeOf.{IsCodeOf}
use Rattle.code_laws.proofs.Elses.{else_sim}
use Rattle.code_laws.proofs.InnerLists.{list_sim}
use Rattle.code_laws.proofs.Past.{past_expr}
use Rattle.code_laws.proofs.PastStmts.{past_arms, past_stmts}
use Rattle.code_laws.proofs.Recovery.{failed_sim}
use Rattle.code_laws.proofs.Rooms.{first_room, second_room}
use Rattle.code_laws.proofs.Sim.{Sim, Target, sim_after, sim_assoc, sim_from, sim_gives}
use Rattle.code_laws.proofs.Spots.{sim_op}
use Rattle.code_laws.proofs.Truths.{truth_sim}

-- a list, and the Jump to the place after the statement
pub arm_list : (t : Target) (tree : TypedTree) (run : Run) → Claims t tree run → (b : Body) (from : ℕ) (s : TypedStmt) (pc : ℕ) (list : TypedStmts) (ps : List Placed) → Stands t tree b b.stands.errors
    → ListAt t tree b pc (pc + stmts_size tree b.stands.routine list) list
    → StandsAt t.code (pc + stmts_size tree b.stands.routine list) (put (own_of tree b.stands.routine from s) (ops.Jump (from + stmt_size tree b.stands.routine s)) ps)
    → Sim t run (begins b pc) (inner_or_not b.stands (Else list)) (lands b (from + stmt_size tree b.stands.routine s)) (leaving t b)
arm_list t tree run claims b from s pc list ps stands at there =
    list_sim t tree run claims b pc (pc + stmts_size tree b.stands.routine list) (from + stmt_size tree b.stands.routine s) list stands at
    (sim_op (spot_at t tree run b from s) (pc + stmts_size tree b.stands.routine list) [] (ops.Jump (from + stmt_size tree b.stands.routine s)) there.0 (omega arith) (sim_gives _))

-- a condition is TRUE or FALSE
arm_when : (t : Target) (tree : TypedTree) (run : Run) (b : Body) (from : ℕ) (s : TypedStmt) (x next : ℕ) (list : TypedStmts) (more : TypedArms) (other : TypedElse)
    → Sim t run (begins b x) (inner_or_not b.stands (Else list)) (lands b (from + stmt_size tree b.stands.routine s)) (leaving t b)
    → Sim t run (begins b next) (after (chosen tree b.stands.routine more other) (inner_or_not b.stands) (failed b.stands s)) (lands b (from + stmt_size tree b.stands.routine s)) (leaving t b)
    → (v : Bool)
    → Sim t run (if v then begins b x else begins b next)
    (after (if v then Gives (Else list) else chosen tree b.stands.routine more other) (inner_or_not b.stands) (failed b.stands s)) (lands b (from + stmt_size tree b.stands.routine s)) (leaving t b)
unfolding after
arm_when t tree run b from s x next list more other here further true = here
arm_when t tree run b from s x next list more other here further false = further

-- from a condition; what follows the last of them is given
arms_sim : (t : Target) (tree : TypedTree) (run : Run) → IsCodeOf tree t → Claims t tree run → (b : Body) (from : ℕ) (s : TypedStmt) → Stands t tree b b.stands.errors → StmtAt t tree b from s
    → (pc end : ℕ) (arms : TypedArms) (other : TypedElse) (ps : List Placed)
    → StandsAt t.code pc (arms_code tree b.stands.routine b.labels (own_of tree b.stands.routine from s) pc arms ps) → ArmsCalls tree arms → ArmsLabels tree b.stands.routine b.labels pc arms
    → arms_need tree b.stands.routine arms ≤ t.code.deepest → pc + arms_size tree b.stands.routine arms ≡ end
    → Sim t run (begins b end) (inner_or_not b.stands other) (lands b (from + stmt_size tree b.stands.routine s)) (leaving t b)
    → Sim t run (begins b pc) (after (chosen tree b.stands.routine arms other) (inner_or_not b.stands) (failed b.stands s)) (lands b (from + stmt_size tree b.stands.routine s)) (leaving t b)
unfolding after
arms_sim t tree run code claims b from s stands place pc end NoArms other ps there calls labels room past last =
    let here : pc ≡ end = omega (arith, past) in
    sim_from (ap (λ (x : ℕ). begins b x) here) last
arms_sim t tree run code claims b from s stands place pc end (MoreArms e list more) other ps there calls labels room past last =
    let own : Own = own_of tree b.stands.routine from s in
    let x : ℕ = pc + expr_size e + 1 in
    let next : ℕ = x + stmts_size tree b.stands.routine list + 1 in
    let behind : List Placed = put own (ops.Jump own.next) (arms_code tree b.stands.routine b.labels own next more ps) in
    let inside : StandsAt t.code x (stmts_code tree b.stands.routine b.labels x list behind) =
    (past_expr t.code tree b.stands.routine own pc e (put own (ops.JumpFalse next) (stmts_code tree b.stands.routine b.labels x list behind)) there).1 in
    let jump = past_stmts t.code tree b.stands.routine b.labels x list behind inside in
    let rooms = second_room (expr_need e) (max (stmts_need tree b.stands.routine list) (arms_need tree b.stands.routine more)) t.code.deepest room in
    let needed : 0 + expr_need e ≤ t.code.deepest = omega (arith, first_room (expr_need e) (max (stmts_need tree b.stands.routine list) (arms_need tree b.stands.routine more)) t.code.deepest room) in
    let at : ListAt t tree b x (x + stmts_size tree b.stands.routine list) list = record {
      behind = behind;
      code = inside;
      calls = calls.1;
      labels = labels.0;
      room = first_room (stmts_need tree b.stands.routine list) (arms_need tree b.stands.routine more) t.code.deepest rooms;
      past = refl;
    } in
    sim_assoc (truth tree b.stands.routine e) (λ v. if v then Gives (Else list) else chosen tree b.stands.routine more other) (inner_or_not b.stands) (failed b.stands s)
    (sim_after (λ v. if v then begins b x else begins b next) (raised t.code own b.frame b.saved)
    (truth_sim (spot_at t tree run b from s) code claims pc next [] e (stmts_code tree b.stands.routine b.labels x list behind) calls.0 there needed)
    (arm_when t tree run b from s x next list more other (arm_list t tree run claims b from s x list (arms_code tree b.stands.routine b.labels own next more ps) stands at jump)
    (arms_sim t tree run code claims b from s stands place next end more other ps jump.1 calls.2 labels.1
    (second_room (stmts_need tree b.stands.routine list) (arms_need tree b.stands.routine more) t.code.deepest rooms) (omega (arith, past)) last))
    (λ n. failed_sim t tree run claims b from s stands place n))

pub if_sim : (t : Target) (tree : TypedTree) (run : Run) → IsCodeOf tree t → Claims t tree run → (b : Body) (pc at : ℕ) (arms : TypedArms) (other : TypedElse)
    → Stands t tree b b.stands.errors → StmtAt t tree b pc (trees.If at arms other) → BehindLook t tree run b pc (trees.If at arms other)
if_sim t tree run code claims b pc at arms other stands place =
    let s : TypedStmt = trees.If at arms other in
    let own : Own = own_of tree b.stands.routine pc s in
    let end : ℕ = pc + 1 + arms_size tree b.stands.routine arms in
    let ps : List Placed = else_code tree b.stands.routine b.labels end other place.behind in
    arms_sim t tree run code claims b pc s stands place (pc + 1) end arms other ps place.code.1 place.calls.0 place.labels.0
    (first_room (arms_need tree b.stands.routine arms) (else_need tree b.stands.routine other) t.code.deepest place.room) refl
    (else_sim t tree run claims b end (pc + stmt_size tree b.stands.routine s) other place.behind stands (past_arms t.code tree b.stands.routine b.labels own (pc + 1) arms ps place.code.1)
    place.calls.1 place.labels.1 (second_room (arms_need tree b.stands.routine arms) (else_need tree b.stands.routine other) t.code.deepest place.room) (omega arith))
