-- TEST: the values of its CASEs in order, up to the first that is equal.
use Rattle.std.proofs.Common.{◌≡◌, refl, ap, ℕ, ◌+◌, ◌≤◌, max, Bool, true, false, List, [], ◌∷◌, if◌then◌else◌, arith}
use Rattle.rapid_model.specs.declared.value.Value.{Value}
use Rattle.rapid_model.specs.declared.value.Value.TheVariants as values
use Rattle.rapid_model.specs.declared.operator.Operator.TheVariants as operators
use Rattle.rapid_values.specs.Operators.{apply}
use Rattle.typed_trees.specs.Plain as trees
use Rattle.typed_trees.specs.Plain.{TypedCases, TypedElse, TypedExpr, TypedExprs, TypedStmt, TypedStmts, TypedTree, NoExprs, MoreExprs, NoCases, MoreCases, Else}
use Rattle.typed_trees.specs.declared.datum.Datum.TheVariants.{Plain}
use Rattle.rapid_meaning.specs.Answering.{Run}
use Rattle.rapid_meaning.specs.Doings.{Gives, ◌>>=◌, after}
use Rattle.rapid_meaning.specs.Errors.{failed}
use Rattle.rapid_meaning.specs.Expressions.{expr}
use Rattle.rapid_meaning.specs.Statements.{inner_or_not, is_among, selected}
use Rattle.rapid_meaning.specs.Values.{applied, truth_in}
use Rattle.stack_code.specs.ExprLayouts.{put}
use Rattle.stack_code.specs.Needs.{cases_need, else_need, expr_need, stmts_need, values_need}
use Rattle.stack_code.specs.Placed.{Own, Placed, StandsAt}
use Rattle.stack_code.specs.Raising.{raised}
use Rattle.stack_code.specs.Sizes.{cases_size, expr_size, stmt_size, stmts_size, values_size}
use Rattle.stack_code.specs.StmtLayouts.{cases_code, else_code, own_of, stmts_code, values_code}
use Rattle.stack_code.specs.declared.op.Op.TheVariants as ops
use Rattle.stack_code.proofs.Needs.{expr_needs}
use Rattle.code_laws.specs.Calls.{CasesCalls, ExprsCalls}
use Rattle.code_laws.proofs.Alone.{applied_alone}
use Rattle.code_laws.proofs.Arms.{arm_list}
use Rattle.code_laws.proofs.BehindLook.{BehindLook, spot_at}
use Rattle.code_laws.proofs.Bodies.{Body, lands, leaving}
use Rattle.code_laws.proofs.Claims.{CasesLabels, Claims, ListAt, Stands, StmtAt}
use Rattle.code_laws.proofs.CodeOf.{IsCodeOf}
use Rattle.code_laws.proofs.Elses.{else_sim}
use Rattle.code_laws.proofs.Expressions.{expr_sim}
use Rattle.code_laws.proofs.Ops.{OpAt}
use Rattle.code_laws.proofs.Past.{past_expr}
use Rattle.code_laws.proofs.PastStmts.{past_cases, past_stmts, past_values}
use Rattle.code_laws.proofs.Recovery.{failed_sim}
use Rattle.code_laws.proofs.Rooms.{first_room, second_room}
use Rattle.code_laws.proofs.Same.{sim_same}
use Rattle.code_laws.proofs.Sim.{Sim, Target, sim_after, sim_assoc, sim_from, sim_gives, sim_misfit, sim_raises, sim_then}
use Rattle.code_laws.proofs.Spots.{Holds, Spot, failing, sim_op, standing}

-- a value is compared with the tested value, and then the next ones are
compared : (s : Spot) (pc to end : ℕ) (v equal : Value) (es : TypedExprs) → OpAt s pc (ops.JumpTrue to) → 2 ≤ s.target.code.deepest
    → Sim s.target s.run (standing s (pc + 1) (Plain v ∷ [])) (is_among s.tree s.routine v es) (λ c. if c then standing s to (Plain v ∷ []) else standing s end (Plain v ∷ [])) (failing s)
    → Sim s.target s.run (standing s pc (Plain equal ∷ Plain v ∷ [])) (truth_in equal >>= λ c. if c then Gives true else is_among s.tree s.routine v es)
    (λ c. if c then standing s to (Plain v ∷ []) else standing s end (Plain v ∷ [])) (failing s)
unfolding after
compared s pc to end v (values.Bool true) es there room more = sim_op s pc (Plain (values.Bool true) ∷ Plain v ∷ []) (ops.JumpTrue to) there (omega (arith, room)) (sim_gives true)
compared s pc to end v (values.Bool false) es there room more = sim_op s pc (Plain (values.Bool false) ∷ Plain v ∷ []) (ops.JumpTrue to) there (omega (arith, room)) more
compared s pc to end v equal es there room more = sim_misfit

values_sim : (s : Spot) → IsCodeOf s.tree s.target → Claims s.target s.tree s.run → (pc to end : ℕ) (v : Value) (es : TypedExprs) (ps : List Placed) → ExprsCalls s.tree es
    → Holds s pc (values_code s.tree s.routine s.own to pc es ps) → values_need es ≤ s.target.code.deepest → pc + values_size es ≡ end
    → Sim s.target s.run (standing s pc (Plain v ∷ [])) (is_among s.tree s.routine v es) (λ c. if c then standing s to (Plain v ∷ []) else standing s end (Plain v ∷ [])) (failing s)
unfolding values_code values_size values_need
values_sim s code claims pc to end v NoExprs ps calls there room past =
    let here : pc ≡ end = omega (arith, past) in
    sim_from (ap (λ (x : ℕ). standing s x (Plain v ∷ [])) here) (sim_gives false)
values_sim s code claims pc to end v (MoreExprs e es) ps calls there room past =
    let x : ℕ = pc + 1 + expr_size e in
    let behind : List Placed = put s.own (ops.Binary operators.Equal) (put s.own (ops.JumpTrue to) (values_code s.tree s.routine s.own to (x + 1 + 1) es ps)) in
    let rest = past_expr s.target.code s.tree s.routine s.own (pc + 1) e behind there.1 in
    let needed : 2 + expr_need e ≤ s.target.code.deepest = first_room (2 + expr_need e) (values_need es) s.target.code.deepest room in
    let three : 3 ≤ s.target.code.deepest = omega (arith, needed, expr_needs e) in
    sim_op s pc (Plain v ∷ []) ops.Dup there.0 (omega (arith, three))
    (sim_then (λ w. standing s x (Plain w ∷ Plain v ∷ Plain v ∷ []))
    (expr_sim s code claims (pc + 1) x (Plain v ∷ Plain v ∷ []) e behind calls.0 there.1 needed refl)
    (λ w. sim_op s x (Plain w ∷ Plain v ∷ Plain v ∷ []) (ops.Binary operators.Equal) rest.0 (omega (arith, three))
    (sim_same (applied (apply operators.Equal v w)) (applied_alone (apply operators.Equal v w))
    (λ equal. compared s (x + 1) to end v equal es rest.1.0 (omega (arith, three))
    (values_sim s code claims (x + 1 + 1) to end v es ps calls.1 rest.1.1 (second_room (2 + expr_need e) (values_need es) s.target.code.deepest room) (omega (arith, past))))
    (λ n. sim_raises n))))

-- a CASE has an equal value or not
case_when : (t : Target) (tree : TypedTree) (run : Run) (b : Body) (from : ℕ) (s : TypedStmt) (x next : ℕ) (v : Value) (list : TypedStmts) (more : TypedCases) (other : TypedElse)
    → Sim t run (standing (spot_at t tree run b from s) x (Plain v ∷ [])) (inner_or_not b.stands (Else list)) (lands b (from + stmt_size tree b.stands.routine s)) (leaving t b)
    → Sim t run (standing (spot_at t tree run b from s) next (Plain v ∷ [])) (after (selected tree b.stands.routine v more other) (inner_or_not b.stands) (failed b.stands s))
    (lands b (from + stmt_size tree b.stands.routine s)) (leaving t b) → (c : Bool)
    → Sim t run (if c then standing (spot_at t tree run b from s) x (Plain v ∷ []) else standing (spot_at t tree run b from s) next (Plain v ∷ []))
    (after (if c then Gives (Else list) else selected tree b.stands.routine v more other) (inner_or_not b.stands) (failed b.stands s)) (lands b (from + stmt_size tree b.stands.routine s)) (leaving t b)
unfolding after
case_when t tree run b from s x next v list more other here further true = here
case_when t tree run b from s x next v list more other here further false = further

-- from a CASE; what follows the last of them is given
cases_sim : (t : Target) (tree : TypedTree) (run : Run) → IsCodeOf tree t → Claims t tree run → (b : Body) (from : ℕ) (s : TypedStmt) → Stands t tree b b.stands.errors → StmtAt t tree b from s
    → (pc end : ℕ) (v : Value) (cases : TypedCases) (other : TypedElse) (ps : List Placed)
    → StandsAt t.code pc (cases_code tree b.stands.routine b.labels (own_of tree b.stands.routine from s) pc cases ps) → CasesCalls tree cases → CasesLabels tree b.stands.routine b.labels pc cases
    → cases_need tree b.stands.routine cases ≤ t.code.deepest → 1 ≤ t.code.deepest → pc + cases_size tree b.stands.routine cases ≡ end
    → Sim t run (standing (spot_at t tree run b from s) end (Plain v ∷ [])) (inner_or_not b.stands other) (lands b (from + stmt_size tree b.stands.routine s)) (leaving t b)
    → Sim t run (standing (spot_at t tree run b from s) pc (Plain v ∷ [])) (after (selected tree b.stands.routine v cases other) (inner_or_not b.stands) (failed b.stands s))
    (lands b (from + stmt_size tree b.stands.routine s)) (leaving t b)
unfolding after
cases_sim t tree run code claims b from s stands place pc end v NoCases other ps there calls labels room one past last =
    let here : pc ≡ end = omega (arith, past) in
    sim_from (ap (λ (x : ℕ). standing (spot_at t tree run b from s) x (Plain v ∷ [])) here) last
cases_sim t tree run code claims b from s stands place pc end v (MoreCases es list more) other ps there calls labels room one past last =
    let own : Own = own_of tree b.stands.routine from s in
    let spot : Spot = spot_at t tree run b from s in
    let x : ℕ = pc + values_size es in
    let begin : ℕ = x + 1 + 1 in
    let next : ℕ = begin + stmts_size tree b.stands.routine list + 1 in
    let behind : List Placed = put own (ops.Jump own.next) (cases_code tree b.stands.routine b.labels own next more ps) in
    let compares : List Placed = put own (ops.Jump next) (put own ops.Drop (stmts_code tree b.stands.routine b.labels begin list behind)) in
    let none = past_values t.code tree b.stands.routine own (x + 1) pc es compares there in
    let jump = past_stmts t.code tree b.stands.routine b.labels begin list behind none.1.1 in
    let rooms = second_room (values_need es) (max (stmts_need tree b.stands.routine list) (cases_need tree b.stands.routine more)) t.code.deepest room in
    let at : ListAt t tree b begin (begin + stmts_size tree b.stands.routine list) list = record {
      behind = behind;
      code = none.1.1;
      calls = calls.1;
      labels = labels.0;
      room = first_room (stmts_need tree b.stands.routine list) (cases_need tree b.stands.routine more) t.code.deepest rooms;
      past = refl;
    } in
    sim_assoc (is_among tree b.stands.routine v es) (λ c. if c then Gives (Else list) else selected tree b.stands.routine v more other) (inner_or_not b.stands) (failed b.stands s)
    (sim_after (λ c. if c then standing spot (x + 1) (Plain v ∷ []) else standing spot x (Plain v ∷ [])) (raised t.code own b.frame b.saved)
    (values_sim spot code claims pc (x + 1) x v es compares calls.0 there
    (first_room (values_need es) (max (stmts_need tree b.stands.routine list) (cases_need tree b.stands.routine more)) t.code.deepest room) refl)
    (case_when t tree run b from s (x + 1) x v list more other
    (sim_op spot (x + 1) (Plain v ∷ []) ops.Drop none.1.0 (omega (arith, one))
    (arm_list t tree run claims b from s begin list (cases_code tree b.stands.routine b.labels own next more ps) stands at jump))
    (sim_op spot x (Plain v ∷ []) (ops.Jump next) none.0 (omega (arith, one))
    (cases_sim t tree run code claims b from s stands place next end v more other ps jump.1 calls.2 labels.1
    (second_room (stmts_need tree b.stands.routine list) (cases_need tree b.stands.routine more) t.code.deepest rooms) one (omega (arith, past)) last)))
    (λ n. failed_sim t tree run claims b from s stands place n))

pub test_sim : (t : Target) (tree : TypedTree) (run : Run) → IsCodeOf tree t → Claims t tree run → (b : Body) (pc at : ℕ) (e : TypedExpr) (cases : TypedCases) (other : TypedElse)
    → Stands t tree b b.stands.errors → StmtAt t tree b pc (trees.Test at e cases other) → BehindLook t tree run b pc (trees.Test at e cases other)
test_sim t tree run code claims b pc at e cases other stands place =
    let s : TypedStmt = trees.Test at e cases other in
    let own : Own = own_of tree b.stands.routine pc s in
    let spot : Spot = spot_at t tree run b pc s in
    let x : ℕ = pc + 1 + expr_size e in
    let end : ℕ = x + cases_size tree b.stands.routine cases in
    let drops : List Placed = put own ops.Drop (else_code tree b.stands.routine b.labels (end + 1) other place.behind) in
    let behind : List Placed = cases_code tree b.stands.routine b.labels own x cases drops in
    let rest = past_expr t.code tree b.stands.routine own (pc + 1) e behind place.code.1 in
    let last = past_cases t.code tree b.stands.routine b.labels own x cases drops rest in
    let needed : expr_need e ≤ t.code.deepest = first_room (expr_need e) (max (cases_need tree b.stands.routine cases) (else_need tree b.stands.routine other)) t.code.deepest place.room in
    let rooms = second_room (expr_need e) (max (cases_need tree b.stands.routine cases) (else_need tree b.stands.routine other)) t.code.deepest place.room in
    let one : 1 ≤ t.code.deepest = omega (arith, needed, expr_needs e) in
    sim_assoc (expr tree b.stands.routine e) (λ v. selected tree b.stands.routine v cases other) (inner_or_not b.stands) (failed b.stands s)
    (sim_after (λ v. standing spot x (Plain v ∷ [])) (raised t.code own b.frame b.saved)
    (expr_sim spot code claims (pc + 1) x [] e behind place.calls.0 place.code.1 (omega (arith, needed)) refl)
    (λ v. cases_sim t tree run code claims b pc s stands place x end v cases other drops rest place.calls.1 place.labels.0
    (first_room (cases_need tree b.stands.routine cases) (else_need tree b.stands.routine other) t.code.deepest rooms) one refl
    (sim_op spot end (Plain v ∷ []) ops.Drop last.0 (omega (arith, one))
    (else_sim t tree run claims b (end + 1) (pc + stmt_size tree b.stands.routine s) other place.behind stands last.1
    place.calls.2 place.labels.1 (second_room (cases_need tree b.stands.routine cases) (else_need tree b.stands.routine other) t.code.deepest rooms) (omega arith))))
    (λ n. failed_sim t tree run claims b pc s stands place n))
