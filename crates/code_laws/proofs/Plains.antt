-- Statements that continue with the next one: an assignment, a call of a PROC, RAISE with a number, CONNECT.
use Rattle.std.proofs.Common.{refl, max, ℕ, ◌+◌, ◌≤◌, nat_le, ◌/◌, ◌%◌, ◌==◌, ◌&&◌, Bool, true, false, List, [], ◌∷◌, length, Some, if◌then◌else◌, arith}
use Rattle.rapid_model.specs.declared.answer.Answer.{Answer}
use Rattle.rapid_model.specs.declared.answer.Answer.TheVariants as answers
use Rattle.rapid_model.specs.declared.fate.Fault.TheVariants.{RaiseRange}
use Rattle.rapid_model.specs.declared.value.Value.{Value}
use Rattle.rapid_model.specs.declared.value.Value.TheVariants as values
use Rattle.std.specs.Prelude.{pos, negsuc}
use Rattle.typed_trees.specs.Plain as trees
use Rattle.typed_trees.specs.Plain.{TypedArgs, TypedExpr, TypedPlace, TypedTree}
use Rattle.typed_trees.specs.declared.datum.Datum.{Datum}
use Rattle.typed_trees.specs.declared.datum.Datum.TheVariants.{Plain, Mark, Place}
use Rattle.typed_trees.specs.declared.datum.Lvalue.{Lvalue}
use Rattle.rapid_meaning.specs.Answering.{Run}
use Rattle.rapid_meaning.specs.Doings.{Act, Raises, ◌>>=◌, after, fault}
use Rattle.rapid_meaning.specs.Expressions.{expr}
use Rattle.rapid_meaning.specs.Interrupts.{connect, when_connected}
use Rattle.rapid_meaning.specs.Places.{load, store}
use Rattle.rapid_meaning.specs.Statements.{assign, call, connects, goes_on, raised}
use Rattle.rapid_meaning.specs.Values.{mark_in}
use Rattle.stack_code.specs.ExprLayouts.{expr_code, put}
use Rattle.stack_code.specs.Needs.{args_need, expr_need, pieces_need, place_need}
use Rattle.stack_code.specs.Placed.{Placed}
use Rattle.stack_code.specs.Sizes.{args_size, expr_size, pieces_size, place_size}
use Rattle.stack_code.specs.StmtLayouts.{pieces_code}
use Rattle.stack_code.specs.declared.op.Op.TheVariants as ops
use Rattle.stack_code.proofs.Needs.{expr_needs}
use Rattle.code_laws.proofs.Alone.{load_alone, store_alone}
use Rattle.code_laws.proofs.Arguments.{procedure_sim}
use Rattle.code_laws.proofs.BehindLook.{BehindLook, normal_sim, spot_at}
use Rattle.code_laws.proofs.Bodies.{Body, begins}
use Rattle.code_laws.proofs.Claims.{Claims, Stands, StmtAt}
use Rattle.code_laws.proofs.CodeOf.{IsCodeOf}
use Rattle.code_laws.proofs.Expressions.{expr_sim, place_sim}
use Rattle.code_laws.proofs.Ops.{OpAt}
use Rattle.code_laws.proofs.Past.{past_expr, past_place}
use Rattle.code_laws.proofs.Recovery.{header_sim}
use Rattle.code_laws.proofs.Rooms.{first_room, second_room}
use Rattle.code_laws.proofs.Same.{NoPart, same, sim_same}
use Rattle.code_laws.proofs.Sim.{Sim, Target, sim_assoc, sim_misfit, sim_raises, sim_then}
use Rattle.code_laws.proofs.Spots.{Spot, failing, sim_op, standing}

pub store_sim : (s : Spot) (pc : ℕ) (stack : List Datum) (p : Lvalue) (x : Datum) → OpAt s pc ops.Store → length (x ∷ Place p ∷ stack) ≤ s.target.code.deepest
    → Sim s.target s.run (standing s pc (x ∷ Place p ∷ stack)) (store p x) (λ _. standing s (pc + 1) stack) (failing s)
store_sim s pc stack p x there room = sim_op s pc (x ∷ Place p ∷ stack) ops.Store there room (same (store p x) (store_alone p x))

pub assign_sim : (t : Target) (tree : TypedTree) (run : Run) → IsCodeOf tree t → Claims t tree run → (b : Body) (pc at : ℕ) (p : TypedPlace) (e : TypedExpr)
    → Stands t tree b b.stands.errors → StmtAt t tree b pc (trees.Assign at p e) → BehindLook t tree run b pc (trees.Assign at p e)
unfolding pieces_code pieces_size pieces_need
assign_sim t tree run code claims b pc at p e stands place =
    let s : Spot = spot_at t tree run b pc (trees.Assign at p e) in
    let x : ℕ = pc + 1 + place_size p in
    let rest = past_place t.code tree b.stands.routine s.own (pc + 1) p (expr_code tree b.stands.routine s.own x e (put s.own ops.Store place.behind)) place.code.1 in
    let room = second_room (0 + place_need p) (max (1 + expr_need e) (max 2 0)) t.code.deepest place.room in
    let operands : 1 + expr_need e ≤ t.code.deepest = first_room (1 + expr_need e) (max 2 0) t.code.deepest room in
    header_sim t tree run claims b pc (trees.Assign at p e) stands place (begins b (pc + 1)) (assign tree b.stands.routine p e) goes_on (λ _. begins b (x + expr_size e + 1))
    (sim_then (λ q. standing s x (Place q ∷ [])) (place_sim s code claims (pc + 1) x [] p (expr_code tree b.stands.routine s.own x e (put s.own ops.Store place.behind)) place.calls.0 place.code.1
    (first_room (0 + place_need p) (max (1 + expr_need e) (max 2 0)) t.code.deepest place.room) refl)
    (λ q. sim_then (λ v. standing s (x + expr_size e) (Plain v ∷ Place q ∷ []))
    (expr_sim s code claims x (x + expr_size e) (Place q ∷ []) e (put s.own ops.Store place.behind) place.calls.1 rest operands refl)
    (λ v. store_sim s (x + expr_size e) [] q (Plain v) (past_expr t.code tree b.stands.routine s.own x e (put s.own ops.Store place.behind) rest).0 (omega (arith, operands, expr_needs e)))))
    (λ _. normal_sim b (x + expr_size e + 1) (pc + (1 + (place_size p + (expr_size e + (1 + 0))))) (omega arith))

pub call_stmt_sim : (t : Target) (tree : TypedTree) (run : Run) → IsCodeOf tree t → Claims t tree run → (b : Body) (pc at called : ℕ) (args : TypedArgs)
    → Stands t tree b b.stands.errors → StmtAt t tree b pc (trees.Call at called args) → BehindLook t tree run b pc (trees.Call at called args)
unfolding pieces_code pieces_size pieces_need
call_stmt_sim t tree run code claims b pc at called args stands place =
    let s : Spot = spot_at t tree run b pc (trees.Call at called args) in
    header_sim t tree run claims b pc (trees.Call at called args) stands place (begins b (pc + 1)) (call tree b.stands.routine called args) goes_on (λ _. begins b (pc + 1 + args_size args + 1))
    (procedure_sim s code claims (pc + 1) (pc + 1 + args_size args + 1) [] called args place.behind place.calls.0 place.calls.2 place.calls.1 place.code.1
    (first_room (0 + args_need args) (max 0 0) t.code.deepest place.room) refl)
    (λ _. normal_sim b (pc + 1 + args_size args + 1) (pc + (1 + (args_size args + (1 + 0)))) (omega arith))

-- RAISE with a number

raise_when : (c : Bool) (n : ℕ) (other : Act) → NoPart other → NoPart (if c then Raises n else other)
raise_when true n other alone = tt
raise_when false n other alone = alone

raised_alone : (v : Value) → NoPart (raised v)
raised_alone (values.Num (pos n)) = raise_when (n % 1_000 == 0 && nat_le 1 (n / 1_000) && nat_le (n / 1_000) 90) (n / 1_000) (fault RaiseRange) tt
raised_alone (values.Num (negsuc n)) = tt
raised_alone v = tt

pub raise_sim : (t : Target) (tree : TypedTree) (run : Run) → IsCodeOf tree t → Claims t tree run → (b : Body) (pc at : ℕ) (e : TypedExpr)
    → Stands t tree b b.stands.errors → StmtAt t tree b pc (trees.Raise at (Some e)) → BehindLook t tree run b pc (trees.Raise at (Some e))
unfolding pieces_code pieces_size pieces_need
raise_sim t tree run code claims b pc at e stands place =
    let s : Spot = spot_at t tree run b pc (trees.Raise at (Some e)) in
    let x : ℕ = pc + 1 + expr_size e in
    let room : 0 + expr_need e ≤ t.code.deepest = first_room (0 + expr_need e) (max 1 1) t.code.deepest place.room in
    header_sim t tree run claims b pc (trees.Raise at (Some e)) stands place (begins b (pc + 1)) (expr tree b.stands.routine e >>= raised) goes_on (λ _. begins b (x + 1))
    (sim_then (λ v. standing s x (Plain v ∷ [])) (expr_sim s code claims (pc + 1) x [] e (put s.own ops.Raise place.behind) place.calls place.code.1 room refl)
    (λ v. sim_op s x (Plain v ∷ []) ops.Raise (past_expr t.code tree b.stands.routine s.own (pc + 1) e (put s.own ops.Raise place.behind) place.code.1).0 (omega (arith, room, expr_needs e))
    (same (raised v) (raised_alone v))))
    (λ _. normal_sim b (x + 1) (pc + (1 + (expr_size e + (1 + 0)))) (omega arith))

-- CONNECT

connected_alone : (p : Lvalue) (a : Answer) → NoPart (when_connected p a)
connected_alone p (answers.Number number) = store_alone p (Mark number)
connected_alone p a = tt

marked : (s : Spot) (pc trap : ℕ) (p : Lvalue) (x : Datum) → OpAt s pc (ops.Connect trap) → 2 ≤ s.target.code.deepest
    → Sim s.target s.run (standing s pc (x ∷ Place p ∷ [])) (mark_in x >>= λ old. connect p old trap) (λ _. standing s (pc + 1) []) (failing s)
unfolding after
marked s pc trap p (Mark old) there room = sim_op s pc (Mark old ∷ Place p ∷ []) (ops.Connect trap) there (omega arith) (same (connect p old trap) (connected_alone p))
marked s pc trap p x there room = sim_misfit

pub connect_sim : (t : Target) (tree : TypedTree) (run : Run) → IsCodeOf tree t → Claims t tree run → (b : Body) (pc at : ℕ) (p : TypedPlace) (trap : ℕ)
    → Stands t tree b b.stands.errors → StmtAt t tree b pc (trees.Connect at p trap) → BehindLook t tree run b pc (trees.Connect at p trap)
unfolding pieces_code pieces_size pieces_need
connect_sim t tree run code claims b pc at p trap stands place =
    let s : Spot = spot_at t tree run b pc (trees.Connect at p trap) in
    let x : ℕ = pc + 1 + place_size p in
    let ps : List Placed = put s.own ops.Dup (put s.own ops.Load (put s.own (ops.Connect trap) place.behind)) in
    let rest = past_place t.code tree b.stands.routine s.own (pc + 1) p ps place.code.1 in
    let room = second_room (0 + place_need p) (max 1 (max 2 (max 2 2))) t.code.deepest place.room in
    let two : 2 ≤ t.code.deepest = first_room 2 (max 2 2) t.code.deepest (second_room 1 (max 2 (max 2 2)) t.code.deepest room) in
    header_sim t tree run claims b pc (trees.Connect at p trap) stands place (begins b (pc + 1)) (connects tree b.stands.routine p trap) goes_on (λ _. begins b (x + 1 + 1 + 1))
    (sim_then (λ q. standing s x (Place q ∷ []))
    (place_sim s code claims (pc + 1) x [] p ps place.calls place.code.1 (first_room (0 + place_need p) (max 1 (max 2 (max 2 2))) t.code.deepest place.room) refl)
    (λ q. sim_op s x (Place q ∷ []) ops.Dup rest.0 (omega (arith, two))
    (sim_op s (x + 1) (Place q ∷ Place q ∷ []) ops.Load rest.1.0 (omega (arith, two))
    (sim_assoc (load q) mark_in (λ old. connect q old trap) Raises
    (sim_same (load q) (load_alone q) (λ y. marked s (x + 1 + 1) trap q y rest.1.1.0 two) (λ n. sim_raises n))))))
    (λ _. normal_sim b (x + 1 + 1 + 1) (pc + (1 + (place_size p + (1 + (1 + (1 + 0)))))) (omega arith))
