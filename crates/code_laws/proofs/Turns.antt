-- The iterations of a FOR.
use Rattle.std.proofs.Common.{◌≡◌, refl, ap, ℕ, ◌+◌, Bool, true, false, List, [], Option, None, Some, if◌then◌else◌, slice_get, arith}
use Rattle.std.specs.Prelude.{ℤ}
use Rattle.std.specs.Option.{option_and_then, option_map}
use Rattle.rapid_num.specs.Arithmetic.{sum_of}
use Rattle.typed_trees.specs.Plain as trees
use Rattle.typed_trees.specs.Plain.{TypedExpr, TypedStmt, TypedStmts, TypedTree}
use Rattle.rapid_meaning.specs.Answering.{Run}
use Rattle.rapid_meaning.specs.Doings.{Act, Doing, Gives, Raises, ◌>>=◌, after, goes_to}
use Rattle.rapid_meaning.specs.Flows.{Flow, Normal, Turn}
use Rattle.rapid_meaning.specs.Layouts.{local_start}
use Rattle.rapid_meaning.specs.Loops.{counted, counts_on, has_passed, turn_due}
use Rattle.rapid_meaning.specs.Statements.{turn, turned}
use Rattle.rapid_meaning.proofs.Follows.{after_after}
use Rattle.stack_code.specs.CodeData.{CodeData}
use Rattle.stack_code.specs.Confs.{Conf}
use Rattle.stack_code.specs.ExprLayouts.{put}
use Rattle.stack_code.specs.Needs.{pieces_need, stmts_need}
use Rattle.stack_code.specs.Pieces.{bounds_pieces}
use Rattle.stack_code.specs.Placed.{Own, Placed, beside, owner_at, placed_at, StandsAt}
use Rattle.stack_code.specs.Sizes.{bounds_size, stmt_size, stmts_size}
use Rattle.stack_code.specs.Steps.{counter_at, past_turn, set_counter_at, stepped}
use Rattle.stack_code.specs.StmtLayouts.{own_of, stmts_code}
use Rattle.stack_code.specs.declared.op.Op.{Op}
use Rattle.stack_code.specs.declared.op.Op.TheVariants as ops
use Rattle.stack_code.specs.declared.owner.Owner.{Owner}
use Rattle.code_laws.proofs.BehindLook.{spot_at}
use Rattle.code_laws.proofs.Bodies.{Body, begins, lands, leaving}
use Rattle.code_laws.proofs.Calm.{counter_calm, set_counter_calm}
use Rattle.code_laws.proofs.Claims.{Claims, ListAt, Stands, StmtAt, turn_at}
use Rattle.code_laws.proofs.CodeOf.{IsCodeOf}
use Rattle.code_laws.proofs.InnerLists.{list_then_sim}
use Rattle.code_laws.proofs.Looks.{again_sim, look_sim}
use Rattle.code_laws.proofs.Ops.{OpAt}
use Rattle.code_laws.proofs.PastStmts.{past_pieces, past_stmts}
use Rattle.code_laws.proofs.Rooms.{second_room}
use Rattle.code_laws.proofs.Same.{sim_calm}
use Rattle.code_laws.proofs.Sim.{Sim, Target, sim_from, sim_gives, sim_to}
use Rattle.code_laws.proofs.Spots.{here, sim_op}

-- the code after the bounds: the Turn, its Look, the list, and the Step
abbrev pub ForCode : Target → TypedTree → Body → ℕ → ℕ → ℕ → TypedExpr → TypedExpr → Option TypedExpr → TypedStmts → List Placed → Type 0
ForCode t tree b pc at local first last step list behind =
    StandsAt t.code (pc + 1 + bounds_size b.stands.routine local first last step)
    (put (own_of tree b.stands.routine pc (trees.For at local first last step list)) (ops.Turn (local_start b.stands.routine local) (pc + stmt_size tree b.stands.routine (trees.For at local first last step list)))
    (put (own_of tree b.stands.routine pc (trees.For at local first last step list)) ops.Look
    (stmts_code tree b.stands.routine b.labels (pc + 1 + bounds_size b.stands.routine local first last step + 1 + 1) list
    (put (own_of tree b.stands.routine pc (trees.For at local first last step list)) (ops.Step (local_start b.stands.routine local) (pc + 1 + bounds_size b.stands.routine local first last step)) behind))))

pub for_code : (t : Target) (tree : TypedTree) (b : Body) (pc at local : ℕ) (first last : TypedExpr) (step : Option TypedExpr) (list : TypedStmts)
    → (place : StmtAt t tree b pc (trees.For at local first last step list)) → ForCode t tree b pc at local first last step list place.behind
for_code t tree b pc at local first last step list place =
    let own : Own = own_of tree b.stands.routine pc (trees.For at local first last step list) in
    let k : ℕ = local_start b.stands.routine local in
    let turn_pc : ℕ = pc + 1 + bounds_size b.stands.routine local first last step in
    past_pieces t.code tree b.stands.routine b.labels own (pc + 1) (bounds_pieces k first last step)
    (put own (ops.Turn k own.next) (put own ops.Look (stmts_code tree b.stands.routine b.labels (turn_pc + 1 + 1) list (put own (ops.Step k turn_pc) place.behind)))) place.code.1

-- the variable is the first of the three data

first_datum : (k : ℕ) → counter_at (k + 0) ≡ counter_at k
first_datum k = let same : k + 0 ≡ k = omega arith in ap (λ (x : ℕ). counter_at x) same

set_first_datum : (k : ℕ) (n : ℤ) → set_counter_at (k + 0) n ≡ set_counter_at k n
set_first_datum k n = let same : k + 0 ≡ k = omega arith in ap (λ (x : ℕ). set_counter_at x n) same

-- passed or not
due_when : (t : Target) (run : Run) (b : Body) (next final : ℕ) (s : TypedStmt) → Sim t run (begins b next) (goes_to (Turn b.stands s)) (lands b final) (leaving t b) → (c : Bool)
    → Sim t run (if c then begins b final else begins b next) (if c then Gives Normal else goes_to (Turn b.stands s)) (lands b final) (leaving t b)
due_when t run b next final s sim true = sim_gives Normal
due_when t run b next final s sim false = sim

-- the Turn reads the three data, and then the next iteration begins with its Look, unless the variable has passed
due_sim : (t : Target) (tree : TypedTree) (run : Run) (b : Body) (from at local : ℕ) (first last : TypedExpr) (step : Option TypedExpr) (list : TypedStmts) (pc final : ℕ)
    → OpAt (spot_at t tree run b from (trees.For at local first last step list)) pc (ops.Turn (local_start b.stands.routine local) final)
    → Sim t run (begins b (pc + 1)) (goes_to (Turn b.stands (trees.For at local first last step list))) (lands b final) (leaving t b)
    → Sim t run (begins b pc) (turn_due b.stands.routine local (Turn b.stands (trees.For at local first last step list))) (lands b final) (leaving t b)
unfolding after
due_sim t tree run b from at local first last step list pc final there sim =
    let s : TypedStmt = trees.For at local first last step list in
    let k : ℕ = local_start b.stands.routine local in
    let goes : Bool → Doing Conf = λ c. if c then begins b final else begins b (pc + 1) in
    let decided : ℤ → ℤ → ℤ → Doing Flow = λ variable limit by. if has_passed variable limit by then Gives Normal else goes_to (Turn b.stands s) in
    sim_op (spot_at t tree run b from s) pc [] (ops.Turn k final) there (omega arith)
    (sim_to (ap (λ (m : Doing ℤ). m >>= λ variable. counter_at (k + 1) >>= λ limit. counter_at (k + 2) >>= λ by. decided variable limit by) (first_datum k))
    (sim_from (after_after (counter_at k) (λ variable. counter_at (k + 1) >>= λ limit. counter_at (k + 2) >>= λ by. Gives (has_passed variable limit by)) Raises goes Raises)
    (sim_calm (counter_at k) Raises Raises (counter_calm k) (λ variable.
    sim_from (after_after (counter_at (k + 1)) (λ limit. counter_at (k + 2) >>= λ by. Gives (has_passed variable limit by)) Raises goes Raises)
    (sim_calm (counter_at (k + 1)) Raises Raises (counter_calm (k + 1)) (λ limit.
    sim_from (after_after (counter_at (k + 2)) (λ by. Gives (has_passed variable limit by)) Raises goes Raises)
    (sim_calm (counter_at (k + 2)) Raises Raises (counter_calm (k + 2)) (λ by. due_when t run b (pc + 1) final s sim (has_passed variable limit by)))))))))

-- the claim about iterations
turns_sim : (t : Target) (tree : TypedTree) (run : Run) → Claims t tree run → (b : Body) (pc at local : ℕ) (first last : TypedExpr) (step : Option TypedExpr) (list : TypedStmts)
    → Stands t tree b b.stands.errors → StmtAt t tree b pc (trees.For at local first last step list)
    → Sim t run (begins b (turn_at b.stands.routine pc local first last step)) (goes_to (Turn b.stands (trees.For at local first last step list)))
    (lands b (pc + stmt_size tree b.stands.routine (trees.For at local first last step list))) (leaving t b)
turns_sim t tree run claims b pc at local first last step list stands place =
    again_sim (begins b (turn_at b.stands.routine pc local first last step)) (Turn b.stands (trees.For at local first last step list))
    (lands b (pc + stmt_size tree b.stands.routine (trees.For at local first last step list))) (leaving t b) (claims.turns b pc at local first last step list stands place)

pub turn_due_sim : (t : Target) (tree : TypedTree) (run : Run) → Claims t tree run → (b : Body) (pc at local : ℕ) (first last : TypedExpr) (step : Option TypedExpr) (list : TypedStmts)
    → Stands t tree b b.stands.errors → StmtAt t tree b pc (trees.For at local first last step list)
    → Sim t run (begins b (pc + 1 + bounds_size b.stands.routine local first last step)) (turn_due b.stands.routine local (Turn b.stands (trees.For at local first last step list)))
    (lands b (pc + stmt_size tree b.stands.routine (trees.For at local first last step list))) (leaving t b)
turn_due_sim t tree run claims b pc at local first last step list stands place =
    due_sim t tree run b pc at local first last step list (pc + 1 + bounds_size b.stands.routine local first last step) (pc + stmt_size tree b.stands.routine (trees.For at local first last step list))
    (for_code t tree b pc at local first last step list place).0 (turns_sim t tree run claims b pc at local first last step list stands place)

-- the operation at a place

op_owned : (op : Op) (owner : Option Owner) (p : Placed) → option_map (λ o. beside o op) owner ≡ Some p → op ≡ p.op
op_owned op None p e = cc
op_owned op (Some owner) p e = let same : beside owner op ≡ p = cc in ap (λ (x : Placed). x.op) same

op_found : (code : CodeData) (pc : ℕ) (op : Option Op) (p : Placed) → option_and_then (λ o. option_map (λ owner. beside owner o) (owner_at code.owners pc)) op ≡ Some p → op ≡ Some p.op
op_found code pc None p e = cc
op_found code pc (Some op) p e = ap (λ (x : Op). Some x) (op_owned op (owner_at code.owners pc) p e)

op_at : (code : CodeData) (pc : ℕ) (p : Placed) → placed_at code pc ≡ Some p → slice_get code.ops pc ≡ Some p.op
op_at code pc p e = op_found code pc (slice_get code.ops pc) p e

-- the Step changes the variable and goes to the Turn; if the variable leaves the range of num, to where the Turn leads
step_when : (t : Target) (tree : TypedTree) (run : Run) → Claims t tree run → (b : Body) (pc at local : ℕ) (first last : TypedExpr) (step : Option TypedExpr) (list : TypedStmts)
    → Stands t tree b b.stands.errors → StmtAt t tree b pc (trees.For at local first last step list) → (x : ℕ) (sum : Option ℤ)
    → Sim t run (stepped (here (spot_at t tree run b pc (trees.For at local first last step list)) x []) (local_start b.stands.routine local) (pc + 1 + bounds_size b.stands.routine local first last step) sum)
    (counted b.stands.routine local (Turn b.stands (trees.For at local first last step list)) sum)
    (lands b (pc + stmt_size tree b.stands.routine (trees.For at local first last step list))) (leaving t b)
step_when t tree run claims b pc at local first last step list stands place x None =
    let s : TypedStmt = trees.For at local first last step list in
    sim_from (ap (λ (op : Option Op). past_turn (here (spot_at t tree run b pc s) x []) op)
    (op_at t.code (pc + 1 + bounds_size b.stands.routine local first last step) _ (for_code t tree b pc at local first last step list place).0)) (sim_gives Normal)
step_when t tree run claims b pc at local first last step list stands place x (Some n) =
    let s : TypedStmt = trees.For at local first last step list in
    let k : ℕ = local_start b.stands.routine local in
    sim_to (ap (λ (m : Act). m >>= λ _. turn_due b.stands.routine local (Turn b.stands s)) (set_first_datum k n))
    (sim_calm (set_counter_at k n) Raises Raises (set_counter_calm k n) (λ _. turn_due_sim t tree run claims b pc at local first last step list stands place))

step_sim : (t : Target) (tree : TypedTree) (run : Run) → Claims t tree run → (b : Body) (pc at local : ℕ) (first last : TypedExpr) (step : Option TypedExpr) (list : TypedStmts)
    → Stands t tree b b.stands.errors → StmtAt t tree b pc (trees.For at local first last step list) → (x : ℕ)
    → OpAt (spot_at t tree run b pc (trees.For at local first last step list)) x (ops.Step (local_start b.stands.routine local) (pc + 1 + bounds_size b.stands.routine local first last step))
    → Sim t run (begins b x) (counts_on b.stands.routine local (Turn b.stands (trees.For at local first last step list)))
    (lands b (pc + stmt_size tree b.stands.routine (trees.For at local first last step list))) (leaving t b)
step_sim t tree run claims b pc at local first last step list stands place x there =
    let s : TypedStmt = trees.For at local first last step list in
    let k : ℕ = local_start b.stands.routine local in
    sim_op (spot_at t tree run b pc s) x [] (ops.Step k (pc + 1 + bounds_size b.stands.routine local first last step)) there (omega arith)
    (sim_to (ap (λ (m : Doing ℤ). m >>= λ variable. counter_at (k + 2) >>= λ by. counted b.stands.routine local (Turn b.stands s) (sum_of variable by)) (first_datum k))
    (sim_calm (counter_at k) Raises Raises (counter_calm k) (λ variable.
    sim_calm (counter_at (k + 2)) Raises Raises (counter_calm (k + 2)) (λ by. step_when t tree run claims b pc at local first last step list stands place x (sum_of variable by)))))

pub turn_sim : (t : Target) (tree : TypedTree) (run : Run) → IsCodeOf tree t → Claims t tree run → (b : Body) (pc : ℕ) (at local : ℕ) (first last : TypedExpr) (step : Option TypedExpr) (list : TypedStmts)
    → Stands t tree b b.stands.errors → StmtAt t tree b pc (trees.For at local first last step list)
    → Sim t run (begins b (turn_at b.stands.routine pc local first last step)) (turn b.stands (trees.For at local first last step list))
    (lands b (pc + stmt_size tree b.stands.routine (trees.For at local first last step list))) (leaving t b)
turn_sim t tree run code claims b pc at local first last step list stands place =
    let s : TypedStmt = trees.For at local first last step list in
    let own : Own = own_of tree b.stands.routine pc s in
    let k : ℕ = local_start b.stands.routine local in
    let turn_pc : ℕ = pc + 1 + bounds_size b.stands.routine local first last step in
    let x : ℕ = turn_pc + 1 + 1 in
    let end : ℕ = x + stmts_size tree b.stands.routine list in
    let final : ℕ = pc + stmt_size tree b.stands.routine s in
    let there = for_code t tree b pc at local first last step list place in
    let behind : List Placed = put own (ops.Step k turn_pc) place.behind in
    let inside : ListAt t tree b x end list = record {
      behind = behind;
      code = there.1.1;
      calls = place.calls.3;
      labels = place.labels;
      room = second_room (pieces_need 0 (bounds_pieces k first last step)) (stmts_need tree b.stands.routine list) t.code.deepest place.room;
      past = refl;
    } in
    look_sim t tree run code claims b (turn_pc + 1) None own at (Turn b.stands s) (turned b.stands (Turn b.stands s) s) (lands b final) (leaving t b) there.1.0 refl
    (claims.turns b pc at local first last step list stands place)
    (list_then_sim t tree run claims b x end final list stands inside (counts_on b.stands.routine local (Turn b.stands s))
    (step_sim t tree run claims b pc at local first last step list stands place end (past_stmts t.code tree b.stands.routine b.labels x list behind there.1.1).0))
