-- FOR: its bounds and its step, and then its iterations.
use Rattle.std.proofs.Common.{ℕ, ◌+◌, Option}
use Rattle.typed_trees.specs.Plain as trees
use Rattle.typed_trees.specs.Plain.{TypedExpr, TypedStmt, TypedStmts, TypedTree}
use Rattle.rapid_meaning.specs.Answering.{Run}
use Rattle.rapid_meaning.specs.Loops.{bounds, turn_due}
use Rattle.rapid_meaning.specs.Layouts.{local_start}
use Rattle.stack_code.specs.ExprLayouts.{put}
use Rattle.stack_code.specs.Needs.{pieces_need, stmts_need}
use Rattle.stack_code.specs.Pieces.{bounds_pieces}
use Rattle.stack_code.specs.Placed.{Own}
use Rattle.stack_code.specs.Sizes.{bounds_size}
use Rattle.stack_code.specs.StmtLayouts.{own_of, stmts_code}
use Rattle.stack_code.specs.declared.op.Op.TheVariants as ops
use Rattle.code_laws.proofs.BehindLook.{BehindLook, spot_at}
use Rattle.code_laws.proofs.Bodies.{Body, begins}
use Rattle.code_laws.proofs.Bounds.{bounds_sim}
use Rattle.code_laws.proofs.Claims.{Claims, Stands, StmtAt}
use Rattle.code_laws.proofs.CodeOf.{IsCodeOf}
use Rattle.code_laws.proofs.Recovery.{header_sim}
use Rattle.code_laws.proofs.Rooms.{first_room}
use Rattle.code_laws.proofs.Sim.{Target}
use Rattle.code_laws.proofs.Turns.{turn_due_sim}
use Rattle.rapid_meaning.specs.Flows.{Turn}

pub for_sim : (t : Target) (tree : TypedTree) (run : Run) → IsCodeOf tree t → Claims t tree run → (b : Body) (pc at local : ℕ) (first last : TypedExpr) (step : Option TypedExpr) (list : TypedStmts)
    → Stands t tree b b.stands.errors → StmtAt t tree b pc (trees.For at local first last step list) → BehindLook t tree run b pc (trees.For at local first last step list)
for_sim t tree run code claims b pc at local first last step list stands place =
    let s : TypedStmt = trees.For at local first last step list in
    let own : Own = own_of tree b.stands.routine pc s in
    let k : ℕ = local_start b.stands.routine local in
    let x : ℕ = pc + 1 + bounds_size b.stands.routine local first last step in
    header_sim t tree run claims b pc s stands place (begins b (pc + 1)) (bounds tree b.stands.routine local first last step) (λ _. turn_due b.stands.routine local (Turn b.stands s))
    (λ _. begins b (pc + 1 + bounds_size b.stands.routine local first last step))
    (bounds_sim (spot_at t tree run b pc s) code claims b.labels (pc + 1) local first last step (put own (ops.Turn k own.next) (put own ops.Look (stmts_code tree b.stands.routine b.labels (x + 1 + 1) list
    (put own (ops.Step k x) place.behind)))) place.calls.0 place.calls.1 place.calls.2 place.code.1
    (first_room (pieces_need 0 (bounds_pieces k first last step)) (stmts_need tree b.stands.routine list) t.code.deepest place.room))
    (λ _. turn_due_sim t tree run claims b pc at local first last step list stands place)
