-- The code of statements does what the statements do.
use Rattle.std.proofs.Common.{◌≡◌, refl, ℕ, ◌+◌, None, Some, arith}
use Rattle.typed_trees.specs.Plain as trees
use Rattle.typed_trees.specs.Plain.{TypedStmt, TypedTree}
use Rattle.rapid_meaning.specs.Answering.{Run}
use Rattle.rapid_meaning.specs.Flows.{Attempt}
use Rattle.rapid_meaning.specs.Looks.{look}
use Rattle.rapid_meaning.specs.Statements.{byte_of, follows, stmt}
use Rattle.stack_code.specs.Placed.{placed_at}
use Rattle.stack_code.specs.Sizes.{stmt_size}
use Rattle.stack_code.specs.StmtLayouts.{own_of}
use Rattle.stack_code.specs.declared.op.Op.TheVariants as ops
use Rattle.code_laws.proofs.Arms.{if_sim}
use Rattle.code_laws.proofs.BehindLook.{BehindLook, normal_sim}
use Rattle.code_laws.proofs.Bodies.{Body, begins, lands, leaving}
use Rattle.code_laws.proofs.Branches.{if_one_sim, while_sim}
use Rattle.code_laws.proofs.Cases.{test_sim}
use Rattle.code_laws.proofs.Claims.{Claims, Stands, StmtAt}
use Rattle.code_laws.proofs.CodeOf.{IsCodeOf}
use Rattle.code_laws.proofs.Fors.{for_sim}
use Rattle.code_laws.proofs.Instructs.{instruct_sim}
use Rattle.code_laws.proofs.Leaves.{exit_sim, goto_sim, raise_again_sim, retry_sim, return_sim, return_with_sim, try_next_sim}
use Rattle.code_laws.proofs.Looks.{look_sim}
use Rattle.code_laws.proofs.Plains.{assign_sim, call_stmt_sim, connect_sim, raise_sim}
use Rattle.code_laws.proofs.Sim.{Sim, Target}

-- a statement with a Look, from that Look
from_look : (t : Target) (tree : TypedTree) (run : Run) → IsCodeOf tree t → Claims t tree run → (b : Body) (pc : ℕ) (s : TypedStmt) → Stands t tree b b.stands.errors → StmtAt t tree b pc s
    → placed_at t.code pc ≡ Some (record { own = own_of tree b.stands.routine pc s; op = ops.Look }) → BehindLook t tree run b pc s
    → Sim t run (begins b pc) (look b.stands (byte_of s) (Attempt b.stands s) (follows tree b.stands s s)) (lands b (pc + stmt_size tree b.stands.routine s)) (leaving t b)
from_look t tree run code claims b pc s stands at there sim =
    look_sim t tree run code claims b pc None (own_of tree b.stands.routine pc s) (byte_of s) (Attempt b.stands s) (follows tree b.stands s s)
    (lands b (pc + stmt_size tree b.stands.routine s)) (leaving t b) there refl (claims.attempts b pc s stands at) sim

pub stmt_sim : (t : Target) (tree : TypedTree) (run : Run) → IsCodeOf tree t → Claims t tree run → (b : Body) (pc : ℕ) (s : TypedStmt) → Stands t tree b b.stands.errors → StmtAt t tree b pc s
    → Sim t run (begins b pc) (stmt tree b.stands s) (lands b (pc + stmt_size tree b.stands.routine s)) (leaving t b)
stmt_sim t tree run code claims b pc (trees.Label at label) stands place = normal_sim b pc (pc + 0) (omega arith)
stmt_sim t tree run code claims b pc (trees.Assign at p e) stands place =
    from_look t tree run code claims b pc (trees.Assign at p e) stands place place.code.0 (assign_sim t tree run code claims b pc at p e stands place)
stmt_sim t tree run code claims b pc (trees.Instruct at instruction args) stands place =
    from_look t tree run code claims b pc (trees.Instruct at instruction args) stands place place.code.0 (instruct_sim t tree run code claims b pc at instruction args stands place)
stmt_sim t tree run code claims b pc (trees.Call at called args) stands place =
    from_look t tree run code claims b pc (trees.Call at called args) stands place place.code.0 (call_stmt_sim t tree run code claims b pc at called args stands place)
stmt_sim t tree run code claims b pc (trees.Goto at label) stands place =
    from_look t tree run code claims b pc (trees.Goto at label) stands place place.code.0 (goto_sim t tree run b pc at label place)
stmt_sim t tree run code claims b pc (trees.Return at None) stands place =
    from_look t tree run code claims b pc (trees.Return at None) stands place place.code.0 (return_sim t tree run b pc at place)
stmt_sim t tree run code claims b pc (trees.Return at (Some e)) stands place =
    from_look t tree run code claims b pc (trees.Return at (Some e)) stands place place.code.0 (return_with_sim t tree run code claims b pc at e stands place)
stmt_sim t tree run code claims b pc (trees.Exit at) stands place =
    from_look t tree run code claims b pc (trees.Exit at) stands place place.code.0 (exit_sim t tree run b pc at place)
stmt_sim t tree run code claims b pc (trees.Raise at None) stands place =
    from_look t tree run code claims b pc (trees.Raise at None) stands place place.code.0 (raise_again_sim t tree run b pc at stands place)
stmt_sim t tree run code claims b pc (trees.Raise at (Some e)) stands place =
    from_look t tree run code claims b pc (trees.Raise at (Some e)) stands place place.code.0 (raise_sim t tree run code claims b pc at e stands place)
stmt_sim t tree run code claims b pc (trees.Retry at) stands place =
    from_look t tree run code claims b pc (trees.Retry at) stands place place.code.0 (retry_sim t tree run b pc at place)
stmt_sim t tree run code claims b pc (trees.TryNext at) stands place =
    from_look t tree run code claims b pc (trees.TryNext at) stands place place.code.0 (try_next_sim t tree run b pc at place)
stmt_sim t tree run code claims b pc (trees.Connect at p trap) stands place =
    from_look t tree run code claims b pc (trees.Connect at p trap) stands place place.code.0 (connect_sim t tree run code claims b pc at p trap stands place)
stmt_sim t tree run code claims b pc (trees.If at arms other) stands place =
    from_look t tree run code claims b pc (trees.If at arms other) stands place place.code.0 (if_sim t tree run code claims b pc at arms other stands place)
stmt_sim t tree run code claims b pc (trees.IfOne at e one) stands place =
    from_look t tree run code claims b pc (trees.IfOne at e one) stands place place.code.0 (if_one_sim t tree run code claims b pc at e one stands place)
stmt_sim t tree run code claims b pc (trees.For at local first last step list) stands place =
    from_look t tree run code claims b pc (trees.For at local first last step list) stands place place.code.0 (for_sim t tree run code claims b pc at local first last step list stands place)
stmt_sim t tree run code claims b pc (trees.While at e list) stands place =
    from_look t tree run code claims b pc (trees.While at e list) stands place place.code.0 (while_sim t tree run code claims b pc at e list stands place)
stmt_sim t tree run code claims b pc (trees.Test at e cases other) stands place =
    from_look t tree run code claims b pc (trees.Test at e cases other) stands place place.code.0 (test_sim t tree run code claims b pc at e cases other stands place)
