-- The list of ELSE or DEFAULT, the last code of its statement.
use Rattle.std.proofs.Common.{◌≡◌, refl, ℕ, ◌+◌, ◌≤◌, List, arith}
use Rattle.typed_trees.specs.Plain.{TypedElse, TypedTree, NoElse, Else}
use Rattle.rapid_meaning.specs.Answering.{Run}
use Rattle.rapid_meaning.specs.Statements.{inner_or_not}
use Rattle.stack_code.specs.Needs.{else_need}
use Rattle.stack_code.specs.Placed.{Placed, StandsAt}
use Rattle.stack_code.specs.Sizes.{else_size}
use Rattle.stack_code.specs.StmtLayouts.{else_code}
use Rattle.code_laws.specs.Calls.{ElseCalls}
use Rattle.code_laws.proofs.BehindLook.{normal_sim}
use Rattle.code_laws.proofs.Bodies.{Body, begins, lands, leaving}
use Rattle.code_laws.proofs.Claims.{Claims, ElseLabels, Stands}
use Rattle.code_laws.proofs.InnerLists.{list_sim}
use Rattle.code_laws.proofs.Sim.{Sim, Target}

pub else_sim : (t : Target) (tree : TypedTree) (run : Run) → Claims t tree run → (b : Body) (pc final : ℕ) (other : TypedElse) (ps : List Placed) → Stands t tree b b.stands.errors
    → StandsAt t.code pc (else_code tree b.stands.routine b.labels pc other ps) → ElseCalls tree other → ElseLabels tree b.stands.routine b.labels pc other
    → else_need tree b.stands.routine other ≤ t.code.deepest → pc + else_size tree b.stands.routine other ≡ final
    → Sim t run (begins b pc) (inner_or_not b.stands other) (lands b final) (leaving t b)
else_sim t tree run claims b pc final NoElse ps stands there calls labels room past = normal_sim b pc final (omega (arith, past))
else_sim t tree run claims b pc final (Else list) ps stands there calls labels room past =
    list_sim t tree run claims b pc final final list stands (record { behind = ps; code = there; calls = calls; labels = labels; room = room; past = past }) (normal_sim b final final refl)
