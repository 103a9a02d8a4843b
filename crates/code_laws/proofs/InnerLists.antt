-- Lists inside a statement.
use Rattle.std.proofs.Common.{ℕ}
use Rattle.typed_trees.specs.Plain.{TypedStmts, TypedTree}
use Rattle.rapid_meaning.specs.Answering.{Run}
use Rattle.rapid_meaning.specs.Doings.{Doing, Gives, ◌>>=◌}
use Rattle.rapid_meaning.specs.Flows.{Flow, Normal, Jumps, Returns, Retries, Skips, Rest}
use Rattle.rapid_meaning.specs.Statements.{and_then, inner}
use Rattle.code_laws.proofs.Bodies.{Body, begins, lands, leaving}
use Rattle.code_laws.proofs.Claims.{Claims, ListAt, Stands}
use Rattle.code_laws.proofs.Looks.{again_sim}
use Rattle.code_laws.proofs.Sim.{Sim, Target, sim_does, sim_gives, sim_raises, sim_then}

-- what follows a list that reached its end; any other end leads out of the statement
after_flow : {t : Target} {run : Run} (b : Body) (end final : ℕ) (m : Doing Flow) → Sim t run (begins b end) m (lands b final) (leaving t b) → (flow : Flow)
    → Sim t run (lands b end flow) (and_then m flow) (lands b final) (leaving t b)
after_flow b end final m sim Normal = sim
after_flow b end final m sim (Jumps label) = sim_gives (Jumps label)
after_flow b end final m sim (Returns v) = sim_gives (Returns v)
after_flow b end final m sim Retries = sim_gives Retries
after_flow b end final m sim Skips = sim_gives Skips

pub list_then_sim : (t : Target) (tree : TypedTree) (run : Run) → Claims t tree run → (b : Body) (pc end final : ℕ) (list : TypedStmts) → Stands t tree b b.stands.errors → ListAt t tree b pc end list
    → (m : Doing Flow) → Sim t run (begins b end) m (lands b final) (leaving t b) → Sim t run (begins b pc) (inner b.stands list >>= and_then m) (lands b final) (leaving t b)
list_then_sim t tree run claims b pc end final list stands at m sim =
    sim_then (lands b end) (again_sim (begins b pc) (Rest b.stands list list) (lands b end) (leaving t b) (claims.rests b pc pc end list list stands at at)) (after_flow b end final m sim)

over_flow : {t : Target} {run : Run} (b : Body) (end final : ℕ) → Sim t run (begins b end) (Gives Normal) (lands b final) (leaving t b) → (flow : Flow)
    → Sim t run (lands b end flow) (Gives flow) (lands b final) (leaving t b)
over_flow b end final sim Normal = sim
over_flow b end final sim (Jumps label) = sim_gives (Jumps label)
over_flow b end final sim (Returns v) = sim_gives (Returns v)
over_flow b end final sim Retries = sim_gives Retries
over_flow b end final sim Skips = sim_gives Skips

-- a list after which code leads to the end of the statement
pub list_sim : (t : Target) (tree : TypedTree) (run : Run) → Claims t tree run → (b : Body) (pc end final : ℕ) (list : TypedStmts) → Stands t tree b b.stands.errors → ListAt t tree b pc end list
    → Sim t run (begins b end) (Gives Normal) (lands b final) (leaving t b) → Sim t run (begins b pc) (inner b.stands list) (lands b final) (leaving t b)
list_sim t tree run claims b pc end final list stands at sim =
    sim_does (lands b end) (leaving t b) (claims.rests b pc pc end list list stands at at) (over_flow b end final sim) (λ n. sim_raises n)
