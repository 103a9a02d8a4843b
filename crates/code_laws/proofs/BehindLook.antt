-- A statement from its Look.
use Rattle.std.proofs.Common.{◌≡◌, ap, subst, ℕ, ◌+◌}
use Rattle.typed_trees.specs.Plain.{TypedStmt, TypedTree}
use Rattle.rapid_meaning.specs.Answering.{Run}
use Rattle.rapid_meaning.specs.Doings.{Doing, Gives}
use Rattle.rapid_meaning.specs.Flows.{Flow, Normal}
use Rattle.rapid_meaning.specs.Statements.{follows}
use Rattle.stack_code.specs.Sizes.{stmt_size}
use Rattle.stack_code.specs.StmtLayouts.{own_of}
use Rattle.stack_code.specs.Confs.{Conf}
use Rattle.code_laws.proofs.Bodies.{Body, begins, lands, leaving, spot_of}
use Rattle.code_laws.proofs.Sim.{Sim, Target, sim_from, sim_gives}
use Rattle.code_laws.proofs.Spots.{Spot}

-- its code after the Look does what follows the Look
abbrev pub BehindLook : Target → TypedTree → Run → Body → ℕ → TypedStmt → Type 0
BehindLook t tree run b pc s = Sim t run (begins b (pc + 1)) (follows tree b.stands s s) (lands b (pc + stmt_size tree b.stands.routine s)) (leaving t b)

-- the operations of a statement at this place
abbrev pub spot_at : Target → TypedTree → Run → Body → ℕ → TypedStmt → Spot
spot_at t tree run b pc s = spot_of t tree run b (own_of tree b.stands.routine pc s)

-- execution continues after a statement that ended normally
pub normal_sim : {t : Target} {run : Run} (b : Body) (x end : ℕ) → x ≡ end → Sim t run (begins b x) (Gives Normal) (lands b end) (leaving t b)
normal_sim b x end e = sim_from (ap (λ (pc : ℕ). begins b pc) e) (sim_gives Normal)

-- the place after it is that of another form that ends there
pub lands_at : {t : Target} {run : Run} (b : Body) (x : Doing Conf) (m : Doing Flow) (a end : ℕ) → a ≡ end → Sim t run x m (lands b a) (leaving t b) → Sim t run x m (lands b end) (leaving t b)
lands_at {t = t} {run = run} b x m a end e sim = subst (λ (pc : ℕ). Sim t run x m (lands b pc) (leaving t b)) e sim
