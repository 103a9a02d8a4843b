-- Statements that lead elsewhere: GOTO, RETURN, EXIT, RAISE without a number, RETRY and TRYNEXT.
use Rattle.std.proofs.Common.{◌≡◌, refl, sym, subst, max, ℕ, ◌+◌, ◌≤◌, [], ◌∷◌, Option, None, Some, arith}
use Rattle.rapid_model.specs.declared.fate.Fate.TheVariants as fates
use Rattle.typed_trees.specs.Plain as trees
use Rattle.typed_trees.specs.Plain.{TypedExpr, TypedTree}
use Rattle.typed_trees.specs.declared.datum.Datum.TheVariants.{Plain}
use Rattle.rapid_meaning.specs.Answering.{Run}
use Rattle.rapid_meaning.specs.Doings.{Gives}
use Rattle.rapid_meaning.specs.Errors as source
use Rattle.rapid_meaning.specs.Expressions.{expr}
use Rattle.rapid_meaning.specs.Flows.{Flow, Jumps, Returns, Retries, Skips, Errors, Unguarded, Guarded, InPart}
use Rattle.stack_code.specs.Confs.{Conf, Failed, conf}
use Rattle.stack_code.specs.ExprLayouts.{put}
use Rattle.stack_code.specs.Needs.{expr_need, pieces_need}
use Rattle.stack_code.specs.Raising.{raised_again, retried, skipped}
use Rattle.stack_code.specs.Sizes.{expr_size, pieces_size}
use Rattle.stack_code.specs.StmtLayouts.{label_at, pieces_code}
use Rattle.stack_code.specs.declared.op.Op.TheVariants as ops
use Rattle.rapid_meaning.specs.Doings.{Doing}
use Rattle.stack_code.proofs.Needs.{expr_needs}
use Rattle.code_laws.proofs.BehindLook.{BehindLook, spot_at}
use Rattle.code_laws.proofs.Bodies.{Body, begins, leaving, resumed}
use Rattle.code_laws.proofs.Claims.{Claims, Stands, StmtAt}
use Rattle.code_laws.proofs.CodeOf.{IsCodeOf}
use Rattle.code_laws.proofs.Expressions.{expr_sim}
use Rattle.code_laws.proofs.Past.{past_expr}
use Rattle.code_laws.proofs.Recovery.{header_sim}
use Rattle.code_laws.proofs.Rooms.{first_room}
use Rattle.code_laws.proofs.Sim.{Sim, Target, sim_ends, sim_from, sim_gives, sim_misfit, sim_raises}
use Rattle.code_laws.proofs.Spots.{Spot, sim_op, standing}

pub goto_sim : (t : Target) (tree : TypedTree) (run : Run) (b : Body) (pc at label : ℕ) → StmtAt t tree b pc (trees.Goto at label) → BehindLook t tree run b pc (trees.Goto at label)
unfolding pieces_code
goto_sim t tree run b pc at label place =
    sim_op (spot_at t tree run b pc (trees.Goto at label)) (pc + 1) [] (ops.Jump (label_at b.labels label)) place.code.1.0 (omega arith) (sim_gives (Jumps label))

pub return_sim : (t : Target) (tree : TypedTree) (run : Run) (b : Body) (pc at : ℕ) → StmtAt t tree b pc (trees.Return at None) → BehindLook t tree run b pc (trees.Return at None)
unfolding pieces_code
return_sim t tree run b pc at place =
    sim_op (spot_at t tree run b pc (trees.Return at None)) (pc + 1) [] ops.Back place.code.1.0 (omega arith) (sim_gives (Returns None))

pub return_with_sim : (t : Target) (tree : TypedTree) (run : Run) → IsCodeOf tree t → Claims t tree run → (b : Body) (pc at : ℕ) (e : TypedExpr)
    → Stands t tree b b.stands.errors → StmtAt t tree b pc (trees.Return at (Some e)) → BehindLook t tree run b pc (trees.Return at (Some e))
unfolding pieces_code pieces_size pieces_need
return_with_sim t tree run code claims b pc at e stands place =
    let s : Spot = spot_at t tree run b pc (trees.Return at (Some e)) in
    let x : ℕ = pc + 1 + expr_size e in
    let room : 0 + expr_need e ≤ t.code.deepest = first_room (0 + expr_need e) (max 1 1) t.code.deepest place.room in
    header_sim t tree run claims b pc (trees.Return at (Some e)) stands place (begins b (pc + 1)) (expr tree b.stands.routine e) (λ v. Gives (Returns (Some v))) (λ v. standing s x (Plain v ∷ []))
    (expr_sim s code claims (pc + 1) x [] e (put s.own ops.BackWith place.behind) place.calls place.code.1 room refl)
    (λ v. sim_op s x (Plain v ∷ []) ops.BackWith (past_expr t.code tree b.stands.routine s.own (pc + 1) e (put s.own ops.BackWith place.behind) place.code.1).0 (omega (arith, room, expr_needs e))
    (sim_gives (Returns (Some v))))

pub exit_sim : (t : Target) (tree : TypedTree) (run : Run) (b : Body) (pc at : ℕ) → StmtAt t tree b pc (trees.Exit at) → BehindLook t tree run b pc (trees.Exit at)
unfolding pieces_code
exit_sim t tree run b pc at place = sim_op (spot_at t tree run b pc (trees.Exit at)) (pc + 1) [] ops.Exit place.code.1.0 (omega arith) (sim_ends fates.Exit)

-- the number of the error, from inside the ERROR part
out_again : (t : Target) (tree : TypedTree) (run : Run) (b : Body) (pc : ℕ) (next : Flow → Doing Conf) (errors : Errors) → Stands t tree b errors
    → Sim t run (raised_again t.code (conf pc [] b.frame b.saved) b.frame.failed) (source.raised_again errors) next (leaving t b)
out_again t tree run b pc next Unguarded stands = sim_misfit
out_again t tree run b pc next (Guarded list) stands = sim_misfit
out_again t tree run b pc next (InPart entered) stands =
    subst (λ (f : Option Failed). Sim t run (raised_again t.code (conf pc [] b.frame b.saved) f) (source.raised_again (InPart entered)) next (leaving t b)) (sym stands.3) (sim_raises entered)

pub raise_again_sim : (t : Target) (tree : TypedTree) (run : Run) (b : Body) (pc at : ℕ) → Stands t tree b b.stands.errors → StmtAt t tree b pc (trees.Raise at None)
    → BehindLook t tree run b pc (trees.Raise at None)
unfolding pieces_code
raise_again_sim t tree run b pc at stands place =
    sim_op (spot_at t tree run b pc (trees.Raise at None)) (pc + 1) [] ops.Again place.code.1.0 (omega arith) (out_again t tree run b (pc + 1) _ b.stands.errors stands)

-- to the statement that failed, and to the place after it

tried_again : (b : Body) (pc : ℕ) (failed : Option Failed) → retried (conf pc [] b.frame b.saved) failed ≡ resumed (λ own. own.retry) b failed
tried_again b pc None = refl
tried_again b pc (Some failed) = refl

passed_over : (b : Body) (pc : ℕ) (failed : Option Failed) → skipped (conf pc [] b.frame b.saved) failed ≡ resumed (λ own. own.next) b failed
passed_over b pc None = refl
passed_over b pc (Some failed) = refl

pub retry_sim : (t : Target) (tree : TypedTree) (run : Run) (b : Body) (pc at : ℕ) → StmtAt t tree b pc (trees.Retry at) → BehindLook t tree run b pc (trees.Retry at)
unfolding pieces_code
retry_sim t tree run b pc at place =
    sim_op (spot_at t tree run b pc (trees.Retry at)) (pc + 1) [] ops.Retry place.code.1.0 (omega arith) (sim_from (tried_again b (pc + 1) b.frame.failed) (sim_gives Retries))

pub try_next_sim : (t : Target) (tree : TypedTree) (run : Run) (b : Body) (pc at : ℕ) → StmtAt t tree b pc (trees.TryNext at) → BehindLook t tree run b pc (trees.TryNext at)
unfolding pieces_code
try_next_sim t tree run b pc at place =
    sim_op (spot_at t tree run b pc (trees.TryNext at)) (pc + 1) [] ops.Next place.code.1.0 (omega arith) (sim_from (passed_over b (pc + 1) b.frame.failed) (sim_gives Skips))
