-- The code of a move, from its Point and from its Look, does what the move does.
use Rattle.std.proofs.Common.{ℕ, ◌+◌, Bool, true, false, Some, if◌then◌else◌}
use Rattle.rapid_model.specs.declared.answer.Answer.{Answer}
use Rattle.rapid_model.specs.declared.answer.Answer.TheVariants as answers
use Rattle.rapid_model.specs.declared.fate.Fate.TheVariants as fates
use Rattle.rapid_model.specs.declared.fate.Fault.TheVariants.{ZoneStop}
use Rattle.rapid_model.specs.declared.request.Request.TheVariants.{Setpoint}
use Rattle.typed_trees.specs.Plain.{TypedStmt, TypedTree}
use Rattle.rapid_meaning.specs.Answering.{Run}
use Rattle.rapid_meaning.specs.Doings.{Gives, goes_to}
use Rattle.rapid_meaning.specs.Flows.{Normal, Way, Leg}
use Rattle.rapid_meaning.specs.Moves as source
use Rattle.rapid_meaning.specs.Moves.{further, has_next, next_setpoint}
use Rattle.rapid_meaning.specs.Statements.{byte_of, leg, points}
use Rattle.stack_code.specs.Placed.{Own}
use Rattle.stack_code.specs.Steps.{Here, moves_on}
use Rattle.stack_code.specs.declared.op.Op.TheVariants as ops
use Rattle.code_laws.proofs.Bodies.{Body, begins, begins_in, lands, leaving, spot_of}
use Rattle.code_laws.proofs.Claims.{Claims, LegsAt}
use Rattle.code_laws.proofs.CodeOf.{IsCodeOf}
use Rattle.code_laws.proofs.Looks.{again_sim, look_sim}
use Rattle.code_laws.proofs.Sim.{Sim, Target, sim_asks, sim_ends, sim_gives, sim_misfit}
use Rattle.code_laws.proofs.Spots.{moving, sim_in}

-- from the Point
pub points_sim : (t : Target) (tree : TypedTree) (run : Run) → Claims t tree run → (b : Body) (pc : ℕ) (own : Own) (s : TypedStmt) (way : Way) → LegsAt t b pc own s
    → Sim t run (begins_in b pc (Some way)) (points b.stands s way) (lands b (pc + 1 + 1 + 1)) (leaving t b)
points_sim t tree run claims b pc own s way at =
    sim_in (spot_of t tree run b own) pc (Some way) (ops.Point (pc + 1 + 1 + 1)) at.point (sim_asks (Setpoint (next_setpoint way)) answered)
  where
    h : Here
    h = record { code = t.code; own = own; conf = moving (spot_of t tree run b own) pc (Some way) }

    -- whether another setpoint is left
    goes : (more : Bool)
        → Sim t run (if more then begins_in b (pc + 1) (Some (further way)) else begins b (pc + 1 + 1 + 1)) (if more then goes_to (Leg b.stands s (further way)) else Gives Normal) (lands b (pc + 1 + 1 + 1)) (leaving t b)
    goes true = again_sim (begins_in b (pc + 1) (Some (further way))) (Leg b.stands s (further way)) (lands b (pc + 1 + 1 + 1)) (leaving t b) (claims.legs b pc own s (further way) at)
    goes false = sim_gives Normal

    answered : (a : Answer)
        → Sim t run (source.when_given (moves_on h (pc + 1 + 1 + 1) (Some way)) a) (source.when_given (if has_next (further way) then goes_to (Leg b.stands s (further way)) else Gives Normal) a)
        (lands b (pc + 1 + 1 + 1)) (leaving t b)
    answered answers.Given = goes (has_next (further way))
    answered (answers.Stopped zone) = sim_ends (fates.Fault ZoneStop)
    answered _ = sim_misfit

-- from the Look: a trap leads back to it, else a Jump to the Point
pub leg_sim : (t : Target) (tree : TypedTree) (run : Run) → IsCodeOf tree t → Claims t tree run → (b : Body) (pc : ℕ) (own : Own) (s : TypedStmt) (way : Way) → LegsAt t b pc own s
    → Sim t run (begins_in b (pc + 1) (Some way)) (leg b.stands s way) (lands b (pc + 1 + 1 + 1)) (leaving t b)
leg_sim t tree run code claims b pc own s way at =
    look_sim t tree run code claims b (pc + 1) (Some way) own (byte_of s) (Leg b.stands s way) (points b.stands s way) (lands b (pc + 1 + 1 + 1)) (leaving t b) at.look at.place (claims.legs b pc own s way at)
    (sim_in (spot_of t tree run b own) (pc + 1 + 1) (Some way) (ops.Jump pc) at.jump (points_sim t tree run claims b pc own s way at))
