-- A Look, at which a trap may run, in a move or outside one.
use Rattle.std.proofs.Common.{◌≡◌, sym, ap, subst, ℕ, ◌+◌, Bool, true, false, [], ◌∷◌, length, Option, Some, IsTrue, slice_get}
use Rattle.std.proofs.lemmas.Bool.{and_parts}
use Rattle.rapid_model.specs.Fits.{fits_request}
use Rattle.rapid_model.specs.declared.answer.Answer.{Answer}
use Rattle.rapid_model.specs.declared.answer.Answer.TheVariants as answers
use Rattle.rapid_model.specs.declared.at.At.{At}
use Rattle.rapid_model.specs.declared.fate.Fate.TheVariants as fates
use Rattle.rapid_model.specs.declared.fate.Fault.TheVariants.{TrapFlood, Unhandled}
use Rattle.rapid_model.specs.declared.request.Request.TheVariants.{Look, Leave}
use Rattle.typed_trees.specs.Plain.{TypedRoutine, TypedTree}
use Rattle.rapid_meaning.specs.Answering.{Run, fitting_of, is_trap_row}
use Rattle.rapid_meaning.specs.Data.{with_seen}
use Rattle.rapid_meaning.specs.Doings.{Doing, Asks, Raises, change, goes_to, tells, when_ok, ◌>>◌}
use Rattle.rapid_meaning.specs.Flows.{Flow, Part, Way, value_of}
use Rattle.rapid_meaning.specs.Looks as source
use Rattle.rapid_meaning.specs.Looks.{left, look, place_of}
use Rattle.stack_code.specs.Confs.{Conf, Trapped}
use Rattle.stack_code.specs.Entering.{enter}
use Rattle.stack_code.specs.Placed.{Own, placed_at}
use Rattle.stack_code.specs.Raising.{back_to, raised_to}
use Rattle.stack_code.specs.Steps as code_steps
use Rattle.stack_code.specs.StmtLayouts.{at_byte}
use Rattle.stack_code.specs.declared.op.Op.TheVariants as ops
use Rattle.code_laws.specs.Calls.{Takes}
use Rattle.code_laws.proofs.Bodies.{Body, begins_in, spot_of}
use Rattle.code_laws.proofs.Claims.{Claims}
use Rattle.code_laws.proofs.CodeOf.{IsCodeOf}
use Rattle.code_laws.proofs.Same.{IsCalm, sim_calm}
use Rattle.code_laws.proofs.Sim.{Sim, SimPart, Target, sim_asked, sim_does, sim_ends, sim_gives, sim_misfit, sim_raises}
use Rattle.code_laws.proofs.Spots.{moving, sim_in}

pub ok_calm : (a : Answer) → IsCalm (when_ok a)
ok_calm answers.Ok = tt
ok_calm a = tt

-- a part of the program that begins again
pub again_sim : {t : Target} {run : Run} (s : Doing Conf) (again : Part) (next : Flow → Doing Conf) (failed : ℕ → Doing Conf)
    → SimPart t run s again next failed → Sim t run s (goes_to again) next failed
again_sim s again next failed part = sim_does next failed part (λ flow. sim_gives flow) (λ n. sim_raises n)

-- a trap has no parameters
trap_of_row : (tree : TypedTree) (t : Target) (trap : ℕ) → IsCodeOf tree t → IsTrue (is_trap_row (slice_get tree.routines trap)) → Takes tree trap 0
trap_of_row tree t trap code is routine e =
    let found = code.found trap routine e in
    let kind : IsTrue (is_trap_row (Some routine)) = subst (λ (o : Option TypedRoutine). IsTrue (is_trap_row o)) e is in
    sym (ap length (found.orderly.traps kind))

trap_takes : (tree : TypedTree) (t : Target) (number trap : ℕ) (trapped : Bool) → IsCodeOf tree t → IsTrue (fits_request (t.by trapped) Look (answers.Trap number trap)) → Takes tree trap 0
trap_takes tree t number trap trapped code fits =
    let own : IsTrue (fits_request (fitting_of tree trapped) Look (answers.Trap number trap)) = subst (λ by. IsTrue (fits_request (by trapped) Look (answers.Trap number trap))) code.fits fits in
    trap_of_row tree t trap code (and_parts (is_trap_row (slice_get tree.routines trap)) _ own).0

-- at the end of the trap, the Look is asked again
left_sim : {t : Target} {run : Run} (b : Body) (pc : ℕ) (way : Option Way) (again : Part) (next : Flow → Doing Conf) (failed : ℕ → Doing Conf)
    → SimPart t run (begins_in b pc way) again next failed → (flow : Flow) → Sim t run (back_to (Trapped pc b.frame way ∷ b.saved) (value_of flow)) (left again) next failed
left_sim b pc way again next failed part flow =
    sim_calm (tells Leave) Raises Raises ok_calm (λ _.
    sim_calm (change (λ d. record d { trapped = false })) Raises Raises (λ d. tt) (λ _. again_sim (begins_in b pc way) again next failed part))

trapped_sim : (t : Target) (tree : TypedTree) (run : Run) → Claims t tree run → (b : Body) (pc : ℕ) (way : Option Way) (trap : ℕ) (again : Part) (next : Flow → Doing Conf) (failed : ℕ → Doing Conf)
    → Takes tree trap 0 → SimPart t run (begins_in b pc way) again next failed
    → Sim t run (change (λ d. record d { trapped = true }) >> enter t.code trap [] (Trapped pc b.frame way ∷ b.saved)) (source.interrupted again trap) next failed
unfolding raised_to
trapped_sim t tree run claims b pc way trap again next failed takes part =
    sim_calm (change (λ d. record d { trapped = true })) Raises Raises (λ d. tt) (λ _.
    sim_does (λ flow. back_to (Trapped pc b.frame way ∷ b.saved) (value_of flow)) (raised_to t.code (Trapped pc b.frame way ∷ b.saved))
    (claims.calls trap [] (Trapped pc b.frame way ∷ b.saved) takes) (left_sim b pc way again next failed part) (λ n. sim_ends (fates.Fault (Unhandled n))))

-- after a trap this Look is asked again
pub look_sim : (t : Target) (tree : TypedTree) (run : Run) → IsCodeOf tree t → Claims t tree run → (b : Body) (pc : ℕ) (way : Option Way) (own : Own) (byte : ℕ) (again : Part)
    (go : Doing Flow) (next : Flow → Doing Conf) (failed : ℕ → Doing Conf) → placed_at t.code pc ≡ Some (record { own = own; op = ops.Look }) → own.at ≡ at_byte b.stands.routine byte
    → SimPart t run (begins_in b pc way) again next failed → Sim t run (begins_in b (pc + 1) way) go next failed → Sim t run (begins_in b pc way) (look b.stands byte again go) next failed
look_sim t tree run code claims b pc way own byte again go next failed there place again_part go_sim =
    sim_in (spot_of t tree run b own) pc way ops.Look there (subst (λ (at : At). Sim t run (placed at) (look b.stands byte again go) next failed) (sym place) asks)
  where
    h : code_steps.Here
    h = record { code = t.code; own = own; conf = moving (spot_of t tree run b own) pc way }

    placed : At → Doing Conf
    placed at = change (λ d. record d { place = Some at }) >> Asks Look (code_steps.looked h)

    answered : (a : Answer) (trapped : Bool) → IsTrue (fits_request (t.by trapped) Look a) → Sim t run (code_steps.looked h a) (source.looked again go a) next failed
    answered (answers.Go seen) trapped fits = sim_calm (change (λ d. record d { frames = with_seen seen d.frames })) Raises Raises (λ d. tt) (λ _. go_sim)
    answered (answers.Trap number trap) trapped fits = trapped_sim t tree run claims b pc way trap again next failed (trap_takes tree t number trap trapped code fits) again_part
    answered answers.Flood trapped fits = sim_ends (fates.Fault TrapFlood)
    answered _ trapped fits = sim_misfit

    asks : Sim t run (placed (at_byte b.stands.routine byte)) (look b.stands byte again go) next failed
    asks = sim_calm (change (λ d. record d { place = place_of b.stands byte })) Raises Raises (λ d. tt) (λ _. sim_asked Look answered)
