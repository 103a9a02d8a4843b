-- The departure of the code's own arm.
use Rattle.std.proofs.Common.{◌≡◌, ◌==◌, ◌&&◌, ap, subst, ℕ, Bool, false, length, drop, if◌then◌else◌, IsTrue}
use Rattle.std.specs.List.{list_all}
use Rattle.std.proofs.lemmas.Bool.{and_parts, eq-eqb, false≢true}
use Rattle.rapid_num.specs.Absent.{is_absent}
use Rattle.rapid_num.specs.Reach.{is_reachable}
use Rattle.rapid_num.specs.declared.joints.Joints.{Joints}
use Rattle.rapid_model.specs.Fits.{Fitting, fits_request}
use Rattle.rapid_model.specs.declared.answer.Answer.{Answer}
use Rattle.rapid_model.specs.declared.answer.Answer.TheVariants as answers
use Rattle.rapid_model.specs.declared.request.Request.{Request}
use Rattle.rapid_model.specs.declared.request.Request.TheVariants as requests
use Rattle.rapid_meaning.specs.Doings.{Misfit}
use Rattle.rapid_meaning.specs.Moves.{cap_of, when_located}
use Rattle.task_steps.specs.Doing.{departs}
use Rattle.task_steps.specs.declared.requests.departure.Departure.{Departure}

-- it is the move
pub departs_so : (axes : ℕ) (departure : Departure) (a : Answer) → departure.axes ≡ axes → departs axes departure a ≡ when_located axes departure.target (cap_of departure.speed) a
departs_so axes departure a same = ap (λ (own : Bool). if own then when_located axes departure.target (cap_of departure.speed) a else Misfit) (eq-eqb departure.axes axes same)

-- another arm's is none
pub departs_none : (axes : ℕ) (departure : Departure) (a : Answer) → (departure.axes == axes) ≡ false → departs axes departure a ≡ Misfit
departs_none axes departure a other = ap (λ (own : Bool). if own then when_located axes departure.target (cap_of departure.speed) a else Misfit) other

-- a position that fits is one of the arm
pub starts_reachable : (by : Fitting) (request : Request) (start : Joints) (axes : ℕ) → IsTrue (fits_request by request (answers.At start)) → by.axes ≡ axes → IsTrue (is_reachable axes start)
starts_reachable by requests.Position start axes fits same =
    let front = (and_parts (length start.axis == 12 && is_reachable by.axes start) (list_all is_absent (drop by.axes start.axis)) fits).0 in
    subst (λ (count : ℕ). IsTrue (is_reachable count start)) same (and_parts (length start.axis == 12) (is_reachable by.axes start) front).1
starts_reachable by _ start axes fits same = absurd (false≢true fits)
