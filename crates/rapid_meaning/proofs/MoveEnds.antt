-- How a move ends.
use Rattle.std.proofs.Common.{◌≡◌, ◌⊎◌, inl, inr, refl, ap, ◌∙◌, ℕ, zero, suc, ◌+◌, ◌-◌, ◌*◌, ◌<◌, ◌≤◌, ◌/◌, max, Bool, true, false, not, ℤ, pos, int_lt, List, [], ◌∷◌, ◌++◌, length, if◌then◌else◌, arith}
use Rattle.std.proofs.lemmas.Bool.{le-ltb}
use Rattle.std.specs.Prelude.{IsTrue}
use Rattle.rapid_num.specs.Reach.{is_position, is_reachable}
use Rattle.rapid_num.specs.declared.joints.Joints.{Joints}
use Rattle.joint_planner.specs.Setpoints.{PlanData, setpoint_count}
use Rattle.rapid_model.specs.Fits.{Fitting}
use Rattle.rapid_model.specs.declared.answer.Answer.{Answer}
use Rattle.rapid_model.specs.declared.answer.Answer.TheVariants.{At, Given, Stopped}
use Rattle.rapid_model.specs.declared.fate.Fate.TheVariants as fates
use Rattle.rapid_model.specs.declared.fate.Fault.TheVariants.{JointRange, Speed, ZoneStop}
use Rattle.rapid_model.specs.declared.request.Request.TheVariants.{End, Position}
use Rattle.rapid_model.specs.declared.zone_name.ZoneName.{ZoneName}
use Rattle.typed_trees.specs.Plain.{TypedStmt, TypedTree}
use Rattle.rapid_meaning.specs.Answering.{Asking, Gave, Run, fitting_of, performed}
use Rattle.rapid_meaning.specs.Data.{Data}
use Rattle.rapid_meaning.specs.Doings.{Doing, Gives, Asks, fault, goes_to}
use Rattle.rapid_meaning.specs.Errors.{header}
use Rattle.rapid_meaning.specs.Flows.{Normal, Way, Where, Leg}
use Rattle.rapid_meaning.specs.Legs.{let_on, looked_along}
use Rattle.rapid_meaning.specs.Moves.{aim, cap_of, when_located}
use Rattle.rapid_meaning.specs.Runs.{deep}
use Rattle.rapid_meaning.specs.Statements.{byte_of, points}
use Rattle.rapid_meaning.proofs.Setpoints.{moves_on, plan_from, way_at}

-- the last setpoint is given
last_given : (tree : TypedTree) (n : ℕ) (w : Where) (s : TypedStmt) (plan : PlanData) (given : ℕ) (d : Data) (left : List Answer) → plan.count ≤ given + 1
    → performed (fitting_of tree) (deep tree n) (points w s (way_at plan given)) d (Given ∷ left) ≡ Gave Normal d left
unfolding performed
last_given tree n w s plan given d left last =
    ap (λ (b : Bool). performed (fitting_of tree) (deep tree n) (if b then goes_to (Leg w s (way_at plan (given + 1))) else Gives Normal) d left) (le-ltb (given + 1) plan.count last)

one_fewer : (count n : ℕ) → count + 1 ≡ n → count < n
one_fewer count n all = omega (arith, all)

none_left : (count n : ℕ) → count + 1 ≡ n → n ≤ 0 + count + 1
none_left count n all = omega (arith, all)

pub done : (tree : TypedTree) (n : ℕ) (w : Where) (s : TypedStmt) (axes : ℕ) (start target : Joints) (speed : ℤ) (seens : List ℕ) (d : Data) (left : List Answer) → IsTrue (is_position tree.axes start)
    → IsTrue (is_reachable axes target) → IsTrue (int_lt (pos 0) speed) → length seens + 1 ≡ setpoint_count axes start target (cap_of speed) → length seens ≤ n
    → performed (fitting_of tree) (deep tree n) (header w s (aim axes target speed) (points w s)) d (At start ∷ let_on seens ++ Given ∷ left) ≡ Gave Normal (looked_along w (byte_of s) seens d) left
done tree n w s axes start target speed seens d left at reachable fast all enough =
    moves_on tree n w s axes start target speed seens d (Given ∷ left) at reachable fast (one_fewer (length seens) (setpoint_count axes start target (cap_of speed)) all) enough
    ∙ last_given tree (n - length seens) w s (plan_from axes start target (cap_of speed)) (0 + length seens) (looked_along w (byte_of s) seens d) left
    (none_left (length seens) (setpoint_count axes start target (cap_of speed)) all)

pub stopped : (tree : TypedTree) (n : ℕ) (w : Where) (s : TypedStmt) (axes : ℕ) (start target : Joints) (speed : ℤ) (seens : List ℕ) (zone : ZoneName) (d : Data) → IsTrue (is_position tree.axes start)
    → IsTrue (is_reachable axes target) → IsTrue (int_lt (pos 0) speed) → length seens < setpoint_count axes start target (cap_of speed) → length seens ≤ n
    → performed (fitting_of tree) (deep tree n) (header w s (aim axes target speed) (points w s)) d (At start ∷ let_on seens ++ Stopped zone ∷ [])
    ≡ Asking (End (fates.Fault ZoneStop)) (looked_along w (byte_of s) seens d)
unfolding performed
stopped tree n w s axes start target speed seens zone d at reachable fast fewer enough = moves_on tree n w s axes start target speed seens d (Stopped zone ∷ []) at reachable fast fewer enough

ends_at_once : (by : Bool → Fitting) (run : Run) (reachable fast : Bool) (m : Doing Way) (d : Data) → reachable ≡ false
    → performed by run (if not reachable then fault JointRange else if not fast then fault Speed else m) d [] ≡ Asking (End (fates.Fault JointRange)) d
unfolding performed
ends_at_once by run false fast m d is = refl
ends_at_once by run true fast m d is = absurd cc

ends_slow : (by : Bool → Fitting) (run : Run) (reachable fast : Bool) (m : Doing Way) (d : Data) → reachable ≡ true → fast ≡ false
    → performed by run (if not reachable then fault JointRange else if not fast then fault Speed else m) d [] ≡ Asking (End (fates.Fault Speed)) d
unfolding performed
ends_slow by run true false m d is slow = refl
ends_slow by run true true m d is slow = absurd cc
ends_slow by run false fast m d is slow = absurd cc

pub out_of_reach : (by : Bool → Fitting) (run : Run) (axes : ℕ) (target : Joints) (speed : ℤ) (d : Data) → is_reachable axes target ≡ false
    → performed by run (aim axes target speed) d [] ≡ Asking (End (fates.Fault JointRange)) d
out_of_reach by run axes target speed d out = ends_at_once by run (is_reachable axes target) (int_lt (pos 0) speed) (Asks Position (when_located axes target (cap_of speed))) d out

pub no_speed : (by : Bool → Fitting) (run : Run) (axes : ℕ) (target : Joints) (speed : ℤ) (d : Data) → IsTrue (is_reachable axes target) → int_lt (pos 0) speed ≡ false
    → performed by run (aim axes target speed) d [] ≡ Asking (End (fates.Fault Speed)) d
no_speed by run axes target speed d reachable slow = ends_slow by run (is_reachable axes target) (int_lt (pos 0) speed) (Asks Position (when_located axes target (cap_of speed))) d reachable slow

pub caps : (speed : ℕ) → ((cap_of (pos speed) ≡ 1) × (speed < 1_000)) ⊎ ((cap_of (pos speed) * 1_000 ≤ speed) × (speed < (cap_of (pos speed) + 1) * 1_000))
caps speed = by (speed / 1_000) refl
  where
    by : (q : ℕ) → speed / 1_000 ≡ q → ((max 1 (speed / 1_000) ≡ 1) × (speed < 1_000)) ⊎ ((max 1 (speed / 1_000) * 1_000 ≤ speed) × (speed < (max 1 (speed / 1_000) + 1) * 1_000))
    by zero e = inl (omega (arith, e), omega (arith, e))
    by (suc q) e = inr (omega (arith, e), omega (arith, e))
