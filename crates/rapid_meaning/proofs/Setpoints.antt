-- The setpoints that a move asks for are the planned ones, with a Look between two of them.
use Rattle.std.proofs.Common.{◌≡◌, refl, sym, ap, ◌∙◌, ℕ, zero, suc, ◌+◌, ◌-◌, ◌<◌, ◌≤◌, Bool, true, false, not, ℤ, pos, int_lt, List, [], ◌∷◌, ◌++◌, length, if◌then◌else◌, arith}
use Rattle.std.proofs.lemmas.Bool.{lt-ltb}
use Rattle.std.proofs.lemmas.List.{append-nil}
use Rattle.std.specs.Prelude.{IsTrue}
use Rattle.rapid_num.specs.Reach.{is_position, is_reachable}
use Rattle.rapid_num.specs.declared.joints.Joints.{Joints}
use Rattle.joint_planner.specs.Setpoints.{PlanData, setpoint, setpoint_count}
use Rattle.rapid_model.specs.Fits.{Fitting}
use Rattle.rapid_model.specs.declared.answer.Answer.{Answer}
use Rattle.rapid_model.specs.declared.answer.Answer.TheVariants.{At, Given, Go}
use Rattle.rapid_model.specs.declared.fate.Fault.TheVariants.{JointRange, Speed}
use Rattle.rapid_model.specs.declared.request.Request.TheVariants.{Look, Position, Setpoint}
use Rattle.typed_trees.specs.Plain.{TypedStmt, TypedTree}
use Rattle.rapid_meaning.specs.Answering.{Outcome, Asking, Unfit, Run, fitting_of, performed}
use Rattle.rapid_meaning.specs.Data.{Data, with_seen}
use Rattle.rapid_meaning.specs.Doings.{Doing, Gives, Asks, after, fault, goes_to}
use Rattle.rapid_meaning.specs.Errors.{failed, header}
use Rattle.rapid_meaning.specs.Flows.{Normal, Way, Where, Leg}
use Rattle.rapid_meaning.specs.Legs.{let_on, looked_along}
use Rattle.rapid_meaning.specs.Looks.{place_of}
use Rattle.rapid_meaning.specs.Moves.{aim, cap_of, way_from, when_located}
use Rattle.rapid_meaning.specs.Runs.{deep}
use Rattle.rapid_meaning.specs.Statements.{byte_of, points}
use Rattle.rapid_meaning.proofs.Composing.{goes_as}

-- a move with this plan, of which this many setpoints are given
abbrev pub way_at : PlanData → ℕ → Way
way_at plan given = record { plan = plan; given = given }

-- the plan of a move from a position
abbrev pub plan_from : ℕ → Joints → Joints → ℕ → PlanData
plan_from axes start target cap = record { start = start; target = target; count = setpoint_count axes start target cap; axes = axes }

-- a move within reach, at a positive speed
asks_position : (reachable fast : Bool) (m : Doing Way) → reachable ≡ true → fast ≡ true → (if not reachable then fault JointRange else if not fast then fault Speed else m) ≡ m
asks_position true true m r f = refl
asks_position true false m r f = absurd cc
asks_position false fast m r f = absurd cc

when_at : {A : Type 0} (fits : Bool) (o : Outcome A) → fits ≡ true → (if fits then o else Unfit) ≡ o
when_at true o e = refl
when_at false o e = absurd cc

-- it goes on from the arm's position
pub goes_from : {A : Type 0} (by : Bool → Fitting) (run : Run) (axes : ℕ) (start target : Joints) (speed : ℤ) (next : Way → Doing A) (raised : ℕ → Doing A) (d : Data) (more : List Answer)
    → IsTrue (is_position (by d.trapped).axes start) → IsTrue (is_reachable axes target) → IsTrue (int_lt (pos 0) speed)
    → performed by run (after (aim axes target speed) next raised) d (At start ∷ more) ≡ performed by run (next (way_from axes start target (cap_of speed))) d more
unfolding performed after
goes_from by run axes start target speed next raised d more at reachable fast =
    ap (λ (m : Doing Way). performed by run (after m next raised) d (At start ∷ more)) (asks_position (is_reachable axes target) (int_lt (pos 0) speed) (Asks Position (when_located axes target (cap_of speed))) reachable fast)
    ∙ when_at (is_position (by d.trapped).axes start) (performed by run (next (way_from axes start target (cap_of speed))) d more) at

-- the next setpoint is given, and the Look after it finds no trap
leg_on : (tree : TypedTree) (n : ℕ) (w : Where) (s : TypedStmt) (plan : PlanData) (given seen : ℕ) (d : Data) (left : List Answer) → given + 1 < plan.count
    → performed (fitting_of tree) (deep tree (suc n)) (points w s (way_at plan given)) d (Given ∷ Go seen ∷ left)
    ≡ performed (fitting_of tree) (deep tree n) (points w s (way_at plan (given + 1))) (record d { frames = with_seen seen d.frames; place = place_of w (byte_of s) }) left
unfolding performed deep after
leg_on tree n w s plan given seen d left fewer =
    ap (λ (b : Bool). performed (fitting_of tree) (deep tree (suc n)) (if b then goes_to (Leg w s (way_at plan (given + 1))) else Gives Normal) d (Go seen ∷ left)) (lt-ltb (given + 1) plan.count fewer)
    ∙ goes_as (fitting_of tree) (deep tree (suc n)) (Leg w s (way_at plan (given + 1))) d (Go seen ∷ left)

pub legs_on : (tree : TypedTree) (n k : ℕ) (w : Where) (s : TypedStmt) (plan : PlanData) (given : ℕ) (seens : List ℕ) (d : Data) (left : List Answer) → n ≡ length seens + k → given + length seens < plan.count
    → performed (fitting_of tree) (deep tree n) (points w s (way_at plan given)) d (let_on seens ++ left)
    ≡ performed (fitting_of tree) (deep tree k) (points w s (way_at plan (given + length seens))) (looked_along w (byte_of s) seens d) left
unfolding let_on looked_along
legs_on tree n k w s plan given [] d left enough fewer =
    let same : n ≡ k = omega (arith, enough) in
    let here : given ≡ given + 0 = omega arith in
    ap (λ (m : ℕ). performed (fitting_of tree) (deep tree m) (points w s (way_at plan given)) d left) same
    ∙ ap (λ (g : ℕ). performed (fitting_of tree) (deep tree k) (points w s (way_at plan g)) d left) here
legs_on tree zero k w s plan given (seen ∷ more) d left enough fewer = absurd (omega (arith, enough))
legs_on tree (suc n) k w s plan given (seen ∷ more) d left enough fewer =
    let on : Data = record d { frames = with_seen seen d.frames; place = place_of w (byte_of s) } in
    let there : given + 1 + length more ≡ given + length (seen ∷ more) = omega arith in
    leg_on tree n w s plan given seen d (let_on more ++ left) (omega (arith, fewer))
    ∙ legs_on tree n k w s plan (given + 1) more on left (omega (arith, enough)) (omega (arith, fewer))
    ∙ ap (λ (g : ℕ). performed (fitting_of tree) (deep tree k) (points w s (way_at plan g)) (looked_along w (byte_of s) more on) left) there

-- depth for the Looks of a move
pub fuel_left : (count n : ℕ) → count ≤ n → n ≡ count + (n - count)
fuel_left count n enough = omega (arith, enough)

pub from_none : (count n : ℕ) → count < n → 0 + count < n
from_none count n fewer = omega (arith, fewer)

-- a move, once its first Looks found no trap
pub moves_on : (tree : TypedTree) (n : ℕ) (w : Where) (s : TypedStmt) (axes : ℕ) (start target : Joints) (speed : ℤ) (seens : List ℕ) (d : Data) (left : List Answer) → IsTrue (is_position tree.axes start)
    → IsTrue (is_reachable axes target) → IsTrue (int_lt (pos 0) speed) → length seens < setpoint_count axes start target (cap_of speed) → length seens ≤ n
    → performed (fitting_of tree) (deep tree n) (header w s (aim axes target speed) (points w s)) d (At start ∷ let_on seens ++ left)
    ≡ performed (fitting_of tree) (deep tree (n - length seens)) (points w s (way_at (plan_from axes start target (cap_of speed)) (0 + length seens))) (looked_along w (byte_of s) seens d) left
moves_on tree n w s axes start target speed seens d left at reachable fast fewer enough =
    goes_from (fitting_of tree) (deep tree n) axes start target speed (points w s) (failed w s) d (let_on seens ++ left) at reachable fast
    ∙ legs_on tree n (n - length seens) w s (plan_from axes start target (cap_of speed)) 0 seens d left (fuel_left (length seens) n enough)
    (from_none (length seens) (setpoint_count axes start target (cap_of speed)) fewer)

pub asks : (tree : TypedTree) (n : ℕ) (w : Where) (s : TypedStmt) (axes : ℕ) (start target : Joints) (speed : ℤ) (seens : List ℕ) (d : Data) → IsTrue (is_position tree.axes start) → IsTrue (is_reachable axes target)
    → IsTrue (int_lt (pos 0) speed) → length seens < setpoint_count axes start target (cap_of speed) → length seens ≤ n
    → performed (fitting_of tree) (deep tree n) (header w s (aim axes target speed) (points w s)) d (At start ∷ let_on seens)
    ≡ Asking (Setpoint (setpoint axes start target (setpoint_count axes start target (cap_of speed)) (length seens + 1))) (looked_along w (byte_of s) seens d)
unfolding performed
asks tree n w s axes start target speed seens d at reachable fast fewer enough =
    let next : 0 + length seens + 1 ≡ length seens + 1 = omega arith in
    ap (λ (more : List Answer). performed (fitting_of tree) (deep tree n) (header w s (aim axes target speed) (points w s)) d (At start ∷ more)) (sym (append-nil (let_on seens)))
    ∙ moves_on tree n w s axes start target speed seens d [] at reachable fast fewer enough
    ∙ ap (λ (j : ℕ). Asking (Setpoint (setpoint axes start target (setpoint_count axes start target (cap_of speed)) j)) (looked_along w (byte_of s) seens d)) next

-- the next setpoint is given, and is not the last
look_next : (tree : TypedTree) (n : ℕ) (w : Where) (s : TypedStmt) (plan : PlanData) (given : ℕ) (d : Data) → 0 < n → given + 1 < plan.count
    → performed (fitting_of tree) (deep tree n) (points w s (way_at plan given)) d (Given ∷ []) ≡ Asking Look (record d { place = place_of w (byte_of s) })
unfolding performed deep after
look_next tree zero w s plan given d some fewer = absurd (omega (arith, some))
look_next tree (suc n) w s plan given d some fewer =
    ap (λ (b : Bool). performed (fitting_of tree) (deep tree (suc n)) (if b then goes_to (Leg w s (way_at plan (given + 1))) else Gives Normal) d []) (lt-ltb (given + 1) plan.count fewer)

fuel_some : (count n : ℕ) → count < n → 0 < n - count
fuel_some count n enough = omega (arith, enough)

more_left : (count n : ℕ) → count + 1 < n → 0 + count + 1 < n
more_left count n fewer = omega (arith, fewer)

some_left : (count n : ℕ) → count + 1 < n → count < n
some_left count n fewer = omega (arith, fewer)

pub looks : (tree : TypedTree) (n : ℕ) (w : Where) (s : TypedStmt) (axes : ℕ) (start target : Joints) (speed : ℤ) (seens : List ℕ) (d : Data) → IsTrue (is_position tree.axes start) → IsTrue (is_reachable axes target)
    → IsTrue (int_lt (pos 0) speed) → length seens + 1 < setpoint_count axes start target (cap_of speed) → length seens < n
    → performed (fitting_of tree) (deep tree n) (header w s (aim axes target speed) (points w s)) d (At start ∷ let_on seens ++ Given ∷ [])
    ≡ Asking Look (record (looked_along w (byte_of s) seens d) { place = place_of w (byte_of s) })
looks tree n w s axes start target speed seens d at reachable fast fewer enough =
    moves_on tree n w s axes start target speed seens d (Given ∷ []) at reachable fast (some_left (length seens) (setpoint_count axes start target (cap_of speed)) fewer) (omega (arith, enough))
    ∙ look_next tree (n - length seens) w s (plan_from axes start target (cap_of speed)) (0 + length seens) (looked_along w (byte_of s) seens d) (fuel_some (length seens) n enough)
    (more_left (length seens) (setpoint_count axes start target (cap_of speed)) fewer)
