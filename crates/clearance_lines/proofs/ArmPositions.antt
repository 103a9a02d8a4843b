-- An arm is at positions along its path, and each position is in the reach of a zone of the arm.
use Rattle.std.proofs.Common.{◌≡◌, inl, inr, ℕ, zero, suc, ◌+◌, ◌<◌, ◌≤◌, Bool, true, false, cond, ℤ, pos, nat_abs, List, [], ◌∷◌, ◌++◌, length, map, take, drop, Option, Some, None, refl, ◌∙◌, ap, subst, arith}
use Rattle.std.specs.Prelude.{IsTrue, ◌&&◌, ◌||◌, ◌==◌, nat_lt, int_lt, is_some, is_none, slice_get, unwrap_or}
use Rattle.std.specs.List.{list_all, list_any, slice_index_or}
use Rattle.std.specs.Option.{option_and_then}
use Rattle.std.proofs.lemmas.Bool.{and_parts, eqb-true, leb-true, ltb-true, false≢true}
use Rattle.rapid_limits.specs.declared.TheConstants.{EXTERNAL_REACH, MOST_AXES, ROBOT_AXES, ROBOT_REACH}
use Rattle.rapid_num.specs.Absent.{is_absent}
use Rattle.rapid_num.specs.Reach.{are_in_reach, is_in_reach, is_position, is_reachable, reach_of}
use Rattle.rapid_num.specs.declared.joints.Joints.{Joints}
use Rattle.rapid_num.specs.declared.shape.Bound.{Bound}
use Rattle.rapid_num.specs.declared.shape.Shape.{Shape}
use Rattle.rapid_model.specs.CellData.{CellData, IsCell}
use Rattle.rapid_model.specs.Limits.{are_bounded, axes_at, has_arm, holds_where_there, is_bounded, is_start, is_within, is_zone, is_zone_shape}
use Rattle.rapid_model.specs.Names.{is_short_name}
use Rattle.rapid_model.specs.Own.{part_of}
use Rattle.rapid_model.specs.Requests.{suits_task}
use Rattle.rapid_model.specs.declared.answer.Answer.{Answer}
use Rattle.rapid_model.specs.declared.answer.Answer.TheVariants as answers
use Rattle.rapid_model.specs.declared.event.Event.{Event}
use Rattle.rapid_model.specs.declared.request.Request.{Request}
use Rattle.rapid_model.specs.declared.request.Request.TheVariants as requests
use Rattle.rapid_model.specs.declared.task_row.TaskRow.{TaskRow}
use Rattle.rapid_model.specs.declared.zone_row.ZoneRow.{ZoneRow}
use Rattle.rapid_model.proofs.Lists.{made_there}
use Rattle.rapid_model.proofs.TaskRows.{starts_at}
use Rattle.cell_meaning.specs.Premises.{AllAnswered}
use Rattle.cell_meaning.proofs.Asked.{TaskMay, who_may}
use Rattle.zone_clearance.specs.Premises.{AreInReach, NamesAnAxis}
use Rattle.clearance_lines.specs.ArmPaths.{given_by, setpoint_given}

-- an angle in reach is at most 100,000 degrees
most_reach : (robot : Bool) → cond robot ROBOT_REACH EXTERNAL_REACH ≤ EXTERNAL_REACH
most_reach true = omega arith
most_reach false = omega arith

reach_small : (axis : ℕ) (angle : ℤ) → is_in_reach axis angle ≡ true → nat_abs angle ≤ EXTERNAL_REACH
reach_small axis angle is =
    let within : nat_abs angle ≤ reach_of axis = leb-true (nat_abs angle) (reach_of axis) is in
    let most : reach_of axis ≤ EXTERNAL_REACH = most_reach (nat_lt axis ROBOT_AXES) in
    omega (arith, within, most)

angle_small : (from i count : ℕ) (angles : List ℤ) → are_in_reach from (take count angles) ≡ true → i < count → nat_abs (slice_index_or angles i (pos 0)) ≤ EXTERNAL_REACH
angle_small from i zero angles all lt = absurd (omega (arith, lt))
angle_small from zero (suc count) [] all lt = omega arith
angle_small from (suc i) (suc count) [] all lt = omega arith
angle_small from zero (suc count) (x ∷ xs) all lt = reach_small from x (and_parts (is_in_reach from x) (are_in_reach (from + 1) (take count xs)) all).0
angle_small from (suc i) (suc count) (x ∷ xs) all lt = angle_small (from + 1) i count xs (and_parts (is_in_reach from x) (are_in_reach (from + 1) (take count xs)) all).1 (omega (arith, lt))

position_reach : (axes : ℕ) (at : Joints) → is_position axes at ≡ true → are_in_reach 0 (take axes at.axis) ≡ true
position_reach axes at is =
    (and_parts (length at.axis == MOST_AXES) (is_reachable axes at) (and_parts (length at.axis == MOST_AXES && is_reachable axes at) (list_all is_absent (drop axes at.axis)) is).0).1

-- so are the bounds of an axis
bound_reach : (axis : ℕ) (bound : Bound) → is_bounded axis bound ≡ true → (nat_abs bound.low ≤ EXTERNAL_REACH) × (nat_abs bound.high ≤ EXTERNAL_REACH)
bound_reach axis bound is =
    let both = (and_parts (is_in_reach axis bound.low && is_in_reach axis bound.high) (int_lt bound.low bound.high) is).0 in
    let each = and_parts (is_in_reach axis bound.low) (is_in_reach axis bound.high) both in
    (reach_small axis bound.low each.0, reach_small axis bound.high each.1)

bound_small : (from i count : ℕ) (bounds : List (Option Bound)) (bound : Bound) → are_bounded from (take count bounds) ≡ true → i < count → slice_get bounds i ≡ Some (Some bound)
    → (nat_abs bound.low ≤ EXTERNAL_REACH) × (nat_abs bound.high ≤ EXTERNAL_REACH)
bound_small from i zero bounds bound all lt at = absurd (omega (arith, lt))
bound_small from i (suc count) [] bound all lt at = absurd cc
bound_small from zero (suc count) (b ∷ bs) bound all lt at =
    let same : b ≡ Some bound = cc in
    let here = (and_parts (holds_where_there (is_bounded from) b) (are_bounded (from + 1) (take count bs)) all).0 in
    bound_reach from bound (subst (λ (o : Option Bound). holds_where_there (is_bounded from) o ≡ true) same here)
bound_small from (suc i) (suc count) (b ∷ bs) bound all lt at =
    bound_small (from + 1) i count bs bound (and_parts (holds_where_there (is_bounded from) b) (are_bounded (from + 1) (take count bs)) all).1 (omega (arith, lt)) at

-- a named axis is one of the arm's
none_named : (bounds : List (Option Bound)) (i : ℕ) (bound : Bound) → list_all is_none bounds ≡ true → slice_get bounds i ≡ Some (Some bound) → ⊥
none_named [] i bound all at = cc
none_named (b ∷ bs) zero bound all at =
    let same : b ≡ Some bound = cc in
    false≢true (subst (λ (o : Option Bound). is_none o ≡ true) same (and_parts (is_none b) (list_all is_none bs) all).0)
none_named (b ∷ bs) (suc i) bound all at = none_named bs i bound (and_parts (is_none b) (list_all is_none bs) all).1 at

named_within : (axes i : ℕ) (bounds : List (Option Bound)) (bound : Bound) → list_all is_none (drop axes bounds) ≡ true → slice_get bounds i ≡ Some (Some bound) → i < axes
named_within zero i bounds bound all at = absurd (none_named bounds i bound all at)
named_within (suc axes) i [] bound all at = absurd cc
named_within (suc axes) zero (b ∷ bs) bound all at = omega arith
named_within (suc axes) (suc i) (b ∷ bs) bound all at = let rest = named_within axes i bs bound all at in omega (arith, rest)

-- the parts of a zone's shape
record Shaped (axes : ℕ) (shape : Shape) : Type 0 where
  pub names : list_any is_some (take axes shape.bounds) ≡ true
  pub bounded : are_bounded 0 (take axes shape.bounds) ≡ true
  pub others : list_all is_none (drop axes shape.bounds) ≡ true

shaped : (axes : ℕ) (shape : Shape) → is_zone_shape axes shape ≡ true → Shaped axes shape
shaped axes shape is =
    let w = and_parts (list_any is_some (take axes shape.bounds) && are_bounded 0 (take axes shape.bounds)) (list_all is_none (drop axes shape.bounds)) is in
    let v = and_parts (list_any is_some (take axes shape.bounds)) (are_bounded 0 (take axes shape.bounds)) w.0 in
    record { names = v.0; bounded = v.1; others = w.1 }

pub positions_in_reach : (axes : ℕ) (p q : Joints) (shape : Shape) → is_position axes p ≡ true → is_position axes q ≡ true → is_zone_shape axes shape ≡ true → AreInReach p q shape.bounds
positions_in_reach axes p q shape from to is axis bound named =
    let parts = shaped axes shape is in
    let lt = named_within axes axis shape.bounds bound parts.others named in
    let small = bound_small 0 axis axes shape.bounds bound parts.bounded lt named in
    record {
      low = small.0;
      high = small.1;
      start = angle_small 0 axis axes p.axis (position_reach axes p from) lt;
      end = angle_small 0 axis axes q.axis (position_reach axes q to) lt;
    }

some_more : (b c d : Bool) → (c ≡ true → d ≡ true) → (b || c) ≡ true → (b || d) ≡ true
some_more true c d more is = refl
some_more false c d more is = more is

any_taken : (axes : ℕ) (bounds : List (Option Bound)) → list_any is_some (take axes bounds) ≡ true → list_any is_some bounds ≡ true
any_taken zero bounds is = absurd (false≢true is)
any_taken (suc axes) [] is = is
any_taken (suc axes) (b ∷ bs) is = some_more (is_some b) (list_any is_some (take axes bs)) (list_any is_some bs) (any_taken axes bs) is

pub shape_names : (axes : ℕ) (shape : Shape) → is_zone_shape axes shape ≡ true → NamesAnAxis shape.bounds
shape_names axes shape is = any_taken axes shape.bounds (shaped axes shape is).names

-- the axes of the arm of a zone's task
abbrev all_axes : CellData → List ℕ
all_axes cell = map (λ (row : TaskRow). row.axes) cell.tasks

abbrev pub zone_axes : CellData → ZoneRow → ℕ
zone_axes cell zone = axes_at (all_axes cell) zone.task

-- the task of a zone of the cell has an arm, which starts at a position
pub record ZoneArm (cell : CellData) (zone : ZoneRow) : Type 0 where
  pub row : TaskRow
  pub at : slice_get cell.tasks zone.task ≡ Some row
  pub axes : row.axes ≡ zone_axes cell zone
  pub start : Joints
  pub arm : row.arm ≡ Some start
  pub well : is_position (zone_axes cell zone) start ≡ true
  pub shape : is_zone_shape (zone_axes cell zone) zone.shape ≡ true

axes_there : (axes : List ℕ) (task : ℕ) → nat_lt 0 (axes_at axes task) ≡ true → slice_get axes task ≡ Some (axes_at axes task)
axes_there axes task some = by (slice_get axes task) some
  where
    by : (o : Option ℕ) → nat_lt 0 (unwrap_or o 0) ≡ true → o ≡ Some (unwrap_or o 0)
    by None some = absurd (false≢true some)
    by (Some n) some = refl

armed : (axes : ℕ) (arm : Option Joints) → 0 < axes → is_start axes arm ≡ true → (start : Joints) × (arm ≡ Some start) × (is_position axes start ≡ true)
armed axes None some starts = let none : axes ≡ 0 = eqb-true axes 0 starts in absurd (omega (arith, some, none))
armed axes (Some start) some starts = (start, refl, (and_parts (is_within ROBOT_AXES MOST_AXES axes) (is_position axes start) starts).1)

pub zone_arm : (cell : CellData) (zone : ZoneRow) → IsCell cell → IsTrue (is_zone cell.signals (all_axes cell) zone) → ZoneArm cell zone
zone_arm cell zone limits is =
    let axes = all_axes cell in
    let number = axes_at axes zone.task in
    let w = (and_parts (is_short_name zone.name && has_arm axes zone.task && is_zone_shape number zone.shape) (nat_lt zone.signal (length cell.signals)) is).0 in
    let v = and_parts (is_short_name zone.name && has_arm axes zone.task) (is_zone_shape number zone.shape) w in
    let has = (and_parts (is_short_name zone.name) (has_arm axes zone.task) v.0).1 in
    let found = made_there (λ (row : TaskRow). row.axes) cell.tasks zone.task number (axes_there axes zone.task has) in
    let some : 0 < number = ltb-true 0 number has in
    let same = found.2 in
    let start = armed found.0.axes found.0.arm (omega (arith, some, same)) (starts_at cell.tasks zone.task found.0 limits.starts found.1) in
    record {
      row = found.0;
      at = found.1;
      axes = same;
      start = start.0;
      arm = start.1;
      well = subst (λ (n : ℕ). is_position n start.0 ≡ true) same start.2;
      shape = v.1;
    }

-- where it starts
pub starts_there : (cell : CellData) (zone : ZoneRow) (z : ZoneArm cell zone) → option_and_then (λ (row : TaskRow). row.arm) (slice_get cell.tasks zone.task) ≡ Some z.start
starts_there cell zone z = ap (λ (o : Option TaskRow). option_and_then (λ (row : TaskRow). row.arm) o) z.at ∙ z.arm

-- a setpoint that a task's arm was given is a position of it
given_parts : (own : Bool) (request : Request) (answer : Answer) (to : Joints) → cond own (setpoint_given request answer) None ≡ Some to → (own ≡ true) × (request ≡ requests.Setpoint to)
given_parts false request answer to is = absurd cc
given_parts true (requests.Setpoint at) answers.Given to is = let same : at ≡ to = cc in (refl, ap (λ (j : Joints). requests.Setpoint j) same)
given_parts true (requests.Setpoint at) _ to is = absurd cc
given_parts true _ answer to is = absurd cc

asked_well : (cell : CellData) (task : ℕ) (row : TaskRow) (mine : List Event) (e : Event) (to : Joints) → slice_get cell.tasks task ≡ Some row → e.actor ≡ task → e.request ≡ requests.Setpoint to
    → TaskMay cell e.actor mine e.request → is_position row.axes to ≡ true
asked_well cell task row mine e to at own is may =
    let here : slice_get cell.tasks task ≡ Some may.row = subst (λ (k : ℕ). slice_get cell.tasks k ≡ Some may.row) own may.at in
    let same : may.row ≡ row = cc in
    let suits = subst (λ (r : Request). IsTrue (suits_task cell may.row mine r)) is may.suits in
    subst (λ (t : TaskRow). is_position t.axes to ≡ true) same (and_parts (is_some may.row.arm) (is_position may.row.axes to) suits).1

-- the elements before and after an event
split_at : (history : List Event) (k : ℕ) (e : Event) → slice_get history k ≡ Some e → history ≡ take k history ++ e ∷ drop (suc k) history
split_at [] k e at = absurd cc
split_at (x ∷ xs) zero e at = let same : x ≡ e = cc in ap (λ (y : Event). y ∷ xs) same
split_at (x ∷ xs) (suc k) e at = ap (λ (ys : List Event). x ∷ ys) (split_at xs k e at)

pub given_well : (cell : CellData) (history : List Event) (k task : ℕ) (row : TaskRow) (e : Event) (to : Joints) → AllAnswered cell history → slice_get cell.tasks task ≡ Some row → slice_get history k ≡ Some e
    → given_by task e ≡ Some to → is_position row.axes to ≡ true
given_well cell history k task row e to answered at there given =
    let parts = given_parts (e.actor == task) e.request e.answer to given in
    let own = eqb-true e.actor task parts.0 in
    let before = take k history in
    elim (who_may cell e.actor (part_of e.actor before) e.request (answered.might before (drop (suc k) history) e (split_at history k e there))) [
      | inl may ↦ asked_well cell task row (part_of e.actor before) e to at own parts.1 may
      | inr script ↦ let next = script.next in let is = parts.1 in absurd cc
    ]

-- and one of the arm that a zone may watch
pub given_in_zone : (cell : CellData) (history : List Event) (k : ℕ) (zone : ZoneRow) (e : Event) (to : Joints) → AllAnswered cell history → ZoneArm cell zone → slice_get history k ≡ Some e → given_by zone.task e ≡ Some to
    → is_position (zone_axes cell zone) to ≡ true
given_in_zone cell history k zone e to answered z there given =
    subst (λ (n : ℕ). is_position n to ≡ true) z.axes (given_well cell history k zone.task z.row e to answered z.at there given)

-- the reach of the zone has each move between two such positions
pub zone_in_reach : (cell : CellData) (zone : ZoneRow) (from to : Joints) → ZoneArm cell zone → is_position (zone_axes cell zone) from ≡ true → is_position (zone_axes cell zone) to ≡ true → AreInReach from to zone.shape.bounds
zone_in_reach cell zone from to z one two = positions_in_reach (zone_axes cell zone) from to zone.shape one two z.shape

pub zone_names : (cell : CellData) (zone : ZoneRow) → ZoneArm cell zone → NamesAnAxis zone.shape.bounds
zone_names cell zone z = shape_names (zone_axes cell zone) zone.shape z.shape
