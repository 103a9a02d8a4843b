-- The path of an arm is walked one event of the history after another.
use Rattle.std.proofs.Common.{◌≡◌, inl, inr, ℕ, ◌+◌, ◌<◌, ◌≤◌, Bool, true, false, cond, List, [], ◌∷◌, ◌++◌, length, take, Option, Some, None, refl, ap, sym, ◌∙◌, subst, arith}
use Rattle.std.specs.Prelude.{IfSome, IsSome, Result, ⊤, slice_get, ◌==◌}
use Rattle.std.specs.Option.{option_and_then}
use Rattle.std.proofs.lemmas.Bool.Decides.{nat_tests}
use Rattle.std.proofs.lemmas.List.{length-take, take_all}
use Rattle.std.proofs.lemmas.Option.{same_Some, slice_get_cases, get_or_from_slice_get}
use Rattle.outside.specs.declared.failed.Failed.{Failed}
use Rattle.rapid_num.specs.Reach.{is_position}
use Rattle.rapid_num.specs.declared.joints.Joints.{Joints}
use Rattle.rapid_model.specs.CellData.{CellData}
use Rattle.rapid_model.specs.declared.answer.Answer.{Answer}
use Rattle.rapid_model.specs.declared.answer.Answer.TheVariants as answers
use Rattle.rapid_model.specs.declared.event.Event.{Event}
use Rattle.rapid_model.specs.declared.request.Request.{Request}
use Rattle.rapid_model.specs.declared.request.Request.TheVariants as requests
use Rattle.rapid_model.specs.declared.task_row.TaskRow.{TaskRow}
use Rattle.rapid_model.specs.declared.zone_row.ZoneRow.{ZoneRow}
use Rattle.history_pages.specs.Pages.{given_in, given_to}
use Rattle.cell_meaning.specs.Premises.{AllAnswered}
use Rattle.zone_clearance.specs.Certificates.{AreFirstSides}
use Rattle.zone_clearance.specs.Gaps.{IsGap}
use Rattle.zone_clearance.specs.Premises.{IsSmall}
use Rattle.clearance_lines.specs.ArmPaths.{given_by, or_start, path_from, setpoint_given}
use Rattle.clearance_lines.specs.Clearances.{gap_line, nearest_line}
use Rattle.clearance_lines.specs.Measured.{WritesOn, WritesPath, WritesZone, nearer_of}
use Rattle.clearance_lines.specs.declared.nearest.Nearest.{Nearest}
use Rattle.sink_lines.specs.Printed.{Seen}
use Rattle.clearance_lines.proofs.ArmPositions.{ZoneArm, given_in_zone, starts_there, zone_axes}
use Rattle.sink_lines.proofs.Gains.{between}
use Rattle.sink_lines.proofs.Lists.{take-element}
use Rattle.clearance_lines.proofs.PathGaps.{Walked, walk_begins, walk_ends, walk_given, walk_on, walk_stays}

-- the joints that a task is given, by the actor and the joints of the setpoint that an event gives
abbrev pub joints_for : ℕ → Option (ℕ × Joints) → Option Joints
joints_for task None = None
joints_for task (Some given) = cond (given.0 == task) (Some given.1) None

pub given_by_own : (task : ℕ) (e : Event) → given_by task e ≡ joints_for task (given_in e)
given_by_own task e = by e.request e.answer
  where
    neither : (own : Bool) → cond {A = Option Joints} own None None ≡ None
    neither false = refl
    neither true = refl

    by : (request : Request) (answer : Answer) → cond (e.actor == task) (setpoint_given request answer) None ≡ joints_for task (given_to e.actor request answer)
    by (requests.Setpoint to) answers.Given = refl
    by (requests.Setpoint to) _ = neither (e.actor == task)
    by _ answer = neither (e.actor == task)

pub given_mine : (task : ℕ) (e : Event) (actor : ℕ) (to : Joints) → given_in e ≡ Some (actor, to) → actor ≡ task → Some to ≡ given_by task e
given_mine task e actor to given mine =
    let same : (actor == task) ≡ true = grind (arith, nat_tests, mine) in
    sym (given_by_own task e ∙ ap (joints_for task) given ∙ ap (λ (own : Bool). cond own (Some to) None) same)

pub given_others : (task : ℕ) (e : Event) (actor : ℕ) (to : Joints) → given_in e ≡ Some (actor, to) → (actor ≡ task → ⊥) → None ≡ given_by task e
given_others task e actor to given others =
    let apart : (actor == task) ≡ false = grind (arith, nat_tests, others) in
    sym (given_by_own task e ∙ ap (joints_for task) given ∙ ap (λ (own : Bool). cond own (Some to) None) apart)

-- where the arm of a zone starts
pub some_start : (cell : CellData) (zone : ZoneRow) (arm : Option Joints) → arm ≡ option_and_then (λ (row : TaskRow). row.arm) (slice_get cell.tasks zone.task) → ZoneArm cell zone → IsSome arm
some_start cell zone arm is z = subst (λ (o : Option Joints). IsSome o) (sym (is ∙ starts_there cell zone z)) refl

pub same_start : (cell : CellData) (zone : ZoneRow) (arm : Option Joints) (start : Joints) → arm ≡ option_and_then (λ (row : TaskRow). row.arm) (slice_get cell.tasks zone.task) → arm ≡ Some start → (z : ZoneArm cell zone) → start ≡ z.start
same_start cell zone arm start is there z = same_Some start z.start (sym there ∙ is ∙ starts_there cell zone z)

pub starts_well : (cell : CellData) (zone : ZoneRow) (arm : Option Joints) (start : Joints) → arm ≡ option_and_then (λ (row : TaskRow). row.arm) (slice_get cell.tasks zone.task) → arm ≡ Some start → (z : ZoneArm cell zone)
    → is_position (zone_axes cell zone) start ≡ true
starts_well cell zone arm start is there z = subst (λ (s : Joints). is_position (zone_axes cell zone) s ≡ true) (sym (same_start cell zone arm start is there z)) z.well

take_none : (history : List Event) → take 0 history ≡ []
take_none [] = refl
take_none (e ∷ history) = refl

pub begins : (cell : CellData) (history : List Event) (zone : ZoneRow) (start : Joints) (before : Result ⊤ Failed) (a : Seen) (z : ZoneArm cell zone) → start ≡ z.start
    → Walked zone start (zone_axes cell zone) (take 0 history) start None before before (between a a)
begins cell history zone start before a z same =
    subst (λ (events : List Event). Walked zone start (zone_axes cell zone) events start None before before (between a a)) (sym (take_none history))
    (walk_begins zone start (zone_axes cell zone) before a (subst (λ (s : Joints). is_position (zone_axes cell zone) s ≡ true) (sym same) z.well))

-- what event k gives
abbrev pub Gives : List Event → ℕ → ℕ → Option Joints → Type 0
Gives history task k given = (e : Event) → slice_get history k ≡ Some e → given ≡ given_by task e

event_at : (history : List Event) (k : ℕ) → k < length history → (e : Event) × (slice_get history k ≡ Some e)
event_at history k lt = elim (slice_get_cases history k).1 [
  | inl x ↦ (x.0, x.2)
  | inr past ↦ absurd (let m = past.0 in omega (arith, m, lt))
]

taken : (history : List Event) (k : ℕ) (e : Event) → k < length history → slice_get history k ≡ Some e → take (k + 1) history ≡ take k history ++ e ∷ []
taken history k e lt at = take-element history k e lt (sym (get_or_from_slice_get history k e e at))

pub to_well : (cell : CellData) (history : List Event) (zone : ZoneRow) (to : Joints) (given : Option Joints) (k : ℕ) → AllAnswered cell history → ZoneArm cell zone → k < length history → Gives history zone.task k given
    → given ≡ Some to → is_position (zone_axes cell zone) to ≡ true
to_well cell history zone to given k answered z lt gives is =
    let here = event_at history k lt in
    given_in_zone cell history k zone here.0 to answered z here.1 (sym (gives here.0 here.1) ∙ is)

pub walked_to : (cell : CellData) (history : List Event) (zone : ZoneRow) (start at to : Joints) (given : Option Joints) (k : ℕ) (nearest : Option Nearest) (new : Nearest) (before printed then : Result ⊤ Failed) (a b c : Seen)
    → AllAnswered cell history → ZoneArm cell zone → k < length history → Gives history zone.task k given → given ≡ Some to
    → Walked zone start (zone_axes cell zone) (take k history) at nearest before printed (between a b) → new.event ≡ Some k → IsGap at to zone.shape new.gap → AreFirstSides at to zone.shape new.gap → IsSmall new.gap
    → WritesOn (gap_line zone.name new.event new.gap ∷ []) printed then (between b c) → Walked zone start (zone_axes cell zone) (take (k + 1) history) to (Some (nearer_of nearest new)) before then (between a c)
walked_to cell history zone start at to given k nearest new before printed then a b c answered z lt gives is walked number least sides small w =
    let here = event_at history k lt in
    let long = length-take k history in
    let count : k ≡ length (take k history) = omega (arith, lt, long) in
    subst (λ (events : List Event). Walked zone start (zone_axes cell zone) events to (Some (nearer_of nearest new)) before then (between a c)) (sym (taken history k here.0 lt here.1))
    (walk_given zone start at to (zone_axes cell zone) k (take k history) here.0 nearest new before printed then a b c walked (sym (gives here.0 here.1) ∙ is) count
    (to_well cell history zone to given k answered z lt gives is) number (record { least = least; sides = sides }) small w)

pub walked_past : (cell : CellData) (history : List Event) (zone : ZoneRow) (start at : Joints) (given : Option Joints) (k : ℕ) (nearest : Option Nearest) (before printed : Result ⊤ Failed) (a b : Seen)
    → k < length history → Gives history zone.task k given → given ≡ None → Walked zone start (zone_axes cell zone) (take k history) at nearest before printed (between a b)
    → Walked zone start (zone_axes cell zone) (take (k + 1) history) at nearest before printed (between a b)
walked_past cell history zone start at given k nearest before printed a b lt gives is walked =
    let here = event_at history k lt in
    subst (λ (events : List Event). Walked zone start (zone_axes cell zone) events at nearest before printed (between a b)) (sym (taken history k here.0 lt here.1))
    (walk_on zone start at (zone_axes cell zone) (take k history) here.0 nearest before printed (between a b) walked (sym (gives here.0 here.1) ∙ is))

-- the path of the zone's arm
of_path : (cell : CellData) (history : List Event) (zone : ZoneRow) (before then : Result ⊤ Failed) (a c : Seen) (z : ZoneArm cell zone) → WritesPath zone (path_from (Some z.start) zone.task history) before then (between a c)
    → WritesZone cell history zone before then (between a c)
of_path cell history zone before then a c z w =
    subst (λ (arm : Option Joints). WritesPath zone (path_from arm zone.task history) before then (between a c)) (sym (starts_there cell zone z)) w

-- all events are walked
pub some_small : (found : Option Nearest) (nearest : Nearest) → found ≡ Some nearest → IfSome found (λ (some : Nearest). IsSmall some.gap) → IsSmall nearest.gap
some_small found nearest is small = subst (λ (o : Option Nearest). IfSome o (λ (some : Nearest). IsSmall some.gap)) is small

pub zone_ends : (cell : CellData) (history : List Event) (zone : ZoneRow) (at : Joints) (k : ℕ) (found : Option Nearest) (nearest : Nearest) (before printed then : Result ⊤ Failed) (a b c : Seen) (z : ZoneArm cell zone) (start : Joints) → start ≡ z.start → length history ≤ k
    → found ≡ Some nearest → Walked zone start (zone_axes cell zone) (take k history) at found before printed (between a b) → WritesOn (nearest_line zone.name nearest.event nearest.gap ∷ []) printed then (between b c) → WritesZone cell history zone before then (between a c)
zone_ends cell history zone at k found nearest before printed then a b c z start same all is walked w =
    of_path cell history zone before then a c z
    (walk_ends zone z.start at (zone_axes cell zone) history nearest before printed then a b c
    (subst (λ (events : List Event). Walked zone z.start (zone_axes cell zone) events at (Some nearest) before printed (between a b)) (take_all k history all)
    (subst (λ (s : Joints). Walked zone s (zone_axes cell zone) (take k history) at (Some nearest) before printed (between a b)) same
    (subst (λ (o : Option Nearest). Walked zone start (zone_axes cell zone) (take k history) at o before printed (between a b)) is walked))) w)

pub zone_stays : (cell : CellData) (history : List Event) (zone : ZoneRow) (at : Joints) (k : ℕ) (found : Option Nearest) (before printed then : Result ⊤ Failed) (a b c : Seen) (z : ZoneArm cell zone) (start : Joints) → start ≡ z.start → length history ≤ k
    → found ≡ None → Walked zone start (zone_axes cell zone) (take k history) at found before printed (between a b) → WritesPath zone (or_start start []) printed then (between b c) → WritesZone cell history zone before then (between a c)
zone_stays cell history zone at k found before printed then a b c z start same all is walked w =
    of_path cell history zone before then a c z
    (walk_stays zone z.start at (zone_axes cell zone) history before printed then a b c
    (subst (λ (events : List Event). Walked zone z.start (zone_axes cell zone) events at None before printed (between a b)) (take_all k history all)
    (subst (λ (s : Joints). Walked zone s (zone_axes cell zone) (take k history) at None before printed (between a b)) same
    (subst (λ (o : Option Nearest). Walked zone start (zone_axes cell zone) (take k history) at o before printed (between a b)) is walked)))
    (subst (λ (s : Joints). WritesPath zone (or_start s []) printed then (between b c)) same w))
