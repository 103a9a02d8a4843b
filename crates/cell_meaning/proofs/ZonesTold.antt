-- The zones of arms, from the events alone.
use Rattle.std.proofs.Common.{◌≡◌, ◌⊎◌, inl, inr, ◌<◌, ◌≤◌, ℕ, zero, suc, ◌+◌, ◌-◌, ◌==◌, Bool, true, false, ◌&&◌, List, [], ◌∷◌, ◌++◌, length, get_or, replicate, Option, Some, None, is_some, refl, sym, ◌∙◌, ap, subst, arith, if◌then◌else◌}
use Rattle.std.specs.Prelude.{⊤, ◌↔◌, is_none, Result, Ok, Err}
use Rattle.std.specs.List.{position_from}
use Rattle.std.proofs.lemmas.Bool.{cases_eq, eq-eqb, eqb-true, false≢true, ne_eqb, true≢false}
use Rattle.std.proofs.lemmas.List.{get_or-set_same, get_or-set_other, length-set, length-replicate}
use Rattle.rapid_num.specs.declared.shape.Shape.{Shape}
use Rattle.rapid_model.specs.CellData.{CellData}
use Rattle.rapid_model.specs.Own.{part_of}
use Rattle.rapid_model.specs.declared.answer.Answer.{Answer}
use Rattle.rapid_model.specs.declared.answer.Answer.TheVariants as answers
use Rattle.rapid_limits.specs.declared.TheConstants.{MOST_ZONES}
use Rattle.rapid_model.specs.declared.event.Event.{Event}
use Rattle.rapid_model.specs.declared.request.Request.{Request}
use Rattle.rapid_model.specs.declared.request.Request.TheVariants as requests
use Rattle.rapid_model.specs.declared.zone_name.ZoneName.TheVariants.{Own}
use Rattle.world_zones.specs.declared.output.Output.{Output}
use Rattle.world_zones.specs.declared.own_zone.OwnZone.{OwnZone}
use Rattle.world_zones.specs.declared.tie_fault.TieFault.{TieFault}
use Rattle.world_zones.specs.declared.tie_fault.TieFault.TheVariants as tie_faults
use Rattle.world_zones.specs.declared.zone_fault.ZoneFault.{ZoneFault}
use Rattle.world_zones.specs.declared.zone_fault.ZoneFault.TheVariants as zone_faults
use Rattle.world_zones.specs.Outputs.{is_tied, tie_answer, tying}
use Rattle.world_zones.specs.Touched.{supervised}
use Rattle.world_zones.specs.Zones.{ZonesData, arm_at, given, is_temporary, least_free, no_zones, own_shape, set_answer, switched, with_arm, with_zone, zone_at}
use Rattle.cell_meaning.specs.Answers.{IsAnswer, temporary_of, tie_number_of, zone_number_of}
use Rattle.cell_meaning.specs.Premises.{AllAnswered}
use Rattle.cell_meaning.specs.Stored.{signals_after}
use Rattle.cell_meaning.specs.Zones.{zones_after, zones_with}
use Rattle.cell_meaning.specs.ZonesSince.{FreesZone, GivesZone, IsOn, Sets, SwitchesOff, SwitchesOn, Watches}
use Rattle.cell_meaning.proofs.Asked.{who_may}
use Rattle.cell_meaning.proofs.Lists.{from_front}
use Rattle.cell_meaning.proofs.MoreEvents.{event, its_parts, sure, zones_after-more}
use Rattle.cell_meaning.proofs.Numbered.{entry_within, entry_written, none_at}
use Rattle.cell_meaning.proofs.Since.{Told, Tells, answered_fronts, told, tells}
use Rattle.cell_meaning.proofs.ZonesKept.{free_zone, tie_given, zones_kept}

-- ---- what an event does to a zone

-- what a task did to the zone with a number: gave it, with an output or none, switched or freed it, or none of these
pub data Act : Type 0 where
  gives : Bool → Shape → Option Output → Act
  switches : Bool → Act
  frees : Act
  leaves : Act

abbrev pub act : ℕ → Request → Answer → Act
act number (requests.ZoneSet old temporary shape) (answers.Number k) = if k == number then gives temporary shape None else leaves
act number (requests.ZoneTie old temporary shape signal value) (answers.Number k) = if k == number then gives temporary shape (Some (record { signal = signal; value = value })) else leaves
act number (requests.ZoneOn k) answers.Ok = if k == number then switches true else leaves
act number (requests.ZoneOff k) answers.Ok = if k == number then switches false else leaves
act number (requests.ZoneFree k) answers.Ok = if k == number then frees else leaves
act number _ _ = leaves

abbrev pub acts : ℕ → ℕ → ℕ → Request → Answer → Act
acts task number actor request answer = if actor == task then act number request answer else leaves

-- newly given, with an output or none
abbrev pub made : Bool → Shape → Option Output → Option OwnZone
made temporary shape output = Some (record { temporary = temporary; on = true; shape = shape; output = output })

abbrev pub zone_by : Act → Option OwnZone → Option OwnZone
zone_by (gives temporary shape output) held = made temporary shape output
zone_by (switches on) held = switched on held
zone_by frees held = None
zone_by leaves held = held

-- the request and the answer of each act
abbrev pub IsAct : ℕ → Request → Answer → Act → Type 0
IsAct number request answer (gives temporary shape None) = (old : ℕ) × (request ≡ requests.ZoneSet old temporary shape) × (answer ≡ answers.Number number)
IsAct number request answer (gives temporary shape (Some o)) = (old : ℕ) × (request ≡ requests.ZoneTie old temporary shape o.signal o.value) × (answer ≡ answers.Number number)
IsAct number request answer (switches true) = (request ≡ requests.ZoneOn number) × (answer ≡ answers.Ok)
IsAct number request answer (switches false) = (request ≡ requests.ZoneOff number) × (answer ≡ answers.Ok)
IsAct number request answer frees = (request ≡ requests.ZoneFree number) × (answer ≡ answers.Ok)
IsAct number request answer leaves = ⊤

meant : (number : ℕ) (request : Request) (answer : Answer) → IsAct number request answer (act number request answer)
meant number (requests.ZoneSet old temporary shape) (answers.Number k) = by (k == number) refl
  where
    by : (b : Bool) → (k == number) ≡ b → IsAct number (requests.ZoneSet old temporary shape) (answers.Number k) (if b then gives temporary shape None else leaves)
    by true is = (old, refl, ap (λ (n : ℕ). answers.Number n) (eqb-true k number is))
    by false is = tt
meant number (requests.ZoneTie old temporary shape signal value) (answers.Number k) = by (k == number) refl
  where
    by : (b : Bool) → (k == number) ≡ b
        → IsAct number (requests.ZoneTie old temporary shape signal value) (answers.Number k) (if b then gives temporary shape (Some (record { signal = signal; value = value })) else leaves)
    by true is = (old, refl, ap (λ (n : ℕ). answers.Number n) (eqb-true k number is))
    by false is = tt
meant number (requests.ZoneOn k) answers.Ok = by (k == number) refl
  where
    by : (b : Bool) → (k == number) ≡ b → IsAct number (requests.ZoneOn k) answers.Ok (if b then switches true else leaves)
    by true is = (ap (λ (n : ℕ). requests.ZoneOn n) (eqb-true k number is), refl)
    by false is = tt
meant number (requests.ZoneOff k) answers.Ok = by (k == number) refl
  where
    by : (b : Bool) → (k == number) ≡ b → IsAct number (requests.ZoneOff k) answers.Ok (if b then switches false else leaves)
    by true is = (ap (λ (n : ℕ). requests.ZoneOff n) (eqb-true k number is), refl)
    by false is = tt
meant number (requests.ZoneFree k) answers.Ok = by (k == number) refl
  where
    by : (b : Bool) → (k == number) ≡ b → IsAct number (requests.ZoneFree k) answers.Ok (if b then frees else leaves)
    by true is = (ap (λ (n : ℕ). requests.ZoneFree n) (eqb-true k number is), refl)
    by false is = tt
meant number _ _ = tt

-- the same for a task's event
abbrev pub IsActs : ℕ → ℕ → Event → Act → Type 0
IsActs task number e leaves = ⊤
IsActs task number e a = (e.actor ≡ task) × IsAct number e.request e.answer a

pub all_meant : (task number : ℕ) (e : Event) → IsActs task number e (acts task number e.actor e.request e.answer)
all_meant task number e = by (e.actor == task) refl
  where
    own : (a : Act) → e.actor ≡ task → IsAct number e.request e.answer a → IsActs task number e a
    own (gives temporary shape output) actor is = (actor, is)
    own (switches on) actor is = (actor, is)
    own frees actor is = (actor, is)
    own leaves actor is = tt

    by : (b : Bool) → (e.actor == task) ≡ b → IsActs task number e (if b then act number e.request e.answer else leaves)
    by true is = own (act number e.request e.answer) (eqb-true e.actor task is) (meant number e.request e.answer)
    by false is = tt

abbrev pub acts_of : ℕ → ℕ → Event → Act
acts_of task number e = acts task number e.actor e.request e.answer

gives_acts : (task number : ℕ) (shape : Shape) (output : Option Output) (h : List Event) (e : Event) → GivesZone task number shape output h e
    → (temporary : Bool) × (acts_of task number e ≡ gives temporary shape output)
gives_acts task number shape None h e w = (w.1, ap (acts_of task number) w.2 ∙ sure task number (gives w.1 shape None) leaves)
gives_acts task number shape (Some o) h e w = (w.1, ap (acts_of task number) w.2 ∙ sure task number (gives w.1 shape (Some o)) leaves)

frees_acts : (task number : ℕ) (h : List Event) (e : Event) → FreesZone task number h e → acts_of task number e ≡ frees
frees_acts task number h e w = ap (acts_of task number) w ∙ sure task number frees leaves

off_acts : (task number : ℕ) (h : List Event) (e : Event) → SwitchesOff task number h e → acts_of task number e ≡ switches false
off_acts task number h e w = ap (acts_of task number) w ∙ sure task number (switches false) leaves

on_acts : (task number : ℕ) (e : Event) → e ≡ event task (requests.ZoneOn number) answers.Ok → acts_of task number e ≡ switches true
on_acts task number e w = ap (acts_of task number) w ∙ sure task number (switches true) leaves

acts_gives : (task number : ℕ) (temporary : Bool) (shape : Shape) (output : Option Output) (h : List Event) (e : Event) → acts_of task number e ≡ gives temporary shape output
    → GivesZone task number shape output h e
acts_gives task number temporary shape None h e is =
    let w : IsActs task number e (gives temporary shape None) = subst (IsActs task number e) is (all_meant task number e) in
    (w.1.0, temporary, its_parts task (requests.ZoneSet w.1.0 temporary shape) (answers.Number number) e w.0 w.1.1 w.1.2)
acts_gives task number temporary shape (Some o) h e is =
    let w : IsActs task number e (gives temporary shape (Some o)) = subst (IsActs task number e) is (all_meant task number e) in
    (w.1.0, temporary, its_parts task (requests.ZoneTie w.1.0 temporary shape o.signal o.value) (answers.Number number) e w.0 w.1.1 w.1.2)

acts_frees : (task number : ℕ) (h : List Event) (e : Event) → acts_of task number e ≡ frees → FreesZone task number h e
acts_frees task number h e is =
    let w : IsActs task number e frees = subst (IsActs task number e) is (all_meant task number e) in
    its_parts task (requests.ZoneFree number) answers.Ok e w.0 w.1.0 w.1.1

acts_off : (task number : ℕ) (h : List Event) (e : Event) → acts_of task number e ≡ switches false → SwitchesOff task number h e
acts_off task number h e is =
    let w : IsActs task number e (switches false) = subst (IsActs task number e) is (all_meant task number e) in
    its_parts task (requests.ZoneOff number) answers.Ok e w.0 w.1.0 w.1.1

acts_on : (task number : ℕ) (e : Event) → acts_of task number e ≡ switches true → e ≡ event task (requests.ZoneOn number) answers.Ok
acts_on task number e is =
    let w : IsActs task number e (switches true) = subst (IsActs task number e) is (all_meant task number e) in
    its_parts task (requests.ZoneOn number) answers.Ok e w.0 w.1.0 w.1.1

-- -- the zone after one more event

abbrev pub zone_of : CellData → ℕ → ℕ → List Event → Option OwnZone
zone_of cell task number h = zone_at (arm_at (zones_after cell h) task) number

-- each task has its arm's zones
pub arms_with : (zones : ZonesData) (task : ℕ) (request : Request) (answer : Answer) → length (zones_with zones task request answer).arms ≡ length zones.arms
arms_with zones task (requests.ZoneSet old temporary shape) (answers.Number number) = length-set zones.arms task (with_zone (arm_at zones task) number (given temporary shape))
arms_with zones task (requests.ZoneTie old temporary shape signal value) (answers.Number number) =
    length-set zones.arms task (with_zone (arm_at zones task) number (tying temporary shape (record { signal = signal; value = value })))
arms_with zones task (requests.ZoneOn zone) answers.Ok = length-set zones.arms task (with_zone (arm_at zones task) zone (switched true (zone_at (arm_at zones task) zone)))
arms_with zones task (requests.ZoneOff zone) answers.Ok = length-set zones.arms task (with_zone (arm_at zones task) zone (switched false (zone_at (arm_at zones task) zone)))
arms_with zones task (requests.ZoneFree zone) answers.Ok = length-set zones.arms task (with_zone (arm_at zones task) zone None)
arms_with zones task _ _ = refl

pub arms_kept : (cell : CellData) (h : List Event) → length (zones_after cell h).arms ≡ length cell.tasks
arms_kept cell h =
    from_front (λ x. length (zones_after cell x).arms ≡ length cell.tasks) h (length-replicate (length cell.tasks) no_zones)
    (λ before after e is so_far. ap (λ (z : ZonesData). length z.arms) (zones_after-more cell before e) ∙ arms_with (zones_after cell before) e.actor e.request e.answer ∙ so_far)

-- a zone of an arm is written
arm_written : (zones : ZonesData) (actor task k number : ℕ) (zone : Option OwnZone) → actor < length zones.arms → 1 ≤ k → k - 1 < length (arm_at zones actor)
    → zone_at (arm_at (with_arm zones actor (with_zone (arm_at zones actor) k zone)) task) number
    ≡ (if actor == task then (if k == number then zone else zone_at (arm_at zones task) number) else zone_at (arm_at zones task) number)
arm_written zones actor task k number zone few some within = elim (cases_eq task actor) [
  | inl same ↦
      let new : List (Option OwnZone) = with_zone (arm_at zones actor) k zone in
      ap (λ (arm : List (Option OwnZone)). zone_at arm number)
      (ap (λ (j : ℕ). get_or (with_arm zones actor new).arms j no_zones) same ∙ get_or-set_same zones.arms actor new no_zones few)
      ∙ entry_written (arm_at zones actor) k number zone some within
      ∙ ap (λ (j : ℕ). if k == number then zone else zone_at (arm_at zones j) number) (sym same)
      ∙ sym (ap (λ (b : Bool). if b then (if k == number then zone else zone_at (arm_at zones task) number) else zone_at (arm_at zones task) number) (eq-eqb actor task (sym same)))
  | inr other ↦
      ap (λ (arm : List (Option OwnZone)). zone_at arm number) (get_or-set_other zones.arms actor task (with_zone (arm_at zones actor) k zone) no_zones other)
      ∙ sym (ap (λ (b : Bool). if b then (if k == number then zone else zone_at (arm_at zones task) number) else zone_at (arm_at zones task) number) (ne_eqb actor task (λ same. other (sym same))))
]

-- the act's word for it
by_act : (actor task k number : ℕ) (zones : ZonesData) (a : Act) (zone : Option OwnZone)
    → (actor ≡ task → k ≡ number → zone ≡ zone_by a (zone_at (arm_at zones task) number))
    → (if actor == task then (if k == number then zone else zone_at (arm_at zones task) number) else zone_at (arm_at zones task) number)
    ≡ zone_by (if actor == task then (if k == number then a else leaves) else leaves) (zone_at (arm_at zones task) number)
by_act actor task k number zones a zone same = by (actor == task) (k == number) refl refl
  where
    by : (b c : Bool) → (actor == task) ≡ b → (k == number) ≡ c
        → (if b then (if c then zone else zone_at (arm_at zones task) number) else zone_at (arm_at zones task) number)
        ≡ zone_by (if b then (if c then a else leaves) else leaves) (zone_at (arm_at zones task) number)
    by true true p q = same (eqb-true actor task p) (eqb-true k number q)
    by true false p q = refl
    by false c p q = refl

left_alone : (b : Bool) (zone : Option OwnZone) → zone ≡ zone_by (if b then leaves else leaves) zone
left_alone true held = refl
left_alone false held = refl

-- what an answer says of the number that it names
record Names (zones : ZonesData) (actor k : ℕ) : Type 0 where
  few : actor < length zones.arms
  some : 1 ≤ k
  within : k - 1 < length (arm_at zones actor)

abbrev NamesIts : ZonesData → ℕ → Request → Answer → Type 0
NamesIts zones actor (requests.ZoneSet old temporary shape) (answers.Number k) = Names zones actor k
NamesIts zones actor (requests.ZoneTie old temporary shape signal value) (answers.Number k) = Names zones actor k
NamesIts zones actor (requests.ZoneOn k) answers.Ok = Names zones actor k
NamesIts zones actor (requests.ZoneOff k) answers.Ok = Names zones actor k
NamesIts zones actor (requests.ZoneFree k) answers.Ok = Names zones actor k
NamesIts zones actor _ _ = ⊤

stepped : (zones : ZonesData) (actor task number : ℕ) (request : Request) (answer : Answer) → NamesIts zones actor request answer
    → zone_at (arm_at (zones_with zones actor request answer) task) number ≡ zone_by (acts task number actor request answer) (zone_at (arm_at zones task) number)
stepped zones actor task number (requests.ZoneSet old temporary shape) (answers.Number k) n =
    arm_written zones actor task k number (given temporary shape) n.few n.some n.within ∙ by_act actor task k number zones (gives temporary shape None) (given temporary shape) (λ p q. refl)
stepped zones actor task number (requests.ZoneTie old temporary shape signal value) (answers.Number k) n =
    let output : Output = record { signal = signal; value = value } in
    arm_written zones actor task k number (tying temporary shape output) n.few n.some n.within ∙ by_act actor task k number zones (gives temporary shape (Some output)) (tying temporary shape output) (λ p q. refl)
stepped zones actor task number (requests.ZoneOn k) answers.Ok n =
    arm_written zones actor task k number (switched true (zone_at (arm_at zones actor) k)) n.few n.some n.within
    ∙ by_act actor task k number zones (switches true) (switched true (zone_at (arm_at zones actor) k))
    (λ p q. ap (λ (j : ℕ). switched true (zone_at (arm_at zones j) k)) p ∙ ap (λ (j : ℕ). switched true (zone_at (arm_at zones task) j)) q)
stepped zones actor task number (requests.ZoneOff k) answers.Ok n =
    arm_written zones actor task k number (switched false (zone_at (arm_at zones actor) k)) n.few n.some n.within
    ∙ by_act actor task k number zones (switches false) (switched false (zone_at (arm_at zones actor) k))
    (λ p q. ap (λ (j : ℕ). switched false (zone_at (arm_at zones j) k)) p ∙ ap (λ (j : ℕ). switched false (zone_at (arm_at zones task) j)) q)
stepped zones actor task number (requests.ZoneFree k) answers.Ok n =
    arm_written zones actor task k number None n.few n.some n.within ∙ by_act actor task k number zones frees None (λ p q. refl)
stepped zones actor task number request answer n = left_alone (actor == task) (zone_at (arm_at zones task) number)

-- ---- what the cell's answers say

is_there : (b : Bool) (zone : Option OwnZone) → is_temporary zone ≡ b → answers.Ok ≡ temporary_of b → (z : OwnZone) × (zone ≡ Some z)
is_there true (Some z) is e = (z, refl)
is_there true None is e = absurd (false≢true is)
is_there false held is e = absurd cc

named_by : (zones : ZonesData) (actor k : ℕ) → actor < length zones.arms → answers.Ok ≡ temporary_of (is_temporary (zone_at (arm_at zones actor) k)) → Names zones actor k
named_by zones actor k few e =
    let there = is_there (is_temporary (zone_at (arm_at zones actor) k)) (zone_at (arm_at zones actor) k) refl e in
    let w = entry_within (arm_at zones actor) k there.0 there.1 in
    record { few = few; some = w.0; within = w.1 }

number_is : (r : Result ℕ ZoneFault) (k : ℕ) → answers.Number k ≡ zone_number_of r → r ≡ Ok k
number_is (Ok n) k e = let same : k ≡ n = cc in ap (λ (m : ℕ). Ok m) (sym same)
number_is (Err zone_faults.ZoneUsed) k e = absurd cc
number_is (Err zone_faults.ZoneFull) k e = absurd cc

given_by : (zones : ZonesData) (actor old k : ℕ) → actor < length zones.arms → length (arm_at zones actor) ≡ 10 → answers.Number k ≡ zone_number_of (set_answer (arm_at zones actor) old) → Names zones actor k
given_by zones actor old k few ten e =
    let w = free_zone (arm_at zones actor) old k ten (number_is (set_answer (arm_at zones actor) old) k e) in
    record { few = few; some = w.0; within = omega (arith, ten, w.0, w.1) }

tie_number_is : (r : Result ℕ TieFault) (k : ℕ) → answers.Number k ≡ tie_number_of r → r ≡ Ok k
tie_number_is (Ok n) k e = let same : k ≡ n = cc in ap (λ (m : ℕ). Ok m) (sym same)
tie_number_is (Err tie_faults.ZoneUsed) k e = absurd cc
tie_number_is (Err tie_faults.ZoneFull) k e = absurd cc
tie_number_is (Err tie_faults.Tied) k e = absurd cc

-- the signal was not tied, and the number is as for another zone
tie_is : (zones : ZonesData) (actor old signal k : ℕ) → answers.Number k ≡ tie_number_of (tie_answer zones actor old signal) → (is_tied zones signal ≡ false) × (set_answer (arm_at zones actor) old ≡ Ok k)
tie_is zones actor old signal k e = tie_given (is_tied zones signal) (set_answer (arm_at zones actor) old) k (tie_number_is (tie_answer zones actor old signal) k e)

tied_by : (zones : ZonesData) (actor old signal k : ℕ) → actor < length zones.arms → length (arm_at zones actor) ≡ 10 → answers.Number k ≡ tie_number_of (tie_answer zones actor old signal) → Names zones actor k
tied_by zones actor old signal k few ten e =
    let w = free_zone (arm_at zones actor) old k ten (tie_is zones actor old signal k e).1 in
    record { few = few; some = w.0; within = omega (arith, ten, w.0, w.1) }

-- the number that is given was free
was_free : (zones : List (Option OwnZone)) (old k : ℕ) → set_answer zones old ≡ Ok k → zone_at zones k ≡ None
was_free zones old k e = by (is_some (zone_at zones old)) e
  where
    least : (index : Option ℕ) → position_from is_none 0 zones ≡ index → least_free index ≡ Ok k → zone_at zones k ≡ None
    least None is h = absurd cc
    least (Some p) is h = let same : p + 1 ≡ k = cc in ap (zone_at zones) (sym same) ∙ none_at zones p is

    by : (b : Bool) → (if b then Err zone_faults.ZoneUsed else least_free (position_from is_none 0 zones)) ≡ Ok k → zone_at zones k ≡ None
    by true h = absurd cc
    by false h = least (position_from is_none 0 zones) refl h

-- only a task makes requests about zones
is_task : (cell : CellData) (h : List Event) (e : Event) → AllAnswered cell (h ++ e ∷ []) → ((index : ℕ) → e.request ≡ requests.Input index → ⊥) → e.actor < length cell.tasks
is_task cell h e asked no_input = elim (who_may cell e.actor (part_of e.actor h) e.request (asked.might h [] e refl)) [
  | inl t ↦ t.within
  | inr s ↦ absurd (no_input (length (part_of e.actor h)) s.next)
]

names_its : (cell : CellData) (h : List Event) (e : Event) → AllAnswered cell (h ++ e ∷ []) → NamesIts (zones_after cell h) e.actor e.request e.answer
names_its cell h e asked = by e.request e.answer (asked.answered h [] e refl) (is_task cell h e asked)
  where
    few : (r : Request) → (((index : ℕ) → r ≡ requests.Input index → ⊥) → e.actor < length cell.tasks) → ((index : ℕ) → r ≡ requests.Input index → ⊥) → e.actor < length (zones_after cell h).arms
    few r task none = let n : e.actor < length cell.tasks = task none in omega (arith, n, arms_kept cell h)

    by : (r : Request) (a : Answer) → IsAnswer cell h e.actor r a → (((index : ℕ) → r ≡ requests.Input index → ⊥) → e.actor < length cell.tasks) → NamesIts (zones_after cell h) e.actor r a
    by (requests.ZoneSet old temporary shape) (answers.Number k) is task =
        given_by (zones_after cell h) e.actor old k (few (requests.ZoneSet old temporary shape) task (λ index same. absurd cc)) (zones_kept cell h e.actor) is
    by (requests.ZoneTie old temporary shape signal value) (answers.Number k) is task =
        tied_by (zones_after cell h) e.actor old signal k (few (requests.ZoneTie old temporary shape signal value) task (λ index same. absurd cc)) (zones_kept cell h e.actor) is
    by (requests.ZoneOn k) answers.Ok is task = named_by (zones_after cell h) e.actor k (few (requests.ZoneOn k) task (λ index same. absurd cc)) is
    by (requests.ZoneOff k) answers.Ok is task = named_by (zones_after cell h) e.actor k (few (requests.ZoneOff k) task (λ index same. absurd cc)) is
    by (requests.ZoneFree k) answers.Ok is task = named_by (zones_after cell h) e.actor k (few (requests.ZoneFree k) task (λ index same. absurd cc)) is
    by _ _ is task = tt

pub zone_more : (cell : CellData) (task number : ℕ) (h : List Event) (e : Event) → AllAnswered cell (h ++ e ∷ [])
    → zone_of cell task number (h ++ e ∷ []) ≡ zone_by (acts_of task number e) (zone_of cell task number h)
zone_more cell task number h e asked =
    ap (λ (z : ZonesData). zone_at (arm_at z task) number) (zones_after-more cell h e)
    ∙ stepped (zones_after cell h) e.actor task number e.request e.answer (names_its cell h e asked)

-- if the act is known
pub zone_with : (cell : CellData) (task number : ℕ) (h : List Event) (e : Event) (a : Act) → AllAnswered cell (h ++ e ∷ []) → acts_of task number e ≡ a
    → zone_of cell task number (h ++ e ∷ []) ≡ zone_by a (zone_of cell task number h)
zone_with cell task number h e a asked is = zone_more cell task number h e asked ∙ ap (λ (x : Act). zone_by x (zone_of cell task number h)) is

-- what is asked and answered when a zone is given, from the act
abbrev GivenBy : CellData → List Event → ℕ → ℕ → Option Output → ℕ → Type 0
GivenBy cell h actor old None number = answers.Number number ≡ zone_number_of (set_answer (arm_at (zones_after cell h) actor) old)
GivenBy cell h actor old (Some o) number = answers.Number number ≡ tie_number_of (tie_answer (zones_after cell h) actor old o.signal)

given_then : (cell : CellData) (task number : ℕ) (temporary : Bool) (shape : Shape) (output : Option Output) (h : List Event) (e : Event) → AllAnswered cell (h ++ e ∷ [])
    → acts_of task number e ≡ gives temporary shape output → (e.actor ≡ task) × (old : ℕ) × GivenBy cell h e.actor old output number
given_then cell task number temporary shape None h e asked is =
    let w : IsActs task number e (gives temporary shape None) = subst (IsActs task number e) is (all_meant task number e) in
    (w.0, w.1.0, subst (λ (a : Answer). IsAnswer cell h e.actor (requests.ZoneSet w.1.0 temporary shape) a) w.1.2 (subst (λ (r : Request). IsAnswer cell h e.actor r e.answer) w.1.1 (asked.answered h [] e refl)))
given_then cell task number temporary shape (Some o) h e asked is =
    let w : IsActs task number e (gives temporary shape (Some o)) = subst (IsActs task number e) is (all_meant task number e) in
    (w.0, w.1.0, subst (λ (a : Answer). IsAnswer cell h e.actor (requests.ZoneTie w.1.0 temporary shape o.signal o.value) a) w.1.2 (subst (λ (r : Request). IsAnswer cell h e.actor r e.answer) w.1.1 (asked.answered h [] e refl)))

set_then : (cell : CellData) (h : List Event) (actor old : ℕ) (output : Option Output) (number : ℕ) → GivenBy cell h actor old output number → set_answer (arm_at (zones_after cell h) actor) old ≡ Ok number
set_then cell h actor old None number by = number_is (set_answer (arm_at (zones_after cell h) actor) old) number by
set_then cell h actor old (Some o) number by = (tie_is (zones_after cell h) actor old o.signal number by).1

-- a zone is given a number that was free
free_before : (cell : CellData) (task number : ℕ) (temporary : Bool) (shape : Shape) (output : Option Output) (h : List Event) (e : Event) → AllAnswered cell (h ++ e ∷ [])
    → acts_of task number e ≡ gives temporary shape output → zone_of cell task number h ≡ None
free_before cell task number temporary shape output h e asked is =
    let w = given_then cell task number temporary shape output h e asked is in
    ap (λ (k : ℕ). zone_of cell k number h) (sym w.0) ∙ was_free (arm_at (zones_after cell h) e.actor) w.1 number (set_then cell h e.actor w.1 output number w.2)

-- and an output that was not tied
pub untied_before : (cell : CellData) (task number : ℕ) (temporary : Bool) (shape : Shape) (output : Output) (h : List Event) (e : Event) → AllAnswered cell (h ++ e ∷ [])
    → acts_of task number e ≡ gives temporary shape (Some output) → is_tied (zones_after cell h) output.signal ≡ false
untied_before cell task number temporary shape output h e asked is =
    let w = given_then cell task number temporary shape (Some output) h e asked is in
    (tie_is (zones_after cell h) e.actor w.1 output.signal number w.2).0

abbrev no_zone : Option OwnZone
no_zone = None

pub none_first : (cell : CellData) (task number : ℕ) → zone_of cell task number [] ≡ None
none_first cell task number = ap (λ (arm : List (Option OwnZone)). zone_at arm number) (no_arm (length cell.tasks) task) ∙ by (number == 0)
  where
    no_arm : (count k : ℕ) → get_or (replicate count no_zones) k no_zones ≡ no_zones
    no_arm zero k = refl
    no_arm (suc count) zero = refl
    no_arm (suc count) (suc k) = no_arm count k

    nowhere : (count k : ℕ) → get_or (replicate count no_zone) k no_zone ≡ no_zone
    nowhere zero k = refl
    nowhere (suc count) zero = refl
    nowhere (suc count) (suc k) = nowhere count k

    by : (b : Bool) → (if b then None else get_or no_zones (number - 1) None) ≡ None
    by true = refl
    by false = nowhere MOST_ZONES (number - 1)

-- -- a zone with a shape exists, with this output or none

abbrev IsThere : CellData → ℕ → ℕ → Shape → Option Output → List Event → Type 0
IsThere cell task number shape output h = (z : OwnZone) × (zone_of cell task number h ≡ Some z) × (z.shape ≡ shape) × (z.output ≡ output)

switched_from : (on : Bool) (zone : Option OwnZone) (z : OwnZone) → switched on zone ≡ Some z → (old : OwnZone) × (zone ≡ Some old) × (old.shape ≡ z.shape) × (z.on ≡ on) × (old.output ≡ z.output)
switched_from on None z is = absurd cc
switched_from on (Some old) z is =
    let same : record old { on = on } ≡ z = cc in
    (old, refl, ap (λ (x : OwnZone). x.shape) same, sym (ap (λ (x : OwnZone). x.on) same), ap (λ (x : OwnZone). x.output) same)

there_was : (cell : CellData) (task number : ℕ) (shape : Shape) (output : Option Output) (h : List Event) (e : Event) → AllAnswered cell (h ++ e ∷ []) → IsThere cell task number shape output (h ++ e ∷ [])
    → (a : Act) → acts_of task number e ≡ a → GivesZone task number shape output h e ⊎ (IsThere cell task number shape output h × ¬ FreesZone task number h e)
there_was cell task number shape output h e asked w (gives temporary other out) is =
    let now : made temporary other out ≡ Some w.0 = sym (zone_with cell task number h e (gives temporary other out) asked is) ∙ w.1 in
    let same : record { temporary = temporary; on = true; shape = other; output = out } ≡ w.0 = cc in
    let same_shape : other ≡ shape = ap (λ (x : OwnZone). x.shape) same ∙ w.2 in
    let same_output : out ≡ output = ap (λ (x : OwnZone). x.output) same ∙ w.3 in
    inl (subst (λ (o : Option Output). GivesZone task number shape o h e) same_output
    (subst (λ (s : Shape). GivesZone task number s out h e) same_shape (acts_gives task number temporary other out h e is)))
there_was cell task number shape output h e asked w (switches on) is =
    let old = switched_from on (zone_of cell task number h) w.0 (sym (zone_with cell task number h e (switches on) asked is) ∙ w.1) in
    inr ((old.0, old.1, old.2 ∙ w.2, old.4 ∙ w.3), λ freed. let both : switches on ≡ frees = sym is ∙ frees_acts task number h e freed in absurd cc)
there_was cell task number shape output h e asked w frees is = let gone : None ≡ Some w.0 = sym (zone_with cell task number h e frees asked is) ∙ w.1 in absurd cc
there_was cell task number shape output h e asked w leaves is =
    inr ((w.0, sym (zone_with cell task number h e leaves asked is) ∙ w.1, w.2, w.3), λ freed. let both : leaves ≡ frees = sym is ∙ frees_acts task number h e freed in absurd cc)

there_told : (cell : CellData) (task number : ℕ) (shape : Shape) (output : Option Output) → Told (AllAnswered cell) (IsThere cell task number shape output) (GivesZone task number shape output) (FreesZone task number)
there_told cell task number shape output = record {
  nothing = λ w. let none : None ≡ Some w.0 = sym (none_first cell task number) ∙ w.1 in cc;
  was = λ h e asked w. there_was cell task number shape output h e asked w (acts_of task number e) refl;
}

there_keeps : (cell : CellData) (task number : ℕ) (shape : Shape) (output : Option Output) (h : List Event) (e : Event) → AllAnswered cell (h ++ e ∷ []) → IsThere cell task number shape output h
    → ¬ FreesZone task number h e → (a : Act) → acts_of task number e ≡ a → IsThere cell task number shape output (h ++ e ∷ [])
there_keeps cell task number shape output h e asked w none (gives temporary other out) is =
    let free : None ≡ Some w.0 = sym (free_before cell task number temporary other out h e asked is) ∙ w.1 in absurd cc
there_keeps cell task number shape output h e asked w none (switches on) is =
    (record w.0 { on = on }, zone_with cell task number h e (switches on) asked is ∙ ap (switched on) w.1, w.2, w.3)
there_keeps cell task number shape output h e asked w none frees is = absurd (none (acts_frees task number h e is))
there_keeps cell task number shape output h e asked w none leaves is = (w.0, zone_with cell task number h e leaves asked is ∙ w.1, w.2, w.3)

there_made : (cell : CellData) (task number : ℕ) (shape : Shape) (output : Option Output) (h : List Event) (e : Event) → AllAnswered cell (h ++ e ∷ []) → GivesZone task number shape output h e
    → IsThere cell task number shape output (h ++ e ∷ [])
there_made cell task number shape output h e asked w =
    let gave = gives_acts task number shape output h e w in
    (record { temporary = gave.0; on = true; shape = shape; output = output }, zone_with cell task number h e (gives gave.0 shape output) asked gave.1, refl, refl)

there_tells : (cell : CellData) (task number : ℕ) (shape : Shape) (output : Option Output) → Tells (AllAnswered cell) (IsThere cell task number shape output) (GivesZone task number shape output) (FreesZone task number)
there_tells cell task number shape output = record {
  made = λ h e asked w. there_made cell task number shape output h e asked w;
  keeps = λ h e asked w none. there_keeps cell task number shape output h e asked w none (acts_of task number e) refl;
}

-- ---- it is off

abbrev IsOff : CellData → ℕ → ℕ → List Event → Type 0
IsOff cell task number h = (z : OwnZone) × (zone_of cell task number h ≡ Some z) × (z.on ≡ false)

no_on : (task number : ℕ) (h : List Event) (e : Event) (a : Act) → acts_of task number e ≡ a → (a ≡ switches true → ⊥) → ((temporary : Bool) (shape : Shape) (output : Option Output) → a ≡ gives temporary shape output → ⊥) → ¬ SwitchesOn task number h e
no_on task number h e a is not_on not_given (inl on) = not_on (sym is ∙ on_acts task number e on)
no_on task number h e a is not_on not_given (inr any) = let gave = gives_acts task number any.0 any.1 h e any.2 in not_given gave.0 any.0 any.1 (sym is ∙ gave.1)

off_was : (cell : CellData) (task number : ℕ) (h : List Event) (e : Event) → AllAnswered cell (h ++ e ∷ []) → IsOff cell task number (h ++ e ∷ []) → (a : Act) → acts_of task number e ≡ a
    → SwitchesOff task number h e ⊎ (IsOff cell task number h × ¬ SwitchesOn task number h e)
off_was cell task number h e asked w (gives temporary shape output) is =
    let now : made temporary shape output ≡ Some w.0 = sym (zone_with cell task number h e (gives temporary shape output) asked is) ∙ w.1 in
    let same : record { temporary = temporary; on = true; shape = shape; output = output } ≡ w.0 = cc in
    absurd (true≢false (ap (λ (x : OwnZone). x.on) same ∙ w.2))
off_was cell task number h e asked w (switches true) is =
    let old = switched_from true (zone_of cell task number h) w.0 (sym (zone_with cell task number h e (switches true) asked is) ∙ w.1) in
    absurd (true≢false (sym old.3 ∙ w.2))
off_was cell task number h e asked w (switches false) is = inl (acts_off task number h e is)
off_was cell task number h e asked w frees is = let gone : None ≡ Some w.0 = sym (zone_with cell task number h e frees asked is) ∙ w.1 in absurd cc
off_was cell task number h e asked w leaves is =
    inr ((w.0, sym (zone_with cell task number h e leaves asked is) ∙ w.1, w.2), no_on task number h e leaves is (λ same. absurd cc) (λ temporary shape output same. absurd cc))

off_told : (cell : CellData) (task number : ℕ) → Told (AllAnswered cell) (IsOff cell task number) (SwitchesOff task number) (SwitchesOn task number)
off_told cell task number = record {
  nothing = λ w. let none : None ≡ Some w.0 = sym (none_first cell task number) ∙ w.1 in cc;
  was = λ h e asked w. off_was cell task number h e asked w (acts_of task number e) refl;
}

abbrev OffOrGone : CellData → ℕ → ℕ → List Event → Type 0
OffOrGone cell task number h = (zone_of cell task number h ≡ None) ⊎ IsOff cell task number h

off_keeps : (cell : CellData) (task number : ℕ) (h : List Event) (e : Event) → AllAnswered cell (h ++ e ∷ []) → OffOrGone cell task number h → ¬ SwitchesOn task number h e → (a : Act) → acts_of task number e ≡ a
    → OffOrGone cell task number (h ++ e ∷ [])
off_keeps cell task number h e asked w none (gives temporary shape output) is = absurd (none (inr (shape, output, acts_gives task number temporary shape output h e is)))
off_keeps cell task number h e asked w none (switches true) is = absurd (none (inl (acts_on task number e is)))
off_keeps cell task number h e asked (inl gone) none (switches false) is = inl (zone_with cell task number h e (switches false) asked is ∙ ap (switched false) gone)
off_keeps cell task number h e asked (inr w) none (switches false) is = inr (record w.0 { on = false }, zone_with cell task number h e (switches false) asked is ∙ ap (switched false) w.1, refl)
off_keeps cell task number h e asked w none frees is = inl (zone_with cell task number h e frees asked is)
off_keeps cell task number h e asked (inl gone) none leaves is = inl (zone_with cell task number h e leaves asked is ∙ gone)
off_keeps cell task number h e asked (inr w) none leaves is = inr (w.0, zone_with cell task number h e leaves asked is ∙ w.1, w.2)

off_made : (cell : CellData) (task number : ℕ) (h : List Event) (e : Event) → AllAnswered cell (h ++ e ∷ []) → SwitchesOff task number h e → OffOrGone cell task number (h ++ e ∷ [])
off_made cell task number h e asked off = by (zone_of cell task number h) refl
  where
    now : zone_of cell task number (h ++ e ∷ []) ≡ switched false (zone_of cell task number h)
    now = zone_with cell task number h e (switches false) asked (off_acts task number h e off)

    by : (zone : Option OwnZone) → zone_of cell task number h ≡ zone → OffOrGone cell task number (h ++ e ∷ [])
    by None is = inl (now ∙ ap (switched false) is)
    by (Some z) is = inr (record z { on = false }, now ∙ ap (switched false) is, refl)

off_tells : (cell : CellData) (task number : ℕ) → Tells (AllAnswered cell) (OffOrGone cell task number) (SwitchesOff task number) (SwitchesOn task number)
off_tells cell task number = record {
  made = λ h e asked off. off_made cell task number h e asked off;
  keeps = λ h e asked w none. off_keeps cell task number h e asked w none (acts_of task number e) refl;
}

-- ---- it is on

-- the zone with a shape and this output or none is on
abbrev IsOnThere : CellData → ℕ → ℕ → Shape → Option Output → List Event → Type 0
IsOnThere cell task number shape output h = (z : OwnZone) × (zone_of cell task number h ≡ Some z) × (z.shape ≡ shape) × (z.on ≡ true) × (z.output ≡ output)

on_is : (cell : CellData) (history : List Event) (task number : ℕ) (shape : Shape) (output : Option Output) → AllAnswered cell history → IsOnThere cell task number shape output history
    → IsOn task number shape output history
on_is cell history task number shape output asked w = record {
  given = told (AllAnswered cell) (IsThere cell task number shape output) (GivesZone task number shape output) (FreesZone task number) history (answered_fronts cell) asked
      (there_told cell task number shape output) (w.0, w.1, w.2, w.4);
  on = λ since. off_now (tells (AllAnswered cell) (OffOrGone cell task number) (SwitchesOff task number) (SwitchesOn task number) history (answered_fronts cell) asked (off_tells cell task number) since);
}
  where
    off_now : OffOrGone cell task number history → ⊥
    off_now (inl gone) = let no : None ≡ Some w.0 = sym gone ∙ w.1 in cc
    off_now (inr off) =
        let same : Some off.0 ≡ Some w.0 = sym off.1 ∙ w.1 in
        let one : off.0 ≡ w.0 = cc in
        false≢true (sym off.2 ∙ ap (λ (x : OwnZone). x.on) one ∙ w.3)

is_on : (cell : CellData) (history : List Event) (task number : ℕ) (shape : Shape) (output : Option Output) → AllAnswered cell history → IsOn task number shape output history
    → IsOnThere cell task number shape output history
is_on cell history task number shape output asked w =
    let z = tells (AllAnswered cell) (IsThere cell task number shape output) (GivesZone task number shape output) (FreesZone task number) history (answered_fronts cell) asked (there_tells cell task number shape output) w.given in
    (z.0, z.1, z.2, by z.0 z.1 z.0.on refl, z.3)
  where
    by : (z : OwnZone) → zone_of cell task number history ≡ Some z → (b : Bool) → z.on ≡ b → z.on ≡ true
    by z there true on = on
    by z there false on =
        absurd (w.on (told (AllAnswered cell) (IsOff cell task number) (SwitchesOff task number) (SwitchesOn task number) history (answered_fronts cell) asked (off_told cell task number) (z, there, on)))

-- -- it watches

shape_there : (zone : Option OwnZone) (shape : Shape) → own_shape zone ≡ Some shape → (z : OwnZone) × (zone ≡ Some z) × (z.shape ≡ shape) × (z.on ≡ true) × (z.output ≡ None)
shape_there None shape is = absurd cc
shape_there (Some z) shape is = let both = by z.on z.output refl refl is in (z, refl, both.0, both.1, both.2)
  where
    by : (b : Bool) (o : Option Output) → z.on ≡ b → z.output ≡ o → (if b && is_none o then Some z.shape else None) ≡ Some shape → (z.shape ≡ shape) × (z.on ≡ true) × (z.output ≡ None)
    by true None on out e = (cc, on, out)
    by true (Some o) on out e = absurd cc
    by false o on out e = absurd cc

there_shape : (z : OwnZone) (shape : Shape) → z.shape ≡ shape → z.on ≡ true → z.output ≡ None → own_shape (Some z) ≡ Some shape
there_shape z shape same on out =
    ap (λ (b : Bool). if b && is_none z.output then Some z.shape else None) on ∙ ap (λ (o : Option Output). if is_none o then Some z.shape else None) out ∙ ap (λ (s : Shape). Some s) same

pub watches : (cell : CellData) (history : List Event) (task number : ℕ) (shape : Shape) → AllAnswered cell history
    → (supervised (zones_after cell history) task (signals_after cell history) (Own number) ≡ Some shape) ↔ Watches task number shape history
watches cell history task number shape asked = (
  λ is. on_is cell history task number shape None asked (shape_there (zone_of cell task number history) shape is),
  λ w. let z = is_on cell history task number shape None asked w in ap own_shape z.1 ∙ there_shape z.0 shape z.2 z.3 z.4,
)

-- -- it sets an output

pub sets : (cell : CellData) (history : List Event) (task number : ℕ) (shape : Shape) (output : Output) → AllAnswered cell history
    → ((zone : OwnZone) × (zone_at (arm_at (zones_after cell history) task) number ≡ Some zone) × (zone.shape ≡ shape) × (zone.on ≡ true) × (zone.output ≡ Some output)) ↔ Sets task number shape output history
sets cell history task number shape output asked = (on_is cell history task number shape (Some output) asked, is_on cell history task number shape (Some output) asked)
