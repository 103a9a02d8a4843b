-- Outputs follow the zones that they are tied to.
use Rattle.std.proofs.Common.{◌≡◌, ◌⊎◌, inl, inr, ◌<◌, ◌+◌, ◌-◌, ℕ, Bool, true, false, List, [], ◌∷◌, ◌++◌, length, get_or, Option, Some, None, refl, sym, ◌∙◌, ap, subst, arith, IfSome, if◌then◌else◌}
use Rattle.std.specs.Prelude.{◌↔◌, ◌||◌, option_map, option_to_list, slice_get}
use Rattle.std.specs.List.{range_with_len}
use Rattle.std.proofs.lemmas.Bool.{and_parts, cases_eq, eq-eqb, false≢true}
use Rattle.std.proofs.lemmas.List.{get_or-set_other}
use Rattle.std.proofs.lemmas.Option.{get_or_from_slice_get, slice_get_within}
use Rattle.rapid_limits.specs.declared.TheConstants.{MOST_ZONES}
use Rattle.rapid_num.specs.declared.joints.Joints.{Joints}
use Rattle.joint_clip.specs.Lying.{lies_in}
use Rattle.joint_clip.proofs.Staying.{lies_touched}
use Rattle.rapid_model.specs.CellData.{CellData, IsCell}
use Rattle.rapid_model.specs.Limits.{is_input, is_input_signal}
use Rattle.rapid_model.specs.Truths.{same_truth}
use Rattle.rapid_model.specs.declared.answer.Answer.{Answer}
use Rattle.rapid_model.specs.declared.answer.Answer.TheVariants as answers
use Rattle.rapid_model.specs.declared.event.Event.{Event}
use Rattle.rapid_model.specs.declared.input_row.InputRow.{InputRow}
use Rattle.rapid_model.specs.declared.request.Request.{Request}
use Rattle.rapid_model.specs.declared.request.Request.TheVariants as requests
use Rattle.persist_store.proofs.Elements.{holds_at}
use Rattle.world_zones.specs.declared.output.Output.{Output}
use Rattle.world_zones.specs.declared.own_zone.OwnZone.{OwnZone}
use Rattle.world_zones.specs.Outputs.{is_tied, output_at, sets, ties}
use Rattle.world_zones.specs.Zones.{ZonesData, arm_at, switched, zone_at}
use Rattle.cell_meaning.specs.Answers.{IsAnswer, written_of}
use Rattle.cell_meaning.specs.Asking.{Asking}
use Rattle.cell_meaning.specs.Histories.{IsLegal}
use Rattle.cell_meaning.specs.Motion.{arm_after, is_given, moved}
use Rattle.cell_meaning.specs.Outputs.{all_outputs, output_of, outputs_set, where_arm}
use Rattle.cell_meaning.specs.OutputsFollow.{OutputsFollow}
use Rattle.cell_meaning.specs.Premises.{AllAnswered, AsksWhatItMay}
use Rattle.cell_meaning.specs.Stored.{signal_after, signals_after, signals_written, with_input}
use Rattle.cell_meaning.specs.Zones.{zones_after}
use Rattle.cell_meaning.proofs.ByTurns.{legal_answered}
use Rattle.cell_meaning.proofs.Lists.{from_front}
use Rattle.cell_meaning.proofs.MoreChanges.{length-signals_after, length-signals_written, outputs_by}
use Rattle.cell_meaning.proofs.MoreEvents.{arm_after-other, arm_after-own, signals_after-more}
use Rattle.cell_meaning.proofs.Numbered.{entry_within}
use Rattle.cell_meaning.proofs.OutputLists.{Agree, EachOnce, OneToOne, all_agree, all_once, is_among, one_agrees, one_among, one_once, set_in_turn}
use Rattle.cell_meaning.proofs.Since.{answered_fronts, with_event}
use Rattle.cell_meaning.proofs.Ties.{IsTiedBy, OneEach, one_each, tied_there, untied}
use Rattle.cell_meaning.proofs.ZonesKept.{zones_kept}
use Rattle.cell_meaning.proofs.ZonesTold.{Act, IsActs, acts_of, all_meant, frees, gives, leaves, none_first, switches, zone_by, zone_of, zone_with}

-- what a zone sets
its_zone : (at : Joints) (zone : Option OwnZone) (o : ℕ × Bool) → output_at at zone ≡ Some o → (z : OwnZone) × (zone ≡ Some z)
its_zone at None o is = absurd cc
its_zone at (Some z) o is = (z, refl)

pub output_ties : (at : Joints) (zone : Option OwnZone) (o : ℕ × Bool) → output_at at zone ≡ Some o → ties o.0 zone ≡ true
output_ties at None o is = absurd cc
output_ties at (Some z) o is = by z.on z.output refl is
  where
    by : (on : Bool) (output : Option Output) → z.output ≡ output → (if on then option_map (λ x. (x.signal, same_truth (lies_in z.shape at) x.value)) output else None) ≡ Some o → sets o.0 z.output ≡ true
    by false output out is = absurd cc
    by true None out is = absurd cc
    by true (Some x) out is =
        let both : (x.signal, same_truth (lies_in z.shape at) x.value) ≡ o = cc in
        ap (sets o.0) out ∙ eq-eqb x.signal o.0 (ap (λ (p : ℕ × Bool). p.0) both)

off_sets_none : (at : Joints) (held : Option OwnZone) → output_at at (switched false held) ≡ None
off_sets_none at None = refl
off_sets_none at (Some z) = refl

-- what an event sets agrees with what a zone sets, if the arm of its task is where the zone's is
pub agree_where : (signal : ℕ) (value : Bool) (outputs : Joints → List (ℕ × Bool)) (arm : Option Joints) → ((p : Joints) → arm ≡ Some p → Agree signal value (outputs p)) → Agree signal value (where_arm outputs arm)
agree_where signal value outputs None each = tt
agree_where signal value outputs (Some p) each = each p refl

-- a zone, its number and its arm's task, and what it sets where the arm is
record Setting (zones : ZonesData) (task number : ℕ) (at : Joints) (o : ℕ × Bool) : Type 0 where
  each : OneEach zones
  is : output_at at (zone_at (arm_at zones task) number) ≡ Some o

set_agrees : (zones : ZonesData) (actor task number : ℕ) (at : Joints) (o : ℕ × Bool) (arm : Option Joints) → Setting zones task number at o → (actor ≡ task → arm ≡ Some at) → (request : Request) (answer : Answer)
    → Agree o.0 o.1 (outputs_set (arm_at zones actor) arm request answer)
set_agrees zones actor task number at o arm its there = by
  where
    one : (p : Joints) → arm ≡ Some p → (k : ℕ) → IfSome (output_at p (zone_at (arm_at zones actor) k)) (λ x. x.0 ≡ o.0 → x.1 ≡ o.1)
    one p here k = by_output (output_at p (zone_at (arm_at zones actor) k)) refl
      where
        by_output : (y : Option (ℕ × Bool)) → output_at p (zone_at (arm_at zones actor) k) ≡ y → IfSome y (λ x. x.0 ≡ o.0 → x.1 ≡ o.1)
        by_output None e = tt
        by_output (Some x) e = λ same.
            let tied : IsTiedBy zones actor k o.0 = subst (λ (s : ℕ). IsTiedBy zones actor k s) same (output_ties p (zone_at (arm_at zones actor) k) x e) in
            let mine = its.each.one actor k task number o.0 tied (output_ties at (zone_at (arm_at zones task) number) o its.is) in
            let places : Some p ≡ Some at = sym here ∙ there mine.0 in
            let place : p ≡ at = cc in
            let both : Some x ≡ Some o =
            sym e ∙ ap (λ (q : Joints). output_at q (zone_at (arm_at zones actor) k)) place ∙ ap (λ (j : ℕ). output_at at (zone_at (arm_at zones j) k)) mine.0
            ∙ ap (λ (j : ℕ). output_at at (zone_at (arm_at zones task) j)) mine.1 ∙ its.is in
            let pair : x ≡ o = cc in
            ap (λ (y : ℕ × Bool). y.1) pair

    by : (request : Request) (answer : Answer) → Agree o.0 o.1 (outputs_set (arm_at zones actor) arm request answer)
    by (requests.ZoneTie old temporary shape signal value) (answers.Number k) =
        agree_where o.0 o.1 (output_of (arm_at zones actor) k) arm (λ p here. one_agrees o.0 o.1 (output_at p (zone_at (arm_at zones actor) k)) (one p here k))
    by (requests.ZoneOn k) answers.Ok =
        agree_where o.0 o.1 (output_of (arm_at zones actor) k) arm (λ p here. one_agrees o.0 o.1 (output_at p (zone_at (arm_at zones actor) k)) (one p here k))
    by (requests.Setpoint to) answers.Given =
        agree_where o.0 o.1 (all_outputs (arm_at zones actor)) arm (λ p here. all_agree (λ k. output_at p (zone_at (arm_at zones actor) k)) o.0 o.1 (one p here) (range_with_len 1 MOST_ZONES))
    by _ _ = tt

-- a zone's output is among what is set for it, and for all zones of its arm
among_one : (zones : ZonesData) (task number : ℕ) (at : Joints) (o : ℕ × Bool) → output_at at (zone_at (arm_at zones task) number) ≡ Some o → is_among o.0 (output_of (arm_at zones task) number at) ≡ true
among_one zones task number at o is = ap (λ (y : Option (ℕ × Bool)). is_among o.0 (option_to_list y)) is ∙ ap (λ (b : Bool). b || false) (eq-eqb o.0 o.0 refl)

among_all : (zones : ZonesData) (task number : ℕ) (at : Joints) (o : ℕ × Bool) → length (arm_at zones task) ≡ 10 → output_at at (zone_at (arm_at zones task) number) ≡ Some o
    → is_among o.0 (all_outputs (arm_at zones task) at) ≡ true
among_all zones task number at o ten is =
    let z = its_zone at (zone_at (arm_at zones task) number) o is in
    let within = entry_within (arm_at zones task) number z.0 z.1 in
    let few : number - 1 < 10 = omega (arith, within.1, ten) in
    let same : 1 + (number - 1) ≡ number = omega (arith, within.0) in
    one_among (λ k. output_at at (zone_at (arm_at zones task) k)) o.0 o 1 MOST_ZONES (number - 1) few (ap (λ (k : ℕ). output_at at (zone_at (arm_at zones task) k)) same ∙ is) refl

-- each signal that an event sets exists, and is set once
once_where : (count : ℕ) (outputs : Joints → List (ℕ × Bool)) (arm : Option Joints) → ((p : Joints) → EachOnce count (outputs p)) → EachOnce count (where_arm outputs arm)
once_where count outputs None each = tt
once_where count outputs (Some p) each = each p

pub outputs_once : (cell : CellData) (history : List Event) (e : Event) → AllAnswered cell (history ++ e ∷ []) → EachOnce (length cell.signals) (outputs_by cell history e)
outputs_once cell history e asked = by e.request e.answer
  where
    zones : List (Option OwnZone)
    zones = arm_at (zones_after cell (history ++ e ∷ [])) e.actor

    arm : Option Joints
    arm = arm_after cell (history ++ e ∷ []) e.actor

    there : (p : Joints) (k : ℕ) → IfSome (output_at p (zone_at zones k)) (λ x. x.0 < length cell.signals)
    there p k = by_output (output_at p (zone_at zones k)) refl
      where
        by_output : (y : Option (ℕ × Bool)) → output_at p (zone_at zones k) ≡ y → IfSome y (λ x. x.0 < length cell.signals)
        by_output None is = tt
        by_output (Some x) is = tied_there cell (history ++ e ∷ []) asked e.actor k x.0 (output_ties p (zone_at zones k) x is)

    one : (p : Joints) → OneToOne (λ k. output_at p (zone_at zones k))
    one p n k x y first second same =
        let tied : IsTiedBy (zones_after cell (history ++ e ∷ [])) e.actor n y.0 = subst (λ (s : ℕ). ties s (zone_at zones n) ≡ true) same (output_ties p (zone_at zones n) x first) in
        ((one_each cell (history ++ e ∷ []) asked).one e.actor n e.actor k y.0 tied (output_ties p (zone_at zones k) y second)).1

    by : (request : Request) (answer : Answer) → EachOnce (length cell.signals) (outputs_set zones arm request answer)
    by (requests.ZoneTie old temporary shape signal value) (answers.Number k) = once_where (length cell.signals) (output_of zones k) arm (λ p. one_once (length cell.signals) (output_at p (zone_at zones k)) (there p k))
    by (requests.ZoneOn k) answers.Ok = once_where (length cell.signals) (output_of zones k) arm (λ p. one_once (length cell.signals) (output_at p (zone_at zones k)) (there p k))
    by (requests.Setpoint to) answers.Given = once_where (length cell.signals) (all_outputs zones) arm (λ p. all_once (λ k. output_at p (zone_at zones k)) (length cell.signals) 1 MOST_ZONES (one p) (there p))
    by _ _ = tt

-- the value of a signal before what zones set

written_free : (tied : Bool) → answers.Ok ≡ written_of tied → tied ≡ false
written_free true is = absurd cc
written_free false is = refl

input_is : (cell : CellData) (index : ℕ) (row : InputRow) → IsCell cell → slice_get cell.inputs index ≡ Some row → is_input_signal cell.signals row.signal ≡ true
input_is cell index row limits at =
    let within = slice_get_within cell.inputs index row at in
    let here : is_input cell.signals (length cell.tasks) row ≡ true =
    subst (λ (r : InputRow). is_input cell.signals (length cell.tasks) r ≡ true) (get_or_from_slice_get cell.inputs index row row at) (holds_at (is_input cell.signals (length cell.tasks)) cell.inputs index row limits.inputs within) in
    (and_parts _ _ (and_parts _ _ (and_parts _ _ here).0).0).0

-- a signal that a zone names, and that is not an input, is not written
written_kept : (cell : CellData) (h : List Event) (actor task number signal : ℕ) (request : Request) (answer : Answer) → IsCell cell → IsTiedBy (zones_after cell h) task number signal
    → is_input_signal cell.signals signal ≡ false → IsAnswer cell h actor request answer → get_or (signals_written cell (signals_after cell h) request answer) signal false ≡ signal_after cell h signal
written_kept cell h actor task number signal (requests.WriteS written value) answers.Ok limits tied not_input is =
    get_or-set_other (signals_after cell h) written signal value false
    (λ same. false≢true (sym (untied (zones_after cell h) signal (ap (is_tied (zones_after cell h)) same ∙ written_free (is_tied (zones_after cell h) written) is) task number) ∙ tied))
written_kept cell h actor task number signal (requests.Input index) answers.Ok limits tied not_input is = by (slice_get cell.inputs index) refl
  where
    by : (row : Option InputRow) → slice_get cell.inputs index ≡ row → get_or (with_input (signals_after cell h) row) signal false ≡ signal_after cell h signal
    by None at = refl
    by (Some row) at =
        get_or-set_other (signals_after cell h) row.signal signal row.value false
        (λ same. false≢true (sym not_input ∙ ap (is_input_signal cell.signals) same ∙ input_is cell index row limits at))
written_kept cell h actor task number signal _ _ limits tied not_input is = refl

-- where arms are
kept_unless_given : (arm : Option Joints) (request : Request) (answer : Answer) → is_given request answer ≡ false → option_map (λ position. moved position request answer) arm ≡ arm
kept_unless_given None request answer none = refl
kept_unless_given (Some position) (requests.Setpoint to) answers.Given none = absurd cc
kept_unless_given (Some position) _ _ none = refl

given_is : (request : Request) (answer : Answer) → is_given request answer ≡ true → (to : Joints) × (request ≡ requests.Setpoint to) × (answer ≡ answers.Given)
given_is (requests.Setpoint to) answers.Given is = (to, refl, refl)
given_is _ _ is = absurd (false≢true is)

-- each output of a zone that is on has the value that the zone gives it where its arm is
record Followed (cell : CellData) (h : List Event) : Type 0 where
  each : (task number : ℕ) (at : Joints) (o : ℕ × Bool) → output_at at (zone_of cell task number h) ≡ Some o → is_input_signal cell.signals o.0 ≡ false → arm_after cell h task ≡ Some at → signal_after cell h o.0 ≡ o.1

follow_more : (cell : CellData) (h : List Event) (e : Event) → IsCell cell → AllAnswered cell (h ++ e ∷ []) → Followed cell h → (task number : ℕ) (at : Joints) (o : ℕ × Bool)
    → output_at at (zone_of cell task number (h ++ e ∷ [])) ≡ Some o → is_input_signal cell.signals o.0 ≡ false → arm_after cell (h ++ e ∷ []) task ≡ Some at → signal_after cell (h ++ e ∷ []) o.0 ≡ o.1
follow_more cell h e limits asked followed task number at o is not_input there =
    ap (λ (signals : List Bool). get_or signals o.0 false) (signals_after-more cell h e)
    ∙ set_in_turn written set_now o.0 o.1 exists
    (set_agrees now e.actor task number at o (arm_after cell (h ++ e ∷ []) e.actor) (record { each = one_each cell (h ++ e ∷ []) asked; is = is }) (λ own. ap (arm_after cell (h ++ e ∷ [])) own ∙ there) e.request e.answer)
    (so (acts_of task number e) refl)
  where
    now : ZonesData
    now = zones_after cell (h ++ e ∷ [])

    written : List Bool
    written = signals_written cell (signals_after cell h) e.request e.answer

    sets_by : Request → Answer → List (ℕ × Bool)
    sets_by request answer = outputs_set (arm_at now e.actor) (arm_after cell (h ++ e ∷ []) e.actor) request answer

    set_now : List (ℕ × Bool)
    set_now = sets_by e.request e.answer

    exists : o.0 < length written
    exists =
        let within : o.0 < length cell.signals = tied_there cell (h ++ e ∷ []) asked task number o.0 (output_ties at (zone_of cell task number (h ++ e ∷ [])) o is) in
        omega (arith, within, length-signals_written cell (signals_after cell h) e.request e.answer, length-signals_after cell h)

    -- the zone after the act
    by_act : (a : Act) → acts_of task number e ≡ a → output_at at (zone_by a (zone_of cell task number h)) ≡ Some o
    by_act a acted = sym (ap (output_at at) (zone_with cell task number h e a asked acted)) ∙ is

    -- what is set if the event gives the zone or switches it on
    set_one : e.actor ≡ task → set_now ≡ where_arm (output_of (arm_at now e.actor) number) (arm_after cell (h ++ e ∷ []) e.actor) → is_among o.0 set_now ≡ true
    set_one own same =
        ap (is_among o.0) (same ∙ ap (λ (j : ℕ). where_arm (output_of (arm_at now j) number) (arm_after cell (h ++ e ∷ []) j)) own ∙ ap (where_arm (output_of (arm_at now task) number)) there)
        ∙ among_one now task number at o is

    -- and if it is given a setpoint
    set_all : e.actor ≡ task → set_now ≡ where_arm (all_outputs (arm_at now e.actor)) (arm_after cell (h ++ e ∷ []) e.actor) → is_among o.0 set_now ≡ true
    set_all own same =
        ap (is_among o.0) (same ∙ ap (λ (j : ℕ). where_arm (all_outputs (arm_at now j)) (arm_after cell (h ++ e ∷ []) j)) own ∙ ap (where_arm (all_outputs (arm_at now task))) there)
        ∙ among_all now task number at o (zones_kept cell (h ++ e ∷ []) task) is

    -- otherwise the signal stays
    stays : output_at at (zone_of cell task number h) ≡ Some o → arm_after cell (h ++ e ∷ []) task ≡ arm_after cell h task → get_or written o.0 false ≡ o.1
    stays was same =
        written_kept cell h e.actor task number o.0 e.request e.answer limits (output_ties at (zone_of cell task number h) o was) not_input (asked.answered h [] e refl)
        ∙ followed.each task number at o was not_input (sym same ∙ there)

    own_kept : e.actor ≡ task → is_given e.request e.answer ≡ false → arm_after cell (h ++ e ∷ []) task ≡ arm_after cell h task
    own_kept own none =
        ap (arm_after cell (h ++ e ∷ [])) (sym own) ∙ arm_after-own cell h e ∙ kept_unless_given (arm_after cell h e.actor) e.request e.answer none ∙ ap (arm_after cell h) own

    so_left : output_at at (zone_of cell task number h) ≡ Some o → (is_among o.0 set_now ≡ true) ⊎ (get_or written o.0 false ≡ o.1)
    so_left was = elim (cases_eq e.actor task) [
      | inl own ↦ given_or own (is_given e.request e.answer) refl
      | inr other ↦ inr (stays was (arm_after-other cell h e task other))
    ]
      where
        given_or : e.actor ≡ task → (b : Bool) → is_given e.request e.answer ≡ b → (is_among o.0 set_now ≡ true) ⊎ (get_or written o.0 false ≡ o.1)
        given_or own true given =
            let w = given_is e.request e.answer given in
            inl (set_all own (ap (λ (r : Request). sets_by r e.answer) w.1 ∙ ap (sets_by (requests.Setpoint w.0)) w.2))
        given_or own false given = inr (stays was (own_kept own given))

    so : (a : Act) → acts_of task number e ≡ a → (is_among o.0 set_now ≡ true) ⊎ (get_or written o.0 false ≡ o.1)
    so (gives temporary shape None) acted = let no : None ≡ Some o = by_act (gives temporary shape None) acted in absurd cc
    so (gives temporary shape (Some x)) acted =
        let w : IsActs task number e (gives temporary shape (Some x)) = subst (IsActs task number e) acted (all_meant task number e) in
        inl (set_one w.0 (ap (λ (r : Request). sets_by r e.answer) w.1.1 ∙ ap (sets_by (requests.ZoneTie w.1.0 temporary shape x.signal x.value)) w.1.2))
    so (switches true) acted =
        let w : IsActs task number e (switches true) = subst (IsActs task number e) acted (all_meant task number e) in
        inl (set_one w.0 (ap (λ (r : Request). sets_by r e.answer) w.1.0 ∙ ap (sets_by (requests.ZoneOn number)) w.1.1))
    so (switches false) acted = let no : None ≡ Some o = sym (off_sets_none at (zone_of cell task number h)) ∙ by_act (switches false) acted in absurd cc
    so frees acted = let no : None ≡ Some o = by_act frees acted in absurd cc
    so leaves acted = so_left (by_act leaves acted)

followed : (cell : CellData) (history : List Event) → IsCell cell → AllAnswered cell history → Followed cell history
followed cell history limits asked =
    from_front (Followed cell) history none
    (λ before after e is so_far. record { each = follow_more cell before e limits (with_event (AllAnswered cell) (answered_fronts cell) history before after e is asked) so_far })
  where
    none : Followed cell []
    none = record { each = λ task number at o is not_input there. let no : None ≡ Some o = sym (ap (output_at at) (none_first cell task number)) ∙ is in absurd cc }

-- the zone's value exactly if the position lies in the zone
value_iff : (lies value now : Bool) → now ≡ same_truth lies value → (now ≡ value) ↔ (lies ≡ true)
value_iff true true now is = (λ same. refl, λ yes. is)
value_iff true false now is = (λ same. refl, λ yes. is)
value_iff false true now is = (λ same. absurd (false≢true (sym is ∙ same)), λ no. absurd (false≢true no))
value_iff false false now is = (λ same. absurd (false≢true (sym same ∙ is)), λ no. absurd (false≢true no))

on_sets : (zone : OwnZone) (output : Output) (at : Joints) → zone.on ≡ true → zone.output ≡ Some output → output_at at (Some zone) ≡ Some (output.signal, same_truth (lies_in zone.shape at) output.value)
on_sets zone output at on out =
    ap (λ (b : Bool). if b then option_map (λ (x : Output). (x.signal, same_truth (lies_in zone.shape at) x.value)) zone.output else None) on
    ∙ ap (λ (o : Option Output). option_map (λ (x : Output). (x.signal, same_truth (lies_in zone.shape at) x.value)) o) out

pub outputs_follow : (asks : Asking) (cell : CellData) (history : List Event) → IsCell cell → AsksWhatItMay asks cell → IsLegal asks cell history → OutputsFollow cell history
outputs_follow asks cell history limits may legal = record {
  follows = λ before after task number zone output at cut is on out not_input there.
      let asked = answered_fronts cell before after (subst (AllAnswered cell) cut (legal_answered asks cell history may legal)) in
      let value = (followed cell before limits asked).each task number at (output.signal, same_truth (lies_in zone.shape at) output.value) (ap (output_at at) is ∙ on_sets zone output at on out) not_input there in
      let same = value_iff (lies_in zone.shape at) output.value (signal_after cell before output.signal) value in
      let touches = lies_touched zone.shape at in
      (λ has. touches.0 (same.0 has), λ touched. same.1 (touches.1 touched));
}
