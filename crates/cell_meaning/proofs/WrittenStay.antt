-- A signal keeps the value that a task wrote to it until it is set anew.
use Rattle.std.proofs.Common.{◌≡◌, inl, inr, ℕ, ◌<◌, Bool, true, false, List, [], ◌∷◌, ◌++◌, length, Option, Some, None, get_or, refl, sym, ap, ◌∙◌, subst, arith, IfSome}
use Rattle.std.specs.Prelude.{slice_get}
use Rattle.std.specs.List.{range_with_len}
use Rattle.std.proofs.lemmas.Bool.{false≢true}
use Rattle.std.proofs.lemmas.List.{get_or-set_other}
use Rattle.rapid_limits.specs.declared.TheConstants.{MOST_ZONES}
use Rattle.rapid_num.specs.declared.joints.Joints.{Joints}
use Rattle.rapid_model.specs.CellData.{CellData}
use Rattle.rapid_model.specs.declared.answer.Answer.{Answer}
use Rattle.rapid_model.specs.declared.answer.Answer.TheVariants as answers
use Rattle.rapid_model.specs.declared.event.Event.{Event}
use Rattle.rapid_model.specs.declared.input_row.InputRow.{InputRow}
use Rattle.rapid_model.specs.declared.request.Request.{Request}
use Rattle.rapid_model.specs.declared.request.Request.TheVariants as requests
use Rattle.world_zones.specs.Outputs.{is_tied, output_at}
use Rattle.world_zones.specs.Zones.{ZonesData, arm_at, zone_at}
use Rattle.cell_meaning.specs.Answers.{IsAnswer, written_of}
use Rattle.cell_meaning.specs.Motion.{arm_after}
use Rattle.cell_meaning.specs.Outputs.{all_outputs, output_of, outputs_set}
use Rattle.cell_meaning.specs.Premises.{AllAnswered}
use Rattle.cell_meaning.specs.SignalsSince.{SetsAnew, WritesSignal}
use Rattle.cell_meaning.specs.Since.{Since}
use Rattle.cell_meaning.specs.Stored.{signals_after, signals_written, signal_after, with_input}
use Rattle.cell_meaning.specs.Zones.{zones_after, zones_with}
use Rattle.cell_meaning.proofs.Follow.{agree_where, output_ties}
use Rattle.cell_meaning.proofs.MoreChanges.{length-signals_after, length-signals_written}
use Rattle.cell_meaning.proofs.MoreEvents.{event, its_parts, signals_after-more, zones_after-more}
use Rattle.cell_meaning.proofs.OutputLists.{Agree, all_agree, one_agrees, set_in_turn}
use Rattle.cell_meaning.proofs.SignalsKept.{written_is}
use Rattle.cell_meaning.proofs.Since.{Tells, answered_fronts, tells}
use Rattle.cell_meaning.proofs.Ties.{IsTiedBy, tie_of, tied_was, untied}

-- no zone names the signal
abbrev Untied : CellData → ℕ → List Event → Type 0
Untied cell signal h = (task number : ℕ) → IsTiedBy (zones_after cell h) task number signal → ⊥

record Stays (cell : CellData) (signal : ℕ) (value : Bool) (h : List Event) : Type 0 where
  is : signal_after cell h signal ≡ value
  untied : Untied cell signal h

-- then no event of this kind sets it
untied_agrees : (zones : ZonesData) (actor signal : ℕ) (value : Bool) (arm : Option Joints) → ((number : ℕ) → IsTiedBy zones actor number signal → ⊥) → (request : Request) (answer : Answer)
    → Agree signal value (outputs_set (arm_at zones actor) arm request answer)
untied_agrees zones actor signal value arm free = by
  where
    one : (p : Joints) (k : ℕ) → IfSome (output_at p (zone_at (arm_at zones actor) k)) (λ x. x.0 ≡ signal → x.1 ≡ value)
    one p k = by_output (output_at p (zone_at (arm_at zones actor) k)) refl
      where
        by_output : (y : Option (ℕ × Bool)) → output_at p (zone_at (arm_at zones actor) k) ≡ y → IfSome y (λ x. x.0 ≡ signal → x.1 ≡ value)
        by_output None e = tt
        by_output (Some x) e = λ same. absurd (free k (subst (λ (s : ℕ). IsTiedBy zones actor k s) same (output_ties p (zone_at (arm_at zones actor) k) x e)))

    by : (request : Request) (answer : Answer) → Agree signal value (outputs_set (arm_at zones actor) arm request answer)
    by (requests.ZoneTie old temporary shape other to) (answers.Number k) =
        agree_where signal value (output_of (arm_at zones actor) k) arm (λ p here. one_agrees signal value (output_at p (zone_at (arm_at zones actor) k)) (one p k))
    by (requests.ZoneOn k) answers.Ok =
        agree_where signal value (output_of (arm_at zones actor) k) arm (λ p here. one_agrees signal value (output_at p (zone_at (arm_at zones actor) k)) (one p k))
    by (requests.Setpoint to) answers.Given =
        agree_where signal value (all_outputs (arm_at zones actor)) arm (λ p here. all_agree (λ k. output_at p (zone_at (arm_at zones actor) k)) signal value (one p) (range_with_len 1 MOST_ZONES))
    by _ _ = tt

-- nor does it write it
written_same : (cell : CellData) (signals : List Bool) (signal actor : ℕ) (request : Request) (answer : Answer) → (SetsAnew cell signal [] (event actor request answer) → ⊥)
    → get_or (signals_written cell signals request answer) signal false ≡ get_or signals signal false
written_same cell signals signal actor (requests.WriteS other value) answers.Ok none =
    get_or-set_other signals other signal value false (λ same. none (inl (value, (actor, ap (λ (s : ℕ). event actor (requests.WriteS s value) answers.Ok) (sym same)))))
written_same cell signals signal actor (requests.Input index) answers.Ok none = by (slice_get cell.inputs index) refl
  where
    by : (row : Option InputRow) → slice_get cell.inputs index ≡ row → get_or (with_input signals row) signal false ≡ get_or signals signal false
    by None there = refl
    by (Some row) there =
        get_or-set_other signals row.signal signal row.value false
        (λ same. none (inr (inl (record { script = actor; index = index; row = row; there = there; names = sym same; is = refl }))))
written_same cell signals signal actor _ _ none = refl

written_tells : (cell : CellData) (signal : ℕ) (value : Bool) → signal < length cell.signals → Tells (AllAnswered cell) (Stays cell signal value) (WritesSignal signal value) (SetsAnew cell signal)
written_tells cell signal value within = record {
  made = λ h e asked w. record { is = written_is cell h w.0 signal value e w.1 (let count = length-signals_after cell h in omega (arith, count, within)); untied = made_untied h e asked w };
  keeps = λ h e asked stays none. record { is = kept h e asked stays none; untied = still h e asked stays.untied none };
}
  where
    -- a signal that a task may write is untied
    made_untied : (h : List Event) (e : Event) → AllAnswered cell (h ++ e ∷ []) → WritesSignal signal value h e → Untied cell signal (h ++ e ∷ [])
    made_untied h e asked w task number tied =
        let P : Event → Type 0 = λ x. IsAnswer cell h x.actor x.request x.answer in
        let told : answers.Ok ≡ written_of (is_tied (zones_after cell h) signal) = subst P w.1 (asked.answered h [] e refl) in
        let same : zones_after cell (h ++ e ∷ []) ≡ zones_after cell h = zones_after-more cell h e ∙ ap (λ (x : Event). zones_by h x) w.1 in
        let free : is_tied (zones_after cell h) signal ≡ false = not_tied (is_tied (zones_after cell h) signal) told in
        false≢true (sym (untied (zones_after cell h) signal free task number) ∙ subst (λ (z : ZonesData). IsTiedBy z task number signal) same tied)
      where
        zones_by : List Event → Event → ZonesData
        zones_by before x = zones_with (zones_after cell before) x.actor x.request x.answer

        not_tied : (b : Bool) → answers.Ok ≡ written_of b → b ≡ false
        not_tied false told = refl
        not_tied true told = absurd cc

    still : (h : List Event) (e : Event) → AllAnswered cell (h ++ e ∷ []) → Untied cell signal h → (SetsAnew cell signal h e → ⊥) → Untied cell signal (h ++ e ∷ [])
    still h e asked before none task number tied = elim (tied_was cell task number signal h e asked tied) [
      | inl new ↦
          let w = tie_of task number signal e new in
          none (inr (inr (record { task = task; old = w.1; temporary = w.2; shape = w.3; value = w.4; number = number; is = its_parts task (requests.ZoneTie w.1 w.2 w.3 signal w.4) (answers.Number number) e w.0 w.5 w.6 })))
      | inr old ↦ before task number old
    ]

    kept : (h : List Event) (e : Event) → AllAnswered cell (h ++ e ∷ []) → Stays cell signal value h → (SetsAnew cell signal h e → ⊥) → signal_after cell (h ++ e ∷ []) signal ≡ value
    kept h e asked stays none =
        let signals : List Bool = signals_after cell h in
        let written : List Bool = signals_written cell signals e.request e.answer in
        let zones : ZonesData = zones_after cell (h ++ e ∷ []) in
        let arm : Option Joints = arm_after cell (h ++ e ∷ []) e.actor in
        let there : signal < length written = (let count = length-signals_after cell h in let same = length-signals_written cell signals e.request e.answer in omega (arith, count, same, within)) in
        ap (λ (ss : List Bool). get_or ss signal false) (signals_after-more cell h e)
        ∙ set_in_turn written (outputs_set (arm_at zones e.actor) arm e.request e.answer) signal value there
        (untied_agrees zones e.actor signal value arm (λ number tied. still h e asked stays.untied none e.actor number tied) e.request e.answer)
        (inr (written_same cell signals signal e.actor e.request e.answer none ∙ stays.is))

pub written_stays : (cell : CellData) (history : List Event) (signal : ℕ) (value : Bool) → AllAnswered cell history → signal < length cell.signals → Since (WritesSignal signal value) (SetsAnew cell signal) history
    → signal_after cell history signal ≡ value
written_stays cell history signal value asked within since =
    let stays : Stays cell signal value history =
    tells (AllAnswered cell) (Stays cell signal value) (WritesSignal signal value) (SetsAnew cell signal) history (answered_fronts cell) asked (written_tells cell signal value within) since in
    stays.is
