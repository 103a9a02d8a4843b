-- A cell is stalled exactly if its history is complete, a task has not ended, and steps are left.
use Rattle.std.proofs.Common.{◌≡◌, ◌⊎◌, inl, inr, ℕ, zero, suc, ◌<◌, Bool, true, false, not, List, length, Option, None, Some, refl, sym, ◌∙◌, ap, subst, arith}
use Rattle.std.specs.Prelude.{◌&&◌, ◌||◌, ◌==◌, IsTrue, nat_lt, slice_get}
use Rattle.std.proofs.lemmas.Bool.{and_parts, cases_eq, false≢true, true≢false, not-true}
use Rattle.std.proofs.lemmas.List.{length-map}
use Rattle.std.proofs.lemmas.Option.{slice_get_within}
use Rattle.rapid_model.specs.CellData.{CellData}
use Rattle.rapid_model.specs.Own.{part_of, answers_of, has_ended, is_held, is_rise}
use Rattle.rapid_model.specs.Requests.{goes_with}
use Rattle.rapid_model.specs.declared.event.Event.{Event}
use Rattle.rapid_model.specs.declared.input_row.InputRow.{InputRow}
use Rattle.rapid_model.specs.declared.request.Request.{Request}
use Rattle.rapid_model.specs.declared.request.Request.TheVariants as requests
use Rattle.cell_meaning.specs.Answers.{is_enabled}
use Rattle.cell_meaning.specs.Asking.{Asking}
use Rattle.cell_meaning.specs.Counted.{counted}
use Rattle.cell_meaning.specs.Fates.{all_ended, is_spent}
use Rattle.cell_meaning.specs.Histories.{Follows, IsLegal, IsWhole}
use Rattle.cell_meaning.specs.Inputs.{inputs_done, is_gate_open, is_open}
use Rattle.cell_meaning.specs.Over.{IsOver}
use Rattle.cell_meaning.specs.Premises.{AsksWhatItMay, AsksUntilItsEnd, AsksInputs}
use Rattle.cell_meaning.specs.Rising.{can_rise}
use Rattle.cell_meaning.specs.Stalled.{is_stuck, all_rest, is_stalled}
use Rattle.cell_meaning.proofs.Asked.{TaskMay, ScriptMay, who_may}
use Rattle.cell_meaning.proofs.Ending.{none_follows, whole_over}

-- what a stalled cell is
record Stall (cell : CellData) (history : List Event) : Type 0 where
  steps_left : is_spent cell history ≡ false
  one_going : all_ended (length cell.tasks) history ≡ false
  rests : all_rest cell (length cell.tasks) history ≡ true
  closed : is_open cell history (inputs_done cell history) ≡ false

stall : (cell : CellData) (history : List Event) → is_stalled cell history ≡ true → Stall cell history
stall cell history is =
    let ended = all_ended (length cell.tasks) history in
    let rest = all_rest cell (length cell.tasks) history in
    let w = and_parts (not (is_spent cell history) && not ended && rest) (not (is_open cell history (inputs_done cell history))) is in
    let v = and_parts (not (is_spent cell history) && not ended) rest w.0 in
    let u = and_parts (not (is_spent cell history)) (not ended) v.0 in
    record {
      steps_left = not-true (is_spent cell history) u.0;
      one_going = not-true ended u.1;
      rests = v.1;
      closed = not-true (is_open cell history (inputs_done cell history)) w.1;
    }

rest_at : (cell : CellData) (history : List Event) (tasks task : ℕ) → task < tasks → all_rest cell tasks history ≡ true → (has_ended (part_of task history) || is_stuck cell history task) ≡ true
rest_at cell history zero task lt rests = absurd (omega arith)
rest_at cell history (suc tasks) task lt rests =
    let w = and_parts (all_rest cell tasks history) (has_ended (part_of tasks history) || is_stuck cell history tasks) rests in
    elim (cases_eq task tasks) [
      | inl same ↦ (let P : ℕ → Type 0 = λ k. (has_ended (part_of k history) || is_stuck cell history k) ≡ true in subst P (sym same) w.1)
      | inr other ↦ rest_at cell history tasks task (omega (arith, other)) w.0
    ]

second_so : (a b : Bool) → (a || b) ≡ true → a ≡ false → b ≡ true
second_so false b h k = h
second_so true b h k = absurd (true≢false k)

only_rise : (request : Request) → is_rise request ≡ true → request ≡ requests.Rise
only_rise requests.Rise h = refl
only_rise _ h = absurd (false≢true h)

-- a task that is held asks Rise
held_rises : (held : Bool) (request : Request) → held ≡ true → goes_with held (is_rise request) ≡ true → request ≡ requests.Rise
held_rises true request is goes = only_rise request goes
held_rises false request is goes = absurd (false≢true is)

-- in a stalled cell a task that has not ended asks a Rise that is not enabled
record Stuck (cell : CellData) (history : List Event) (task : ℕ) (request : Request) : Type 0 where
  rise : request ≡ requests.Rise
  never : can_rise cell history task ≡ false

stuck_asks : (cell : CellData) (history : List Event) (task : ℕ) (request : Request) → is_stalled cell history ≡ true → TaskMay cell task (part_of task history) request → Stuck cell history task request
stuck_asks cell history task request stalled may =
    let stuck = second_so (has_ended (part_of task history)) (is_stuck cell history task) (rest_at cell history (length cell.tasks) task may.within (stall cell history stalled).rests) may.alive in
    let w = and_parts (is_held (part_of task history)) (not (can_rise cell history task)) stuck in
    record { rise = held_rises (is_held (part_of task history)) request w.0 may.goes; never = not-true (can_rise cell history task) w.1 }

pub stalled_waits : (asks : Asking) (cell : CellData) (history : List Event) (task : ℕ) (request : Request) → task < length cell.tasks → AsksWhatItMay asks cell → IsLegal asks cell history
    → IsTrue (is_stalled cell history) → asks task (answers_of task history) request → (request ≡ requests.Rise) × (is_enabled cell history task request ≡ false)
stalled_waits asks cell history task request within may legal stalled asked = by (who_may cell task (part_of task history) request (may.may history task request legal asked))
  where
    by : TaskMay cell task (part_of task history) request ⊎ ScriptMay cell task (part_of task history) request → (request ≡ requests.Rise) × (is_enabled cell history task request ≡ false)
    by (inr script) = absurd (let at = script.script in omega (arith, at, within))
    by (inl known) =
        let stuck = stuck_asks cell history task request stalled known in
        (stuck.rise, ap (is_enabled cell history task) stuck.rise ∙ stuck.never)

-- nothing follows in a stalled cell
nothing_follows : (asks : Asking) (cell : CellData) (history : List Event) (e : Event) → is_stalled cell history ≡ true → Follows asks cell history e
    → TaskMay cell e.actor (part_of e.actor history) e.request ⊎ ScriptMay cell e.actor (part_of e.actor history) e.request → ⊥
nothing_follows asks cell history e stalled follows (inl task) =
    let stuck = stuck_asks cell history e.actor e.request stalled task in
    false≢true (sym stuck.never ∙ ap (is_enabled cell history e.actor) (sym stuck.rise) ∙ follows.enabled)
nothing_follows asks cell history e stalled follows (inr script) =
    let opened : is_open cell history (length (part_of e.actor history)) ≡ true = ap (is_enabled cell history e.actor) (sym script.next) ∙ follows.enabled in
    let closed : is_open cell history (length (part_of e.actor history)) ≡ false =
    subst (λ (k : ℕ). is_open cell history (length (part_of k history)) ≡ false) (sym script.script) (stall cell history stalled).closed in
    false≢true (sym closed ∙ opened)

pub stalled_whole : (asks : Asking) (cell : CellData) (history : List Event) → AsksWhatItMay asks cell → IsLegal asks cell history → IsTrue (is_stalled cell history)
    → IsWhole asks cell history × (all_ended (length cell.tasks) history ≡ false) × (is_spent cell history ≡ false)
stalled_whole asks cell history may legal stalled = (
  record { over = λ e follows. nothing_follows asks cell history e stalled follows (who_may cell e.actor (part_of e.actor history) e.request (may.may history e.actor e.request legal follows.asked)) },
  (stall cell history stalled).one_going,
  (stall cell history stalled).steps_left,
)

-- a task that may make a request that is not enabled is stuck
waits_stuck : (cell : CellData) (history : List Event) (task : ℕ) (request : Request) → TaskMay cell task (part_of task history) request → is_enabled cell history task request ≡ false → is_stuck cell history task ≡ true
waits_stuck cell history task requests.Rise may never = by (is_held (part_of task history)) (can_rise cell history task) may.goes never
  where
    by : (held rises : Bool) → goes_with held true ≡ true → rises ≡ false → (held && not rises) ≡ true
    by true false goes closed = refl
    by true true goes closed = absurd (true≢false closed)
    by false rises goes closed = absurd (false≢true goes)
waits_stuck cell history task (requests.Input index) may never = absurd (false≢true may.suits)
waits_stuck cell history task _ may never = absurd (true≢false never)

-- after a complete history each task has ended or is stuck
one_rests : (asks : Asking) (cell : CellData) (history : List Event) (task : ℕ) → task < length cell.tasks → AsksWhatItMay asks cell → IsLegal asks cell history → is_spent cell history ≡ false
    → IsOver asks cell history task → (has_ended (part_of task history) || is_stuck cell history task) ≡ true
one_rests asks cell history task within may legal left (inl ended) = ap (λ (b : Bool). b || is_stuck cell history task) ended
one_rests asks cell history task within may legal left (inr (inr spent)) = absurd (false≢true (sym left ∙ spent))
one_rests asks cell history task within may legal left (inr (inl waits)) = by (who_may cell task (part_of task history) waits.request (may.may history task waits.request legal waits.asked))
  where
    last_so : (a b : Bool) → b ≡ true → (a || b) ≡ true
    last_so true b h = refl
    last_so false b h = h

    by : TaskMay cell task (part_of task history) waits.request ⊎ ScriptMay cell task (part_of task history) waits.request → (has_ended (part_of task history) || is_stuck cell history task) ≡ true
    by (inl known) = last_so (has_ended (part_of task history)) (is_stuck cell history task) (waits_stuck cell history task waits.request known waits.not_enabled)
    by (inr script) = absurd (let at = script.script in omega (arith, at, within))

each_rests : (cell : CellData) (history : List Event) (tasks : ℕ) → ((task : ℕ) → task < tasks → (has_ended (part_of task history) || is_stuck cell history task) ≡ true) → all_rest cell tasks history ≡ true
each_rests cell history zero each = refl
each_rests cell history (suc tasks) each =
    let earlier : all_rest cell tasks history ≡ true = each_rests cell history tasks (λ task lt. each task (omega arith)) in
    ap (λ (b : Bool). b && (has_ended (part_of tasks history) || is_stuck cell history tasks)) earlier ∙ each tasks (omega arith)

-- an open step is one of the script's
pub open_left : (cell : CellData) (history : List Event) (index : ℕ) → is_open cell history index ≡ true → index < length cell.inputs
open_left cell history index opened =
    let ended = all_ended (length cell.tasks) history in
    let gate = is_gate_open cell history (slice_get cell.inputs index) in
    let w = and_parts (index == inputs_done cell history && gate && not ended) (nat_lt (counted history) cell.steps) opened in
    let v = and_parts (index == inputs_done cell history && gate) (not ended) w.0 in
    by (slice_get cell.inputs index) refl (and_parts (index == inputs_done cell history) gate v.0).1
  where
    by : (row : Option InputRow) → slice_get cell.inputs index ≡ row → is_gate_open cell history row ≡ true → index < length cell.inputs
    by None at h = absurd (false≢true h)
    by (Some row) at h = slice_get_within cell.inputs index row at

none_open : (asks : Asking) (cell : CellData) (history : List Event) (opened : Bool) → AsksInputs asks cell → IsWhole asks cell history → is_open cell history (inputs_done cell history) ≡ opened → opened ≡ false
none_open asks cell history false inputs whole is = refl
none_open asks cell history true inputs whole is =
    let script = length cell.tasks in
    let answers = answers_of script history in
    let count : length answers ≡ inputs_done cell history = length-map (part_of script history) (λ e. e.answer) in
    let left : length answers < length cell.inputs = (let lt = open_left cell history (inputs_done cell history) is in omega (arith, count, lt)) in
    let enabled : is_open cell history (length answers) ≡ true = ap (is_open cell history) count ∙ is in
    absurd (none_follows asks cell history script (requests.Input (length answers)) whole (inputs.next answers left) enabled refl)

pub whole_stalled : (asks : Asking) (cell : CellData) (history : List Event) → AsksWhatItMay asks cell → AsksUntilItsEnd asks cell → AsksInputs asks cell → IsLegal asks cell history
    → IsWhole asks cell history → all_ended (length cell.tasks) history ≡ false → is_spent cell history ≡ false → IsTrue (is_stalled cell history)
whole_stalled asks cell history may until inputs legal whole going left =
    let rests = each_rests cell history (length cell.tasks) (λ task within. one_rests asks cell history task within may legal left (whole_over asks cell history task within until legal whole)) in
    let closed = none_open asks cell history (is_open cell history (inputs_done cell history)) inputs whole refl in
    all_four (is_spent cell history) (all_ended (length cell.tasks) history) (all_rest cell (length cell.tasks) history) (is_open cell history (inputs_done cell history)) left going rests closed
  where
    all_four : (a b c d : Bool) → a ≡ false → b ≡ false → c ≡ true → d ≡ false → (not a && not b && c && not d) ≡ true
    all_four a b c d p q r s = rw (p, q, r, s) refl
