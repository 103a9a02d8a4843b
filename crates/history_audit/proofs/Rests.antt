-- Whether an event of a task or of the input script can follow a history.
use Rattle.std.proofs.Common.{◌≡◌, ◌<◌, ◌⊎◌, inl, inr, ℕ, ◌+◌, Bool, true, false, not, List, length, Option, Some, None, refl, ap, sym, ◌∙◌, subst, arith}
use Rattle.std.specs.Prelude.{◌↔◌, ◌&&◌, ◌==◌, IsTrue, nat_lt, nat_le, slice_get}
use Rattle.std.proofs.lemmas.Bool.{and_from, and_parts, cases_lt, false≢true, le-leb, le-ltb, lt-leb, lt-ltb, true≢false}
use Rattle.std.proofs.lemmas.Option.{slice_get_within}
use Rattle.rapid_model.specs.CellData.{CellData}
use Rattle.rapid_model.specs.Own.{part_of, answers_of, has_ended}
use Rattle.rapid_model.specs.declared.event.Event.{Event}
use Rattle.rapid_model.specs.declared.fate.Fate.{Fate}
use Rattle.rapid_model.specs.declared.input_row.InputRow.{InputRow}
use Rattle.rapid_model.specs.declared.request.Request.{Request}
use Rattle.rapid_model.specs.declared.request.Request.TheVariants as requests
use Rattle.cell_meaning.specs.Answers.{is_enabled}
use Rattle.cell_meaning.specs.Asking.{Asking, InputsAsk, TaskAsks, with_inputs}
use Rattle.cell_meaning.specs.Counted.{can_be_served, counted}
use Rattle.cell_meaning.specs.Fates.{all_ended, is_spent}
use Rattle.cell_meaning.specs.Histories.{Follows, IsLegal, IsWhole}
use Rattle.cell_meaning.specs.Inputs.{inputs_done, is_gate_open, is_open}
use Rattle.cell_meaning.specs.MayAsk.{may_ask}
use Rattle.cell_meaning.specs.Premises.{AsksWhatItMay}
use Rattle.cell_meaning.specs.Rising.{can_rise}
use Rattle.cell_meaning.proofs.Asked.{TaskMay, ScriptMay, who_may}
use Rattle.cell_meaning.proofs.Ending.{none_follows, one_going}
use Rattle.cell_meaning.proofs.Stalls.{open_left}
use Rattle.history_audit.proofs.Causes.{done_asks_nothing}
use Rattle.history_audit.proofs.Scripts.{steps_answered}

-- which requests of a task are served at once

task_may : (cell : CellData) (task : ℕ) (mine : List Event) (request : Request) → task < length cell.tasks → IsTrue (may_ask cell task mine request) → TaskMay cell task mine request
task_may cell task mine request within may = by (who_may cell task mine request may)
  where
    by : TaskMay cell task mine request ⊎ ScriptMay cell task mine request → TaskMay cell task mine request
    by (inl known) = known
    by (inr script) = absurd (let is = script.script in omega (arith, within, is))

below_or_not : (n steps : ℕ) → not (nat_le steps n) ≡ nat_lt n steps
below_or_not n steps = elim (cases_lt n steps) [
  | inl lt ↦ ap (λ (b : Bool). not b) (lt-leb steps n lt) ∙ sym (lt-ltb n steps lt)
  | inr ge ↦ ap (λ (b : Bool). not b) (le-leb steps n ge) ∙ sym (le-ltb n steps ge)
]

-- while a task has not ended, the steps are not spent exactly if some are left
steps_left : (cell : CellData) (history : List Event) (task : ℕ) → task < length cell.tasks → has_ended (part_of task history) ≡ false → not (is_spent cell history) ≡ nat_lt (counted history) cell.steps
steps_left cell history task within going =
    ap (λ (b : Bool). not (not b && nat_le cell.steps (counted history))) (one_going (length cell.tasks) task history within going) ∙ below_or_not (counted history) cell.steps

and_true : (b : Bool) → (b && true) ≡ b
and_true true = refl
and_true false = refl

module _ (cell : CellData) (history : List Event) (task : ℕ) where
  -- an End always is
  pub end_served : (request : Request) (fate : Fate) → request ≡ requests.End fate → true ≡ (can_be_served cell history request && is_enabled cell history task request)
  end_served request fate is = sym (ap (λ (r : Request). can_be_served cell history r && is_enabled cell history task r) is)

  module _ (within : task < length cell.tasks) where
    -- a Rise, if steps are left and the task can go on
    pub rise_served : (request : Request) (spent rises : Bool) → IsTrue (may_ask cell task (part_of task history) request) → request ≡ requests.Rise → spent ≡ is_spent cell history → rises ≡ can_rise cell history task
        → (not spent && rises) ≡ (can_be_served cell history request && is_enabled cell history task request)
    rise_served request spent rises may is no_steps goes =
        let known = task_may cell task (part_of task history) request within may in
        ap (λ (b : Bool). not b && rises) no_steps ∙ ap (λ (b : Bool). not (is_spent cell history) && b) goes
        ∙ ap (λ (b : Bool). b && can_rise cell history task) (steps_left cell history task within known.alive)
        ∙ sym (ap (λ (r : Request). can_be_served cell history r && is_enabled cell history task r) is)

    -- any other, if steps are left
    plain : (request : Request) → TaskMay cell task (part_of task history) request → ((fate : Fate) → request ≡ requests.End fate → ⊥) → (request ≡ requests.Rise → ⊥)
        → nat_lt (counted history) cell.steps ≡ (can_be_served cell history request && is_enabled cell history task request)
    plain (requests.End fate) known no_end no_rise = absurd (no_end fate refl)
    plain requests.Rise known no_end no_rise = absurd (no_rise refl)
    plain (requests.Input index) known no_end no_rise = absurd (false≢true known.suits)
    plain _ known no_end no_rise = sym (and_true (nat_lt (counted history) cell.steps))

    pub plain_served : (request : Request) (spent : Bool) → IsTrue (may_ask cell task (part_of task history) request) → ((fate : Fate) → request ≡ requests.End fate → ⊥) → (request ≡ requests.Rise → ⊥)
        → spent ≡ is_spent cell history → not spent ≡ (can_be_served cell history request && is_enabled cell history task request)
    plain_served request spent may no_end no_rise no_steps =
        let known = task_may cell task (part_of task history) request within may in
        ap (λ (b : Bool). not b) no_steps ∙ steps_left cell history task within known.alive ∙ plain request known no_end no_rise

-- a task that has ended
pub ended_rests : (asks : Asking) (cell : CellData) (history : List Event) (task : ℕ) → AsksWhatItMay asks cell → IsLegal asks cell history → task < length cell.tasks → has_ended (part_of task history) ≡ true
    → (e : Event) → e.actor ≡ task → Follows asks cell history e → ⊥
ended_rests asks cell history task may legal within ended e by follows =
    done_asks_nothing asks cell history task e.request may legal (inl (within, ended)) (subst (λ (k : ℕ). asks k (answers_of k history) e.request) by follows.asked)

-- whether the one request of a task is served says whether an event of it can follow

module _ (asks : Asking) (cell : CellData) (history : List Event) (task : ℕ) (due : Request) (served : Bool)
    (is : served ≡ (can_be_served cell history due && is_enabled cell history task due)) where
  pub step_goes : asks task (answers_of task history) due → served ≡ true → IsWhole asks cell history → ⊥
  step_goes asked yes_served whole =
      let parts = and_parts (can_be_served cell history due) (is_enabled cell history task due) (sym is ∙ yes_served) in
      none_follows asks cell history task due whole asked parts.1 parts.0

  pub step_rests : ((other : Request) → asks task (answers_of task history) other → other ≡ due) → served ≡ false → (e : Event) → e.actor ≡ task → Follows asks cell history e → ⊥
  step_rests alone unserved e by follows =
      let same : e.request ≡ due = alone e.request (subst (λ (k : ℕ). asks k (answers_of k history) e.request) by follows.asked) in
      let served_it : can_be_served cell history due ≡ true = ap (λ (r : Request). can_be_served cell history r) (sym same) ∙ follows.served in
      let enabled : is_enabled cell history task due ≡ true =
      ap (λ (k : ℕ). is_enabled cell history k due) (sym by) ∙ ap (λ (r : Request). is_enabled cell history e.actor r) (sym same) ∙ follows.enabled in
      false≢true (sym unserved ∙ is ∙ and_from (can_be_served cell history due) (is_enabled cell history task due) served_it enabled)

-- if a step of the input script is open, it can follow
pub input_goes : (asks : Asking) (cell : CellData) (history : List Event) → is_open cell history (inputs_done cell history) ≡ true → IsWhole (with_inputs asks cell) cell history → ⊥
input_goes asks cell history opened whole =
    let script = length cell.tasks in
    let count = steps_answered cell history script refl in
    let left : length (answers_of script history) < length cell.inputs = (let lt = open_left cell history (inputs_done cell history) opened in omega (arith, count, lt)) in
    let enabled : is_open cell history (length (answers_of script history)) ≡ true = ap (is_open cell history) count ∙ opened in
    none_follows (with_inputs asks cell) cell history script (requests.Input (length (answers_of script history))) whole (inr (record { script = refl; left = left; next = refl })) enabled refl

-- nothing follows if none is, and no event of a task can
pub all_rest : (asks : Asking) (cell : CellData) (history : List Event) → is_open cell history (inputs_done cell history) ≡ false
    → ((task : ℕ) → task < length cell.tasks → (e : Event) → e.actor ≡ task → Follows (with_inputs asks cell) cell history e → ⊥) → IsWhole (with_inputs asks cell) cell history
all_rest asks cell history closed each = record { over = λ e follows. by e follows follows.asked }
  where
    by : (e : Event) → Follows (with_inputs asks cell) cell history e → with_inputs asks cell e.actor (answers_of e.actor history) e.request → ⊥
    by e follows (inl task) = each e.actor task.task e refl follows
    by e follows (inr script) =
        let enabled : is_open cell history (length (answers_of e.actor history)) ≡ true = ap (λ (r : Request). is_enabled cell history e.actor r) (sym script.next) ∙ follows.enabled in
        let same : length (answers_of e.actor history) ≡ inputs_done cell history = steps_answered cell history e.actor script.script in
        false≢true (sym closed ∙ ap (is_open cell history) (sym same) ∙ enabled)

-- the tasks before this one rest
abbrev pub EarlierRest : Asking → CellData → List Event → ℕ → Type 0
EarlierRest asks cell history k = (task : ℕ) → task < k → (e : Event) → e.actor ≡ task → ¬ Follows asks cell history e

pub one_more_rests : (asks : Asking) (cell : CellData) (history : List Event) (k : ℕ) → EarlierRest asks cell history k → ((e : Event) → e.actor ≡ k → Follows asks cell history e → ⊥) → EarlierRest asks cell history (k + 1)
one_more_rests asks cell history k earlier this task lt e by follows = elim (cases_lt task k) [
  | inl less ↦ earlier task less e by follows
  | inr ge ↦ (let same : task ≡ k = omega (arith, ge, lt) in this e (by ∙ same) follows)
]
