-- The history of a run whose tasks and input script have stopped: it is legal, and nothing can follow it.
use Rattle.std.proofs.Common.{◌≡◌, ◌⊎◌, inl, inr, ℕ, ◌<◌, Bool, true, false, cond, not, List, [], ◌∷◌, ◌++◌, length, Option, Some, None, refl, sym, ◌∙◌, ap, subst, arith, append-nil}
use Rattle.std.specs.Prelude.{◌↔◌, ◌&&◌, ◌||◌, ◌==◌, IsSomeAnd, IsTrue, nat_lt, nat_le, slice_get}
use Rattle.std.proofs.lemmas.Bool.{and_parts, eq-eqb, false≢true, le-ltb, leb-true}
use Rattle.std.proofs.lemmas.List.{length-map}
use Rattle.std.proofs.lemmas.List.Elements.{filter-append}
use mathlib.Core.List.{IsPrefix}
use Rattle.rapid_model.proofs.Cuts.{cut_before}
use Rattle.rapid_model.specs.CellData.{CellData}
use Rattle.rapid_model.specs.Own.{part_of, answers_of, has_ended}
use Rattle.rapid_model.specs.declared.answer.Answer.{Answer}
use Rattle.rapid_model.specs.declared.event.Event.{Event}
use Rattle.rapid_model.specs.declared.request.Request.{Request}
use Rattle.rapid_model.specs.declared.request.Request.TheVariants as requests
use Rattle.cell_meaning.specs.Answers.{is_enabled}
use Rattle.cell_meaning.specs.Asking.{Asking, InputsAsk, TaskAsks, with_inputs}
use Rattle.cell_meaning.specs.Counted.{can_be_served, counted}
use Rattle.cell_meaning.specs.Fates.{all_ended, is_spent}
use Rattle.cell_meaning.specs.Histories.{Follows, IsLegal, IsWhole, is_fit}
use Rattle.cell_meaning.specs.Inputs.{inputs_done, is_gate_open, is_open}
use Rattle.cell_meaning.specs.Premises.{AsksWhatItMay}
use Rattle.cell_meaning.specs.Stalled.{is_stalled}
use Rattle.cell_meaning.proofs.Asked.{TaskMay, ScriptMay, who_may}
use Rattle.cell_meaning.proofs.Stalls.{stalled_whole}
use Rattle.cell_core.specs.Soundness.{IsSound}
use Rattle.cell_gate.specs.PassData.{PassData}
use Rattle.cell_gate.specs.Causes.{is_over}
use Rattle.cell_crew.specs.Courses.{answers_in, IsCourse, SuitsTask}
use Rattle.cell_crew.specs.Crew.{AsksAsProgram}
use Rattle.cell_crew.specs.UnderWay.{UnderWay}
use Rattle.cell_crew.proofs.Amid.{stood}
use Rattle.cell_crew.proofs.Courses.{course_before}
use Rattle.free_crew.specs.Amid.{HasCause, is_stopped}
use Rattle.free_crew.specs.declared.standing.Standing.{Standing}
use Rattle.free_crew.specs.declared.standing.Standing.TheVariants as standings
use Rattle.free_crew.proofs.Later.{all_ended_later, counted_longer, done_later, unserved_later}

part_cut : (actor : ℕ) (before after : List Event) (e : Event) → e.actor ≡ actor → part_of actor (before ++ e ∷ after) ≡ part_of actor before ++ e ∷ part_of actor after
part_cut actor before after e own =
    filter-append (λ f. f.actor == actor) before (e ∷ after)
    ∙ ap (λ (b : Bool). part_of actor before ++ cond b (e ∷ part_of actor after) (part_of actor after)) (eq-eqb e.actor actor own)

module _ {M P : Type 0} (program : M → P) (fits : P → List Answer → Type 0) (program_asks : P → List Answer → Request → Type 0) (stands_for : M → List Answer → Type 0) (due : M → Option Request)
    (asks : Asking) (cell : CellData) (history : List Event) where
  -- a task that has stopped, and what its pass has seen of the history
  pub record Stops (task : ℕ) : Type 0 where
    pub machine : M
    pub pass : PassData
    pub standing : Standing
    pub asks_as : AsksAsProgram fits program_asks asks task (program machine)
    pub suits : SuitsTask fits program_asks cell task (program machine)
    pub course : IsCourse program_asks cell task (program machine) (part_of task history)
    pub way : UnderWay stands_for due machine (part_of task history)
    pub mine : pass.mine ≡ part_of task history
    pub begins : IsPrefix pass.seen history
    pub cause : HasCause (due machine) cell pass standing
    pub stopped : is_stopped standing ≡ true

module _ {M P : Type 0} (program : M → P) (fits : P → List Answer → Type 0) (program_asks : P → List Answer → Request → Type 0) (stands_for : M → List Answer → Type 0) (due : M → Option Request)
    (asks_due : (x : M) (answers : List Answer) (r other : Request) → stands_for x answers → due x ≡ Some r → program_asks (program x) answers other ↔ (other ≡ r))
    (asks : Asking) (cell : CellData) (history : List Event) where
  abbrev Stopped : ℕ → Type 0
  Stopped task = Stops program fits program_asks stands_for due asks cell history task

  module _ (each : (task : ℕ) → task < length cell.tasks → Stopped task) (sound : IsSound cell history) where
    its_own : (task : ℕ) (before after : List Event) (e : Event) → task < length cell.tasks → history ≡ before ++ e ∷ after → e.actor ≡ task
        → asks task (answers_of task before) e.request
    its_own task before after e within is by =
        let t = each task within in
        let cut : part_of task history ≡ part_of task before ++ e ∷ part_of task after = ap (λ (es : List Event). part_of task es) is ∙ part_cut task before after e by in
        let asked : program_asks (program t.machine) (answers_in (part_of task before)) e.request = (t.course.at (part_of task before) (part_of task after) e cut).asked in
        let front = course_before program_asks cell task (program t.machine) (part_of task history) (part_of task before) (e ∷ part_of task after) cut t.course in
        (t.asks_as.same (answers_of task before) e.request (t.suits.fit (part_of task before) front)).1 asked

    asked_by : (before after : List Event) (e : Event) → history ≡ before ++ e ∷ after → TaskMay cell e.actor (part_of e.actor before) e.request ⊎ ScriptMay cell e.actor (part_of e.actor before) e.request
        → with_inputs asks cell e.actor (answers_of e.actor before) e.request
    asked_by before after e is (inl t) = inl (record { task = t.within; asked = its_own e.actor before after e t.within is refl })
    asked_by before after e is (inr s) =
        let count : length (answers_of e.actor before) ≡ length (part_of e.actor before) = length-map (part_of e.actor before) (λ e. e.answer) in
        let left = s.left in
        inr (record { script = s.script; left = omega (arith, count, left); next = s.next ∙ ap (λ (k : ℕ). requests.Input k) (sym count) })

    pub legal : IsLegal (with_inputs asks cell) cell history
    legal = record {
      at = λ before after e is.
          let s = sound.at before after e is in
          record { asked = asked_by before after e is (who_may cell e.actor (part_of e.actor before) e.request s.asked); enabled = s.enabled; served = s.served; answered = s.answered };
      fits = λ before after e is. (sound.at before after e is).fits;
    }

    -- if the cell was stalled after a prefix, that is the whole history
    stalled_here : (seen : List Event) → AsksWhatItMay (with_inputs asks cell) cell → IsPrefix seen history → is_stalled cell seen ≡ true → IsWhole (with_inputs asks cell) cell history
    stalled_here seen may begins stalled = by begins.0 begins.1
      where
        front : (rest : List Event) → seen ++ rest ≡ history → IsLegal (with_inputs asks cell) cell seen
        front rest is = record {
          at = cut_before (λ before e. Follows (with_inputs asks cell) cell before e) history seen rest (sym is) legal.at;
          fits = cut_before (λ before e. IsTrue (is_fit cell before e)) history seen rest (sym is) legal.fits;
        }

        by : (rest : List Event) → seen ++ rest ≡ history → IsWhole (with_inputs asks cell) cell history
        by [] is = subst (λ (h : List Event). IsWhole (with_inputs asks cell) cell h) (sym (append-nil seen) ∙ is) (stalled_whole (with_inputs asks cell) cell seen may (front [] is) stalled).0
        by (e ∷ rest) is = absurd ((stalled_whole (with_inputs asks cell) cell seen may (front (e ∷ rest) is) stalled).0.over e (legal.at seen rest e (sym is)))

    -- no event of a task can follow
    no_task : AsksWhatItMay (with_inputs asks cell) cell → (e : Event) → Follows (with_inputs asks cell) cell history e → TaskAsks asks cell e.actor (answers_of e.actor history) e.request
        → Stopped e.actor → ⊥
    no_task may e follows asked t = by t.standing t.stopped t.cause
      where
        its : program_asks (program t.machine) (answers_in (part_of e.actor history)) e.request
        its = (t.asks_as.same (answers_of e.actor history) e.request (t.suits.fit (part_of e.actor history) t.course)).0 asked.asked

        going_on : TaskMay cell e.actor (part_of e.actor history) e.request ⊎ ScriptMay cell e.actor (part_of e.actor history) e.request → has_ended (part_of e.actor history) ≡ false
        going_on (inl m) = m.alive
        going_on (inr s) = (let is = s.script in let within = asked.task in absurd (omega (arith, is, within)))

        going : has_ended (part_of e.actor history) ≡ false
        going = going_on (who_may cell e.actor (part_of e.actor history) e.request (t.suits.may (part_of e.actor history) e.request t.course its))

        cut : (o : Option Request) → due t.machine ≡ o → IsSomeAnd o (λ r. can_be_served cell t.pass.seen r ≡ false) → ⊥
        cut None is none = absurd none
        cut (Some r) is unserved =
            let same : e.request ≡ r = (asks_due t.machine (answers_in (part_of e.actor history)) r e.request (stood stands_for due t.machine (part_of e.actor history) t.way going) is).0 its in
            let late : can_be_served cell history r ≡ false = unserved_later cell t.pass.seen history r t.begins unserved in
            false≢true (sym late ∙ ap (λ (x : Request). can_be_served cell history x) (sym same) ∙ follows.served)

        by : (s : Standing) → is_stopped s ≡ true → HasCause (due t.machine) cell t.pass s → ⊥
        by standings.Going p cause = absurd (false≢true p)
        by standings.Waiting p cause = absurd (false≢true p)
        by standings.Ended p cause = false≢true (sym going ∙ ap (λ (es : List Event). has_ended es) (sym t.mine) ∙ cause)
        by standings.Cut p cause = cut (due t.machine) refl cause.unserved
        by standings.Stalled p cause = (stalled_here t.pass.seen may t.begins cause).over e follows

    -- no event of the input script can follow
    no_input : AsksWhatItMay (with_inputs asks cell) cell → (seen : List Event) (e : Event) → IsPrefix seen history → is_over cell seen ≡ true → Follows (with_inputs asks cell) cell history e
        → InputsAsk cell e.actor (answers_of e.actor history) e.request → ⊥
    no_input may seen e begins over follows asked =
        let n = length cell.tasks in
        let index = length (answers_of e.actor history) in
        let opened : is_open cell history index ≡ true = ap (is_enabled cell history e.actor) (sym asked.next) ∙ follows.enabled in
        let first = and_parts (index == inputs_done cell history && is_gate_open cell history (slice_get cell.inputs index) && not (all_ended n history)) (nat_lt (counted history) cell.steps) opened in
        let second = and_parts (index == inputs_done cell history && is_gate_open cell history (slice_get cell.inputs index)) (not (all_ended n history)) first.0 in
        let count : index ≡ inputs_done cell history = length-map (part_of e.actor history) (λ f. f.answer) ∙ ap (λ (a : ℕ). length (part_of a history)) asked.script in
        by (nat_le (length cell.inputs) (inputs_done cell seen)) (all_ended n seen) (is_spent cell seen) (is_stalled cell seen) refl refl refl refl first.1 second.1 count over
      where
        by : (done ended spent stalled : Bool) → nat_le (length cell.inputs) (inputs_done cell seen) ≡ done → all_ended (length cell.tasks) seen ≡ ended → is_spent cell seen ≡ spent → is_stalled cell seen ≡ stalled
            → nat_lt (counted history) cell.steps ≡ true → not (all_ended (length cell.tasks) history) ≡ true → length (answers_of e.actor history) ≡ inputs_done cell history
            → (done || ended || spent || stalled) ≡ true → ⊥
        by true ended spent stalled a b c d steps going count h =
            let none = leb-true (length cell.inputs) (inputs_done cell seen) a in
            let later = done_later cell seen history begins in
            let left = asked.left in
            omega (arith, none, later, left, count)
        by false true spent stalled a b c d steps going count h = false≢true (sym (ap not (all_ended_later (length cell.tasks) seen history begins b)) ∙ going)
        by false false true stalled a b c d steps going count h =
            let w = and_parts (not (all_ended (length cell.tasks) seen)) (nat_le cell.steps (counted seen)) c in
            let few = leb-true cell.steps (counted seen) w.1 in
            let more = counted_longer seen history begins in
            false≢true (sym (le-ltb (counted history) cell.steps (omega (arith, few, more))) ∙ steps)
        by false false false true a b c d steps going count h = (stalled_here seen may begins d).over e follows
        by false false false false a b c d steps going count h = absurd (false≢true h)

    pub whole : AsksWhatItMay (with_inputs asks cell) cell → (seen : List Event) → IsPrefix seen history → is_over cell seen ≡ true → IsWhole (with_inputs asks cell) cell history
    whole may seen begins over = record {
      over = λ e follows. elim follows.asked [
        | inl asked ↦ no_task may e follows asked (each e.actor asked.task)
        | inr asked ↦ no_input may seen e begins over follows asked
      ];
    }
