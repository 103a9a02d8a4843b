-- The turn of a task.
use Rattle.std.proofs.Common.{◌≡◌, ℕ, ◌<◌, true, false, List, [], ◌∷◌, ◌++◌, length, Option, Some, None, refl, ap, sym, ◌∙◌, subst, inl, inr, arith}
use Rattle.std.specs.Prelude.{◌↔◌, IsSome, IsSomeAnd, is_some}
use Rattle.std.proofs.lemmas.Bool.{false≢true}
use Rattle.rapid_model.specs.CellData.{CellData}
use Rattle.rapid_model.specs.Own.{part_of, answers_of, fate_of, has_ended}
use Rattle.rapid_model.specs.declared.answer.Answer.{Answer}
use Rattle.rapid_model.specs.declared.event.Event.{Event}
use Rattle.rapid_model.specs.declared.request.Request.{Request}
use Rattle.cell_meaning.specs.Answers.{is_enabled}
use Rattle.cell_meaning.specs.Asking.{Asking, with_inputs}
use Rattle.cell_meaning.specs.Counted.{can_be_served}
use Rattle.cell_meaning.specs.Histories.{Follows, IsLegal}
use Rattle.cell_meaning.specs.Turns.{TakesTurn}
use Rattle.cell_meaning.proofs.MoreEvents.{part_of-own}
use Rattle.cell_core.specs.Serving.{event_of}
use Rattle.cell_core.proofs.Growing.{no_fate}
use Rattle.cell_crew.specs.Courses.{SuitsTask, answers_in}
use Rattle.cell_crew.specs.Crew.{AsksAsProgram}
use Rattle.cell_crew.specs.UnderWay.{UnderWay}
use Rattle.cell_crew.specs.Turned.{CannotFollow, CameOf}
use Rattle.cell_crew.proofs.Amid.{answers_in-more, ended_more, stood, way_ended, way_on}
use Rattle.cell_crew.proofs.Courses.{own_fit}

pub own_more : (task : ℕ) (history after : List Event) (request : Request) (answer : Answer) → after ≡ history ++ event_of task request answer ∷ []
    → part_of task after ≡ part_of task history ++ event_of task request answer ∷ []
own_more task history after request answer is = ap (λ (h : List Event). part_of task h) is ∙ part_of-own task history (event_of task request answer) refl

-- a request that cannot follow does not
cannot_follow : (asks : Asking) (cell : CellData) (history : List Event) (e : Event) (actor : ℕ) (request : Request) → CannotFollow cell history actor request → e.actor ≡ actor → e.request ≡ request
    → Follows asks cell history e → ⊥
cannot_follow asks cell history e actor request (inl unserved) by is follows =
    false≢true (sym unserved ∙ ap (λ (r : Request). can_be_served cell history r) (sym is) ∙ follows.served)
cannot_follow asks cell history e actor request (inr waits) by is follows =
    false≢true (sym waits ∙ ap (λ (r : Request). is_enabled cell history actor r) (sym is) ∙ ap (λ (a : ℕ). is_enabled cell history a e.request) (sym by) ∙ follows.enabled)

-- an answer that came is a turn of the actor
pub answered_turn : (asks : Asking) (cell : CellData) (actor : ℕ) (history after : List Event) (request : Request) (answer : Answer) → CameOf asks cell history actor request after (Some answer)
    → TakesTurn asks cell actor history after
answered_turn asks cell actor history after request answer came = inl (record { event = event_of actor request answer; by = refl; follows = came.0; added = came.1 })

-- the outcome of the one request that an actor asks is its turn
pub came_turn : (asks : Asking) (cell : CellData) (actor : ℕ) (history after : List Event) (request : Request) (answer : Option Answer)
    → ((other : Request) → asks actor (answers_of actor history) other → other ≡ request)
    → CameOf asks cell history actor request after answer → TakesTurn asks cell actor history after
came_turn asks cell actor history after request (Some answer) one came = answered_turn asks cell actor history after request answer came
came_turn asks cell actor history after request None one came =
    inr (record {
      none = λ e by follows. cannot_follow asks cell history e actor request came.0 by (one e.request (subst (λ (a : ℕ). asks a (answers_of a history) e.request) by follows.asked)) follows;
      same = came.1;
    })

module _ {M P : Type 0} (program : M → P) (fits : P → List Answer → Type 0) (program_asks : P → List Answer → Request → Type 0) (stands_for : M → List Answer → Type 0) (due : M → Option Request) where
  -- what holds of the machine of a task that has not ended, during its turn
  pub record AtTurn (asks : Asking) (cell : CellData) (task : ℕ) (m : M) (history : List Event) (request : Request) : Type 0 where
    pub asks_due : (x : M) (answers : List Answer) (r other : Request) → stands_for x answers → due x ≡ Some r → program_asks (program x) answers other ↔ (other ≡ r)
    pub within : task < length cell.tasks
    pub asks_as : AsksAsProgram fits program_asks asks task (program m)
    pub suits : SuitsTask fits program_asks cell task (program m)
    pub legal : IsLegal (with_inputs asks cell) cell history
    pub way : UnderWay stands_for due m (part_of task history)
    pub going : has_ended (part_of task history) ≡ false
    pub is_due : due m ≡ Some request

  -- the answers that the task got fit its program
  fit_after : (asks : Asking) (cell : CellData) (task : ℕ) (m : M) (history after : List Event) (request : Request) → AtTurn asks cell task m history request → IsLegal (with_inputs asks cell) cell after
      → fits (program m) (answers_of task after)
  fit_after asks cell task m history after request at legal = own_fit program_asks cell task (program m) fits asks at.within at.asks_as at.suits.fit after legal

  -- the program asks exactly what is due
  asks_just : (asks : Asking) (cell : CellData) (task : ℕ) (m : M) (history : List Event) (request : Request) → AtTurn asks cell task m history request
      → (other : Request) → asks task (answers_of task history) other ↔ (other ≡ request)
  asks_just asks cell task m history request at other =
      let same = at.asks_as.same (answers_of task history) other (fit_after asks cell task m history history request at at.legal) in
      let just = at.asks_due m (answers_of task history) request other (stood stands_for due m (part_of task history) at.way at.going) at.is_due in
      (λ asked. just.0 (same.0 asked), λ is. same.1 (just.1 is))

  pub asks_it : (asks : Asking) (cell : CellData) (task : ℕ) (m : M) (history : List Event) (request : Request) → AtTurn asks cell task m history request
      → with_inputs asks cell task (answers_of task history) request
  asks_it asks cell task m history request at = inl (record { task = at.within; asked = (asks_just asks cell task m history request at request).1 refl })

  pub asks_only : (asks : Asking) (cell : CellData) (task : ℕ) (m : M) (history : List Event) (request : Request) → AtTurn asks cell task m history request
      → (other : Request) → with_inputs asks cell task (answers_of task history) other → other ≡ request
  asks_only asks cell task m history request at other (inl t) = (asks_just asks cell task m history request at other).0 t.asked
  asks_only asks cell task m history request at other (inr s) = let script = s.script in let within = at.within in absurd (omega (arith, script, within))

  -- the answer that the cell gave fits its program
  pub fits_it : (asks : Asking) (cell : CellData) (task : ℕ) (m : M) (history after : List Event) (request : Request) (answer : Answer) → AtTurn asks cell task m history request
      → IsLegal (with_inputs asks cell) cell after → after ≡ history ++ event_of task request answer ∷ [] → (answers : List Answer) × stands_for m answers × fits (program m) (answers ++ answer ∷ [])
  fits_it asks cell task m history after request answer at legal is =
      let all : answers_of task after ≡ answers_of task history ++ answer ∷ [] =
      ap answers_in (own_more task history after request answer is) ∙ answers_in-more (part_of task history) (event_of task request answer) in
      (answers_of task history, stood stands_for due m (part_of task history) at.way at.going, subst (λ (xs : List Answer). fits (program m) xs) all (fit_after asks cell task m history after request at legal))

  -- whether it has ended with that event
  ends_it : (asks : Asking) (cell : CellData) (task : ℕ) (m : M) (history after : List Event) (request : Request) (answer : Answer) → AtTurn asks cell task m history request
      → after ≡ history ++ event_of task request answer ∷ [] → has_ended (part_of task after) ≡ is_some (fate_of request)
  ends_it asks cell task m history after request answer at is =
      ap (λ (es : List Event). has_ended es) (own_more task history after request answer is) ∙ ended_more (part_of task history) (event_of task request answer) at.going

  -- if it has not, its End was not due
  pub goes_on_it : (asks : Asking) (cell : CellData) (task : ℕ) (m : M) (history after : List Event) (request : Request) (answer : Answer) → AtTurn asks cell task m history request
      → after ≡ history ++ event_of task request answer ∷ [] → has_ended (part_of task after) ≡ false → IsSomeAnd (due m) (λ r. fate_of r ≡ None)
  goes_on_it asks cell task m history after request answer at is going =
      subst (λ (o : Option Request). IsSomeAnd o (λ r. fate_of r ≡ None)) (sym at.is_due) (no_fate (fate_of request) (sym (ends_it asks cell task m history after request answer at is) ∙ going))

  -- if it has, its machine is under way as it is
  pub way_ends : (asks : Asking) (cell : CellData) (task : ℕ) (m : M) (history after : List Event) (request : Request) (answer : Answer) → AtTurn asks cell task m history request
      → after ≡ history ++ event_of task request answer ∷ [] → has_ended (part_of task after) ≡ true → UnderWay stands_for due m (part_of task after)
  way_ends asks cell task m history after request answer at is end =
      subst (λ (es : List Event). UnderWay stands_for due m es) (sym (own_more task history after request answer is))
      (way_ended stands_for due m (part_of task history) (event_of task request answer) (sym (ends_it asks cell task m history after request answer at is) ∙ end) at.going at.way)

  -- and if it has not, the machine is under way once it has gone on with the answer
  pub way_goes_on : (asks : Asking) (cell : CellData) (task : ℕ) (m later : M) (history after : List Event) (request : Request) (answer : Answer) → AtTurn asks cell task m history request
      → after ≡ history ++ event_of task request answer ∷ [] → has_ended (part_of task after) ≡ false → IsSome (due later)
      → ((before : List Answer) → stands_for m before → stands_for later (before ++ answer ∷ [])) → UnderWay stands_for due later (part_of task after)
  way_goes_on asks cell task m later history after request answer at is going asked on =
      subst (λ (es : List Event). UnderWay stands_for due later es) (sym (own_more task history after request answer is))
      (way_on stands_for due m later (part_of task history) (event_of task request answer) (sym (ends_it asks cell task m history after request answer at is) ∙ going) at.way asked on)
