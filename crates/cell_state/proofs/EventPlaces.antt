-- One event of a legal history, seen at the machines that have asked what follows the events before it.
use Rattle.std.proofs.Common.{◌≡◌, ◌<◌, ◌≤◌, ◌+◌, inl, refl, sym, ap, ◌∙◌, subst, ℕ, Bool, true, false, List, [], ◌∷◌, ◌++◌, length, take, drop, Option, Some, None}
use Rattle.std.specs.Prelude.{IsSome, slice_get, slice_set}
use Rattle.std.proofs.lemmas.Bool.{false≢true}
use Rattle.std.proofs.lemmas.List.{length-map, take-append-drop}
use Rattle.std.proofs.lemmas.Option.{slice_get_past}
use Rattle.rapid_model.specs.CellData.{CellData}
use Rattle.rapid_model.specs.Own.{part_of, answers_of, has_ended}
use Rattle.rapid_model.specs.declared.answer.Answer.{Answer}
use Rattle.rapid_model.specs.declared.at.At.{At}
use Rattle.rapid_model.specs.declared.event.Event.{Event}
use Rattle.rapid_model.specs.declared.request.Request.{Request}
use Rattle.stack_code.specs.CodeData.{CodeData}
use Rattle.task_code.specs.Asking.{CodeAsks}
use Rattle.task_code.specs.Live.{CodeFits}
use Rattle.cell_meaning.specs.Asking as asking
use Rattle.cell_meaning.specs.Asking.{with_inputs}
use Rattle.cell_meaning.specs.Histories.{IsLegal}
use Rattle.cell_meaning.specs.Premises.{AsksWhatItMay}
use Rattle.cell_meaning.specs.Turns.{TakesTurn}
use Rattle.cell_meaning.proofs.MoreEvents.{part_of-own}
use Rattle.cell_crew.specs.Courses.{SuitsTask}
use Rattle.cell_crew.specs.Crew.{AsksAsProgram}
use Rattle.cell_crew.specs.UnderWay.{AreUnderWay, UnderWay}
use Rattle.cell_crew.proofs.Amid.{stood}
use Rattle.cell_crew.proofs.Crews.{map_at, under_way_other, under_way_turn}
use Rattle.cell_crew.proofs.Turning.{AtTurn, asks_only, fits_it}
use Rattle.history_audit.proofs.Causes.{done_asks_nothing}
use Rattle.history_audit.proofs.Fronts.{legal_front}
use Rattle.task_machine.specs.MachineData.{MachineData, request_of}
use Rattle.task_machine.specs.Programs.{asks_due}
use Rattle.task_machine.specs.Standing.{StandsFor}
use Rattle.cell_state.specs.Codes.{IsReachedBy}
use Rattle.cell_state.specs.States.{TaskStateData, standing}
use Rattle.cell_state.specs.Traces.{IsAskedAt, IsPlaceBy}
use Rattle.cell_state.proofs.Arrived.{asks_there}
use Rattle.cell_state.proofs.Elements.{take_next}
use Rattle.cell_state.proofs.Replayed.{codes_of}

-- the first events are legal too
pub legal_first : (asks : asking.Asking) (cell : CellData) (history : List Event) (k : ℕ) → IsLegal (with_inputs asks cell) cell history → IsLegal (with_inputs asks cell) cell (take k history)
legal_first asks cell history k legal = legal_front (with_inputs asks cell) cell history (take k history) (drop k history) (sym (take-append-drop k history)) legal

some_there : {A : Type 0} (o : Option A) → IsSome o → (x : A) × (o ≡ Some x)
some_there None is = absurd (false≢true is)
some_there (Some x) is = (x, refl)

-- an event is a turn of its actor
turn_of : (asks : asking.Asking) (cell : CellData) (history : List Event) (k : ℕ) (e : Event) → slice_get history k ≡ Some e → IsLegal (with_inputs asks cell) cell history
    → TakesTurn (with_inputs asks cell) cell e.actor (take k history) (take (k + 1) history)
turn_of asks cell history k e there legal =
    let more : take (k + 1) history ≡ take k history ++ e ∷ [] = take_next history k e there in
    inl (record { event = e; by = refl; follows = (legal_first asks cell history (k + 1) legal).at (take k history) [] e more; added = more })

-- an event of a task
module _ (asks : asking.Asking) (cell : CellData) (m : MachineData) (history : List Event) (k : ℕ) (e : Event) (there : slice_get history k ≡ Some e) (within : e.actor < length cell.tasks)
    (as_code : AsksAsProgram CodeFits CodeAsks asks e.actor m.code) (suits : SuitsTask CodeFits CodeAsks cell e.actor m.code) (may : AsksWhatItMay (with_inputs asks cell) cell)
    (legal : IsLegal (with_inputs asks cell) cell history) (way : UnderWay StandsFor request_of m (part_of e.actor (take k history))) where
  more : take (k + 1) history ≡ take k history ++ e ∷ []
  more = take_next history k e there

  -- its task has not ended before
  pub still_going : has_ended (part_of e.actor (take k history)) ≡ false
  still_going = by (has_ended (part_of e.actor (take k history))) refl
    where
      by : (b : Bool) → has_ended (part_of e.actor (take k history)) ≡ b → has_ended (part_of e.actor (take k history)) ≡ false
      by false is = is
      by true is =
          done_asks_nothing (with_inputs asks cell) cell (take k history) e.actor e.request may (legal_first asks cell history k legal) (inl (within, is))
          ((legal_first asks cell history (k + 1) legal).at (take k history) [] e more).asked

  at_due : (request : Request) → request_of m ≡ Some request → AtTurn (λ (x : MachineData). x.code) CodeFits CodeAsks StandsFor request_of asks cell e.actor m (take k history) request
  at_due request is = record {
    asks_due = asks_due;
    within = within;
    asks_as = as_code;
    suits = suits;
    legal = legal_first asks cell history k legal;
    way = way;
    going = still_going;
    is_due = is;
  }

  -- its request is due
  at_it : AtTurn (λ (x : MachineData). x.code) CodeFits CodeAsks StandsFor request_of asks cell e.actor m (take k history) e.request
  at_it =
      let due = some_there (request_of m) way.asked in
      let asked = ((legal_first asks cell history (k + 1) legal).at (take k history) [] e more).asked in
      at_due e.request
      (due.1 ∙ ap (λ (r : Request). Some r)
      (sym (asks_only (λ (x : MachineData). x.code) CodeFits CodeAsks StandsFor request_of asks cell e.actor m (take k history) due.0 (at_due due.0 due.1) e.request asked)))

  pub its_due : request_of m ≡ Some e.request
  its_due = at_it.is_due

  -- its answer fits
  pub its_answer : (answers : List Answer) × StandsFor m answers × CodeFits m.code (answers ++ e.answer ∷ [])
  its_answer =
      fits_it (λ (x : MachineData). x.code) CodeFits CodeAsks StandsFor request_of asks cell e.actor m (take k history) (take (k + 1) history) e.request e.answer at_it
      (legal_first asks cell history (k + 1) legal) more

  -- it is asked where the machine is
  place_of : IsReachedBy m.code (answers_of e.actor (take k history)) (standing (Some e.request) m.data')
  place_of = asks_there m (answers_of e.actor (take k history)) e.request (stood StandsFor request_of m (part_of e.actor (take k history)) way still_going) its_due

  pub asked_there : (machines : List MachineData) (place : Option At) → slice_get machines e.actor ≡ Some m → place ≡ m.data'.place → IsAskedAt (codes_of machines) (take k history) e place
  asked_there machines place at is =
      let here : (state : TaskStateData) × IsReachedBy m.code (answers_of e.actor (take k history)) state × (place ≡ state.place) = (standing (Some e.request) m.data', place_of, is) in
      subst (λ (o : Option CodeData). IsPlaceBy o (answers_of e.actor (take k history)) place) (sym (map_at (λ (x : MachineData). x.code) machines e.actor m at)) here

  -- the machines once its own has gone on
  pub ways_on : (machines : List MachineData) (later : MachineData) → AreUnderWay StandsFor request_of machines (take k history)
      → ((mine : List Event) → has_ended mine ≡ false → UnderWay StandsFor request_of m mine → UnderWay StandsFor request_of later (mine ++ e ∷ []))
      → AreUnderWay StandsFor request_of (slice_set machines e.actor later) (take (k + 1) history)
  ways_on machines later ways on =
      let own : part_of e.actor (take (k + 1) history) ≡ part_of e.actor (take k history) ++ e ∷ [] = ap (λ (h : List Event). part_of e.actor h) more ∙ part_of-own e.actor (take k history) e refl in
      under_way_turn StandsFor request_of (with_inputs asks cell) cell machines e.actor later (take k history) (take (k + 1) history) ways
      (subst (λ (mine : List Event). UnderWay StandsFor request_of later mine) (sym own) (on (part_of e.actor (take k history)) still_going way))
      (turn_of asks cell history k e there legal)

-- an event of the input script
module _ (asks : asking.Asking) (cell : CellData) (machines : List MachineData) (history : List Event) (k : ℕ) (e : Event) (there : slice_get history k ≡ Some e) (none : length machines ≤ e.actor) where
  pub asked_nowhere : IsAskedAt (codes_of machines) (take k history) e None
  asked_nowhere =
      subst (λ (o : Option CodeData). IsPlaceBy o (answers_of e.actor (take k history)) None)
      (sym (slice_get_past (codes_of machines) e.actor (subst (λ (n : ℕ). n ≤ e.actor) (sym (length-map machines (λ (x : MachineData). x.code))) none))) refl

  pub ways_past : IsLegal (with_inputs asks cell) cell history → AreUnderWay StandsFor request_of machines (take k history) → AreUnderWay StandsFor request_of machines (take (k + 1) history)
  ways_past legal ways =
      under_way_other StandsFor request_of (with_inputs asks cell) cell machines e.actor (take k history) (take (k + 1) history) none ways
      (turn_of asks cell history k e there legal)
