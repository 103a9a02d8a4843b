-- Events done again one after the other.
use Rattle.std.proofs.Common.{◌≡◌, ◌<◌, ◌≤◌, ◌⊎◌, inl, inr, ℕ, zero, suc, ◌+◌, false, List, [], ◌∷◌, ◌++◌, length, take, drop, get_or, map, Option, Some, None, refl, ap, sym, ◌∙◌, subst, arith}
use Rattle.std.specs.Prelude.{All, IsSome, IsTrue, slice_get, slice_set}
use Rattle.std.proofs.lemmas.List.{take_all, take_more}
use Rattle.std.proofs.lemmas.Option.{slice_get_within}
use Rattle.rapid_model.specs.CellData.{CellData}
use Rattle.rapid_model.specs.Own.{part_of, answers_of, has_ended}
use Rattle.rapid_model.specs.declared.answer.Answer.{Answer}
use Rattle.rapid_model.specs.declared.event.Event.{Event}
use Rattle.rapid_model.specs.declared.request.Request.{Request}
use Rattle.cell_meaning.specs.Asking.{Asking, with_inputs}
use Rattle.cell_meaning.specs.Histories.{IsLegal, is_fit}
use Rattle.cell_meaning.specs.Turns.{TakesTurn}
use Rattle.cell_meaning.proofs.ByTurns.{legal_none}
use Rattle.cell_meaning.proofs.MoreEvents.{its_parts}
use Rattle.cell_core.specs.Serving.{IsAnswered, event_of}
use Rattle.cell_crew.specs.Courses.{SuitTasks, SuitsTask}
use Rattle.cell_crew.specs.Crew.{AskAsPrograms, AsksAsProgram}
use Rattle.cell_crew.specs.UnderWay.{AreUnderWay, UnderWay}
use Rattle.cell_crew.proofs.Crews.{map_at, map_set, under_way_other, under_way_turn}
use Rattle.cell_crew.proofs.Served.{legal_answered}
use Rattle.cell_crew.proofs.Turning.{AtTurn, asks_only}
use Rattle.history_audit.specs.Audits.{IsFirstWrong}
use Rattle.history_audit.specs.Followed.{Followed}
use Rattle.history_audit.specs.Wrongs.{IsWrong}
use Rattle.history_audit.specs.declared.wrong.Wrong.{Wrong}

-- a request that was answered as the event says adds the event
pub answered_followed : (asks : Asking) (cell : CellData) (before after : List Event) (e : Event) (due : Request) (answer : Answer) → e.request ≡ due → e.answer ≡ answer
    → asks e.actor (answers_of e.actor before) due → IsLegal asks cell before → IsAnswered cell before e.actor due answer → IsTrue (is_fit cell before (event_of e.actor due answer))
    → after ≡ before ++ event_of e.actor due answer ∷ [] → IsLegal asks cell after × (after ≡ before ++ e ∷ [])
answered_followed asks cell before after e due answer same equal asked legal is fit more = (
  legal_answered asks cell before after e.actor due answer asked legal is fit more,
  more ∙ ap (λ (x : Event). before ++ x ∷ []) (sym (its_parts e.actor due answer e refl same equal)),
)

-- an event that was added is a turn of its actor
pub followed_turn : (asks : Asking) (cell : CellData) (before after : List Event) (e : Event) → IsLegal asks cell after → after ≡ before ++ e ∷ [] → TakesTurn asks cell e.actor before after
followed_turn asks cell before after e legal is = inl (record { event = e; by = refl; follows = legal.at before [] e is; added = is })

-- the split of a list at an element
pub cut_at : (es : List Event) (k : ℕ) (e : Event) → k < length es → e ≡ get_or es k e → es ≡ take k es ++ e ∷ drop (suc k) es
cut_at [] k e lt is = absurd (omega arith)
cut_at (x ∷ es) zero e lt is = ap (λ (y : Event). y ∷ es) (sym is)
cut_at (x ∷ es) (suc k) e lt is = ap (λ (ys : List Event). x ∷ ys) (cut_at es k e (omega arith) is)

module _ {M P : Type 0} (program : M → P) (fits : P → List Answer → Type 0) (program_asks : P → List Answer → Request → Type 0) (stands_for : M → List Answer → Type 0) (due : M → Option Request) where
  -- the request of a task's event that was added was due
  pub at_event : (asks : Asking) (cell : CellData) (m : M) (history after : List Event) (request : Request) (e : Event) → AtTurn program fits program_asks stands_for due asks cell e.actor m history request
      → IsLegal (with_inputs asks cell) cell after → after ≡ history ++ e ∷ [] → AtTurn program fits program_asks stands_for due asks cell e.actor m history e.request
  at_event asks cell m history after request e at legal is = record {
    asks_due = at.asks_due;
    within = at.within;
    asks_as = at.asks_as;
    suits = at.suits;
    legal = at.legal;
    way = at.way;
    going = at.going;
    is_due =
        at.is_due
        ∙ ap (λ (r : Request). Some r) (sym (asks_only program fits program_asks stands_for due asks cell e.actor m history request at e.request (legal.at history [] e is).asked));
  }

module _ {M P : Type 0} (program : M → P) (fits : P → List Answer → Type 0) (program_asks : P → List Answer → Request → Type 0) where
  -- a task asks as the program of its machine, which suits it
  pub program_asked : (asks : Asking) (machines : List M) (k : ℕ) (m : M) → AskAsPrograms fits program_asks asks (map program machines) → slice_get machines k ≡ Some m → AsksAsProgram fits program_asks asks k (program m)
  program_asked asks machines k m ask at = ask.each k (program m) (map_at program machines k m at)

  pub program_suits : (cell : CellData) (machines : List M) (k : ℕ) (m : M) → SuitTasks fits program_asks cell (map program machines) → slice_get machines k ≡ Some m → SuitsTask fits program_asks cell k (program m)
  program_suits cell machines k m suit at = suit.each k (program m) (map_at program machines k m at)

module _ {M P : Type 0} (program : M → P) (stands_for : M → List Answer → Type 0) (due : M → Option Request) where
  -- the first events are done again, none of them wrong
  pub record AmidEvents (asks : Asking) (start machines : List M) (first cell : CellData) (events history : List Event) (k : ℕ) : Type 0 where
    pub same_cell : cell ≡ first
    pub programs : map program machines ≡ map program start
    pub history_is : history ≡ take k events
    pub legal : IsLegal (with_inputs asks first) first history
    pub ways : AreUnderWay stands_for due machines history

  pub before_events : (asks : Asking) (machines : List M) (cell : CellData) (events history : List Event) → history ≡ [] → AreUnderWay stands_for due machines [] → AmidEvents asks machines machines cell cell events history 0
  before_events asks machines cell events history none ways = record {
    same_cell = refl;
    programs = refl;
    history_is = none;
    legal = subst (λ (h : List Event). IsLegal (with_inputs asks cell) cell h) (sym none) (legal_none (with_inputs asks cell) cell);
    ways = subst (λ (h : List Event). AreUnderWay stands_for due machines h) (sym none) ways;
  }

  -- one more event
  pub one_more_event : (asks : Asking) (start machines later : List M) (first cell later_cell : CellData) (events history after : List Event) (k : ℕ) (e : Event) → AmidEvents asks start machines first cell events history k
      → k < length events → e ≡ get_or events k e → later_cell ≡ cell → map program later ≡ map program machines → IsLegal (with_inputs asks cell) cell after → after ≡ history ++ e ∷ []
      → AreUnderWay stands_for due later after → AmidEvents asks start later first later_cell events after (k + 1)
  one_more_event asks start machines later first cell later_cell events history after k e amid lt at same programs legal is ways = record {
    same_cell = same ∙ amid.same_cell;
    programs = programs ∙ amid.programs;
    history_is = is ∙ ap (λ (h : List Event). h ++ e ∷ []) amid.history_is ∙ ap (λ (x : Event). take k events ++ x ∷ []) at ∙ sym (take_more events k e lt);
    legal = subst (λ (c : CellData). IsLegal (with_inputs asks c) c after) amid.same_cell legal;
    ways = ways;
  }

  -- the next event is wrong
  pub next_is_wrong : (asks : Asking) (start machines : List M) (first cell : CellData) (events history : List Event) (k at : ℕ) (e : Event) (wrong : Wrong) → AmidEvents asks start machines first cell events history k
      → k < length events → e ≡ get_or events k e → at ≡ length history → IsWrong (with_inputs asks cell) cell history e wrong → IsFirstWrong (with_inputs asks first) first events at wrong
  next_is_wrong asks start machines first cell events history k at e wrong amid lt here number is = record {
    before = history;
    event = e;
    after = drop (suc k) events;
    cut = cut_at events k e lt here ∙ ap (λ (h : List Event). h ++ e ∷ drop (suc k) events) (sym amid.history_is);
    number = number;
    legal = amid.legal;
    stops = subst (λ (c : CellData). IsWrong (with_inputs asks c) c history e wrong) amid.same_cell is;
  }

  -- all are done again
  pub after_events : (asks : Asking) (start machines : List M) (first cell : CellData) (events history : List Event) (k : ℕ) → AmidEvents asks start machines first cell events history k → length events ≤ k → history ≡ events
  after_events asks start machines first cell events history k amid all = amid.history_is ∙ take_all k events all
