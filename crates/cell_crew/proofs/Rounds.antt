-- Sequences of turns, and of rounds.
use Rattle.std.proofs.Common.{◌≡◌, ℕ, zero, suc, ◌+◌, ◌≤◌, List, [], length, map, Option, Some, refl, ap, sym, ◌∙◌, subst, arith}
use Rattle.std.proofs.lemmas.Bool.{ltb-false}
use Rattle.std.proofs.lemmas.List.{length-map}
use Rattle.std.specs.Prelude.{slice_get, slice_set, nat_lt, false}
use Rattle.rapid_model.specs.CellData.{CellData}
use Rattle.rapid_model.specs.Own.{part_of}
use Rattle.rapid_model.specs.declared.answer.Answer.{Answer}
use Rattle.rapid_model.specs.declared.event.Event.{Event}
use Rattle.rapid_model.specs.declared.request.Request.{Request}
use Rattle.cell_meaning.specs.Asking.{Asking, with_inputs}
use Rattle.cell_meaning.specs.Histories.{IsLegal}
use Rattle.cell_meaning.specs.Turns.{TakesTurn, TakeTurns, IsRound, AfterRounds}
use Rattle.cell_meaning.proofs.ByTurns.{legal_none, turn_same, turn_grows, turns_grow, turns_same}
use Rattle.cell_crew.specs.Courses.{SuitsTask, SuitTasks}
use Rattle.cell_crew.specs.Crew.{AsksAsProgram, AskAsPrograms}
use Rattle.cell_crew.specs.UnderWay.{UnderWay, AreUnderWay}
use Rattle.cell_crew.proofs.Crews.{map_set, map_at, under_way_turn, under_way_other}

no_turns : (asks : Asking) (cell : CellData) (history : List Event) → TakeTurns asks cell 0 0 history history
unfolding TakeTurns
no_turns asks cell history = refl

-- the turn of the next actor
more_from : (asks : Asking) (cell : CellData) (actor left : ℕ) (before between after : List Event) → TakeTurns asks cell actor left before between → TakesTurn asks cell (actor + left) between after
    → TakeTurns asks cell actor (suc left) before after
unfolding TakeTurns
more_from asks cell actor zero before between after turns turn =
    let here : actor + zero ≡ actor = omega arith in
    (after, subst (λ (h : List Event). TakesTurn asks cell actor h after) turns (subst (λ (k : ℕ). TakesTurn asks cell k between after) here turn), refl)
more_from asks cell actor (suc left) before between after turns turn =
    let here : actor + suc left ≡ actor + 1 + left = omega arith in
    (turns.0, turns.1, more_from asks cell (actor + 1) left turns.0 between after turns.2 (subst (λ (k : ℕ). TakesTurn asks cell k between after) here turn))

turns_more : (asks : Asking) (cell : CellData) (k : ℕ) (before between after : List Event) → TakeTurns asks cell 0 k before between → TakesTurn asks cell k between after
    → TakeTurns asks cell 0 (k + 1) before after
turns_more asks cell k before between after turns turn =
    let here : 0 + k ≡ k = omega arith in
    let next : suc k ≡ k + 1 = omega arith in
    subst (λ (n : ℕ). TakeTurns asks cell 0 n before after) next
    (more_from asks cell 0 k before between after turns (subst (λ (j : ℕ). TakesTurn asks cell j between after) (sym here) turn))

-- a round that leaves the history no longer leaves it as it was
round_same : (asks : Asking) (cell : CellData) (before between after : List Event) → TakeTurns asks cell 0 (length cell.tasks) before between → TakesTurn asks cell (length cell.tasks) between after
    → length after ≤ length before → after ≡ before
round_same asks cell before between after turns turn short =
    let first : length before ≤ length between = turns_grow asks cell 0 (length cell.tasks) before between turns in
    let last : length between ≤ length after = turn_grows asks cell (length cell.tasks) between after turn in
    turn_same asks cell (length cell.tasks) between after turn (omega (arith, first)) ∙ turns_same asks cell 0 (length cell.tasks) before between turns (omega (arith, last))

pub no_longer : (n m a b : ℕ) → n ≡ a → m ≡ b → nat_lt n m ≡ false → b ≤ a
no_longer n m a b p q no_more = omega (arith, ltb-false n m no_more)

pub round_kept : (asks : Asking) (first cell : CellData) (before between after : List Event) → cell ≡ first → TakeTurns (with_inputs asks first) first 0 (length first.tasks) before between
    → TakesTurn (with_inputs asks cell) cell (length cell.tasks) between after → length after ≤ length before → after ≡ before
round_kept asks first cell before between after same turns turn short =
    round_same (with_inputs asks first) first before between after turns (subst (λ (c : CellData). TakesTurn (with_inputs asks c) c (length c.tasks) between after) same turn) short

-- the rounds that led to a history
pub record AreRounds (asks : Asking) (cell : CellData) (history : List Event) : Type 0 where
  pub rounds : ℕ
  pub made : AfterRounds asks cell rounds history

no_rounds : (asks : Asking) (cell : CellData) (history : List Event) → history ≡ [] → AreRounds asks cell history
unfolding AfterRounds
no_rounds asks cell history none = record { rounds = 0; made = none }

rounds_more : (asks : Asking) (cell : CellData) (before after : List Event) → AreRounds asks cell before → IsRound asks cell before after → AreRounds asks cell after
unfolding AfterRounds
rounds_more asks cell before after past round = record { rounds = suc past.rounds; made = (before, past.made, round) }

module _ {M P : Type 0} (program : M → P) (stands_for : M → List Answer → Type 0) (due : M → Option Request) where
  -- the tasks before this one have taken their turns
  pub record HaveTurned (asks : Asking) (start machines : List M) (first cell : CellData) (before history : List Event) (k : ℕ) : Type 0 where
    pub same_cell : cell ≡ first
    pub programs : map program machines ≡ map program start
    pub legal : IsLegal (with_inputs asks first) first history
    pub ways : AreUnderWay stands_for due machines history
    pub turns : TakeTurns (with_inputs asks first) first 0 k before history

  pub none_turned : (asks : Asking) (machines : List M) (cell : CellData) (history : List Event) → IsLegal (with_inputs asks cell) cell history → AreUnderWay stands_for due machines history
      → HaveTurned asks machines machines cell cell history history 0
  none_turned asks machines cell history legal ways = record { same_cell = refl; programs = refl; legal = legal; ways = ways; turns = no_turns (with_inputs asks cell) cell history }

  -- a machine has the same program as at the start
  program_at : (start machines : List M) (k : ℕ) (m : M) → map program machines ≡ map program start → slice_get machines k ≡ Some m → slice_get (map program start) k ≡ Some (program m)
  program_at start machines k m same at = ap (λ (ps : List P). slice_get ps k) (sym same) ∙ map_at program machines k m at

  -- the task asks as the program of its machine, which suits it
  pub asks_at : (fits : P → List Answer → Type 0) (program_asks : P → List Answer → Request → Type 0) (asks : Asking) (start machines : List M) (first cell : CellData) (before history : List Event) (k : ℕ) (m : M)
      → AskAsPrograms fits program_asks asks (map program start) → HaveTurned asks start machines first cell before history k → slice_get machines k ≡ Some m → AsksAsProgram fits program_asks asks k (program m)
  asks_at fits program_asks asks start machines first cell before history k m ask turned at = ask.each k (program m) (program_at start machines k m turned.programs at)

  pub suits_at : (fits : P → List Answer → Type 0) (program_asks : P → List Answer → Request → Type 0) (asks : Asking) (start machines : List M) (first cell : CellData) (before history : List Event) (k : ℕ) (m : M)
      → SuitTasks fits program_asks first (map program start) → HaveTurned asks start machines first cell before history k → slice_get machines k ≡ Some m → SuitsTask fits program_asks cell k (program m)
  suits_at fits program_asks asks start machines first cell before history k m suit turned at =
      subst (λ (c : CellData). SuitsTask fits program_asks c k (program m)) (sym turned.same_cell) (suit.each k (program m) (program_at start machines k m turned.programs at))

  pub more_turned : (asks : Asking) (start machines : List M) (first cell later_cell : CellData) (before history after : List Event) (k : ℕ) (m later : M)
      → HaveTurned asks start machines first cell before history k
      → slice_get machines k ≡ Some m → later_cell ≡ cell → program later ≡ program m → IsLegal (with_inputs asks cell) cell after → UnderWay stands_for due later (part_of k after)
      → TakesTurn (with_inputs asks cell) cell k history after
      → HaveTurned asks start (slice_set machines k later) first later_cell before after (k + 1)
  more_turned asks start machines first cell later_cell before history after k m later turned at same runs legal way turn =
      let taken : TakesTurn (with_inputs asks first) first k history after = subst (λ (c : CellData). TakesTurn (with_inputs asks c) c k history after) turned.same_cell turn in
      record {
        same_cell = same ∙ turned.same_cell;
        programs = map_set program machines k m later at runs ∙ turned.programs;
        legal = subst (λ (c : CellData). IsLegal (with_inputs asks c) c after) turned.same_cell legal;
        ways = under_way_turn stands_for due (with_inputs asks first) first machines k later history after turned.ways way taken;
        turns = turns_more (with_inputs asks first) first k before history after turned.turns taken;
      }

  -- the turn of the input script leaves the machines under way
  pub way_fed : (asks : Asking) (start machines : List M) (first cell : CellData) (before after : List Event) → length start ≡ length first.tasks → map program machines ≡ map program start → cell ≡ first
      → AreUnderWay stands_for due machines before → TakesTurn (with_inputs asks cell) cell (length cell.tasks) before after → AreUnderWay stands_for due machines after
  way_fed asks start machines first cell before after one_each programs same ways turn =
      let count : length machines ≡ length cell.tasks =
      sym (length-map machines program) ∙ ap length programs ∙ length-map start program ∙ one_each ∙ ap (λ (c : CellData). length c.tasks) (sym same) in
      under_way_other stands_for due (with_inputs asks cell) cell machines (length cell.tasks) before after (omega (arith, count)) ways turn

  -- a crew after some rounds
  pub record AmidRounds (asks : Asking) (start machines : List M) (first cell : CellData) (history : List Event) : Type 0 where
    pub same_cell : cell ≡ first
    pub programs : map program machines ≡ map program start
    pub legal : IsLegal (with_inputs asks first) first history
    pub ways : AreUnderWay stands_for due machines history
    pub past : AreRounds (with_inputs asks first) first history

  pub before_rounds : (asks : Asking) (start machines : List M) (cell : CellData) (history : List Event) → map program machines ≡ map program start → AreUnderWay stands_for due machines [] → history ≡ []
      → AmidRounds asks start machines cell cell history
  before_rounds asks start machines cell history programs ways none = record {
    same_cell = refl;
    programs = programs;
    legal = subst (λ (h : List Event). IsLegal (with_inputs asks cell) cell h) (sym none) (legal_none (with_inputs asks cell) cell);
    ways = subst (λ (h : List Event). AreUnderWay stands_for due machines h) (sym none) ways;
    past = no_rounds (with_inputs asks cell) cell history none;
  }

  pub one_more_round : (asks : Asking) (start machines later : List M) (first cell later_cell : CellData) (history after : List Event) → AmidRounds asks start machines first cell history
      → later_cell ≡ cell → map program later ≡ map program machines → IsLegal (with_inputs asks cell) cell after → AreUnderWay stands_for due later after
      → IsRound (with_inputs asks cell) cell history after → AmidRounds asks start later first later_cell after
  one_more_round asks start machines later first cell later_cell history after amid same programs legal ways round = record {
    same_cell = same ∙ amid.same_cell;
    programs = programs ∙ amid.programs;
    legal = subst (λ (c : CellData). IsLegal (with_inputs asks c) c after) amid.same_cell legal;
    ways = ways;
    past = rounds_more (with_inputs asks first) first history after amid.past (subst (λ (c : CellData). IsRound (with_inputs asks c) c history after) amid.same_cell round);
  }
