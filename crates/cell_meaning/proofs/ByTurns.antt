-- Turns and rounds: they keep a history legal, and each has one result.
use Rattle.std.proofs.Common.{◌≡◌, ℕ, zero, suc, ◌+◌, ◌≤◌, ◌<◌, List, [], ◌∷◌, ◌++◌, length, ap, inl, inr, sym, ◌∙◌, subst, arith, length-append}
use Rattle.std.specs.Prelude.{IsTrue}
use Rattle.std.proofs.lemmas.Bool.{cases_lt}
use Rattle.rapid_model.specs.CellData.{CellData, IsCell}
use Rattle.rapid_model.specs.declared.answer.Answer.{Answer}
use Rattle.rapid_model.specs.declared.event.Event.{Event}
use Rattle.rapid_model.specs.declared.request.Request.{Request}
use Rattle.cell_meaning.specs.Answers.{IsAnswer}
use Rattle.cell_meaning.specs.Asking.{Asking}
use Rattle.cell_meaning.specs.Histories.{Follows, is_fit, IsLegal}
use Rattle.cell_meaning.specs.Premises.{AsksOne, AsksWhatItMay, AllAnswered, StartsFull}
use Rattle.cell_meaning.specs.Turns.{TakesTurn, TakeTurns, IsRound}
use Rattle.rapid_model.proofs.Cuts.{cut_none, cut_more, cut_before}
use Rattle.cell_meaning.proofs.FitAnswers.{answer_fits}
use Rattle.cell_meaning.proofs.OneAnswer.{one_answer}

-- each actor might ask what it asked, and got the cell's answer
pub legal_answered : (asks : Asking) (cell : CellData) (history : List Event) → AsksWhatItMay asks cell → IsLegal asks cell history → AllAnswered cell history
legal_answered asks cell history may legal = record {
  might = λ before after e p. may.may before e.actor e.request (legal_before asks cell history before (e ∷ after) p legal) (legal.at before after e p).asked;
  answered = λ before after e p. (legal.at before after e p).answered;
}
  where
    legal_before : (asks : Asking) (cell : CellData) (history front back : List Event) → history ≡ front ++ back → IsLegal asks cell history → IsLegal asks cell front
    legal_before asks cell history front back p legal = record {
      at = cut_before (λ before e. Follows asks cell before e) history front back p legal.at;
      fits = cut_before (λ before e. IsTrue (is_fit cell before e)) history front back p legal.fits;
    }

pub legal_none : (asks : Asking) (cell : CellData) → IsLegal asks cell []
legal_none asks cell = record { at = cut_none (λ before e. Follows asks cell before e); fits = cut_none (λ before e. IsTrue (is_fit cell before e)) }

-- what those who ask must satisfy for a run to be legal
pub record Keeping (asks : Asking) (cell : CellData) : Type 0 where
  pub limits : IsCell cell
  pub full : StartsFull cell
  pub may : AsksWhatItMay asks cell

-- one more event that follows
legal_more : (asks : Asking) (cell : CellData) (history : List Event) (e : Event) → Keeping asks cell → IsLegal asks cell history → Follows asks cell history e
    → IsLegal asks cell (history ++ e ∷ [])
legal_more asks cell history e keeping legal follows =
    let may = keeping.may.may history e.actor e.request legal follows.asked in
    let fit : IsTrue (is_fit cell history e) = answer_fits cell history e.actor e.request e.answer keeping.limits keeping.full (legal_answered asks cell history keeping.may legal) may follows.answered in
    record {
      at = cut_more (λ before x. Follows asks cell before x) history e legal.at follows;
      fits = cut_more (λ before x. IsTrue (is_fit cell before x)) history e legal.fits fit;
    }

pub legal_turn : (asks : Asking) (cell : CellData) (actor : ℕ) (before after : List Event) → Keeping asks cell → IsLegal asks cell before → TakesTurn asks cell actor before after → IsLegal asks cell after
legal_turn asks cell actor before after keeping legal (inl s) =
    subst (λ (h : List Event). IsLegal asks cell h) (sym s.added) (legal_more asks cell before s.event keeping legal s.follows)
legal_turn asks cell actor before after keeping legal (inr r) = subst (λ (h : List Event). IsLegal asks cell h) (sym r.same) legal

legal_turns : (asks : Asking) (cell : CellData) (actor left : ℕ) (before after : List Event) → Keeping asks cell → IsLegal asks cell before → TakeTurns asks cell actor left before after
    → IsLegal asks cell after
unfolding TakeTurns
legal_turns asks cell actor zero before after keeping legal same = subst (λ (h : List Event). IsLegal asks cell h) (sym same) legal
legal_turns asks cell actor (suc left) before after keeping legal t =
    legal_turns asks cell (actor + 1) left t.0 after keeping (legal_turn asks cell actor before t.0 keeping legal t.1) t.2

pub legal_round : (asks : Asking) (cell : CellData) (before after : List Event) → Keeping asks cell → IsLegal asks cell before → IsRound asks cell before after → IsLegal asks cell after
legal_round asks cell before after keeping legal (between, turns, last) =
    legal_turn asks cell (length cell.tasks) between after keeping (legal_turns asks cell 0 (length cell.tasks) before between keeping legal turns) last

-- a turn never makes a history shorter
pub turn_grows : (asks : Asking) (cell : CellData) (actor : ℕ) (before after : List Event) → TakesTurn asks cell actor before after → length before ≤ length after
turn_grows asks cell actor before after (inl s) = subst (λ (h : List Event). length before ≤ length h) (sym s.added) (omega (arith, length-append before (s.event ∷ [])))
turn_grows asks cell actor before after (inr r) = subst (λ (h : List Event). length before ≤ length h) (sym r.same) (omega arith)

pub turns_grow : (asks : Asking) (cell : CellData) (actor left : ℕ) (before after : List Event) → TakeTurns asks cell actor left before after → length before ≤ length after
unfolding TakeTurns
turns_grow asks cell actor zero before after same = let e : length after ≡ length before = ap length same in omega (arith, e)
turns_grow asks cell actor (suc left) before after t =
    omega (arith, turn_grows asks cell actor before t.0 t.1, turns_grow asks cell (actor + 1) left t.0 after t.2)

-- if a turn adds nothing, no event of its actor follows; and if none of a later actor follows either, none follows at
-- all
still_rests : (asks : Asking) (cell : CellData) (actor : ℕ) (before between : List Event) → TakesTurn asks cell actor before between → length between ≤ length before
    → (e : Event) → actor ≤ e.actor → Follows asks cell before e → (actor < e.actor → Follows asks cell between e → ⊥) → ⊥
still_rests asks cell actor before between (inl s) short e low follows later =
    let grown : length between ≡ length before + 1 = ap length s.added ∙ length-append before (s.event ∷ []) in
    absurd (omega (arith, grown))
still_rests asks cell actor before between (inr r) short e low follows later =
    elim (cases_lt actor e.actor) [
      | inl lt ↦ later lt (subst (λ (h : List Event). Follows asks cell h e) (sym r.same) follows)
      | inr ge ↦ let same : e.actor ≡ actor = omega arith in r.none e same follows
    ]

-- if turns leave the history as long as it was, no event of their actors follows
turns_rest : (asks : Asking) (cell : CellData) (actor left : ℕ) (before after : List Event) → TakeTurns asks cell actor left before after → length after ≤ length before
    → (e : Event) → actor ≤ e.actor → e.actor < actor + left → Follows asks cell before e → ⊥
unfolding TakeTurns
turns_rest asks cell actor zero before after same short e low high follows = absurd (omega arith)
turns_rest asks cell actor (suc left) before after t short e low high follows =
    let later_grow : length t.0 ≤ length after = turns_grow asks cell (actor + 1) left t.0 after t.2 in
    let first_grow : length before ≤ length t.0 = turn_grows asks cell actor before t.0 t.1 in
    still_rests asks cell actor before t.0 t.1 (omega arith) e low follows
    (λ lt f. turns_rest asks cell (actor + 1) left t.0 after t.2 (omega arith) e (omega arith) (omega arith) f)

-- turns that leave the history as long as it was leave it unchanged
pub turn_same : (asks : Asking) (cell : CellData) (actor : ℕ) (before after : List Event) → TakesTurn asks cell actor before after → length after ≤ length before → after ≡ before
turn_same asks cell actor before after (inl s) short =
    let grown : length after ≡ length before + 1 = ap length s.added ∙ length-append before (s.event ∷ []) in
    absurd (omega (arith, grown))
turn_same asks cell actor before after (inr r) short = r.same

pub turns_same : (asks : Asking) (cell : CellData) (actor left : ℕ) (before after : List Event) → TakeTurns asks cell actor left before after → length after ≤ length before → after ≡ before
unfolding TakeTurns
turns_same asks cell actor zero before after same short = same
turns_same asks cell actor (suc left) before after t short =
    let later_grow : length t.0 ≤ length after = turns_grow asks cell (actor + 1) left t.0 after t.2 in
    let first_grow : length before ≤ length t.0 = turn_grows asks cell actor before t.0 t.1 in
    turns_same asks cell (actor + 1) left t.0 after t.2 (omega arith) ∙ turn_same asks cell actor before t.0 t.1 (omega arith)

-- if a round adds nothing, no event of any actor follows
pub round_rests : (asks : Asking) (cell : CellData) (history : List Event) (e : Event) → IsRound asks cell history history → e.actor ≤ length cell.tasks → Follows asks cell history e → ⊥
round_rests asks cell history e (between, turns, last) low follows =
    let turns_longer : length history ≤ length between = turns_grow asks cell 0 (length cell.tasks) history between turns in
    let last_longer : length between ≤ length history = turn_grows asks cell (length cell.tasks) between history last in
    let same : between ≡ history = turns_same asks cell 0 (length cell.tasks) history between turns last_longer in
    elim (cases_lt e.actor (length cell.tasks)) [
      | inl lt ↦ turns_rest asks cell 0 (length cell.tasks) history between turns last_longer e (omega arith) (omega arith) follows
      | inr ge ↦ still_rests asks cell (length cell.tasks) between history last turns_longer e ge (subst (λ (h : List Event). Follows asks cell h e) (sym same) follows) (λ lt f. absurd (omega arith))
    ]

-- so at most one event of each actor follows
one_follows : (asks : Asking) (cell : CellData) (before : List Event) (actor : ℕ) (r r' : Request) (x x' : Answer) → AsksOne asks
    → Follows asks cell before (record { actor = actor; request = r; answer = x }) → Follows asks cell before (record { actor = actor; request = r'; answer = x' })
    → (r ≡ r') × (x ≡ x')
one_follows asks cell before actor r r' x x' ones f f' =
    let same : r ≡ r' = ones.one actor _ r r' f.asked f'.asked in
    (same, one_answer cell before actor r x x' f.answered (subst (λ (q : Request). IsAnswer cell before actor q x') (sym same) f'.answered))

one_event : (asks : Asking) (cell : CellData) (before : List Event) (e e' : Event) → AsksOne asks → e'.actor ≡ e.actor → Follows asks cell before e → Follows asks cell before e' → e ≡ e'
one_event asks cell before e e' ones by f f' =
    let moved : Event = record { actor = e.actor; request = e'.request; answer = e'.answer } in
    let is : e' ≡ moved = ap (λ (a : ℕ). let x : Event = record { actor = a; request = e'.request; answer = e'.answer } in x) by in
    let both = one_follows asks cell before e.actor e.request e'.request e.answer e'.answer ones f (subst (λ (x : Event). Follows asks cell before x) is f') in
    ap (λ (r : Request). let x : Event = record { actor = e.actor; request = r; answer = e.answer } in x) both.0
    ∙ ap (λ (a : Answer). let x : Event = record { actor = e.actor; request = e'.request; answer = a } in x) both.1
    ∙ sym is

pub one_turn : (asks : Asking) (cell : CellData) (actor : ℕ) (before after other : List Event) → AsksOne asks → TakesTurn asks cell actor before after → TakesTurn asks cell actor before other → after ≡ other
one_turn asks cell actor before after other ones (inl s) (inl t) =
    s.added ∙ ap (λ (e : Event). before ++ e ∷ []) (one_event asks cell before s.event t.event ones (t.by ∙ sym s.by) s.follows t.follows) ∙ sym t.added
one_turn asks cell actor before after other ones (inl s) (inr r) = absurd (r.none s.event s.by s.follows)
one_turn asks cell actor before after other ones (inr r) (inl s) = absurd (r.none s.event s.by s.follows)
one_turn asks cell actor before after other ones (inr r) (inr q) = r.same ∙ sym q.same

one_turns : (asks : Asking) (cell : CellData) (actor left : ℕ) (before after other : List Event) → AsksOne asks → TakeTurns asks cell actor left before after → TakeTurns asks cell actor left before other → after ≡ other
unfolding TakeTurns
one_turns asks cell actor zero before after other ones t u = t ∙ sym u
one_turns asks cell actor (suc left) before after other ones t u =
    let same : t.0 ≡ u.0 = one_turn asks cell actor before t.0 u.0 ones t.1 u.1 in
    one_turns asks cell (actor + 1) left t.0 after other ones t.2 (subst (λ (h : List Event). TakeTurns asks cell (actor + 1) left h other) (sym same) u.2)

pub one_round : (asks : Asking) (cell : CellData) (before after other : List Event) → AsksOne asks → IsRound asks cell before after → IsRound asks cell before other → after ≡ other
one_round asks cell before after other ones t u =
    let same : t.0 ≡ u.0 = one_turns asks cell 0 (length cell.tasks) before t.0 u.0 ones t.1 u.1 in
    one_turn asks cell (length cell.tasks) t.0 after other ones t.2 (subst (λ (h : List Event). TakesTurn asks cell (length cell.tasks) h other) (sym same) u.2)
