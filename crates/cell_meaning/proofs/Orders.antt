-- A run in an order is legal and complete, and there is at most one; each legal and complete history is one; the
-- round-robin run is that in the empty order.
use Rattle.std.proofs.Common.{◌≡◌, ℕ, zero, suc, ◌+◌, ◌-◌, ◌≤◌, List, [], ◌∷◌, ◌++◌, map, length, inl, inr, refl, sym, ◌∙◌, subst, arith, append_assoc, zero-add}
use Rattle.std.proofs.lemmas.Bool.{cases_lt}
use Rattle.std.proofs.lemmas.List.{append-nil}
use Rattle.rapid_model.specs.CellData.{CellData, IsCell}
use Rattle.rapid_model.specs.declared.event.Event.{Event}
use Rattle.cell_meaning.specs.Asking.{Asking}
use Rattle.cell_meaning.specs.Histories.{IsLegal, IsWhole}
use Rattle.cell_meaning.specs.Orders.{TakeChosen, RoundsFrom, IsInOrder}
use Rattle.cell_meaning.specs.Premises.{OnlyActorsAsk, AsksOne, AsksWhatItMay, StartsFull}
use Rattle.cell_meaning.specs.Turns.{TakesTurn, TakeTurns, IsRound, AfterRounds, IsByTurns}
use Rattle.cell_meaning.proofs.ByTurns.{Keeping, legal_none, legal_turn, legal_round, round_rests, one_turn, one_round}

-- the round-robin run is the run in the empty order, and the other way round
rounds_from_none : (asks : Asking) (cell : CellData) (rounds : ℕ) (history : List Event) → AfterRounds asks cell rounds history → RoundsFrom asks cell [] rounds history
unfolding AfterRounds RoundsFrom
rounds_from_none asks cell zero history none = none
rounds_from_none asks cell (suc rounds) history (before, made, round) = (before, rounds_from_none asks cell rounds before made, round)

none_then_rounds : (asks : Asking) (cell : CellData) (rounds : ℕ) (history : List Event) → RoundsFrom asks cell [] rounds history → AfterRounds asks cell rounds history
unfolding AfterRounds RoundsFrom
none_then_rounds asks cell zero history none = none
none_then_rounds asks cell (suc rounds) history (before, made, round) = (before, none_then_rounds asks cell rounds before made, round)

pub in_no_order : (asks : Asking) (cell : CellData) (history : List Event) → IsByTurns asks cell history → IsInOrder asks cell [] history
unfolding TakeChosen
in_no_order asks cell history run = record { first = []; chosen = refl; rounds = run.rounds; made = rounds_from_none asks cell run.rounds history run.made; over = run.over }

pub no_order_by_turns : (asks : Asking) (cell : CellData) (history : List Event) → IsInOrder asks cell [] history → IsByTurns asks cell history
unfolding TakeChosen
no_order_by_turns asks cell history run = record {
  rounds = run.rounds;
  made = none_then_rounds asks cell run.rounds history (subst (λ (h : List Event). RoundsFrom asks cell h run.rounds history) run.chosen run.made);
  over = run.over;
}

-- it is legal
legal_chosen : (asks : Asking) (cell : CellData) (choices : List ℕ) (before after : List Event) → Keeping asks cell → IsLegal asks cell before → TakeChosen asks cell choices before after → IsLegal asks cell after
unfolding TakeChosen
legal_chosen asks cell [] before after keeping legal same = subst (λ (h : List Event). IsLegal asks cell h) (sym same) legal
legal_chosen asks cell (actor ∷ rest) before after keeping legal (between, turn, later) =
    legal_chosen asks cell rest between after keeping (legal_turn asks cell actor before between keeping legal turn) later

legal_rounds : (asks : Asking) (cell : CellData) (first : List Event) (rounds : ℕ) (history : List Event) → Keeping asks cell → IsLegal asks cell first → RoundsFrom asks cell first rounds history
    → IsLegal asks cell history
unfolding RoundsFrom
legal_rounds asks cell first zero history keeping legal same = subst (λ (h : List Event). IsLegal asks cell h) (sym same) legal
legal_rounds asks cell first (suc rounds) history keeping legal (before, made, round) =
    legal_round asks cell before history keeping (legal_rounds asks cell first rounds before keeping legal made) round

pub in_order_legal : (asks : Asking) (cell : CellData) (choices : List ℕ) (history : List Event) → IsCell cell → StartsFull cell → AsksWhatItMay asks cell → IsInOrder asks cell choices history
    → IsLegal asks cell history
in_order_legal asks cell choices history limits full may run =
    let keeping : Keeping asks cell = record { limits = limits; full = full; may = may } in
    legal_rounds asks cell run.first run.rounds history keeping (legal_chosen asks cell choices [] run.first keeping (legal_none asks cell) run.chosen) run.made

pub by_turns_legal : (asks : Asking) (cell : CellData) (history : List Event) → IsCell cell → StartsFull cell → AsksWhatItMay asks cell → IsByTurns asks cell history
    → IsLegal asks cell history
by_turns_legal asks cell history limits full may run = in_order_legal asks cell [] history limits full may (in_no_order asks cell history run)

-- nothing follows it
round_whole : (asks : Asking) (cell : CellData) (history : List Event) → OnlyActorsAsk asks cell → IsRound asks cell history history → IsWhole asks cell history
round_whole asks cell history only over = record { over = λ e follows. round_rests asks cell history e over (only.within e.actor _ e.request follows.asked) follows }

pub in_order_whole : (asks : Asking) (cell : CellData) (choices : List ℕ) (history : List Event) → OnlyActorsAsk asks cell → IsInOrder asks cell choices history → IsWhole asks cell history
in_order_whole asks cell choices history only run = round_whole asks cell history only run.over

pub by_turns_whole : (asks : Asking) (cell : CellData) (history : List Event) → OnlyActorsAsk asks cell → IsByTurns asks cell history → IsWhole asks cell history
by_turns_whole asks cell history only run = round_whole asks cell history only run.over

-- there is at most one
one_chosen : (asks : Asking) (cell : CellData) (choices : List ℕ) (before after other : List Event) → AsksOne asks → TakeChosen asks cell choices before after → TakeChosen asks cell choices before other
    → after ≡ other
unfolding TakeChosen
one_chosen asks cell [] before after other ones t u = t ∙ sym u
one_chosen asks cell (actor ∷ rest) before after other ones t u =
    let same : t.0 ≡ u.0 = one_turn asks cell actor before t.0 u.0 ones t.1 u.1 in
    one_chosen asks cell rest t.0 after other ones t.2 (subst (λ (h : List Event). TakeChosen asks cell rest h other) (sym same) u.2)

one_after : (asks : Asking) (cell : CellData) (first : List Event) (rounds : ℕ) (history other : List Event) → AsksOne asks → RoundsFrom asks cell first rounds history
    → RoundsFrom asks cell first rounds other → history ≡ other
unfolding RoundsFrom
one_after asks cell first zero history other ones t u = t ∙ sym u
one_after asks cell first (suc rounds) history other ones t u =
    let same : t.0 ≡ u.0 = one_after asks cell first rounds t.0 u.0 ones t.1 u.1 in
    one_round asks cell t.0 history other ones t.2 (subst (λ (h : List Event). IsRound asks cell h other) (sym same) u.2)

-- after a round that adds nothing, more rounds change nothing
stays : (asks : Asking) (cell : CellData) (first : List Event) (more rounds : ℕ) (history later : List Event) → AsksOne asks → RoundsFrom asks cell first rounds history
    → IsRound asks cell history history → RoundsFrom asks cell first (more + rounds) later → later ≡ history
unfolding RoundsFrom
stays asks cell first zero rounds history later ones made over other =
    one_after asks cell first rounds later history ones (subst (λ (n : ℕ). RoundsFrom asks cell first n later) (zero-add rounds) other) made
stays asks cell first (suc more) rounds history later ones made over other =
    let count : suc more + rounds ≡ suc (more + rounds) = omega arith in
    let goes : RoundsFrom asks cell first (suc (more + rounds)) later = subst (λ (n : ℕ). RoundsFrom asks cell first n later) count other in
    let before : goes.0 ≡ history = stays asks cell first more rounds history goes.0 ones made over goes.1 in
    one_round asks cell history later history ones (subst (λ (h : List Event). IsRound asks cell h later) before goes.2) over

at_most_as_long : (asks : Asking) (cell : CellData) (choices : List ℕ) (history other : List Event) → AsksOne asks → (run : IsInOrder asks cell choices history) (that : IsInOrder asks cell choices other)
    → run.rounds ≤ that.rounds → other ≡ history
at_most_as_long asks cell choices history other ones run that le =
    let same : that.first ≡ run.first = one_chosen asks cell choices [] that.first run.first ones that.chosen run.chosen in
    stays asks cell run.first (that.rounds - run.rounds) run.rounds history other ones run.made run.over
    (let n : that.rounds ≡ (that.rounds - run.rounds) + run.rounds = omega arith in
    subst (λ (k : ℕ). RoundsFrom asks cell run.first k other) n (subst (λ (h : List Event). RoundsFrom asks cell h that.rounds other) same that.made))

pub in_order_one : (asks : Asking) (cell : CellData) (choices : List ℕ) (history other : List Event) → AsksOne asks → IsInOrder asks cell choices history → IsInOrder asks cell choices other → history ≡ other
in_order_one asks cell choices history other ones run that =
    elim (cases_lt run.rounds that.rounds) [
      | inl lt ↦ sym (at_most_as_long asks cell choices history other ones run that (omega arith))
      | inr ge ↦ at_most_as_long asks cell choices other history ones that run ge
    ]

pub by_turns_one : (asks : Asking) (cell : CellData) (history other : List Event) → AsksOne asks → IsByTurns asks cell history → IsByTurns asks cell other → history ≡ other
by_turns_one asks cell history other ones run that = in_order_one asks cell [] history other ones (in_no_order asks cell history run) (in_no_order asks cell other that)

-- Each legal and complete history is one: its own actors make its events in their turns, and after it each actor rests.
its_actors : (asks : Asking) (cell : CellData) (history before rest : List Event) → IsLegal asks cell history → history ≡ before ++ rest → TakeChosen asks cell (map (λ e. e.actor) rest) before history
unfolding TakeChosen
its_actors asks cell history before [] legal is = is ∙ append-nil before
its_actors asks cell history before (e ∷ rest) legal is = (
  before ++ e ∷ [],
  inl (record { event = e; by = refl; follows = legal.at before rest e is; added = refl }),
  its_actors asks cell history (before ++ e ∷ []) rest legal (is ∙ sym (append_assoc before (e ∷ []) rest)),
)

rests : (asks : Asking) (cell : CellData) (history : List Event) (actor : ℕ) → IsWhole asks cell history → TakesTurn asks cell actor history history
rests asks cell history actor whole = inr (record { none = λ e by follows. whole.over e follows; same = refl })

all_rest : (asks : Asking) (cell : CellData) (history : List Event) (actor left : ℕ) → IsWhole asks cell history → TakeTurns asks cell actor left history history
unfolding TakeTurns
all_rest asks cell history actor zero whole = refl
all_rest asks cell history actor (suc left) whole = (history, rests asks cell history actor whole, all_rest asks cell history (actor + 1) left whole)

pub in_its_order : (asks : Asking) (cell : CellData) (history : List Event) → IsLegal asks cell history → IsWhole asks cell history → IsInOrder asks cell (map (λ e. e.actor) history) history
unfolding RoundsFrom
in_its_order asks cell history legal whole = record {
  first = history;
  chosen = its_actors asks cell history [] history legal refl;
  rounds = zero;
  made = refl;
  over = (history, all_rest asks cell history 0 (length cell.tasks) whole, rests asks cell history (length cell.tasks) whole);
}
