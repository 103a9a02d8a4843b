-- Whoever asks the same has the same histories.
use Rattle.std.proofs.Common.{ℕ, zero, suc, ◌+◌, inl, inr, List, [], ◌∷◌, length}
use Rattle.rapid_model.specs.CellData.{CellData}
use Rattle.rapid_model.specs.Own.{answers_of}
use Rattle.rapid_model.specs.declared.event.Event.{Event}
use Rattle.cell_meaning.specs.Asking.{Asking}
use Rattle.cell_meaning.specs.Histories.{Follows, IsLegal, IsWhole}
use Rattle.cell_meaning.specs.Orders.{TakeChosen, RoundsFrom, IsInOrder}
use Rattle.cell_meaning.specs.Premises.{AskTheSame}
use Rattle.cell_meaning.specs.Turns.{TakesTurn, TakeTurns, IsRound, IsByTurns}
use Rattle.cell_meaning.proofs.Orders.{in_no_order, no_order_by_turns}

follows_there : (asks other : Asking) (cell : CellData) (before : List Event) (e : Event) → AskTheSame asks other → Follows asks cell before e → Follows other cell before e
follows_there asks other cell before e same follows = record {
  asked = (same.same e.actor (answers_of e.actor before) e.request).0 follows.asked;
  enabled = follows.enabled;
  served = follows.served;
  answered = follows.answered;
}

follows_back : (asks other : Asking) (cell : CellData) (before : List Event) (e : Event) → AskTheSame asks other → Follows other cell before e → Follows asks cell before e
follows_back asks other cell before e same follows = record {
  asked = (same.same e.actor (answers_of e.actor before) e.request).1 follows.asked;
  enabled = follows.enabled;
  served = follows.served;
  answered = follows.answered;
}

pub legal_there : (asks other : Asking) (cell : CellData) (history : List Event) → AskTheSame asks other → IsLegal asks cell history → IsLegal other cell history
legal_there asks other cell history same legal = record {
  at = λ before after e is. follows_there asks other cell before e same (legal.at before after e is);
  fits = legal.fits;
}

pub whole_there : (asks other : Asking) (cell : CellData) (history : List Event) → AskTheSame asks other → IsWhole asks cell history → IsWhole other cell history
whole_there asks other cell history same whole = record { over = λ e follows. whole.over e (follows_back asks other cell history e same follows) }

turn_there : (asks other : Asking) (cell : CellData) (actor : ℕ) (before after : List Event) → AskTheSame asks other → TakesTurn asks cell actor before after → TakesTurn other cell actor before after
turn_there asks other cell actor before after same (inl steps) =
    inl (record { event = steps.event; by = steps.by; follows = follows_there asks other cell before steps.event same steps.follows; added = steps.added })
turn_there asks other cell actor before after same (inr rests) =
    inr (record { none = λ e by follows. rests.none e by (follows_back asks other cell before e same follows); same = rests.same })

turns_there : (asks other : Asking) (cell : CellData) (actor left : ℕ) (before after : List Event) → AskTheSame asks other → TakeTurns asks cell actor left before after
    → TakeTurns other cell actor left before after
unfolding TakeTurns
turns_there asks other cell actor zero before after same is = is
turns_there asks other cell actor (suc left) before after same (between, turn, rest) =
    (between, turn_there asks other cell actor before between same turn, turns_there asks other cell (actor + 1) left between after same rest)

round_there : (asks other : Asking) (cell : CellData) (before after : List Event) → AskTheSame asks other → IsRound asks cell before after → IsRound other cell before after
round_there asks other cell before after same (between, turns, last) =
    (between, turns_there asks other cell 0 (length cell.tasks) before between same turns, turn_there asks other cell (length cell.tasks) between after same last)

rounds_there : (asks other : Asking) (cell : CellData) (first : List Event) (rounds : ℕ) (history : List Event) → AskTheSame asks other → RoundsFrom asks cell first rounds history
    → RoundsFrom other cell first rounds history
unfolding RoundsFrom
rounds_there asks other cell first zero history same is = is
rounds_there asks other cell first (suc rounds) history same (before, made, round) =
    (before, rounds_there asks other cell first rounds before same made, round_there asks other cell before history same round)

chosen_there : (asks other : Asking) (cell : CellData) (choices : List ℕ) (before after : List Event) → AskTheSame asks other → TakeChosen asks cell choices before after
    → TakeChosen other cell choices before after
unfolding TakeChosen
chosen_there asks other cell [] before after same is = is
chosen_there asks other cell (actor ∷ rest) before after same (between, turn, later) =
    (between, turn_there asks other cell actor before between same turn, chosen_there asks other cell rest between after same later)

pub in_order_there : (asks other : Asking) (cell : CellData) (choices : List ℕ) (history : List Event) → AskTheSame asks other → IsInOrder asks cell choices history → IsInOrder other cell choices history
in_order_there asks other cell choices history same run = record {
  first = run.first;
  chosen = chosen_there asks other cell choices [] run.first same run.chosen;
  rounds = run.rounds;
  made = rounds_there asks other cell run.first run.rounds history same run.made;
  over = round_there asks other cell history history same run.over;
}

pub by_turns_there : (asks other : Asking) (cell : CellData) (history : List Event) → AskTheSame asks other → IsByTurns asks cell history → IsByTurns other cell history
by_turns_there asks other cell history same run = no_order_by_turns other cell history (in_order_there asks other cell [] history same (in_no_order asks cell history run))
