-- Runs in other orders: chosen actors take their turns first, and rounds follow.
use Rattle.std.specs.Prelude.{◌≡◌, ℕ, zero, suc, List, [], ◌∷◌}
use Rattle.rapid_model.specs.CellData.{CellData}
use Rattle.rapid_model.specs.declared.event.Event.{Event}
use Rattle.cell_meaning.specs.Asking.{Asking}
use Rattle.cell_meaning.specs.Turns.{TakesTurn, IsRound}

-- the actors of the list take their turns in its order
unfoldable pub TakeChosen : Asking → CellData → List ℕ → List Event → List Event → Type 0
TakeChosen asks cell [] before after = after ≡ before
TakeChosen asks cell (actor ∷ rest) before after =
    (between : List Event) × TakesTurn asks cell actor before between × TakeChosen asks cell rest between after

-- the result of that many rounds after a history
unfoldable pub RoundsFrom : Asking → CellData → List Event → ℕ → List Event → Type 0
RoundsFrom asks cell first zero history = history ≡ first
RoundsFrom asks cell first (suc rounds) history =
    (before : List Event) × RoundsFrom asks cell first rounds before × IsRound asks cell before history

-- turns of the chosen actors from the empty history, and then rounds, until a whole round adds nothing
pub record IsInOrder (asks : Asking) (cell : CellData) (choices : List ℕ) (history : List Event) : Type 0 where
  pub first : List Event
  pub chosen : TakeChosen asks cell choices [] first
  pub rounds : ℕ
  pub made : RoundsFrom asks cell first rounds history
  pub over : IsRound asks cell history history
