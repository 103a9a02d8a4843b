-- The round-robin run: the actors take turns in order, and each adds its event if it can.
use Rattle.std.specs.Prelude.{◌≡◌, ℕ, zero, suc, ◌+◌, ◌⊎◌, List, [], ◌∷◌, ◌++◌, length}
use Rattle.rapid_model.specs.CellData.{CellData}
use Rattle.rapid_model.specs.declared.event.Event.{Event}
use Rattle.cell_meaning.specs.Asking.{Asking}
use Rattle.cell_meaning.specs.Histories.{Follows}

-- the actor adds an event that follows
pub record Steps (asks : Asking) (cell : CellData) (actor : ℕ) (before after : List Event) : Type 0 where
  pub event : Event
  pub by : event.actor ≡ actor
  pub follows : Follows asks cell before event
  pub added : after ≡ before ++ event ∷ []

-- no event of the actor follows, and it adds nothing
pub record Rests (asks : Asking) (cell : CellData) (actor : ℕ) (before after : List Event) : Type 0 where
  pub none : (e : Event) → e.actor ≡ actor → Follows asks cell before e → ⊥
  pub same : after ≡ before

abbrev pub TakesTurn : Asking → CellData → ℕ → List Event → List Event → Type 0
TakesTurn asks cell actor before after = Steps asks cell actor before after ⊎ Rests asks cell actor before after

-- that many actors take their turns in order, starting with this one
unfoldable pub TakeTurns : Asking → CellData → ℕ → ℕ → List Event → List Event → Type 0
TakeTurns asks cell actor zero before after = after ≡ before
TakeTurns asks cell actor (suc left) before after =
    (between : List Event) × TakesTurn asks cell actor before between × TakeTurns asks cell (actor + 1) left between after

-- a turn for each task in order, and then for the input script
abbrev pub IsRound : Asking → CellData → List Event → List Event → Type 0
IsRound asks cell before after =
    (between : List Event) × TakeTurns asks cell 0 (length cell.tasks) before between × TakesTurn asks cell (length cell.tasks) between after

-- the result of that many rounds from the empty history
unfoldable pub AfterRounds : Asking → CellData → ℕ → List Event → Type 0
AfterRounds asks cell zero history = history ≡ []
AfterRounds asks cell (suc rounds) history =
    (before : List Event) × AfterRounds asks cell rounds before × IsRound asks cell before history

-- rounds from the empty history, until a whole round adds nothing
pub record IsByTurns (asks : Asking) (cell : CellData) (history : List Event) : Type 0 where
  pub rounds : ℕ
  pub made : AfterRounds asks cell rounds history
  pub over : IsRound asks cell history history
