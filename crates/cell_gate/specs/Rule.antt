-- What holds of the gate's table between any two steps. There is one history, and only the core holds it: each view
-- states a prefix of it and its actor's events.
use Rattle.std.specs.Prelude.{◌≡◌, ◌≢◌, ◌⊎◌, ℕ, ◌+◌, ◌<◌, ◌≤◌, Bool, true, false, List, [], ◌∷◌, length, Option, None, Some}
use Rattle.std.specs.List.{AllByRecursion}
use mathlib.Core.List.{IsPrefix}
use mathlib.Core.Option as maybe
use mathlib.Core.Option.{none, some}
use lib.ListN.{get_elem?}
use Rattle.atomic_table.specs.Table.{State}
use Rattle.rapid_model.specs.CellData.{CellData}
use Rattle.rapid_model.specs.Own.{part_of}
use Rattle.rapid_model.specs.declared.event.Event.{Event}
use Rattle.cell_core.specs.CoreData.{CoreData}
use Rattle.cell_gate.specs.declared.part.Part.{Part}
use Rattle.cell_gate.specs.declared.view.View.{View}
use Rattle.cell_gate.specs.Views.{parts}

abbrev pub core_of : CellData → List Event → CoreData
core_of cell history = record { cell = cell; history = history }

-- the part has seen a prefix of the history, and has its actor's events in it; the actor is one of the first `made`
pub record KnowsPart (history : List Event) (made : ℕ) (part : Part) : Type 0 where
  pub begins : IsPrefix part.seen history
  pub mine : part.mine ≡ part_of part.actor history
  pub known : part.actor < made

-- one of the parts is the actor's
abbrev pub SpeakFor : ℕ → List Part → Type 0
SpeakFor actor [] = ⊥
SpeakFor actor (part ∷ rest) = (part.actor ≡ actor) ⊎ SpeakFor actor rest

-- one of the parts has seen the whole history
abbrev pub SawAll : List Event → List Part → Type 0
SawAll history [] = ⊥
SawAll history (part ∷ rest) = (part.seen ≡ history) ⊎ SawAll history rest

-- the slot while a view has the turn: taken, or, before the gate is open, at home and empty
abbrev pub slot_away : Bool → maybe.Option (Option CoreData)
slot_away true = some None
slot_away false = none

-- the view has the turn, and has seen the whole history, which is empty before the gate is open
pub record HasTurn (turn : ℕ) (homes : List (maybe.Option (Option CoreData))) (history : List Event) (v : View) : Type 0 where
  pub turn_is : turn ≡ v.actor + 1
  pub whole : v.seen ≡ history
  pub away : homes ≡ slot_away v.fresh ∷ []
  pub empty : v.fresh ≡ true → history ≡ []

-- what holds of a view, by the number of its seat; only the first knows how many there are
pub record Knows (cell : CellData) (turn : ℕ) (homes : List (maybe.Option (Option CoreData))) (history : List Event) (made seat : ℕ) (v : View) : Type 0 where
  pub cell_is : v.cell ≡ cell
  pub tell : AllByRecursion (KnowsPart history made) (parts v)
  pub has_turn : v.holds ≡ true → HasTurn turn homes history v
  pub first : v.made ≢ 0 → (seat ≡ 0) × (v.made ≡ made)

-- P holds of each view that is not spent, by the number of its seat
abbrev pub Each : (ℕ → View → Type 0) → List View → Type 0
Each P views = (seat : ℕ) (v : View) → get_elem? views seat ≡ some v → v.spent ≡ false → P seat v

-- two views that are not spent and speak for one actor are one
abbrev pub Apart : List View → Type 0
Apart views =
    (seat other actor : ℕ) (v w : View) → get_elem? views seat ≡ some v → get_elem? views other ≡ some w → v.spent ≡ false → w.spent ≡ false
    → SpeakFor actor (parts v) → SpeakFor actor (parts w) → seat ≡ other

-- P holds of some view that is not spent
pub record SomeView (P : View → Type 0) (views : List View) : Type 0 where
  pub seat : ℕ
  pub view : View
  pub at : get_elem? views seat ≡ some view
  pub live : view.spent ≡ false
  pub so : P view

-- The words are the turn, which is 0 while nobody has it, and the length of the history. The first views made are those
-- of the first actors, and no other actor has an event (`late`). Some view that is not spent has seen the whole
-- history, or has taken in a part that has (`longest`). While nobody has the turn, the core is at home, with the whole
-- history (`home`). Otherwise a view that is not spent has the turn (`out`). Only one view has it, since the turn names
-- its actor, and no two views speak for one actor (`apart`).
pub record Kept (cell : CellData) (s : State (Option CoreData) View) : Type 0 where
  pub history : List Event
  pub made : ℕ
  pub turn : ℕ
  pub words : s.words ≡ turn ∷ length history ∷ []
  pub each : Each (Knows cell turn s.homes history made) s.views
  pub apart : Apart s.views
  pub room : made ≤ length cell.tasks + 1
  pub late : (actor : ℕ) → made ≤ actor → part_of actor history ≡ []
  pub longest : SomeView (λ v. SawAll history (parts v)) s.views
  pub home : turn ≡ 0 → s.homes ≡ some (Some (core_of cell history)) ∷ []
  pub out : turn ≢ 0 → SomeView (λ v. v.holds ≡ true) s.views
