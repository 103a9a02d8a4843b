-- What each step ensures for its caller, from what was in hand, the number found, and what is in hand afterwards.
use Rattle.std.specs.Prelude.{◌≡◌, ◌≢◌, ℕ, List, [], ◌∷◌, Option, None, Some}
use mathlib.Core.List.{IsPrefix}
use Rattle.atomic_table.specs.Table.{Me, rest}
use Rattle.rapid_model.specs.Own.{part_of}
use Rattle.rapid_model.specs.declared.event.Event.{Event}
use Rattle.cell_core.specs.CoreData.{CoreData}
use Rattle.cell_gate.specs.declared.view.View.{View}
use Rattle.cell_gate.specs.Rule.{core_of}
use Rattle.cell_gate.specs.Views.{after_take, after_count, after_give, after_open}

-- a seat's view, and the slots that it has taken
abbrev pub Hand : Type 0
Hand = Me (Option CoreData) View

-- the turn was free and is taken: the slot is out, and has the core with the whole history, which is now seen
pub record Took (before after : Hand) : Type 0 where
  pub view : after.0 ≡ after_take before.0 after.0.seen
  pub slot : after.1 ≡ (0, Some (core_of before.0.cell after.0.seen)) ∷ before.1
  pub begins : IsPrefix before.0.seen after.0.seen
  pub mine : before.0.mine ≡ part_of before.0.actor after.0.seen

abbrev pub Takes : Hand → ℕ → Hand → Type 0
Takes before found after = (found ≡ 0 → Took before after) × (found ≢ 0 → after ≡ before)

abbrev pub history_in : Option CoreData → List Event
history_in None = []
history_in (Some core) = core.history

-- the history of the core in the slot that was taken last
abbrev pub history_out : List (ℕ × Option CoreData) → List Event
history_out [] = []
history_out (slot ∷ slots) = history_in slot.1

-- the event of the core that is out is counted
abbrev pub counted_in : Hand → Hand
counted_in hand = (after_count hand.0 (history_out hand.1), hand.1)

-- A play's effect may depend on the number found in the word. These plays do the same whatever it is.
abbrev pub Counts : Hand → ℕ → Hand → Type 0
Counts before found after = after ≡ counted_in before

abbrev pub Gives : Hand → ℕ → Hand → Type 0
Gives before found after = after ≡ (after_give before.0, rest before.1)

abbrev pub Stays : Hand → ℕ → Hand → Type 0
Stays before found after = after ≡ before

abbrev pub Opens : Hand → ℕ → Hand → Type 0
Opens before found after = after ≡ (after_open before.0, (0, None) ∷ before.1)
