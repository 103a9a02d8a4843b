-- How the tasks stand after a history.
use Rattle.std.specs.Prelude.{ℕ, zero, suc, Bool, true, not, ◌&&◌, nat_le, List, [], ◌∷◌, ◌++◌, length, Option, Some, None, if◌then◌else◌}
use Rattle.rapid_model.specs.CellData.{CellData}
use Rattle.rapid_model.specs.Own.{part_of, end_of, has_ended}
use Rattle.rapid_model.specs.declared.event.Event.{Event}
use Rattle.rapid_model.specs.declared.fate.Fate.{Fate}
use Rattle.rapid_model.specs.declared.fate.Fate.TheVariants.{Held, Cut}
use Rattle.cell_meaning.specs.Counted.{counted}

-- each of the first tasks, from 0, has ended
abbrev pub all_ended : ℕ → List Event → Bool
all_ended zero history = true
all_ended (suc tasks) history = all_ended tasks history && has_ended (part_of tasks history)

-- a task has not ended, and the steps are used up
abbrev pub is_spent : CellData → List Event → Bool
is_spent cell history = not (all_ended (length cell.tasks) history) && nat_le cell.steps (counted history)

-- a task's fate after a complete history: the one it ended with; otherwise Cut if the steps are used up, else Held
abbrev pub fate_after : CellData → List Event → ℕ → Fate
fate_after cell history task = or_standing (end_of (part_of task history))
  where
    or_standing : Option Fate → Fate
    or_standing (Some fate) = fate
    or_standing None = if is_spent cell history then Cut else Held

-- the fates of that many tasks, from 0
abbrev pub fates_after : CellData → List Event → ℕ → List Fate
fates_after cell history zero = []
fates_after cell history (suc tasks) = fates_after cell history tasks ++ fate_after cell history tasks ∷ []
