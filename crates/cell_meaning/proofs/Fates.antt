-- The fates of the tasks after a history.
use Rattle.std.proofs.Common.{◌≡◌, ℕ, zero, suc, ◌<◌, ◌≤◌, Bool, true, false, not, List, [], ◌∷◌, length, Option, None, Some, refl, ap, ◌∙◌, arith, length-append}
use Rattle.std.specs.Prelude.{◌&&◌, IsTrue, nat_le, is_some, if◌then◌else◌}
use Rattle.std.proofs.lemmas.Bool.{and_parts, le-leb, leb-true, not-true, true≢false}
use Rattle.rapid_model.specs.CellData.{CellData}
use Rattle.rapid_model.specs.Own.{part_of, end_of, has_ended}
use Rattle.rapid_model.specs.declared.event.Event.{Event}
use Rattle.rapid_model.specs.declared.fate.Fate.{Fate}
use Rattle.rapid_model.specs.declared.fate.Fate.TheVariants.{Held, Cut}
use Rattle.cell_meaning.specs.Counted.{counted}
use Rattle.cell_meaning.specs.Fates.{all_ended, is_spent, fate_after, fates_after}
use Rattle.cell_meaning.proofs.Ending.{one_going}

-- each task has one
pub length-fates_after : (cell : CellData) (history : List Event) (tasks : ℕ) → length (fates_after cell history tasks) ≡ tasks
length-fates_after cell history zero = refl
length-fates_after cell history (suc tasks) =
    let before = length-fates_after cell history tasks in
    let sum = length-append (fates_after cell history tasks) (fate_after cell history tasks ∷ []) in
    omega (arith, before, sum)

-- how a task stands with this end
abbrev standing : Bool → Option Fate → Fate
standing spent (Some fate) = fate
standing spent None = if spent then Cut else Held

-- a task that has ended has the fate that it ended with
pub ended_so : (cell : CellData) (history : List Event) (task : ℕ) (fate : Fate) → end_of (part_of task history) ≡ Some fate → fate_after cell history task ≡ fate
ended_so cell history task fate is = ap (λ (end : Option Fate). standing (is_spent cell history) end) is

no_end : (end : Option Fate) → is_some end ≡ false → end ≡ None
no_end None is = refl
no_end (Some fate) is = absurd (true≢false is)

-- one that has not is Cut or Held
stands_so : (cell : CellData) (history : List Event) (task : ℕ) (spent : Bool) → has_ended (part_of task history) ≡ false → is_spent cell history ≡ spent → fate_after cell history task ≡ (if spent then Cut else Held)
stands_so cell history task spent going is =
    ap (λ (end : Option Fate). standing (is_spent cell history) end) (no_end (end_of (part_of task history)) going) ∙ ap (λ (b : Bool). if b then Cut else Held) is

-- a task that has not ended, among the first
one_goes : (tasks : ℕ) (history : List Event) → all_ended tasks history ≡ false → (task : ℕ) × (task < tasks) × (has_ended (part_of task history) ≡ false)
one_goes zero history is = absurd (true≢false is)
one_goes (suc tasks) history is = by (λ so. one_goes tasks history so) (all_ended tasks history) refl (has_ended (part_of tasks history)) refl is
  where
    by : (all_ended tasks history ≡ false → (task : ℕ) × (task < tasks) × (has_ended (part_of task history) ≡ false)) → (before : Bool) → all_ended tasks history ≡ before → (last : Bool) → has_ended (part_of tasks history) ≡ last → (before && last) ≡ false
        → (task : ℕ) × (task < suc tasks) × (has_ended (part_of task history) ≡ false)
    by earlier false so last now h = let w = earlier so in (w.0, omega (arith, w.1), w.2)
    by earlier true so false now h = (tasks, omega arith, now)
    by earlier true so true now h = absurd (true≢false h)

-- spent: a task has not ended, and no step is left
pub spent_from : (cell : CellData) (history : List Event) → IsTrue (is_spent cell history) → ((task : ℕ) × (task < length cell.tasks) × (has_ended (part_of task history) ≡ false)) × (cell.steps ≤ counted history)
spent_from cell history spent =
    let w = and_parts (not (all_ended (length cell.tasks) history)) (nat_le cell.steps (counted history)) spent in
    (one_goes (length cell.tasks) history (not-true (all_ended (length cell.tasks) history) w.0), leb-true cell.steps (counted history) w.1)

pub spent_so : (cell : CellData) (history : List Event) (task : ℕ) → task < length cell.tasks → has_ended (part_of task history) ≡ false → cell.steps ≤ counted history → IsTrue (is_spent cell history)
spent_so cell history task within going none_left =
    ap (λ (b : Bool). not b && nat_le cell.steps (counted history)) (one_going (length cell.tasks) task history within going) ∙ le-leb cell.steps (counted history) none_left

pub cut_so : (cell : CellData) (history : List Event) (task : ℕ) → task < length cell.tasks → has_ended (part_of task history) ≡ false → cell.steps ≤ counted history → fate_after cell history task ≡ Cut
cut_so cell history task within going none_left = stands_so cell history task true going (spent_so cell history task within going none_left)

pub held_so : (cell : CellData) (history : List Event) (task : ℕ) → has_ended (part_of task history) ≡ false → counted history < cell.steps → fate_after cell history task ≡ Held
held_so cell history task going left =
    stands_so cell history task false going (by (is_spent cell history) refl)
  where
    by : (b : Bool) → is_spent cell history ≡ b → is_spent cell history ≡ false
    by false is = is
    by true is = let none_left = (spent_from cell history is).1 in absurd (omega (arith, left, none_left))
