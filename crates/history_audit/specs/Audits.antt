-- What is found of the events and the fates of a history.
use Rattle.std.specs.Prelude.{◌≡◌, ◌≢◌, ◌<◌, ◌⊎◌, ◌↔◌, ℕ, Bool, IsTrue, List, ◌∷◌, ◌++◌, length, Some, Result, Ok, Err, slice_get}
use Rattle.rapid_model.specs.CellData.{CellData}
use Rattle.rapid_model.specs.declared.event.Event.{Event}
use Rattle.rapid_model.specs.declared.fate.Fate.{Fate}
use Rattle.cell_meaning.specs.Asking.{Asking}
use Rattle.cell_meaning.specs.Fates.{fate_after}
use Rattle.cell_meaning.specs.Histories.{IsLegal, IsWhole}
use Rattle.history_audit.specs.Wrongs.{IsWrong}
use Rattle.history_audit.specs.declared.audit_fault.AuditFault.{AuditFault}
use Rattle.history_audit.specs.declared.audit_fault.AuditFault.TheVariants as faults
use Rattle.history_audit.specs.declared.wrong.Wrong.{Wrong}

-- The first wrong event, by its number from 0: the events before it are legal, and with it they are not.
pub record IsFirstWrong (asks : Asking) (cell : CellData) (history : List Event) (at : ℕ) (wrong : Wrong) : Type 0 where
  pub before : List Event
  pub event : Event
  pub after : List Event
  pub cut : history ≡ before ++ event ∷ after
  pub number : at ≡ length before
  pub legal : IsLegal asks cell before
  pub stops : IsWrong asks cell before event wrong

-- the fate that is given for this task is wrong: another event can follow the history, or the task has another fate
pub record IsWrongFate (asks : Asking) (cell : CellData) (history : List Event) (fates : List Fate) (task : ℕ) : Type 0 where
  pub fate : Fate
  pub given : slice_get fates task ≡ Some fate
  pub wrong : (¬ IsWhole asks cell history) ⊎ (fate ≢ fate_after cell history task)

-- the first of them
pub record IsFirstWrongFate (asks : Asking) (cell : CellData) (history : List Event) (fates : List Fate) (task : ℕ) : Type 0 where
  pub legal : IsLegal asks cell history
  pub wrong : IsWrongFate asks cell history fates task
  pub first : (earlier : ℕ) → earlier < task → ¬ IsWrongFate asks cell history fates earlier

-- The history is legal, and no given fate is wrong. It is whole if no event can follow it, and open otherwise.
pub record IsPassed (asks : Asking) (cell : CellData) (history : List Event) (fates : List Fate) (whole : Bool) : Type 0 where
  pub legal : IsLegal asks cell history
  pub whole_is : IsTrue whole ↔ IsWhole asks cell history
  pub fates_are : (task : ℕ) → ¬ IsWrongFate asks cell history fates task

-- what is found of a history and of the fates of the first tasks
abbrev pub IsAudit : Asking → CellData → List Event → List Fate → Result Bool AuditFault → Type 0
IsAudit asks cell history fates (Ok whole) = IsPassed asks cell history fates whole
IsAudit asks cell history fates (Err (faults.Event at wrong)) = IsFirstWrong asks cell history at wrong
IsAudit asks cell history fates (Err (faults.Fate task)) = IsFirstWrongFate asks cell history fates task
