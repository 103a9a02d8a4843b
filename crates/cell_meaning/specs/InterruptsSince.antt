-- The interrupts of a task, from the events of a history alone (RAPID Instructions: CONNECT, ISignalDI, IPers, ISleep,
-- IWatch, IDelete, IDisable, IEnable).
use Rattle.std.specs.Prelude.{◌≡◌, ◌⊎◌, ℕ, Bool, true, IsTrue, List}
use Rattle.std.specs.List.{list_any}
use Rattle.rapid_model.specs.CellData.{CellData}
use Rattle.rapid_model.specs.declared.answer.Answer.TheVariants as answers
use Rattle.rapid_model.specs.declared.event.Event.{Event}
use Rattle.rapid_model.specs.declared.request.Request.TheVariants.{Look, Connect, Order, Sleep, Watch, Delete, Disable, Enable, Leave}
use Rattle.rapid_model.specs.declared.watched.Watched.{Watched}
use Rattle.trap_dispatch.specs.Firing.{is_change}
use Rattle.cell_meaning.specs.Changes.{changes_of}
use Rattle.cell_meaning.specs.Since.{Since, IsEvent}

-- the task connects a trap, and the number is the answer
abbrev pub Connects : ℕ → ℕ → ℕ → List Event → Event → Type 0
Connects task number trap before e = (old : ℕ) × IsEvent task (Connect old trap) (answers.Number number) e

-- the same with any trap
abbrev pub ConnectsAny : ℕ → ℕ → List Event → Event → Type 0
ConnectsAny task number before e = (trap : ℕ) × Connects task number trap before e

abbrev pub Deletes : ℕ → ℕ → List Event → Event → Type 0
Deletes task number before e = IsEvent task (Delete number) answers.Ok e

abbrev pub Sleeps : ℕ → ℕ → List Event → Event → Type 0
Sleeps task number before e = IsEvent task (Sleep number) answers.Ok e

-- it is awake after IWatch, and once it is connected
abbrev pub Wakes : ℕ → ℕ → List Event → Event → Type 0
Wakes task number before e = IsEvent task (Watch number) answers.Ok e ⊎ ConnectsAny task number before e

-- asleep: after an ISleep came neither an IWatch nor a CONNECT
abbrev pub IsAsleep : ℕ → ℕ → List Event → Type 0
IsAsleep task number history = Since (Sleeps task number) (Wakes task number) history

abbrev pub Orders : ℕ → ℕ → Watched → Bool → List Event → Event → Type 0
Orders task number on single before e = IsEvent task (Order number on single) answers.Ok e

-- what it watches changes while it is awake
abbrev pub Fires : CellData → ℕ → ℕ → Watched → List Event → Event → Type 0
Fires cell task number on before e = IsTrue (list_any (is_change on) (changes_of cell before e)) × ¬ IsAsleep task number before

-- an order ends with its connection, and a Single order as it fires
abbrev pub EndsOrder : CellData → ℕ → ℕ → Watched → Bool → List Event → Event → Type 0
EndsOrder cell task number on single before e = ConnectsAny task number before e ⊎ ((single ≡ true) × Fires cell task number on before e)

-- the task disables all interrupts, or enables them
abbrev pub Disables : ℕ → List Event → Event → Type 0
Disables task before e = IsEvent task Disable answers.Ok e

abbrev pub Enables : ℕ → List Event → Event → Type 0
Enables task before e = IsEvent task Enable answers.Ok e

-- a trap of the task begins, or ends
abbrev pub BeginsTrap : ℕ → List Event → Event → Type 0
BeginsTrap task before e = (number : ℕ) × (trap : ℕ) × IsEvent task Look (answers.Trap number trap) e

abbrev pub EndsTrap : ℕ → List Event → Event → Type 0
EndsTrap task before e = IsEvent task Leave answers.Ok e
