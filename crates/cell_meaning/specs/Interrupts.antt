-- The interrupts of the tasks after a history (RAPID Instructions: CONNECT, ISignalDI, IPers, ISleep, IWatch, IDelete,
-- IDisable, IEnable).
use Rattle.std.specs.Prelude.{ℕ, true, false, List, [], ◌∷◌, ◌++◌, map, length, replicate}
use Rattle.rapid_model.specs.CellData.{CellData}
use Rattle.rapid_model.specs.declared.answer.Answer.{Answer}
use Rattle.rapid_model.specs.declared.answer.Answer.TheVariants as answers
use Rattle.rapid_model.specs.declared.event.Event.{Event}
use Rattle.rapid_model.specs.declared.request.Request.{Request}
use Rattle.rapid_model.specs.declared.request.Request.TheVariants.{Look, Connect, Order, Sleep, Watch, Delete, Disable, Enable, Leave}
use Rattle.trap_dispatch.specs.declared.due.Due.{Due}
use Rattle.trap_dispatch.specs.Tasks.{TaskData, before_all, with_number, fresh, ordered, slept, deleted, in_first_trap, after_changes, look_answer}
use Rattle.trap_dispatch.specs.Traps.{task_at, with_task}
use Rattle.cell_meaning.specs.Changes.{changes_of}

-- the interrupts after a request of this actor and its answer, from those before it
abbrev pub asked_with : List TaskData → ℕ → Request → Answer → List TaskData
asked_with tasks actor Look (answers.Trap number trap) = with_task tasks actor (in_first_trap (task_at tasks actor) (task_at tasks actor).queue)
asked_with tasks actor (Connect old trap) (answers.Number number) = with_task tasks actor (with_number (task_at tasks actor) number (fresh trap))
asked_with tasks actor (Order number on single) answers.Ok = with_task tasks actor (ordered (task_at tasks actor) number (record { on = on; single = single }))
asked_with tasks actor (Sleep number) answers.Ok = with_task tasks actor (slept (task_at tasks actor) number true)
asked_with tasks actor (Watch number) answers.Ok = with_task tasks actor (slept (task_at tasks actor) number false)
asked_with tasks actor (Delete number) answers.Ok = with_task tasks actor (deleted (task_at tasks actor) number)
asked_with tasks actor Disable answers.Ok = with_task tasks actor (record (task_at tasks actor) { disabled = true })
asked_with tasks actor Enable answers.Ok = with_task tasks actor (record (task_at tasks actor) { disabled = false })
asked_with tasks actor Leave answers.Ok = with_task tasks actor (record (task_at tasks actor) { in_trap = false })
asked_with tasks actor _ _ = tasks

-- and after the event's changes fired interrupts of every task
abbrev pub interrupts_with : CellData → List Event → Event → List TaskData → List TaskData
interrupts_with cell before e tasks = map (after_changes (changes_of cell before e)) (asked_with tasks e.actor e.request e.answer)

-- after these events and the later ones
abbrev pub interrupts_from : CellData → List TaskData → List Event → List Event → List TaskData
interrupts_from cell tasks before [] = tasks
interrupts_from cell tasks before (e ∷ es) = interrupts_from cell (interrupts_with cell before e tasks) (before ++ e ∷ []) es

-- the interrupts of each task of the cell
abbrev pub interrupts_after : CellData → List Event → List TaskData
interrupts_after cell history = interrupts_from cell (replicate (length cell.tasks) before_all) [] history

-- the interrupts of one task
abbrev pub interrupts_of : CellData → List Event → ℕ → TaskData
interrupts_of cell history task = task_at (interrupts_after cell history) task

-- whether a trap of the task is due
abbrev pub due_after : CellData → List Event → ℕ → Due
due_after cell history task = look_answer (interrupts_of cell history task)
