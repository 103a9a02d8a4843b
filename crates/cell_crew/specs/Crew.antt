-- The machines of a cell's tasks, one each in script order, and the programs of the tasks.
use Rattle.std.specs.Prelude.{◌≡◌, ◌↔◌, ℕ, List, length, map, filter, Some, slice_get, is_none}
use Rattle.std.specs.List.{AllByRecursion}
use Rattle.rapid_model.specs.CellData.{CellData}
use Rattle.rapid_model.specs.Own.{part_of, fate_of}
use Rattle.rapid_model.specs.declared.answer.Answer.{Answer}
use Rattle.rapid_model.specs.declared.event.Event.{Event}
use Rattle.rapid_model.specs.declared.request.Request.{Request}
use Rattle.cell_meaning.specs.Asking.{Asking}

-- a machine for each task, none of which has asked anything
pub record IsCrew {M : Type 0} (is_fresh : M → Type 0) (machines : List M) (cell : CellData) : Type 0 where
  pub one_each : length machines ≡ length cell.tasks
  pub fresh : AllByRecursion is_fresh machines

-- A task asks what its program asks: after answers that fit the program, it asks that and nothing else.
pub record AsksAsProgram {P : Type 0} (fits : P → List Answer → Type 0) (program_asks : P → List Answer → Request → Type 0) (asks : Asking) (task : ℕ) (program : P) : Type 0 where
  pub same : (answers : List Answer) (request : Request) → fits program answers → asks task answers request ↔ program_asks program answers request

-- each task asks what its program asks
pub record AskAsPrograms {P : Type 0} (fits : P → List Answer → Type 0) (program_asks : P → List Answer → Request → Type 0) (asks : Asking) (programs : List P) : Type 0 where
  pub each : (task : ℕ) (program : P) → slice_get programs task ≡ Some program → AsksAsProgram fits program_asks asks task program

-- the answers that a task got, except that to its End
abbrev pub answers_before_end : List Event → List Answer
answers_before_end mine = map (λ e. e.answer) (filter (λ e. is_none (fate_of e.request)) mine)

-- each machine stands for its task's answers in the history, except that to its End
pub record Stand {M : Type 0} (stands_for : M → List Answer → Type 0) (machines : List M) (history : List Event) : Type 0 where
  pub each : (task : ℕ) (m : M) → slice_get machines task ≡ Some m → stands_for m (answers_before_end (part_of task history))
