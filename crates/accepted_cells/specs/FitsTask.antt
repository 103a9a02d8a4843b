-- Code that fits a task of a cell, by the task's own events alone, whatever others do.
use Rattle.std.specs.Prelude.{◌≡◌, ℕ, List, ◌∷◌, ◌++◌, map, Option, None, Some, IsTrue, slice_get}
use Rattle.rapid_model.specs.CellData.{CellData}
use Rattle.rapid_model.specs.declared.answer.Answer.{Answer}
use Rattle.rapid_model.specs.declared.event.Event.{Event}
use Rattle.rapid_model.specs.declared.pers_cell.PersCell.{PersCell}
use Rattle.rapid_model.specs.declared.request.Request.{Request}
use Rattle.rapid_model.specs.declared.request.Request.TheVariants.{Connect, Order, ReadP, TestSet, WriteP}
use Rattle.rapid_model.specs.declared.watched.Watched.TheVariants.{Pers}
use Rattle.stack_code.specs.CodeData.{CodeData}
use Rattle.stack_code.specs.CodeRuns.{is_trap}
use Rattle.stack_code.specs.declared.pers_sort.PersSort.{PersSort}
use Rattle.task_code.specs.Asking.{CodeAsks}
use Rattle.task_code.specs.Live.{CodeFits}
use Rattle.cell_meaning.specs.MayAsk.{may_ask}

-- the answers of these events
abbrev pub answers_in : List Event → List Answer
answers_in mine = map (λ e. e.answer) mine

-- the task's own events: each has a request that the code asks after the answers so far
pub record AreAsked (code : CodeData) (task : ℕ) (mine : List Event) : Type 0 where
  pub own : (before after : List Event) (e : Event) → mine ≡ before ++ e ∷ after → e.actor ≡ task
  pub asked : (before after : List Event) (e : Event) → mine ≡ before ++ e ∷ after → CodeAsks code (answers_in before) e.request

-- the persistent that a request reads, writes, tests or watches
abbrev pub named_pers : Request → Option ℕ
named_pers (ReadP pers path) = Some pers
named_pers (WriteP pers path value) = Some pers
named_pers (TestSet pers path) = Some pers
named_pers (Order number (Pers pers) single) = Some pers
named_pers _ = None

-- the code has a row for a persistent of the cell, and each of its rows for it gives its type
pub record HasItsSort (code : CodeData) (cell : CellData) (pers : ℕ) : Type 0 where
  pub row : PersCell
  pub there : slice_get cell.pers pers ≡ Some row
  pub index : ℕ
  pub listed : slice_get code.sorts index ≡ Some (record { pers = pers; sort = row.sort })
  pub each : (k : ℕ) (r : PersSort) → slice_get code.sorts k ≡ Some r → r.pers ≡ pers → r.sort ≡ row.sort

-- After answers that fit step by step, the task may ask, with its events so far, what the code asks next. A trap that
-- it connects is a trap routine of the code, and a persistent that it names has its type in the code.
pub record FitsTask (code : CodeData) (cell : CellData) (task : ℕ) : Type 0 where
  pub may : (mine : List Event) (request : Request) → AreAsked code task mine → CodeFits code (answers_in mine) → CodeAsks code (answers_in mine) request
      → IsTrue (may_ask cell task mine request)
  pub traps : (answers : List Answer) (old trap : ℕ) → CodeFits code answers → CodeAsks code answers (Connect old trap) → IsTrue (is_trap (slice_get code.routines trap))
  pub sorts : (answers : List Answer) (request : Request) (pers : ℕ) → CodeFits code answers → CodeAsks code answers request → named_pers request ≡ Some pers → HasItsSort code cell pers
