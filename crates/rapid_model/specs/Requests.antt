-- Which requests an actor may make.
use Rattle.std.specs.Prelude.{ℕ, ◌^◌, Bool, true, false, not, ◌&&◌, nat_lt, List, length, Option, Some, None, is_some, slice_get, ◌==◌}
use Rattle.rapid_num.specs.Reach.{is_position}
use Rattle.rapid_model.specs.CellData.{CellData}
use Rattle.rapid_model.specs.Own.{has_ended, is_held, is_rise, is_trapped}
use Rattle.rapid_model.specs.Paths.{fits_part, has_path, part_sort}
use Rattle.rapid_model.specs.declared.event.Event.{Event}
use Rattle.rapid_model.specs.declared.fate.Fate.{Fate}
use Rattle.rapid_model.specs.declared.fate.Fate.TheVariants as fates
use Rattle.rapid_model.specs.declared.pers_cell.PersCell.{PersCell}
use Rattle.rapid_model.specs.declared.request.Request.{Request}
use Rattle.rapid_model.specs.declared.request.Request.TheVariants as requests
use Rattle.rapid_model.specs.declared.sort.Sort.{Sort}
use Rattle.rapid_model.specs.declared.sort.Sort.TheVariants as sorts
use Rattle.rapid_model.specs.declared.task_row.TaskRow.{TaskRow}
use Rattle.rapid_model.specs.declared.watched.Watched.{Watched}
use Rattle.rapid_model.specs.declared.watched.Watched.TheVariants as watched

-- a task may report that it is done, that EXIT ended it, or a fault
abbrev pub may_tell : Fate → Bool
may_tell fates.Done = true
may_tell fates.Exit = true
may_tell (fates.Fault f) = true
may_tell fates.Held = false
may_tell fates.Cut = false

-- it holds of the persistent with this number, which exists
abbrev pub of_pers : CellData → ℕ → (PersCell → Bool) → Bool
of_pers cell pers test = holds (slice_get cell.pers pers)
  where
    holds : Option PersCell → Bool
    holds None = false
    holds (Some row) = test row

abbrev pub is_bool : Option Sort → Bool
is_bool (Some sorts.Bool) = true
is_bool _ = false

abbrev pub has_signal : CellData → ℕ → Bool
has_signal cell signal = nat_lt signal (length cell.signals)

abbrev pub can_watch : CellData → Watched → Bool
can_watch cell (watched.Signal signal value) = has_signal cell signal
can_watch cell (watched.Pers pers) = nat_lt pers (length cell.pers)

-- What a task may request, given its own events so far: only persistents, signals and meetings of the cell, an arm only
-- if it has one, and Leave only in a trap. Any numbers of interrupts, traps and zones are allowed.
abbrev pub suits_task : CellData → TaskRow → List Event → Request → Bool
suits_task cell row mine (requests.ReadP pers path) = of_pers cell pers (λ p. has_path p path)
suits_task cell row mine (requests.WriteP pers path value) = of_pers cell pers (λ p. has_path p path && fits_part p.sort path.part value)
suits_task cell row mine (requests.TestSet pers path) = of_pers cell pers (λ p. has_path p path && is_bool (part_sort p.sort path.part))
suits_task cell row mine (requests.ReadS signal) = has_signal cell signal
suits_task cell row mine (requests.WriteS signal value) = has_signal cell signal
suits_task cell row mine requests.Position = is_some row.arm
suits_task cell row mine (requests.Setpoint to) = is_some row.arm && is_position row.axes to
suits_task cell row mine (requests.Order number on single) = can_watch cell on
suits_task cell row mine requests.Leave = is_trapped mine
suits_task cell row mine (requests.ZoneSet old temporary shape) = is_some row.arm
suits_task cell row mine (requests.ZoneTie old temporary shape signal value) = is_some row.arm && has_signal cell signal
suits_task cell row mine (requests.ZoneOn zone) = is_some row.arm
suits_task cell row mine (requests.ZoneOff zone) = is_some row.arm
suits_task cell row mine (requests.ZoneFree zone) = is_some row.arm
suits_task cell row mine (requests.Arrive meeting tasks) = nat_lt meeting (length cell.meetings) && nat_lt tasks (2 ^ length cell.tasks)
suits_task cell row mine (requests.Input index) = false
suits_task cell row mine (requests.End fate) = may_tell fate
suits_task cell row mine _ = true

-- the input script requests its steps in order, and nothing else
abbrev pub suits_inputs : CellData → List Event → Request → Bool
suits_inputs cell mine (requests.Input index) = index == length mine && nat_lt index (length cell.inputs)
suits_inputs cell mine _ = false

-- a held task requests Rise, and no other task does
abbrev pub goes_with : Bool → Bool → Bool
goes_with true rise = rise
goes_with false rise = not rise

-- what an actor may request: a task that has not ended, by its number in the cell, or the input script, whose number
-- follows those of the tasks
abbrev pub suits_actor : CellData → ℕ → List Event → Request → Bool
suits_actor cell actor mine request = suits (slice_get cell.tasks actor)
  where
    suits : Option TaskRow → Bool
    suits (Some row) = not (has_ended mine) && goes_with (is_held mine) (is_rise request) && suits_task cell row mine request
    suits None = actor == length cell.tasks && suits_inputs cell mine request
