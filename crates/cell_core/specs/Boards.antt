-- What a core reads off its boards instead of the whole history, and how one event changes it.
use Rattle.std.specs.Prelude.{ℕ, ◌+◌, Bool, true, List, [], ◌∷◌, ◌++◌, length, map, replicate, Option, None, option_map, slice_get, slice_index_or, slice_set}
use Rattle.rapid_num.specs.declared.joints.Joints.{Joints}
use Rattle.rapid_model.specs.CellData.{CellData}
use Rattle.rapid_model.specs.declared.answer.Answer.{Answer}
use Rattle.rapid_model.specs.declared.answer.Answer.TheVariants as answers
use Rattle.rapid_model.specs.declared.event.Event.{Event}
use Rattle.rapid_model.specs.declared.path.Path.{Path}
use Rattle.rapid_model.specs.declared.request.Request.{Request}
use Rattle.rapid_model.specs.declared.request.Request.TheVariants.{WriteP, TestSet, WriteS, Setpoint, Input, Arrive}
use Rattle.rapid_model.specs.declared.task_row.TaskRow.{TaskRow}
use Rattle.rapid_model.specs.declared.value.Value.{Value}
use Rattle.rapid_model.specs.declared.value.Value.TheVariants as values
use Rattle.rapid_model.specs.Truths.{one_if}
use Rattle.persist_store.specs.Stores.{PersData, first_row, row_at}
use Rattle.sync_tasks.specs.Meetings.{MeetingsData, stand_at, before_all as no_stands}
use Rattle.trap_dispatch.specs.Tasks.{TaskData, after_changes, before_all as no_interrupts}
use Rattle.world_zones.specs.declared.own_zone.OwnZone.{OwnZone}
use Rattle.world_zones.specs.Zones.{ZonesData, arm_at, before_all as no_own_zones}
use Rattle.cell_meaning.specs.Counted.{is_counted}
use Rattle.cell_meaning.specs.Interrupts.{asked_with}
use Rattle.cell_meaning.specs.Meetings.{stands_with}
use Rattle.cell_meaning.specs.Stored.{signals_with, with_part}
use Rattle.cell_meaning.specs.Zones.{zones_with}
use Rattle.cell_core.specs.Actors.{before, actor_with, actor_at}
use Rattle.cell_core.specs.Changes.{watched_of, is_some_change, signal_change, input_change, pers_change, arrival_change, set_change}
use Rattle.cell_core.specs.declared.actor.Actor.{Actor}
use Rattle.cell_core.specs.declared.change.Change.{Change}

-- The persistents, the signals, the meetings, the interrupts of each task, the zones, what each actor's own events
-- amount to (the tasks in script order, then the input script), the number of counted events, and the number of
-- changes.
pub record BoardData : Type 0 where
  pub store : List PersData
  pub signals : List Bool
  pub meetings : MeetingsData
  pub traps : List TaskData
  pub zones : ZonesData
  pub actors : List Actor
  pub counted : ℕ
  pub changes : ℕ

-- the actors before the first event: the tasks, and the input script, which has no arm
abbrev pub actors_of : List TaskRow → List Actor
actors_of rows = map (λ row. before row.arm) rows ++ before None ∷ []

-- the boards before the first event
abbrev pub boards_of : CellData → BoardData
boards_of cell = record {
  store = map first_row cell.pers;
  signals = map (λ row. row.start) cell.signals;
  meetings = no_stands (length cell.tasks) (length cell.meetings);
  traps = replicate (length cell.tasks) no_interrupts;
  zones = no_own_zones cell;
  actors = actors_of cell.tasks;
  counted = 0;
  changes = 0;
}

-- the elements of each persistent
abbrev pub elements_of : List PersData → List (List Value)
elements_of rows = map (λ row. row.values) rows

-- the elements of the persistent with this number
abbrev pub elements_at : List PersData → ℕ → List Value
elements_at rows pers = slice_index_or (elements_of rows) pers []

-- with a value written to a part of one persistent
abbrev pub put_in : List PersData → ℕ → Path → Value → List PersData
put_in rows pers path value = slice_set rows pers (record (row_at rows pers) { values = with_part (row_at rows pers).values path value })

abbrev pub store_with : List PersData → Request → Answer → List PersData
store_with rows (WriteP pers path value) answers.Ok = put_in rows pers path value
store_with rows (TestSet pers path) (answers.Yes true) = put_in rows pers path (values.Bool true)
store_with rows _ _ = rows

-- where a request and its answer take an arm
abbrev pub arm_moved : Option Joints → Request → Answer → Option Joints
arm_moved arm (Setpoint to) answers.Given = option_map (λ position. to) arm
arm_moved arm _ _ = arm

-- the zones of an actor's arm, and the position of the arm, after a request and its answer
abbrev pub zones_on : BoardData → ℕ → Request → Answer → List (Option OwnZone)
zones_on boards actor request answer = arm_at (zones_with boards.zones actor request answer) actor

abbrev pub arm_on : BoardData → ℕ → Request → Answer → Option Joints
arm_on boards actor request answer = arm_moved (actor_at boards.actors actor).arm request answer

-- the boards after a request and its answer, before the change fires interrupts and the event is counted
abbrev pub asked_on : CellData → BoardData → ℕ → Request → Answer → BoardData
asked_on cell boards actor request answer = record {
  store = store_with boards.store request answer;
  signals = signals_with cell (zones_on boards actor request answer) (arm_on boards actor request answer) boards.signals request answer;
  meetings = stands_with boards.meetings actor request answer;
  traps = asked_with boards.traps actor request answer;
  zones = zones_with boards.zones actor request answer;
  actors = boards.actors;
  counted = boards.counted;
  changes = boards.changes;
}

-- what the event changes
abbrev pub change_on : CellData → BoardData → ℕ → Request → Answer → Change
change_on cell boards actor (WriteS signal value) answers.Ok = signal_change boards.signals signal value
change_on cell boards actor (Input index) answers.Ok = input_change boards.signals (slice_get cell.inputs index)
change_on cell boards actor (WriteP pers path value) answers.Ok = pers_change boards.store pers path value
change_on cell boards actor (TestSet pers path) (answers.Yes true) = pers_change boards.store pers path (values.Bool true)
change_on cell boards actor (Arrive meeting tasks) _ = arrival_change (stand_at boards.meetings actor meeting).waits
change_on cell boards actor request answer = set_change boards.signals (zones_on boards actor request answer) (arm_on boards actor request answer) request answer

-- the boards after the change of an event has fired interrupts and the event is counted
abbrev pub tallied : BoardData → ℕ → Request → Answer → Change → BoardData
tallied boards actor request answer change = record {
  store = boards.store;
  signals = boards.signals;
  meetings = boards.meetings;
  traps = map (after_changes (watched_of change)) boards.traps;
  zones = boards.zones;
  actors = slice_set boards.actors actor (actor_with (actor_at boards.actors actor) (is_some_change change) request answer);
  counted = boards.counted + one_if (is_counted request);
  changes = boards.changes + one_if (is_some_change change);
}

-- the boards after one more event
abbrev pub boards_with : CellData → BoardData → Event → BoardData
boards_with cell boards e =
    tallied (asked_on cell boards e.actor e.request e.answer) e.actor e.request e.answer (change_on cell boards e.actor e.request e.answer)
