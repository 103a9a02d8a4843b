-- What the boards must have for a request.
use Rattle.std.specs.Prelude.{◌≡◌, ℕ, ◌<◌, ◌≤◌, ◌^◌, List, length, Some, IfSome, All, is_some, slice_get, IsTrue}
use Rattle.rapid_limits.specs.declared.TheConstants.{LONGEST_QUEUE}
use Rattle.rapid_num.specs.declared.joints.Joints.{Joints}
use Rattle.rapid_model.specs.CellData.{CellData}
use Rattle.rapid_model.specs.Paths.{fits_part, has_element, part_sort}
use Rattle.rapid_model.specs.declared.answer.Answer.{Answer}
use Rattle.rapid_model.specs.declared.input_row.InputRow.{InputRow}
use Rattle.rapid_model.specs.declared.path.Path.{Path}
use Rattle.rapid_model.specs.declared.request.Request.{Request}
use Rattle.rapid_model.specs.declared.request.Request.TheVariants as requests
use Rattle.rapid_model.specs.declared.sort.Sort.TheVariants as sorts
use Rattle.persist_store.specs.Stores.{PersData, IsKept, row_at}
use Rattle.sync_tasks.specs.Meetings.{MeetingsData, stand_at}
use Rattle.trap_dispatch.specs.Traps.{task_at}
use Rattle.world_zones.specs.Outputs.{output_at}
use Rattle.world_zones.specs.Zones.{ZonesData, arm_at, zone_at}
use Rattle.cell_meaning.specs.Zones.{zones_with}
use Rattle.cell_core.specs.Actors.{actor_at}
use Rattle.cell_core.specs.Boards.{BoardData}
use Rattle.cell_core.specs.declared.actor.Actor.{Actor}

-- the persistent exists, with the element and the part that the path names
pub record HasPart (rows : List PersData) (pers : ℕ) (path : Path) : Type 0 where
  pub there : pers < length rows
  pub part : IsTrue (is_some (part_sort (row_at rows pers).sort path.part))
  pub element : IsTrue (has_element (row_at rows pers).len path.index)
  pub kept : IsKept (row_at rows pers)

-- the task and the meeting exist, and no count is near the end of its range
pub record CanArrive (meetings : MeetingsData) (task meeting : ℕ) : Type 0 where
  pub task_there : task < meetings.tasks
  pub meeting_there : meeting < meetings.meetings
  pub few : (stand_at meetings task meeting).passed < 2 ^ 31

-- each signal that a zone of an arm sets exists, if there are this many
abbrev pub OutputsThere : ZonesData → ℕ → Type 0
OutputsThere zones signals = (task number : ℕ) (at : Joints) → IfSome (output_at at (zone_at (arm_at zones task) number)) (λ output. output.0 < signals)

-- the task's arm has zones, and each signal that a zone of an arm sets exists, if there are this many
pub record HasOutputs (zones : ZonesData) (task signals : ℕ) : Type 0 where
  pub arm : task < length zones.arms
  pub outputs : OutputsThere zones signals

-- the task exists; its arm has zones, also after the request and whatever its answer, and the signals that they set exist
pub record CanSet (boards : BoardData) (task : ℕ) (request : Request) : Type 0 where
  pub actor : task < length boards.actors
  pub arm : task < length boards.zones.arms
  pub after : (answer : Answer) → HasOutputs (zones_with boards.zones task request answer) task (length boards.signals)

-- the task exists, its arm has zones, and each signal exists that one of them sets or a zone of the cell names
pub record CanMove (boards : BoardData) (task : ℕ) : Type 0 where
  pub actor : task < length boards.actors
  pub sets : HasOutputs boards.zones task (length boards.signals)
  pub signals : All (λ zone. zone.signal < length boards.signals) boards.zones.cell

-- the step of the input script and its signal exist
pub record CanFeed (cell : CellData) (boards : BoardData) (index : ℕ) : Type 0 where
  pub row : InputRow
  pub there : slice_get cell.inputs index ≡ Some row
  pub signal : row.signal < length boards.signals

abbrev pub CanAnswer : CellData → BoardData → ℕ → Request → Type 0
CanAnswer cell boards actor requests.Look = (actor < length boards.traps) × (actor < length boards.actors)
CanAnswer cell boards actor (requests.ReadP pers path) = HasPart boards.store pers path
CanAnswer cell boards actor (requests.WriteP pers path value) = HasPart boards.store pers path × IsTrue (fits_part (row_at boards.store pers).sort path.part value)
CanAnswer cell boards actor (requests.TestSet pers path) = HasPart boards.store pers path × (part_sort (row_at boards.store pers).sort path.part ≡ Some sorts.Bool)
CanAnswer cell boards actor (requests.ReadS signal) = signal < length boards.signals
CanAnswer cell boards actor (requests.WriteS signal value) = signal < length boards.signals
CanAnswer cell boards actor requests.Position = actor < length boards.actors
CanAnswer cell boards actor (requests.Setpoint to) = CanMove boards actor
CanAnswer cell boards actor (requests.Connect old trap) = actor < length boards.traps
CanAnswer cell boards actor (requests.Order number on single) = actor < length boards.traps
CanAnswer cell boards actor (requests.Sleep number) = actor < length boards.traps
CanAnswer cell boards actor (requests.Watch number) = actor < length boards.traps
CanAnswer cell boards actor (requests.Delete number) = actor < length boards.traps
CanAnswer cell boards actor requests.Disable = actor < length boards.traps
CanAnswer cell boards actor requests.Enable = actor < length boards.traps
CanAnswer cell boards actor requests.Leave = (actor < length boards.traps) × IsTrue (task_at boards.traps actor).in_trap
CanAnswer cell boards actor (requests.ZoneSet old temporary shape) = actor < length boards.zones.arms
CanAnswer cell boards actor (requests.ZoneTie old temporary shape signal value) = CanSet boards actor (requests.ZoneTie old temporary shape signal value)
CanAnswer cell boards actor (requests.ZoneOn zone) = CanSet boards actor (requests.ZoneOn zone)
CanAnswer cell boards actor (requests.ZoneOff zone) = actor < length boards.zones.arms
CanAnswer cell boards actor (requests.ZoneFree zone) = actor < length boards.zones.arms
CanAnswer cell boards actor (requests.Arrive meeting tasks) = CanArrive boards.meetings actor meeting
CanAnswer cell boards actor (requests.Input index) = CanFeed cell boards index
CanAnswer cell boards actor _ = Unit {0}

-- no count of an actor is near the end of its range
pub record IsFew (actor : Actor) : Type 0 where
  pub given : actor.given < 2 ^ 31
  pub begun : actor.begun < 2 ^ 31
  pub left : actor.left < 2 ^ 31
  pub events : actor.events < 2 ^ 31
  pub made : actor.made < 2 ^ 31

-- the actor exists, each queue has room, and no count is near the end of its range
pub record CanCount (boards : BoardData) (actor : ℕ) : Type 0 where
  pub there : actor < length boards.actors
  pub room : All (λ task. length task.queue ≤ LONGEST_QUEUE) boards.traps
  pub own : IsFew (actor_at boards.actors actor)
  pub counted : boards.counted < 2 ^ 31
  pub changes : boards.changes < 2 ^ 31

-- the signal and the actor that the gate of a step names exist
pub record CanPass (boards : BoardData) (row : InputRow) : Type 0 where
  pub when : IfSome row.when (λ w. w.0 < length boards.signals)
  pub given : IfSome row.given (λ g. g.0 < length boards.actors)
