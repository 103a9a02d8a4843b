-- What the boards of a core keep from its history.
use Rattle.std.specs.Prelude.{◌≡◌, ℕ, ◌+◌, ◌≤◌, List, length, map, None, is_some, count_by}
use Rattle.rapid_model.specs.CellData.{CellData, IsCell}
use Rattle.rapid_model.specs.Own.{part_of, end_of, is_held, is_trap, is_leave}
use Rattle.rapid_model.specs.declared.event.Event.{Event}
use Rattle.cell_meaning.specs.Changes.{changes_by_others}
use Rattle.cell_meaning.specs.Counted.{counted}
use Rattle.cell_meaning.specs.Interrupts.{interrupts_after}
use Rattle.cell_meaning.specs.Meetings.{stands_after}
use Rattle.cell_meaning.specs.Motion.{arm_after, setpoints_given}
use Rattle.cell_meaning.specs.Premises.{StartsFull}
use Rattle.cell_meaning.specs.Rising.{seen_after}
use Rattle.cell_meaning.specs.Stored.{signals_after, persistents_after}
use Rattle.cell_meaning.specs.Zones.{zones_after}
use Rattle.cell_core.specs.Actors.{actor_at}
use Rattle.cell_core.specs.Boards.{BoardData, elements_of}
use Rattle.cell_core.specs.Soundness.{IsSound}
use Rattle.cell_core.specs.declared.actor.Actor.{Actor}

-- an actor's board agrees with the history; the changes that the actor did not make were made by others
pub record Tells (cell : CellData) (history : List Event) (number : ℕ) (actor : Actor) (changes : ℕ) : Type 0 where
  pub arm : actor.arm ≡ arm_after cell history number
  pub end : actor.end ≡ end_of (part_of number history)
  pub held : actor.held ≡ is_held (part_of number history)
  pub seen : actor.seen ≡ seen_after history number
  pub given : actor.given ≡ setpoints_given history number
  pub begun : actor.begun ≡ count_by (λ e. is_trap e.answer) (part_of number history)
  pub left : actor.left ≡ count_by (λ e. is_leave e.request) (part_of number history)
  pub events : actor.events ≡ length (part_of number history)
  pub made : actor.made + changes_by_others cell history number ≡ changes

-- the persistents are those of the cell, each with its type and length
abbrev pub AreOfCell : CellData → BoardData → Type 0
AreOfCell cell boards =
    (map (λ row. row.sort) boards.store ≡ map (λ row. row.sort) cell.pers) × (map (λ row. row.len) boards.store ≡ map (λ row. row.len) cell.pers)

-- how many actors have ended
abbrev pub fates_count : List Actor → ℕ
fates_count actors = count_by (λ actor. is_some actor.end) actors

-- each board agrees with the history; each event is counted, is an input, or ended its task
pub record Keeps (cell : CellData) (history : List Event) (boards : BoardData) (steps : ℕ) : Type 0 where
  pub limits : IsCell cell
  pub full : StartsFull cell
  pub sound : IsSound cell history
  pub pers : AreOfCell cell boards
  pub store : elements_of boards.store ≡ persistents_after cell history
  pub signals : boards.signals ≡ signals_after cell history
  pub meetings : boards.meetings ≡ stands_after cell history
  pub traps : boards.traps ≡ interrupts_after cell history
  pub zones : boards.zones ≡ zones_after cell history
  pub actor_count : length boards.actors ≡ length cell.tasks + 1
  pub actors : (number : ℕ) → number ≤ length cell.tasks → Tells cell history number (actor_at boards.actors number) boards.changes
  pub steps_same : steps ≡ cell.steps
  pub counted_same : boards.counted ≡ counted history
  pub changes_few : boards.changes ≤ length history
  pub within : boards.counted ≤ steps
  pub script_on : (actor_at boards.actors (length cell.tasks)).end ≡ None
  pub inputs_within : (actor_at boards.actors (length cell.tasks)).events ≤ length cell.inputs
  pub events : length history ≡ boards.counted + fates_count boards.actors + (actor_at boards.actors (length cell.tasks)).events

-- room for every event of a run, in the pages and in the report, and for the fate of each task
pub record HasRoom (cell : CellData) (page_room event_room fate_room : ℕ) : Type 0 where
  pub pages : cell.steps + length cell.tasks + length cell.inputs ≤ page_room
  pub events : cell.steps + length cell.tasks + length cell.inputs ≤ event_room
  pub fates : length cell.tasks ≤ fate_room
