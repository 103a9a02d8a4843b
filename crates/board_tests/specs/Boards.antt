-- What holds of the boards in the tests.
use Rattle.std.specs.Prelude.{◌≡◌, ◌<◌, ◌≤◌, ℕ, Bool, List, length, map}
use Rattle.std.specs.List.{All}
use Rattle.rapid_model.specs.declared.sort.Sort.{Sort}
use Rattle.persist_store.specs.Stores.{PersData}
use Rattle.sync_tasks.specs.Meetings.{MeetingsData}
use Rattle.world_zones.specs.Zones.{ZonesData}

abbrev pub sorts_of : List PersData → List Sort
sorts_of rows = map (λ row. row.sort) rows

-- three tasks with one meeting, from which no task went on more often than this
pub record IsThree (m : MeetingsData) (arrivals : ℕ) : Type 0 where
  pub tasks : m.tasks ≡ 3
  pub meetings : m.meetings ≡ 1
  pub passed : All (λ s. s.passed ≤ arrivals) m.stands

-- two arms; each signal that a zone of the cell names exists
pub record IsTwoArms (zones : ZonesData) (signals : List Bool) : Type 0 where
  pub arms : length zones.arms ≡ 2
  pub some : 1 ≤ length signals
  pub named : All (λ zone. zone.signal < length signals) zones.cell
