-- What a well typed task asks.
use Rattle.std.specs.Prelude.{◌≡◌, ℕ, ◌<◌, ◌^◌, length, true, false, IsTrue, is_some, Some, slice_get, ⊤}
use Rattle.rapid_num.specs.Reach.{is_position}
use Rattle.rapid_model.specs.Paths.{fits_part, has_element, part_sort}
use Rattle.rapid_model.specs.Requests.{may_tell}
use Rattle.rapid_model.specs.declared.request.Request.{Request}
use Rattle.rapid_model.specs.declared.request.Request.TheVariants as requests
use Rattle.rapid_model.specs.declared.sort.Sort.TheVariants as sorts
use Rattle.rapid_model.specs.declared.watched.Watched.{Watched}
use Rattle.rapid_model.specs.declared.watched.Watched.TheVariants as watched
use Rattle.typed_trees.specs.Plain.{TypedPers}
use Rattle.rapid_meaning.specs.Answering.{is_trap_row}
use Rattle.rapid_meaning.specs.Data.{Data}
use Rattle.tree_typing.specs.Setting.{Setting, has_arm}
use Rattle.tree_typing.specs.States.{IsPers}

-- a signal of the cell, or a persistent of the tree
abbrev pub CanWatch : Setting → Watched → Type 0
CanWatch c (watched.Signal signal value) = signal < c.signals
CanWatch c (watched.Pers pers) = (p : TypedPers) × IsPers c.tree pers p

-- A request, with these data, for what exists: elements and parts of persistents, with values of their types; signals;
-- the arm only if there is one; traps to connect; listed meetings and tasks; setpoints only outside traps; and Leave
-- only in a trap.
abbrev pub IsAsked : Setting → Data → Request → Type 0
IsAsked c d (requests.ReadP pers path) = (p : TypedPers) × IsPers c.tree pers p × IsTrue (has_element p.len path.index) × IsTrue (is_some (part_sort p.sort path.part))
IsAsked c d (requests.WriteP pers path value) = (p : TypedPers) × IsPers c.tree pers p × IsTrue (has_element p.len path.index) × IsTrue (fits_part p.sort path.part value)
IsAsked c d (requests.TestSet pers path) = (p : TypedPers) × IsPers c.tree pers p × IsTrue (has_element p.len path.index) × (part_sort p.sort path.part ≡ Some sorts.Bool)
IsAsked c d (requests.ReadS signal) = signal < c.signals
IsAsked c d (requests.WriteS signal value) = signal < c.signals
IsAsked c d requests.Position = IsTrue (has_arm c)
IsAsked c d (requests.Setpoint to) = IsTrue (has_arm c) × IsTrue (is_position c.tree.axes to) × (d.trapped ≡ false)
IsAsked c d (requests.Connect old trap) = IsTrue (is_trap_row (slice_get c.tree.routines trap))
IsAsked c d (requests.Order number on single) = CanWatch c on
IsAsked c d requests.Leave = d.trapped ≡ true
IsAsked c d (requests.ZoneSet old temporary shape) = IsTrue (has_arm c)
IsAsked c d (requests.ZoneTie old temporary shape signal value) = IsTrue (has_arm c) × (signal < c.signals)
IsAsked c d (requests.ZoneOn zone) = IsTrue (has_arm c)
IsAsked c d (requests.ZoneOff zone) = IsTrue (has_arm c)
IsAsked c d (requests.ZoneFree zone) = IsTrue (has_arm c)
IsAsked c d (requests.Arrive meeting tasks) = (row : ℕ) × (slice_get c.tree.meeting_of row ≡ Some meeting) × (tasks < 2 ^ length c.tree.tasks)
IsAsked c d (requests.Input index) = ⊥
IsAsked c d (requests.End fate) = IsTrue (may_tell fate)
IsAsked c d _ = ⊤
