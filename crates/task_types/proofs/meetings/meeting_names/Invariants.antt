use Rattle.std.proofs.Common.{◌≡◌, ◌++◌, map, drop}
use Rattle.typed_trees.specs.Views.{view_slot}
use Rattle.task_types.specs.Task.{meeting_names}
use Rattle.task_types.proofs.meetings.meeting_names.Given as goal

abbrev pub invariant-loop-slot : goal.invariant-loop-slot
invariant-loop-slot l = l.names.items ++ meeting_names (map view_slot (drop l.slot-index l.slots)) ≡ meeting_names (map view_slot l.slots)
