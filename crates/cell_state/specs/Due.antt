-- What a task asks next, seen at its machine.
use Rattle.std.specs.Prelude.{◌≡◌, false, IsTrue, List, Option, None, Some}
use Rattle.rapid_model.specs.Own.{has_ended}
use Rattle.rapid_model.specs.declared.event.Event.{Event}
use Rattle.rapid_model.specs.declared.request.Request.{Request}
use Rattle.task_machine.specs.MachineData.{MachineData, request_of}

-- nothing if the task has ended with its last event, and otherwise the request that is due
abbrev pub IsDueNext : MachineData → List Event → Option Request → Type 0
IsDueNext m mine None = IsTrue (has_ended mine)
IsDueNext m mine (Some request) = (has_ended mine ≡ false) × (request_of m ≡ Some request)
