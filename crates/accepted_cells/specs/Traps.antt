-- Modules whose TRAPs have no parameters, as the grammar says (RAPID Kernel, trap routines).
use Rattle.std.specs.Prelude.{◌≡◌, List, [], ⊤}
use Rattle.std.specs.List.{All}
use Rattle.raw_trees.specs.Plain.{PlainModule, PlainParam, PlainRoutine}
use Rattle.rapid_model.specs.declared.routine_kind.RoutineKind.{RoutineKind}
use Rattle.rapid_model.specs.declared.routine_kind.RoutineKind.TheVariants as routines
use Rattle.task_types.specs.Task.{routines_of}

abbrev pub TakesByKind : RoutineKind → List PlainParam → Type 0
TakesByKind routines.Trap params = params ≡ []
TakesByKind _ params = ⊤

abbrev pub TrapsTakeNothing : List PlainModule → Type 0
TrapsTakeNothing modules = All (λ (r : PlainRoutine). TakesByKind r.kind r.params) (routines_of modules)
