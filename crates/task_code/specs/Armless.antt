-- Code of a task without an arm.
use Rattle.std.specs.Prelude.{Bool, true, false, not, List}
use Rattle.std.specs.List.{list_all}
use Rattle.stack_code.specs.declared.op.Op.{Op}
use Rattle.stack_code.specs.declared.op.Op.TheVariants as ops

-- an operation that asks for the arm's position, begins a move, or makes a shape in the arm's axes
abbrev pub needs_arm : Op → Bool
needs_arm ops.Here = true
needs_arm ops.Aim = true
needs_arm (ops.Shape inside home) = true
needs_arm op = false

-- none of the operations needs an arm
abbrev pub is_armless : List Op → Bool
is_armless list = list_all (λ op. not (needs_arm op)) list
