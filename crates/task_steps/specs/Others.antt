-- Operations that are not done in place.
use Rattle.stack_code.specs.declared.op.Op.{Op}
use Rattle.stack_code.specs.declared.op.Op.TheVariants as ops

abbrev pub IsOther : Op → Type 0
IsOther (ops.Push datum) = ⊥
IsOther (ops.Slot slot) = ⊥
IsOther (ops.Local at) = ⊥
IsOther ops.Load = ⊥
IsOther ops.Store = ⊥
IsOther (ops.Binary operator) = ⊥
IsOther (ops.Jump to) = ⊥
IsOther (ops.JumpTrue to) = ⊥
IsOther (ops.JumpFalse to) = ⊥
IsOther (ops.Turn at to) = ⊥
IsOther (ops.Step at to) = ⊥
IsOther ops.Look = ⊥
IsOther _ = Unit {0}
