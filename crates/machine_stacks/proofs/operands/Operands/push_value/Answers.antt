use Rattle.std.proofs.Common.{◌<◌, reverse, sym, subst, arith}
use Rattle.machine_stacks.specs.OperandStack.{OperandStack, operands_in}
use Rattle.machine_stacks.proofs.Stacking.{total-operands}
use Rattle.machine_stacks.proofs.operands.Operands.push_value.Goals as goal

pub push_value-requires : goal.push_value-requires
push_value-requires c =
    let s = c.self.inside in
    let P : OperandStack → Type 0 = λ o. operands_in o < o.room in
    omega (arith, total-operands s.items.items s.base (reverse s.bases.items) c.self.invariant, subst P (sym c.self.view_is) c.requires.room)
