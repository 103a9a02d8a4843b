use Rattle.std.proofs.Common.{◌<◌, reverse, sym, subst, arith}
use Rattle.machine_stacks.specs.OperandStack.{OperandStack, operands_in}
use Rattle.machine_stacks.proofs.Stacking.{total-operands}
use Rattle.machine_stacks.proofs.operands.Operands.push_place.Goals as goal

pub push_place-requires : goal.push_place-requires
push_place-requires c =
    let s = c.self.inside in
    let P : OperandStack → Type 0 = λ o. operands_in o < o.room in
    omega (arith, total-operands s.items.items s.base (reverse s.bases.items) c.self.invariant, subst P (sym c.self.view_is) c.requires.room)
