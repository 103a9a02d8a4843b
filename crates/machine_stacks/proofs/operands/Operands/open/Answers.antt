use Rattle.std.proofs.Common.{◌<◌, length, reverse, take, sym, subst, arith}
use Rattle.std.proofs.lemmas.List.{length-reverse}
use Rattle.machine_stacks.specs.OperandStack.{OperandStack}
use Rattle.machine_stacks.proofs.Stacking.{length-stacked}
use Rattle.machine_stacks.proofs.operands.Operands.open.Goals as goal

pub push_reserved-requires : goal.push_reserved-requires
push_reserved-requires c =
    let s = c.self.inside in
    let P : OperandStack → Type 0 = λ o. length o.below < o.depth in
    omega (arith, length-stacked (take s.base s.items.items) (reverse s.bases.items), length-reverse s.bases.items, subst P (sym c.self.view_is) c.requires.depth)
