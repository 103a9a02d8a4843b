use Rattle.std.proofs.Common.{◌≢◌, ◌-◌, [], ◌∷◌, reverse, take, drop, sym, ap, subst, ◌∙◌, arith}
use Rattle.std.specs.Vec.{vec_capacity}
use Rattle.machine_stacks.specs.OperandStack.{OperandStack, stacked}
use Rattle.machine_stacks.specs.Words.{DataRow}
use Rattle.machine_stacks.proofs.Stacking.{stack_of, stack_popped}
use Rattle.machine_stacks.proofs.operands.Operands.pop.Goals as goal

pub returns : goal.returns
returns c =
    let s = c.self.inside in
    let x = c.in-Some.datum in
    let P : OperandStack → Type 0 = λ o. o.top ≢ [] in
    let some = subst P (sym c.self.view_is) c.requires.some in
    sym c.self.view_is
    ∙ stack_popped s.items.items (reverse s.bases.items) s.base (c.len-last.result - 1) s.items.room (vec_capacity s.bases) x some (omega arith) (sym c.in-Some.ensures)
    ∙ ap (λ (row : DataRow). stack_of (x ∷ reverse (drop s.base row.items)) (stacked (take s.base row.items) (reverse s.bases.items)) row.room (vec_capacity s.bases)) (sym c.truncate.ensures)
