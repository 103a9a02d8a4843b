use Rattle.std.proofs.Common.{◌≢◌, ◌-◌, [], reverse, drop, sym, ap, subst, ◌∙◌, arith}
use Rattle.std.specs.Vec.{vec_capacity}
use Rattle.machine_stacks.specs.OperandStack.{OperandStack}
use Rattle.machine_stacks.specs.Words.{DataRow}
use Rattle.machine_stacks.proofs.Stacking.{stack_dropped, stack_in}
use Rattle.machine_stacks.proofs.operands.Operands.drop_top.Goals as goal

pub returns : goal.returns
returns c =
    let s = c.self.inside in
    let P : OperandStack → Type 0 = λ o. o.top ≢ [] in
    let some = subst P (sym c.self.view_is) c.requires.some in
    ap (λ (row : DataRow). stack_in row s.base (reverse s.bases.items) (vec_capacity s.bases)) c.truncate.ensures
    ∙ stack_dropped s.items.items (reverse s.bases.items) s.base (c.len.result - 1) _ _ some (omega arith)
    ∙ ap (λ (o : OperandStack). record o { top = drop 1 o.top }) c.self.view_is
