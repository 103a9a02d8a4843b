use Rattle.std.proofs.Common.{◌≢◌, ◌-◌, [], ◌∷◌, reverse, drop, sym, ap, subst, ◌∙◌, arith}
use Rattle.std.specs.Vec.{vec_capacity}
use Rattle.typed_trees.specs.declared.datum.Datum.TheVariants.{Plain}
use Rattle.machine_stacks.specs.OperandStack.{OperandStack}
use Rattle.machine_stacks.specs.Words.{DataRow}
use Rattle.machine_stacks.proofs.Stacking.{stack_in, stack_set}
use Rattle.machine_stacks.proofs.operands.Operands.set_top_value.Goals as goal

pub returns : goal.returns
returns c =
    let s = c.self.inside in
    let P : OperandStack → Type 0 = λ o. o.top ≢ [] in
    let some = subst P (sym c.self.view_is) c.requires.some in
    let at = c.len-last.result - 1 in
    ap (λ (row : DataRow). stack_in row s.base (reverse s.bases.items) (vec_capacity s.bases)) c.set_value.ensures
    ∙ stack_set s.items.items (reverse s.bases.items) s.base at _ _ (Plain c.args.value) some (omega arith)
    ∙ ap (λ (o : OperandStack). record o { top = Plain c.args.value ∷ drop 1 o.top }) c.self.view_is
