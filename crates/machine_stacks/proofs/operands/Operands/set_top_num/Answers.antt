use Rattle.std.proofs.Common.{◌≢◌, ◌-◌, [], ◌∷◌, reverse, drop, sym, ap, subst, ◌∙◌, arith}
use Rattle.std.specs.Vec.{vec_capacity}
use Rattle.rapid_model.specs.declared.value.Value.TheVariants as values
use Rattle.typed_trees.specs.declared.datum.Datum.TheVariants.{Plain}
use Rattle.machine_stacks.specs.OperandStack.{OperandStack}
use Rattle.machine_stacks.specs.Words.{DataRow}
use Rattle.machine_stacks.proofs.Stacking.{stack_in, stack_set}
use Rattle.machine_stacks.proofs.operands.Operands.set_top_num.Goals as goal

pub returns : goal.returns
returns c =
    let s = c.self.inside in
    let P : OperandStack → Type 0 = λ o. o.top ≢ [] in
    let some = subst P (sym c.self.view_is) c.requires.some in
    let at = c.len-last.result - 1 in
    ap (λ (row : DataRow). stack_in row s.base (reverse s.bases.items) (vec_capacity s.bases)) c.set_num.ensures
    ∙ stack_set s.items.items (reverse s.bases.items) s.base at _ _ (Plain (values.Num c.args.number)) some (omega arith)
    ∙ ap (λ (o : OperandStack). record o { top = Plain (values.Num c.args.number) ∷ drop 1 o.top }) c.self.view_is
