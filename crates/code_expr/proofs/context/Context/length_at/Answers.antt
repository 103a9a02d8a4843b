use Rattle.std.proofs.Common.{◌≡◌, ap, sym, ◌∙◌}
use Rattle.std.specs.Option.{unwrap_or}
use Rattle.rapid_meaning.specs.Layouts
use Rattle.code_expr.specs.Contexts.{routine_of, tree_of}
use Rattle.code_expr.proofs.context.Context.length_at.Goals as goal
use Rattle.code_expr.proofs.context.Context.length_at.Goals.{in-Slot, in-Local, in-Ref, in-Pers}

pub returns : goal.returns
returns c =
    let tree = tree_of c.args.self.now in
    let routine = routine_of c.args.self.now in
    let at : c.match-root.len ≡ Layouts.length_at tree routine c.args.root = elim c.match-root.branch [
      | in-Slot w ↦ w.len-is ∙ (w.slot_length-len.ensures routine ∙ ap (Layouts.length_at tree routine) (sym w.in-Slot.is))
      | in-Local w ↦ w.len-is ∙ (w.local_length-len.ensures tree ∙ ap (Layouts.length_at tree routine) (sym w.in-Local.is))
      | in-Ref w ↦ w.len-is ∙ ap (Layouts.length_at tree routine) (sym w.in-Ref.is)
      | in-Pers w ↦ w.len-is ∙ (w.pers_length-len.ensures routine ∙ ap (Layouts.length_at tree routine) (sym w.in-Pers.is))
    ] in
    c.unwrap_or.ensures ∙ ap (λ len. unwrap_or len 0) at
