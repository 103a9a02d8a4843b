use Rattle.std.proofs.Common.{◌≡◌, Some, length, option_map, refl, subst, sym, ap, ◌∙◌}
use Rattle.std.proofs.lemmas.Option.{slice_get-map, slice_get_read}
use Rattle.std.proofs.lemmas.Result.{on_ok_weaker}
use Rattle.typed_trees.specs.Views.{view_routine}
use Rattle.code_expr.specs.Contexts.{tree_of}
use Rattle.code_stmt.specs.Marked.{Marked}
use Rattle.code_stmt.proofs.marked.emit_numbered.Goals as goal

pub returns-clause-laid : goal.returns-clause-laid
returns-clause-laid c = on_ok_weaker c.add_marked.result (λ marked r is.
    let routines = c.args.tree.now.routines.items in
    let number = c.args.routine in
    let here = c.index-here.result.now in
    let context = c.new-context.result in
    let there : option_map view_routine (Some here) ≡ Some r = ap (option_map view_routine) (sym (slice_get_read routines (length routines) number here refl c.requires c.index-here.ensures)) ∙ (sym (slice_get-map view_routine routines number) ∙ is) in
    let same : view_routine here ≡ r = cc in
    subst (λ tree. Marked tree r c.args.code.now.items c.add_marked.new.code.items c.args.marks.now c.add_marked.new.marks) c.new-context.ensures.tree
    (subst (λ routine. Marked (tree_of context) routine c.args.code.now.items c.add_marked.new.code.items c.args.marks.now c.add_marked.new.marks) (c.new-context.ensures.routine ∙ same) marked)) c.add_marked.ensures.laid
