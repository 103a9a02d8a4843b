use Rattle.std.proofs.Common.{◌≡◌, [], Some, length, map, option_map, refl, sym, ap, ◌∙◌}
use Rattle.std.proofs.lemmas.Option.{slice_get-map, slice_get_read}
use Rattle.stack_code.specs.ExprLayouts.{expr_code}
use Rattle.stack_code.specs.Placed.{Placed}
use Rattle.typed_trees.specs.Views.{view_expr, view_routine, view_tree}
use Rattle.code_expr.specs.Contexts.{routine_of}
use Rattle.code_expr.proofs.Blocks.{fresh_block}
use Rattle.code_expr.proofs.expressions.block_of.Goals as goal

pub returns : goal.returns
returns c = λ r own is.
    let routines = c.args.tree.now.routines.items in
    let number = c.args.routine in
    let here = c.index-here.result.now in
    let context = c.new-context.result in
    let block = c.new-block.result in
    let e = view_expr c.args.expr.now in
    let there : option_map view_routine (Some here) ≡ Some r = ap (option_map view_routine) (sym (slice_get_read routines (length routines) number here refl c.requires c.index-here.ensures)) ∙ (sym (slice_get-map view_routine routines number) ∙ is) in
    let same : view_routine here ≡ r = cc in
    fresh_block own block c.add_expr.new.code _ _ c.new-block.ensures.ops (c.in_ok-add_expr.ensures own)
    ∙ (ap (λ tree. map (λ (p : Placed). p.op) (expr_code tree (routine_of context) own block.start e [])) c.new-context.ensures.tree
    ∙ (ap (λ routine. map (λ (p : Placed). p.op) (expr_code (view_tree c.args.tree.now) routine own block.start e [])) (c.new-context.ensures.routine ∙ same)
    ∙ ap (λ pc. map (λ (p : Placed). p.op) (expr_code (view_tree c.args.tree.now) r own pc e [])) (c.new-block.ensures.start ∙ c.in_ok-count_of.ensures)))
