use Rattle.std.proofs.Common.{◌≡◌, ◌++◌, ap, ◌∙◌, arith}
use Rattle.stack_code.specs.Compiled.{part_labels, part_start}
use Rattle.stack_code.specs.Sizes.{stmts_size}
use Rattle.stack_code.specs.StmtLayouts.{stmts_labels}
use Rattle.typed_trees.specs.Plain.{stmts_of}
use Rattle.typed_trees.specs.Views.{view_list}
use Rattle.code_expr.specs.Contexts.{routine_of, tree_of}
use Rattle.code_stmt.specs.Sizing.{part_sizes, stmts_sizes}
use Rattle.code_stmt.proofs.Labels.{labels_found}
use Rattle.code_stmt.proofs.RoutineParts.{list_in}
use Rattle.code_stmt.proofs.routines.places_of.Goals as goal

pub returns : goal.returns
returns c =
    let tree = tree_of c.args.context.now in
    let routine = routine_of c.args.context.now in
    let pc = c.args.pc in
    let list = list_in c.args.context.now c.routine-routine.result.now c.routine-routine.ensures in
    let found = stmts_of (view_list c.routine-routine.result.now.list) in
    let size = ap (stmts_size tree routine) list in
    let part : c.in_ok-part.part ≡ part_start tree routine pc = omega (arith, size, c.in_ok-part.ensures, c.in_ok-end.ensures.passed.grown) in
    let first =
    labels_found c.new-labels.result.items c.behind_list.new.labels.items pc c.in_ok-end.end (stmts_size tree routine found) (λ p. stmts_labels tree routine p found) c.in_ok-end.ensures.passed
    ∙ (ap (λ xs. xs ++ stmts_labels tree routine pc found) c.new-labels.ensures.items ∙ ap (stmts_labels tree routine pc) list)
    in
    record {
      labels =
          c.in_ok-find_part.ensures.labels
          ∙ (ap (λ xs. xs ++ part_labels tree routine c.in_ok-part.part routine.handler) first
          ∙ ap (λ p. stmts_labels tree routine pc routine.list ++ part_labels tree routine p routine.handler) part);
      sizes =
          c.in_ok-find_part.ensures.sizes
          ∙ ap (λ xs. xs ++ part_sizes tree routine routine.handler)
          (c.in_ok-end.ensures.sizes ∙ (ap (λ xs. xs ++ stmts_sizes tree routine found) c.new-sizes.ensures.items ∙ ap (stmts_sizes tree routine) list));
      part = part;
    }
