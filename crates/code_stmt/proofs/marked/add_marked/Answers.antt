use Rattle.std.proofs.Common.{◌≡◌, ◌∷◌, [], ◌++◌, length, option_map, ap, sym, ◌∙◌, arith}
use Rattle.std.proofs.lemmas.List.{append-nil}
use Rattle.stack_code.specs.Compiled.{part_start, routine_labels}
use Rattle.code_expr.specs.Contexts.{routine_of, tree_of}
use Rattle.code_stmt.specs.Marked.{last_of}
use Rattle.code_stmt.specs.Sizing.{routine_sizes}
use Rattle.code_stmt.specs.declared.written.Written.{Written}
use Rattle.code_stmt.proofs.MarkedCode.{on_ok_three, put_behind_code, routine_follows}
use Rattle.code_stmt.proofs.marked.add_marked.Goals as goal

pub returns-clause-laid : goal.returns-clause-laid
returns-clause-laid c =
    let tree = tree_of c.args.context.now in
    let routine = routine_of c.args.context.now in
    let code = c.args.code.now.items in
    let marks = c.args.marks.now in
    let begun : Written = record { code = c.new.result; owners = c.in_ok-last_row.field-0 } in
    let start : c.in_ok-start.start ≡ length code = omega (arith, c.in_ok-start.ensures, c.len.ensures, c.args.code.now.ok.0) in
    let sizes = c.new-sizes.ensures ∙ (c.in_ok-places.ensures.sizes ∙ sym (append-nil (routine_sizes tree routine))) in
    let labels = c.deref-2.ensures.value ∙ (c.in_ok-places.ensures.labels ∙ ap (routine_labels tree routine) start) in
    let handler = c.handler_of.ensures ∙ ap (λ part. option_map (λ list. part) routine.handler) (c.in_ok-places.ensures.part ∙ ap (part_start tree routine) start) in
    on_ok_three c.commit.result (λ ops rows handlers. record {
      laid =
          routine_follows tree routine _ labels
          (put_behind_code code c.commit.new.code.items marks.owners.items c.commit.new.marks.owners.items begun c.add_routine.new.out _ _ (c.new.ensures.start ∙ start) c.new.ensures.ops
          (c.in_ok-last_row.ensures ∙ ap last_of c.deref.ensures.value) (c.in_ok-add_routine.ensures [] sizes).0 ops rows);
      handler = handlers ∙ ap (λ h. marks.handlers.items ++ h ∷ []) handler;
    }) c.commit.ensures.code c.commit.ensures.owners c.commit.ensures.handlers
