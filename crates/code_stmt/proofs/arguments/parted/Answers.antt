use Rattle.std.proofs.Common.{◌+◌, List, ◌++◌, map, sym, ap, ◌∙◌}
use Rattle.std.proofs.lemmas.List.{append-nil, map_push}
use Rattle.std.specs.Borrow.{Bor}
use Rattle.std.specs.declared.alloc.Global.{Global}
use Rattle.std.specs.declared.vec.Vec.{Vec}
use Rattle.rapid_meaning.specs.Instructions.{needed, options}
use Rattle.typed_trees.specs.Plain.{args_of}
use Rattle.typed_trees.specs.Views.{view_arg}
use Rattle.typed_trees.specs.declared.expr.Arg.{Arg}
use Rattle.code_expr.proofs.Rows.{args_end, args_from, args_more}
use Rattle.code_stmt.specs.Views.{view_args}
use Rattle.code_stmt.proofs.ArgumentLists.{one_further, option_kept, option_needed, other_kept, other_needed}
use Rattle.code_stmt.proofs.arguments.parted.Goals as goal
use Rattle.code_stmt.proofs.arguments.parted.Goals.{then-is_option+in_ok-push, else-is_option+in_ok-push-2}

pub loop-arg-preserved : goal.loop-arg-preserved
loop-arg-preserved c =
    let list = c.deref-arg-items.result.now in
    let i = c.loop-arg.arg-index in
    let given = c.loop-arg.given.items in
    let kept = c.loop-arg.options.items in
    let arg = view_arg c.arg-item.result in
    let rest = args_from (i + 1) list in
    let more = args_more list i c.arg-item.result c.loop-arg-test.true c.arg-item.is in
    elim c.if-is_option.branch [
      | then-is_option+in_ok-push w ↦
          let is = sym c.is_option.ensures ∙ w.if-is_option.true in record {
            needed = ap (λ (v : Vec (Bor Arg) Global). view_args v.items ++ needed rest) w.given-is ∙ (ap (λ xs. view_args given ++ xs) (sym (ap needed more ∙ option_needed arg rest is)) ∙ c.loop-arg.invariant.needed);
            options =
                ap (λ (v : Vec (Bor Arg) Global). view_args v.items ++ options rest) w.options-is
                ∙ (ap (λ (xs : List (Bor Arg)). view_args xs ++ options rest) w.in_ok-push.ensures.items
                ∙ (ap (λ xs. xs ++ options rest) (map_push (λ (a : Bor Arg). view_arg a.now) kept _)
                ∙ one_further (view_args kept) arg (options (args_from i list)) (options rest) (options (args_from 0 list)) c.loop-arg.invariant.options (ap options more ∙ option_kept arg rest is)));
          }
      | else-is_option+in_ok-push-2 w ↦
          let is = sym c.is_option.ensures ∙ w.if-is_option.false in record {
            needed =
                ap (λ (v : Vec (Bor Arg) Global). view_args v.items ++ needed rest) w.given-is
                ∙ (ap (λ (xs : List (Bor Arg)). view_args xs ++ needed rest) w.in_ok-push-2.ensures.items
                ∙ (ap (λ xs. xs ++ needed rest) (map_push (λ (a : Bor Arg). view_arg a.now) given _)
                ∙ one_further (view_args given) arg (needed (args_from i list)) (needed rest) (needed (args_from 0 list)) c.loop-arg.invariant.needed (ap needed more ∙ other_needed arg rest is)));
            options = ap (λ (v : Vec (Bor Arg) Global). view_args v.items ++ options rest) w.options-is ∙ (ap (λ xs. view_args kept ++ xs) (sym (ap options more ∙ other_kept arg rest is)) ∙ c.loop-arg.invariant.options);
          }
    ]

pub returns : goal.returns
returns c =
    let list = c.deref-arg-items.result.now in
    let end = args_end list c.loop-arg.arg-index c.loop-arg-test.false in
    let all = c.deref-arg-items.ensures.value in
    record {
      needed = sym (append-nil (view_args c.loop-arg.given.items)) ∙ (ap (λ args. view_args c.loop-arg.given.items ++ needed args) (sym end) ∙ (c.loop-arg.invariant.needed ∙ ap (λ xs. needed (args_of (map view_arg xs))) all));
      options = sym (append-nil (view_args c.loop-arg.options.items)) ∙ (ap (λ args. view_args c.loop-arg.options.items ++ options args) (sym end) ∙ (c.loop-arg.invariant.options ∙ ap (λ xs. options (args_of (map view_arg xs))) all));
    }
