use Rattle.std.proofs.Common.{◌++◌, ap, ◌∙◌, arith}
use Rattle.stack_code.specs.Firsts.{in_full}
use Rattle.typed_trees.specs.declared.routine.LocalRow.{LocalRow}
use Rattle.code_compiler.proofs.Lists.{count_more, one_row_more}
use Rattle.code_compiler.proofs.firsts.add_locals.Goals as goal

pub loop-local-preserved : goal.loop-local-preserved
loop-local-preserved c =
    let locals = c.args.locals.now in
    let i = c.loop-local.local-index in
    let local = c.local-item.result in
    let more = one_row_more (λ (row : LocalRow). row.first) (in_full c.args.firsts.now.items) locals i local c.loop-local-test.true c.local-item.is in
    let longer = count_more (λ (row : LocalRow). row.first) locals i local c.loop-local-test.true c.local-item.is in
    record {
      firsts = c.in_ok-add_data.ensures ∙ (ap (λ front. front ++ local.first) c.loop-local.invariant.firsts ∙ more);
      count = omega (arith, longer);
    }
