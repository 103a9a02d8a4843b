use Rattle.std.proofs.Common.{◌<◌, ◌≤◌, arith, length, min}
use Rattle.std.proofs.lemmas.Result.{err_from_is_err_and}
use Rattle.state_text.specs.StateLines.{value_lines}
use Rattle.run_lines.proofs.PrintingList.{printing_begins}
use Rattle.state_lines.proofs.PrintingState.{elements_in, values_failed, values_more, values_printed}
use Rattle.state_lines.proofs.state.print_values.Goals as goal

pub loop-k-init : goal.loop-k-init
loop-k-init g c = printing_begins (value_lines c.args.names.now.tasks.now 0 c.args.names.now.pers.now (elements_in c.args.pers.now)) _

pub loop-k-preserved : goal.loop-k-preserved
loop-k-preserved g c =
    let least = c.min-count.ensures in
    let lt : c.loop-k.k < length c.args.names.now.pers.now = omega (arith, least) in
    let within : c.loop-k.k < length c.args.pers.now = omega (arith, least) in
    values_more c.args.names.now.tasks.now c.args.names.now.pers.now c.args.pers.now c.loop-k.k c.index-rows-k.result c.index-pers-k.result c.as_slice.result.now _ _ _ _ lt within c.index-rows-k.is
    c.index-pers-k.is c.as_slice.ensures.value c.in_ok-print_elements.ensures c.loop-k.invariant

pub returns-in_err-print_elements : goal.returns-in_err-print_elements
returns-in_err-print_elements g c =
    let p = err_from_is_err_and c.from_residual.result c.from_residual.ensures.1 in
    let least = c.min-count.ensures in
    let lt : c.loop-k.k < length c.args.names.now.pers.now = omega (arith, least) in
    let within : c.loop-k.k < length c.args.pers.now = omega (arith, least) in
    rw (p.1) (values_failed c.args.names.now.tasks.now c.args.names.now.pers.now c.args.pers.now c.loop-k.k c.index-rows-k.result c.index-pers-k.result c.as_slice.result.now _ _ _ _ lt within
    c.index-rows-k.is c.index-pers-k.is c.as_slice.ensures.value c.in_err-print_elements.ensures c.loop-k.invariant)

pub returns : goal.returns
returns g c =
    let least = c.min-count.ensures in
    let past : min (length c.args.names.now.pers.now) (length c.args.pers.now) ≤ c.loop-k.k = omega (arith, least) in
    values_printed c.args.names.now.tasks.now c.args.names.now.pers.now c.args.pers.now c.loop-k.k _ _ past c.loop-k.invariant
