use Rattle.std.proofs.Common.{◌<◌, ◌≤◌, arith, length, min}
use Rattle.std.proofs.lemmas.Result.{err_from_is_err_and}
use Rattle.cell_listing.specs.Listing.{code_lines}
use Rattle.run_lines.proofs.PrintingList.{code_failed, code_printed, codes_printed, printing_begins}
use Rattle.run_lines.proofs.list.print_programs.Goals as goal

pub loop-k-init : goal.loop-k-init
loop-k-init g c = printing_begins (code_lines c.args.rows.now c.args.each.now) _

pub loop-k-preserved : goal.loop-k-preserved
loop-k-preserved g c =
    let least = c.min-count.ensures in
    let lt : c.loop-k.k < length c.args.rows.now = omega (arith, least) in
    let within : c.loop-k.k < length c.args.each.now = omega (arith, least) in
    code_printed c.args.rows.now c.args.each.now c.loop-k.k c.index-rows-k.result c.index-each-k.result _ _ _ _ lt within c.index-rows-k.is c.index-each-k.is c.in_ok-print_program.ensures c.loop-k.invariant

pub returns-in_err-print_program : goal.returns-in_err-print_program
returns-in_err-print_program g c =
    let p = err_from_is_err_and c.from_residual.result c.from_residual.ensures.1 in
    let least = c.min-count.ensures in
    let lt : c.loop-k.k < length c.args.rows.now = omega (arith, least) in
    let within : c.loop-k.k < length c.args.each.now = omega (arith, least) in
    rw (p.1) (code_failed c.args.rows.now c.args.each.now c.loop-k.k c.index-rows-k.result c.index-each-k.result _ _ _ _ lt within c.index-rows-k.is c.index-each-k.is c.in_err-print_program.ensures c.loop-k.invariant)

pub returns : goal.returns
returns g c =
    let least = c.min-count.ensures in
    let past : min (length c.args.rows.now) (length c.args.each.now) ≤ c.loop-k.k = omega (arith, least) in
    codes_printed c.args.rows.now c.args.each.now c.loop-k.k _ _ past c.loop-k.invariant
