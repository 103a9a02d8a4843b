use Rattle.std.proofs.Common.{◌<◌, ◌≤◌, arith, length}
use Rattle.std.proofs.lemmas.Result.{err_from_is_err_and}
use Rattle.cell_listing.specs.Listing.{code_line, numbered}
use Rattle.run_lines.proofs.PrintingList.{place_failed, place_printed, printing_begins, rows_printed}
use Rattle.run_lines.proofs.list.print_operations.Goals as goal

pub loop-pc-init : goal.loop-pc-init
loop-pc-init g c = printing_begins (numbered (code_line c.args.task.now) 0 c.args.ops.now) _

pub loop-pc-preserved : goal.loop-pc-preserved
loop-pc-preserved g c =
    let lt : c.loop-pc.pc < length c.args.ops.now = omega arith in
    place_printed (code_line c.args.task.now) c.args.ops.now c.loop-pc.pc _ _ _ _ lt (λ op at. c.in_ok-print_operation.ensures op at) c.loop-pc.invariant

pub returns-in_err-print_operation : goal.returns-in_err-print_operation
returns-in_err-print_operation g c =
    let p = err_from_is_err_and c.from_residual.result c.from_residual.ensures.1 in
    let lt : c.loop-pc.pc < length c.args.ops.now = omega arith in
    rw (p.1) (place_failed (code_line c.args.task.now) c.args.ops.now c.loop-pc.pc _ _ _ _ lt (λ op at. c.in_err-print_operation.ensures op at) c.loop-pc.invariant)

pub returns : goal.returns
returns g c =
    let past : length c.args.ops.now ≤ c.loop-pc.pc = omega arith in
    rows_printed (code_line c.args.task.now) c.args.ops.now c.loop-pc.pc _ _ past c.loop-pc.invariant
