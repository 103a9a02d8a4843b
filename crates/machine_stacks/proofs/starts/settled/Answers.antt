use Rattle.std.proofs.Common.{◌≤◌, get_or, ◌∙◌}
use Rattle.machine_stacks.proofs.Runs.{next_run, same_default}
use Rattle.machine_stacks.proofs.starts.settled.Goals as goal

pub loop-run-preserved : goal.loop-run-preserved
loop-run-preserved c =
    let d = c.index-firsts-run-in-loop-run.result in
    let enough : (get_or c.args.firsts.now c.loop-run.run d).count ≤ c.loop-run.skip =
    rw (same_default c.args.firsts.now c.loop-run.run d c.index-firsts-run.result c.loop-run-test.true) c.if-firsts-run.true in
    next_run c.args.firsts.now c.loop-run.run c.loop-run.skip d c.loop-run-test.true enough ∙ c.loop-run.invariant
