use Rattle.std.proofs.Common.{◌≡◌, ◌+◌, ◌-◌, List, length, take, drop, sym, ap, arith}
use Rattle.typed_trees.specs.declared.datum.Datum.{Datum}
use Rattle.stack_code.specs.Firsts.{in_full}
use Rattle.machine_stacks.proofs.Runs.{values_from-run}
use Rattle.task_steps.proofs.Loads.{length_run, none_left, none_wanted}
use Rattle.task_steps.proofs.operands.first_counts.count_from.Goals as goal
use Rattle.task_steps.proofs.operands.first_counts.count_from.Goals.{then-loop-left-test+else-run-firsts, else-loop-left-test}

pub loop-left-init : goal.loop-left-init
loop-left-init c = record {
  few = omega arith;
  all = ap (λ (xs : List Datum). c.args.most + length xs) (sym (values_from-run c.args.firsts.now c.args.start c.args.most));
}

pub loop-left-preserved : goal.loop-left-preserved
loop-left-preserved c =
    let l = c.loop-left in
    let first = c.index-firsts-run.result in
    let step : length (take l.left (drop l.skip (in_full (drop l.run c.args.firsts.now)))) ≡ c.min-taken.result + length (take (l.left - c.min-taken.result) (drop (l.skip - c.min-passed.result) (in_full (drop (l.run + 1) c.args.firsts.now)))) =
    length_run l.left l.skip c.min-passed.result c.min-taken.result c.args.firsts.now l.run first c.if-run-firsts.true c.index-firsts-run.is c.min-passed.ensures c.min-taken.ensures in
    record {
      few = omega (arith, l.invariant.few);
      all = omega (arith, step, l.invariant.few, l.invariant.all, c.min-taken.ensures);
    }

pub returns : goal.returns
returns c =
    let l = c.loop-left in
    elim c.loop-left-test.branch [
      | then-loop-left-test+else-run-firsts w ↦
          let none : length (take l.left (drop l.skip (in_full (drop l.run c.args.firsts.now)))) ≡ 0 = none_left c.args.firsts.now l.run l.left l.skip w.if-run-firsts.false in
          record { count = omega (arith, none, l.invariant.few, l.invariant.all); few = omega arith }
      | else-loop-left-test w ↦
          let none : length (take l.left (drop l.skip (in_full (drop l.run c.args.firsts.now)))) ≡ 0 = none_wanted (drop l.skip (in_full (drop l.run c.args.firsts.now))) l.left (omega (arith, w.loop-left-test.false)) in
          record { count = omega (arith, none, l.invariant.few, l.invariant.all); few = omega arith }
    ]
