use Rattle.std.proofs.Common.{◌≡◌, ◌+◌, ◌-◌, ◌≤◌, List, ◌++◌, length, take, drop, replicate, refl, sym, ap, ◌∙◌, append_assoc, arith}
use Rattle.typed_trees.specs.declared.datum.Datum.{Datum}
use Rattle.stack_code.specs.Firsts.{in_full}
use Rattle.machine_stacks.specs.Starts.{values_from}
use Rattle.machine_stacks.specs.Words.{DataRow}
use Rattle.machine_stacks.proofs.Runs.{one_run, room_for, values_from-run}
use Rattle.machine_stacks.proofs.first_values.append_firsts.Goals as goal

pub loop-left-init : goal.loop-left-init
loop-left-init c = (ap (λ (xs : List Datum). c.args.values.now.items ++ xs) (sym (values_from-run c.args.firsts.now c.args.start c.args.count)), refl)

pub push_alike-requires : goal.push_alike-requires
push_alike-requires c =
    let l = c.loop-left in
    let first = c.index-firsts-run.result in
    let more : List Datum = take (l.left - c.min-taken.result) (drop (l.skip - c.min-passed.result) (in_full (drop (l.run + 1) c.args.firsts.now))) in
    let step : take l.left (drop l.skip (in_full (drop l.run c.args.firsts.now))) ≡ replicate c.min-taken.result first.datum ++ more =
    one_run l.left l.skip c.min-passed.result c.min-taken.result c.args.firsts.now l.run first c.if-run-firsts.true c.index-firsts-run.is c.min-passed.ensures c.min-taken.ensures in
    let room : length l.values.items + c.min-taken.result ≤ length c.args.values.now.items + length (values_from c.args.firsts.now c.args.start c.args.count) =
    room_for l.values.items c.args.values.now.items (values_from c.args.firsts.now c.args.start c.args.count) more c.min-taken.result first.datum
    (ap (λ xs. l.values.items ++ xs) (sym step) ∙ l.invariant.0) in
    omega (arith, room, c.requires.room, l.invariant.1)

pub loop-left-preserved : goal.loop-left-preserved
loop-left-preserved c =
    let l = c.loop-left in
    let first = c.index-firsts-run.result in
    let more : List Datum = take (l.left - c.min-taken.result) (drop (l.skip - c.min-passed.result) (in_full (drop (l.run + 1) c.args.firsts.now))) in
    let step : take l.left (drop l.skip (in_full (drop l.run c.args.firsts.now))) ≡ replicate c.min-taken.result first.datum ++ more =
    one_run l.left l.skip c.min-passed.result c.min-taken.result c.args.firsts.now l.run first c.if-run-firsts.true c.index-firsts-run.is c.min-passed.ensures c.min-taken.ensures in (
      ap (λ (row : DataRow). row.items ++ more) c.push_alike.ensures
          ∙ append_assoc l.values.items (replicate c.min-taken.result first.datum) more
          ∙ ap (λ xs. l.values.items ++ xs) (sym step)
          ∙ l.invariant.0,
      ap (λ (row : DataRow). row.room) c.push_alike.ensures ∙ l.invariant.1,
    )
