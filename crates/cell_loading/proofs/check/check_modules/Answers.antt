use Rattle.std.proofs.Common.{◌≡◌, length, ap, ◌∙◌, arith}
use Rattle.cell_loading.specs.Loaded.{reads_in}
use Rattle.sink_lines.proofs.Lists.{refilled}
use Rattle.cell_loading.proofs.Made.{one_tree_each, trees_sound, cell_kept, cell_refused}
use Rattle.cell_loading.proofs.check.check_modules.Goals as goal

pub make_cell-requires-clause-one_each : goal.make_cell-requires-clause-one_each
make_cell-requires-clause-one_each c = one_tree_each c.args.script.now (reads_in c.args.modules.now) c.in_ok-trees.trees.items _ c.in_ok-trees.ensures c.deref_mut.ensures.value

pub make_cell-requires-clause-sound : goal.make_cell-requires-clause-sound
make_cell-requires-clause-sound c = trees_sound c.args.script.now (reads_in c.args.modules.now) c.in_ok-trees.trees.items _ c.in_ok-trees.ensures c.deref_mut.ensures.value

pub returns-in-Ok-clause-gives : goal.returns-in-Ok-clause-gives
returns-in-Ok-clause-gives c =
    let kept = c.make_cell.auto.trees in
    let seen = c.deref_mut.ensures.len in
    let same = ap length c.deref_mut.ensures.value in
    let whole = c.in_ok-trees.trees.ok.0 in
    cell_kept c.args.script.now (reads_in c.args.modules.now) c.in_ok-trees.trees.items c.deref_mut.result.now c.make_cell.new.trees _ c.in-Ok.cell c.in_ok-trees.ensures c.deref_mut.ensures.value c.in-Ok.ensures.made
    (refilled c.in_ok-trees.trees.len c.in_ok-trees.trees.items c.make_cell.new.trees (omega (arith, kept, seen, same, whole)))

pub returns-in-Ok-clause-one_each : goal.returns-in-Ok-clause-one_each
returns-in-Ok-clause-one_each c =
    let kept = c.make_cell.auto.trees in
    let seen = c.deref_mut.ensures.len in
    let same = ap length c.deref_mut.ensures.value in
    let whole = c.in_ok-trees.trees.ok.0 in
    let each = one_tree_each c.args.script.now (reads_in c.args.modules.now) c.in_ok-trees.trees.items c.deref_mut.result.now c.in_ok-trees.ensures c.deref_mut.ensures.value in
    let more : length c.make_cell.new.trees ≡ length c.args.script.now.tasks = omega (arith, kept, each) in
    ap length (refilled c.in_ok-trees.trees.len c.in_ok-trees.trees.items c.make_cell.new.trees (omega (arith, kept, seen, same, whole))) ∙ more

pub returns-in-Err-clause-gives : goal.returns-in-Err-clause-gives
returns-in-Err-clause-gives c =
    cell_refused c.args.script.now (reads_in c.args.modules.now) c.in_ok-trees.trees.items _ c.in-Err.fault c.cell_refusal.result c.in_ok-trees.ensures c.deref_mut.ensures.value c.in-Err.ensures.made c.cell_refusal.ensures
