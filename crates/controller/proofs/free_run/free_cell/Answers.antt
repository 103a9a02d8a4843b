use Rattle.std.proofs.Common.{ap, length, map, sym, ◌∙◌}
use Rattle.std.proofs.lemmas.List.{length-map}
use Rattle.typed_trees.specs.Views.{view_tree}
use Rattle.cell_loading.specs.Loaded.{made_with}
use Rattle.run_lines.specs.declared.shown.Shown.TheVariants as shows
use Rattle.controller.proofs.CheckedTrees.{all_checked, seen_script}
use Rattle.controller.proofs.Reports.{free_answered}
use Rattle.controller.proofs.free_run.free_cell.Goals as goal

pub free_tasks-requires-clause-one_each : goal.free_tasks-requires-clause-one_each
free_tasks-requires-clause-one_each g c κs within = ap length c.as_slice.ensures.value ∙ sym (length-map c.args.accepted.trees.items view_tree) ∙ c.requires.one_each

pub free_tasks-requires-clause-checked : goal.free_tasks-requires-clause-checked
free_tasks-requires-clause-checked g c κs within =
    let has = seen_script c.args.accepted.cell c.args.accepted.trees.items c.as_slice.result.now c.as_slice.ensures.value c.requires in
    all_checked (made_with c.args.accepted.cell c.as_slice.result.now) has

pub free_tasks-requires-clause-programs : goal.free_tasks-requires-clause-programs
free_tasks-requires-clause-programs g c κs within =
    let has = seen_script c.args.accepted.cell c.args.accepted.trees.items c.as_slice.result.now c.as_slice.ensures.value c.requires in
    c.accepted_tasks_ask_as_their_code.ensures has.script (made_with c.args.accepted.cell c.as_slice.result.now) has.accepted

pub free_tasks-requires-clause-suit : goal.free_tasks-requires-clause-suit
free_tasks-requires-clause-suit g c κs within =
    let has = seen_script c.args.accepted.cell c.args.accepted.trees.items c.as_slice.result.now c.as_slice.ensures.value c.requires in
    c.accepted_code_suits_its_task.ensures has.script (made_with c.args.accepted.cell c.as_slice.result.now) has.accepted

pub returns-in-Ok : goal.returns-in-Ok
returns-in-Ok g c =
    let has = seen_script c.args.accepted.cell c.args.accepted.trees.items c.as_slice.result.now c.as_slice.ensures.value c.requires in
    free_answered (shows.Events c.args.full) c.args.accepted.cell c.in-Ok.core.cell (map view_tree c.args.accepted.trees.items) (map view_tree c.as_slice.result.now) c.in-Ok.core.history _ _ _ c.in-Ok.ensures.cell
    (ap (map view_tree) c.as_slice.ensures.value)
    (record {
      limits = c.within_limits.ensures;
      well = c.accepted_tasks_ask_well.ensures has.script (made_with c.args.accepted.cell c.as_slice.result.now) has.accepted;
      legal = c.in-Ok.ensures.legal;
      whole = c.in-Ok.ensures.whole;
    }) c.report_run.ensures
