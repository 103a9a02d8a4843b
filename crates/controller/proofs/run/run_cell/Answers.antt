use Rattle.std.proofs.Common.{ap, length, map, sym, ◌∙◌}
use Rattle.std.proofs.lemmas.List.{length-map}
use Rattle.typed_trees.specs.Views.{view_tree}
use Rattle.cell_loading.specs.Loaded.{made_with}
use Rattle.controller.proofs.CheckedTrees.{all_checked, seen_script}
use Rattle.controller.proofs.Reports.{turns_answered}
use Rattle.controller.proofs.run.run_cell.Goals as goal

pub run_tasks-requires-clause-one_each : goal.run_tasks-requires-clause-one_each
run_tasks-requires-clause-one_each g c = ap length c.as_slice.ensures.value ∙ sym (length-map c.args.accepted.trees.items view_tree) ∙ c.requires.one_each

pub run_tasks-requires-clause-checked : goal.run_tasks-requires-clause-checked
run_tasks-requires-clause-checked g c =
    let has = seen_script c.args.accepted.cell c.args.accepted.trees.items c.as_slice.result.now c.as_slice.ensures.value c.requires in
    all_checked (made_with c.args.accepted.cell c.as_slice.result.now) has

pub run_tasks-requires-clause-programs : goal.run_tasks-requires-clause-programs
run_tasks-requires-clause-programs g c =
    let has = seen_script c.args.accepted.cell c.args.accepted.trees.items c.as_slice.result.now c.as_slice.ensures.value c.requires in
    c.accepted_tasks_ask_as_their_code.ensures has.script (made_with c.args.accepted.cell c.as_slice.result.now) has.accepted

pub run_tasks-requires-clause-suit : goal.run_tasks-requires-clause-suit
run_tasks-requires-clause-suit g c =
    let has = seen_script c.args.accepted.cell c.args.accepted.trees.items c.as_slice.result.now c.as_slice.ensures.value c.requires in
    c.accepted_code_suits_its_task.ensures has.script (made_with c.args.accepted.cell c.as_slice.result.now) has.accepted

pub returns-in-Ok : goal.returns-in-Ok
returns-in-Ok g c =
    let has = seen_script c.args.accepted.cell c.args.accepted.trees.items c.as_slice.result.now c.as_slice.ensures.value c.requires in
    turns_answered c.args.shown c.args.accepted.cell c.in-Ok.core.cell (map view_tree c.args.accepted.trees.items) (map view_tree c.as_slice.result.now) c.in-Ok.core.history _ _ _ c.in-Ok.ensures.cell
    (ap (map view_tree) c.as_slice.ensures.value)
    (record {
      limits = c.within_limits.ensures;
      well = c.accepted_tasks_ask_well.ensures has.script (made_with c.args.accepted.cell c.as_slice.result.now) has.accepted;
      legal = c.in-Ok.ensures.legal;
      whole = c.in-Ok.ensures.whole;
    }) c.in-Ok.ensures.by_turns c.report_run.ensures
