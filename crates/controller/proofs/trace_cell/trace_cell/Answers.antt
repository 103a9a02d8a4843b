use Rattle.std.proofs.Common.{ap, length, map, sym, ◌∙◌}
use Rattle.std.proofs.lemmas.List.{length-map}
use Rattle.typed_trees.specs.Views.{view_tree}
use Rattle.cell_loading.specs.Loaded.{made_with}
use Rattle.state_lines.specs.Sources.{view_modules}
use Rattle.controller.proofs.CheckedTrees.{all_checked, seen_script}
use Rattle.controller.proofs.Traced.{turns_traced}
use Rattle.controller.proofs.trace_cell.trace_cell.Goals as goal

pub trace_tasks-requires-clause-one_each : goal.trace_tasks-requires-clause-one_each
trace_tasks-requires-clause-one_each g c = ap length c.as_slice.ensures.value ∙ sym (length-map c.args.accepted.trees.items view_tree) ∙ c.requires.script.one_each

pub trace_tasks-requires-clause-checked : goal.trace_tasks-requires-clause-checked
trace_tasks-requires-clause-checked g c =
    let has = seen_script c.args.accepted.cell c.args.accepted.trees.items c.as_slice.result.now c.as_slice.ensures.value c.requires.script in
    all_checked (made_with c.args.accepted.cell c.as_slice.result.now) has

pub trace_tasks-requires-clause-programs : goal.trace_tasks-requires-clause-programs
trace_tasks-requires-clause-programs g c =
    let has = seen_script c.args.accepted.cell c.args.accepted.trees.items c.as_slice.result.now c.as_slice.ensures.value c.requires.script in
    c.accepted_tasks_ask_as_their_code.ensures has.script (made_with c.args.accepted.cell c.as_slice.result.now) has.accepted

pub trace_tasks-requires-clause-suit : goal.trace_tasks-requires-clause-suit
trace_tasks-requires-clause-suit g c =
    let has = seen_script c.args.accepted.cell c.args.accepted.trees.items c.as_slice.result.now c.as_slice.ensures.value c.requires.script in
    c.accepted_code_suits_its_task.ensures has.script (made_with c.args.accepted.cell c.as_slice.result.now) has.accepted

pub returns : goal.returns
returns g c =
    let has = seen_script c.args.accepted.cell c.args.accepted.trees.items c.as_slice.result.now c.as_slice.ensures.value c.requires.script in
    turns_traced c.args.accepted.cell (map view_tree c.args.accepted.trees.items) (map view_tree c.as_slice.result.now) (view_modules c.args.modules.now) _ _ _ (ap (map view_tree) c.as_slice.ensures.value)
    c.within_limits.ensures (c.accepted_tasks_ask_well.ensures has.script (made_with c.args.accepted.cell c.as_slice.result.now) has.accepted) c.trace_tasks.ensures
