use Rattle.std.proofs.Common.{ap, inl, length, map, subst, sym, ◌∙◌}
use Rattle.std.proofs.lemmas.List.{length-map}
use Rattle.rapid_model.specs.CellData.{CellData}
use Rattle.typed_trees.specs.Views.{view_tree}
use Rattle.stack_code.specs.Compiled.{compiled}
use Rattle.task_code.specs.Asking.{CodeAsks}
use Rattle.task_code.specs.Live.{CodeFits}
use Rattle.rapid_meaning.specs.Asking.{tree_asks}
use Rattle.cell_crew.specs.Courses.{SuitTasks}
use Rattle.cell_state.specs.States.{IsStateAfter}
use Rattle.cell_loading.specs.Loaded.{made_with}
use Rattle.state_lines.specs.Sources.{view_modules}
use Rattle.controller.proofs.CheckedTrees.{all_checked, seen_script}
use Rattle.controller.proofs.Exits.{memory_refused}
use Rattle.controller.proofs.Stated.{legal_found, right_stated, wrong_stated}
use Rattle.controller.proofs.state_cell.state_after.Goals as goal

pub audit_history-requires-clause-one_each : goal.audit_history-requires-clause-one_each
audit_history-requires-clause-one_each g c = ap length c.as_slice-trees.ensures.value ∙ sym (length-map c.args.accepted.trees.items view_tree) ∙ c.requires.script.one_each

pub audit_history-requires-clause-checked : goal.audit_history-requires-clause-checked
audit_history-requires-clause-checked g c =
    let has = seen_script c.args.accepted.cell c.args.accepted.trees.items c.as_slice-trees.result.now c.as_slice-trees.ensures.value c.requires.script in
    all_checked (made_with c.args.accepted.cell c.as_slice-trees.result.now) has

pub audit_history-requires-clause-programs : goal.audit_history-requires-clause-programs
audit_history-requires-clause-programs g c =
    let has = seen_script c.args.accepted.cell c.args.accepted.trees.items c.as_slice-trees.result.now c.as_slice-trees.ensures.value c.requires.script in
    c.accepted_tasks_ask_as_their_code.ensures has.script (made_with c.args.accepted.cell c.as_slice-trees.result.now) has.accepted

pub audit_history-requires-clause-suit : goal.audit_history-requires-clause-suit
audit_history-requires-clause-suit g c =
    let has = seen_script c.args.accepted.cell c.args.accepted.trees.items c.as_slice-trees.result.now c.as_slice-trees.ensures.value c.requires.script in
    c.accepted_code_suits_its_task.ensures has.script (made_with c.args.accepted.cell c.as_slice-trees.result.now) has.accepted

pub returns-then-is_err : goal.returns-then-is_err
returns-then-is_err g c =
    wrong_stated c.args.accepted.cell c.in-Ok.audited.core.cell (map view_tree c.args.accepted.trees.items) (map view_tree c.as_slice-trees.result.now) (view_modules c.args.modules.now) c.args.events.now c.args.fates.now c.in-Ok.audited.found
    _ _ _ (sym c.is_err.ensures.value ∙ c.if-is_err.true) c.in-Ok.ensures.cell (ap (map view_tree) c.as_slice-trees.ensures.value) c.in-Ok.ensures.found c.report_audit.ensures.nothing c.report_audit.ensures.printed

pub state_reached-requires-clause-one_each : goal.state_reached-requires-clause-one_each
state_reached-requires-clause-one_each g c =
    ap length c.as_slice-trees.ensures.value ∙ sym (length-map c.args.accepted.trees.items view_tree) ∙ c.requires.script.one_each ∙ ap (λ (cell : CellData). length cell.tasks) (sym (c.into_cell.ensures ∙ c.in-Ok.ensures.cell))

pub state_reached-requires-clause-checked : goal.state_reached-requires-clause-checked
state_reached-requires-clause-checked g c =
    let has = seen_script c.args.accepted.cell c.args.accepted.trees.items c.as_slice-trees.result.now c.as_slice-trees.ensures.value c.requires.script in
    all_checked (made_with c.args.accepted.cell c.as_slice-trees.result.now) has

pub state_reached-requires-clause-programs : goal.state_reached-requires-clause-programs
state_reached-requires-clause-programs g c =
    let has = seen_script c.args.accepted.cell c.args.accepted.trees.items c.as_slice-trees.result.now c.as_slice-trees.ensures.value c.requires.script in
    c.accepted_tasks_ask_as_their_code.ensures has.script (made_with c.args.accepted.cell c.as_slice-trees.result.now) has.accepted

pub state_reached-requires-clause-suit : goal.state_reached-requires-clause-suit
state_reached-requires-clause-suit g c =
    let has = seen_script c.args.accepted.cell c.args.accepted.trees.items c.as_slice-trees.result.now c.as_slice-trees.ensures.value c.requires.script in
    subst (λ (cell : CellData). SuitTasks CodeFits CodeAsks cell (map compiled (map view_tree c.as_slice-trees.result.now))) (sym (c.into_cell.ensures ∙ c.in-Ok.ensures.cell))
    (c.accepted_code_suits_its_task.ensures has.script (made_with c.args.accepted.cell c.as_slice-trees.result.now) has.accepted)

pub state_reached-requires-clause-legal : goal.state_reached-requires-clause-legal
state_reached-requires-clause-legal g c =
    legal_found (tree_asks (map view_tree c.as_slice-trees.result.now)) c.args.accepted.cell c.into_cell.result c.args.events.now c.args.fates.now c.in-Ok.audited.found (sym c.is_err.ensures.value ∙ c.if-is_err.false)
    c.in-Ok.ensures.found (c.into_cell.ensures ∙ c.in-Ok.ensures.cell)

pub returns-in-Ok-state_reached : goal.returns-in-Ok-state_reached
returns-in-Ok-state_reached g c =
    right_stated c.args.accepted.cell c.in-Ok-state_reached.stated.core.cell (map view_tree c.args.accepted.trees.items) (map view_tree c.as_slice-trees.result.now) (view_modules c.args.modules.now) c.args.events.now c.args.fates.now c.in-Ok.audited.found
    c.in-Ok-state_reached.stated.state _ _ _ (sym c.is_err.ensures.value ∙ c.if-is_err.false) (c.in-Ok-state_reached.ensures.cell ∙ c.into_cell.ensures ∙ c.in-Ok.ensures.cell) (ap (map view_tree) c.as_slice-trees.ensures.value)
    c.in-Ok.ensures.found
    (subst (λ (cell : CellData). IsStateAfter cell (map view_tree c.as_slice-trees.result.now) c.args.events.now c.in-Ok-state_reached.stated.state) (c.into_cell.ensures ∙ c.in-Ok.ensures.cell) c.in-Ok-state_reached.ensures.state)
    c.report_state.ensures.nothing c.report_state.ensures.printed

pub returns-in-Err : goal.returns-in-Err
returns-in-Err g c =
    inl (memory_refused _ (record { bytes = g.O.Sink.told c.args.out.now; calls = g.O.Sink.calls c.args.out.now; faults = g.O.Sink.faults c.args.out.now }) _ c.refuse.ensures.refused c.refuse.ensures.status c.refuse.ensures.history c.refuse.ensures.fates
    c.refuse.ensures.told)

pub returns : goal.returns
returns g c =
    inl (memory_refused _ (record { bytes = g.O.Sink.told c.args.out.now; calls = g.O.Sink.calls c.args.out.now; faults = g.O.Sink.faults c.args.out.now }) _ c.refuse-in-Err-state_reached.ensures.refused c.refuse-in-Err-state_reached.ensures.status c.refuse-in-Err-state_reached.ensures.history c.refuse-in-Err-state_reached.ensures.fates
    c.refuse-in-Err-state_reached.ensures.told)
