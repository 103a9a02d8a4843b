use Rattle.std.proofs.Common.{ap, length, map, sym, ◌∙◌}
use Rattle.std.proofs.lemmas.List.{length-map}
use Rattle.typed_trees.specs.Views.{view_tree}
use Rattle.cell_loading.specs.Loaded.{made_with}
use Rattle.controller.proofs.Audited.{audit_answered}
use Rattle.controller.proofs.CheckedTrees.{all_checked, seen_script}
use Rattle.controller.proofs.audit_cell.audit_events.Goals as goal

pub audit_history-requires-clause-one_each : goal.audit_history-requires-clause-one_each
audit_history-requires-clause-one_each g c = ap length c.as_slice.ensures.value ∙ sym (length-map c.args.accepted.trees.items view_tree) ∙ c.requires.script.one_each

pub audit_history-requires-clause-checked : goal.audit_history-requires-clause-checked
audit_history-requires-clause-checked g c =
    let has = seen_script c.args.accepted.cell c.args.accepted.trees.items c.as_slice.result.now c.as_slice.ensures.value c.requires.script in
    all_checked (made_with c.args.accepted.cell c.as_slice.result.now) has

pub audit_history-requires-clause-programs : goal.audit_history-requires-clause-programs
audit_history-requires-clause-programs g c =
    let has = seen_script c.args.accepted.cell c.args.accepted.trees.items c.as_slice.result.now c.as_slice.ensures.value c.requires.script in
    c.accepted_tasks_ask_as_their_code.ensures has.script (made_with c.args.accepted.cell c.as_slice.result.now) has.accepted

pub audit_history-requires-clause-suit : goal.audit_history-requires-clause-suit
audit_history-requires-clause-suit g c =
    let has = seen_script c.args.accepted.cell c.args.accepted.trees.items c.as_slice.result.now c.as_slice.ensures.value c.requires.script in
    c.accepted_code_suits_its_task.ensures has.script (made_with c.args.accepted.cell c.as_slice.result.now) has.accepted

pub returns-in-Ok : goal.returns-in-Ok
returns-in-Ok g c =
    audit_answered c.args.accepted.cell c.in-Ok.audited.core.cell (map view_tree c.args.accepted.trees.items) (map view_tree c.as_slice.result.now) c.args.events.now c.args.fates.now c.in-Ok.audited.found _ _ _
    c.in-Ok.ensures.cell (ap (map view_tree) c.as_slice.ensures.value) c.in-Ok.ensures.found c.report_audit.ensures.nothing c.report_audit.ensures.printed
