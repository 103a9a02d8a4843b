use Rattle.std.proofs.Common.{ap, refl, ◌∙◌}
use Rattle.rapid_model.specs.CellData.{CellData}
use Rattle.controller.proofs.Audited.{audit_cut_short, audit_printed}
use Rattle.sink_lines.proofs.Gains.{gained_none}
use Rattle.controller.proofs.audit_cell.report_audit.Goals as goal

pub returns-in-Ok-clause-nothing : goal.returns-in-Ok-clause-nothing
returns-in-Ok-clause-nothing g c = record { history = c.new.ensures.items; fates = c.new-in-Ok.ensures.items }

pub returns-in-Ok-clause-printed : goal.returns-in-Ok-clause-printed
returns-in-Ok-clause-printed g c =
    audit_printed c.args.audited.now.core.cell.tasks c.names_of.result.tasks.now c.args.count c.args.audited.now.found _ _ _ (c.names_of.ensures.tasks ∙ ap (λ (cell : CellData). cell.tasks) c.cell.ensures) refl
    c.status_of.ensures c.in-Ok.ensures (gained_none _)

pub returns-in-Err-clause-nothing : goal.returns-in-Err-clause-nothing
returns-in-Err-clause-nothing g c = record { history = c.refuse.ensures.history; fates = c.refuse.ensures.fates }

pub returns-in-Err-clause-printed : goal.returns-in-Err-clause-printed
returns-in-Err-clause-printed g c =
    audit_cut_short c.args.audited.now.core.cell.tasks c.names_of.result.tasks.now c.args.count c.args.audited.now.found _ _ _ (c.names_of.ensures.tasks ∙ ap (λ (cell : CellData). cell.tasks) c.cell.ensures)
    c.refuse.ensures.refused c.refuse.ensures.status c.in-Err.ensures c.refuse.ensures.told
