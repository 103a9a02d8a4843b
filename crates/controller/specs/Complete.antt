-- That a verdict is carried out.
use Rattle.std.specs.Prelude.{◌≡◌, ℕ, ◌⊎◌, Bool, List, Option, Some, Result}
use Rattle.outside.specs.Count.{Rose}
use Rattle.outside.specs.Told.{Told}
use Rattle.controller.specs.declared.report.Report.{Report}
use Rattle.rapid_meaning.specs.Asking.{tree_asks}
use Rattle.cell_meaning.specs.Asking.{with_inputs}
use Rattle.history_audit.specs.Audits.{IsAudit}
use Rattle.history_audit.specs.declared.audit_fault.AuditFault.{AuditFault}
use Rattle.controller.specs.Accepted.{Verdict, accepts, audits, lists, migrates, refuses, runs, runs_free, measures, states, traces}
use Rattle.controller.specs.Answered.{IsOutOfMemory, IsVerdict}
use Rattle.run_lines.specs.Audits.{audit_status}
use Rattle.sink_lines.specs.Printed.{Sunk}
use Rattle.cell_loading.specs.Refusals.{status_of}
use Rattle.cell_runs.specs.Outcomes.{run_status}

-- the status is the verdict's: that of the refusal, 0 for a check, a list and a script in version 2, that of the history
-- for a run, and that of what is found for an audit and for a state
abbrev pub IsDone : Verdict → Report → Type 0
IsDone (refuses names refused) report = (report.refused ≡ Some refused) × (report.status ≡ status_of refused)
IsDone (accepts names) report = report.status ≡ 0
IsDone (runs names shown cell trees) report = report.status ≡ run_status cell report.history.items
IsDone (runs_free names shown cell trees) report = report.status ≡ run_status cell report.history.items
IsDone (lists names cell trees) report = report.status ≡ 0
IsDone (measures names cell trees) report = report.status ≡ run_status cell report.history.items
IsDone (traces names cell trees sources) report = report.status ≡ run_status cell report.history.items
IsDone (audits names cell trees events fates) report =
    (found : Result Bool AuditFault) × IsAudit (with_inputs (tree_asks trees) cell) cell events fates found × (report.status ≡ audit_status found)
IsDone (states names cell trees sources events fates) report =
    (found : Result Bool AuditFault) × IsAudit (with_inputs (tree_asks trees) cell) cell events fates found × (report.status ≡ audit_status found)
IsDone (migrates names text) report = report.status ≡ 0

-- If the first sink counts no fault, what the words and the files come to is done, or memory ran out before the first
-- event.
abbrev pub IsComplete : List (List ℕ) → Option Told → Report → Sunk → Sunk → Type 0
IsComplete words told report out err =
    ¬ Rose out.old.faults out.new.faults
    → IsOutOfMemory report out err ⊎ ((verdict : Verdict) × IsVerdict words told verdict × IsDone verdict report)
