-- How a report answers a verdict.
use Rattle.std.specs.Prelude.{◌≡◌, ℕ, ◌⊎◌, Bool, List, [], ◌∷◌, ◌++◌, length, codes, Option, Some, None, Result, Ok, Err, ⊤, slice_get}
use Rattle.std.specs.List.{concat}
use Rattle.outside.specs.Count.{Rose}
use Rattle.outside.specs.Told.{Told}
use Rattle.outside.specs.declared.call.Call.{Call}
use Rattle.outside.specs.declared.failed.Failed.{Failed}
use Rattle.rapid_model.specs.CellData.{CellData}
use Rattle.rapid_model.specs.ScriptData.{ScriptData}
use Rattle.rapid_model.specs.declared.event.Event.{Event}
use Rattle.rapid_model.specs.declared.fate.Fate.{Fate}
use Rattle.typed_trees.specs.Plain.{TypedTree}
use Rattle.stack_code.specs.CodeData.{CodeData}
use Rattle.code_laws.specs.Asking.{AsksAs}
use Rattle.rapid_meaning.specs.Asking.{tree_asks}
use Rattle.cell_meaning.specs.Asking.{with_inputs}
use Rattle.history_audit.specs.Audits.{IsAudit}
use Rattle.history_audit.specs.declared.audit_fault.AuditFault.{AuditFault}
use Rattle.cell_state.specs.States.{CellStateData, IsStateAfter}
use Rattle.state_text.specs.StateLines.{SourcesData, state_lines}
use Rattle.state_text.specs.TraceLines.{trace_lines}
use Rattle.cell_assembly.specs.Made.{MadeCell}
use Rattle.cell_listing.specs.Listing.{listing_of}
use Rattle.script_migration.specs.Migrated.{Migrates}
use Rattle.history_text.specs.Lines.{fate_lines}
use Rattle.controller.specs.declared.report.Report.{Report}
use Rattle.cell_loading.specs.declared.refused.Refused.{Refused}
use Rattle.cell_loading.specs.declared.refused.Refused.TheVariants.{Write, Memory}
use Rattle.command_words.specs.declared.command.Action.{Action}
use Rattle.run_lines.specs.declared.shown.Shown.{Shown}
use Rattle.cell_loading.specs.Files.{Reads, told_reads}
use Rattle.controller.specs.Accepted.{Doing, Verdict, refuses, accepts, runs, runs_free, lists, audits, migrates, Accepted, ActionDecides, CheckedDecides, HistoryDecides, measures, states, traces, sources_of}
use Rattle.cell_loading.specs.ReadModules.{ReadModule, checked}
use Rattle.run_lines.specs.Audits.{audit_line, audit_status}
use Rattle.clearance_lines.specs.Clearances.{AreClearances, Clearance, clearance_lines}
use Rattle.cell_loading.specs.Refusals.{status_of}
use Rattle.controller.specs.RefusalLines.{refusal_line}
use Rattle.controller.specs.Runs.{IsRun, IsRunByTurns}
use Rattle.cell_runs.specs.Outcomes.{run_status}
use Rattle.run_lines.specs.Output.{lines_of}
use Rattle.sink_lines.specs.Sends.{SendsLines, SendsSome}
use Rattle.sink_lines.specs.Printed.{Seen, Sunk, Gained, GainedPart, GainedCalls}
use Rattle.sink_lines.specs.Written.{TakesLine}

-- the sink gained these bytes
abbrev pub Takes : List ℕ → Sunk → Type 0
Takes bytes sink = Gained bytes sink.old.bytes sink.new.bytes

-- by calls of which this holds
abbrev pub TakesBy : (List Call → Type 0) → Sunk → Type 0
TakesBy P sink = GainedCalls P sink.old.calls sink.new.calls

-- a sink that gained nothing
abbrev pub untouched : Seen → Sunk
untouched seen = record { old = seen; new = seen }

-- refused before the first event: no history, nothing on the first sink, and the refusal's line on the second
pub record IsRefused (names : List (List ℕ)) (refused : Refused) (report : Report) (out err : Sunk) : Type 0 where
  pub refused_is : report.refused ≡ Some refused
  pub status : report.status ≡ status_of refused
  pub history : report.history.items ≡ []
  pub fates : report.fates.items ≡ []
  pub printed : Takes [] out
  pub calls : Gained [] out.old.calls out.new.calls
  pub told : TakesLine (refusal_line names refused) err

-- printed in full, with this status: each line by one call of the first sink, and more only if a call took part of it
pub record IsPrintedWhole (status : ℕ) (lines : List (List ℕ)) (report : Report) (out err : Sunk) : Type 0 where
  pub refused_is : report.refused ≡ None
  pub status_is : report.status ≡ status
  pub printed : Takes (concat lines) out
  pub calls : TakesBy (SendsLines lines) out
  pub told : Takes [] err

-- printed in part, since a write failed
pub record IsPrintedInPart (lines : List (List ℕ)) (report : Report) (out err : Sunk) : Type 0 where
  pub refused_is : report.refused ≡ Some Write
  pub status_is : report.status ≡ status_of Write
  pub printed : GainedPart (concat lines) out.old.bytes out.new.bytes
  pub calls : TakesBy (SendsSome lines) out
  pub told : TakesLine (refusal_line [] Write) err

abbrev pub IsPrinted : ℕ → List (List ℕ) → Report → Sunk → Sunk → Type 0
IsPrinted status lines report out err = IsPrintedWhole status lines report out err ⊎ IsPrintedInPart lines report out err

-- and a write fails only if the first sink counted a fault
abbrev pub PrintsBy : ℕ → List (List ℕ) → Report → Sunk → Sunk → Type 0
PrintsBy status lines report out err =
    IsPrintedWhole status lines report out err ⊎ (IsPrintedInPart lines report out err × Rose out.old.faults out.new.faults)

-- the lines of a run that is measured: those of the zones, and then those of the tasks
abbrev pub measured_lines : CellData → Report → List Clearance → List (List ℕ)
measured_lines cell report clearances = clearance_lines cell report.history.items cell.zones clearances ++ fate_lines cell.tasks report.fates.items

-- the lines of a run that is traced: those of the events with their places, and then those of the tasks
abbrev pub traced_lines : CellData → List TypedTree → List SourcesData → Report → List (List ℕ)
traced_lines cell trees sources report = trace_lines cell.tasks trees sources report.history.items ++ fate_lines cell.tasks report.fates.items

-- the lines of a run
abbrev pub run_lines : Shown → CellData → Report → List (List ℕ)
run_lines shown cell report = lines_of shown cell report.history.items report.fates.items

-- nothing was run
pub record RanNothing (report : Report) : Type 0 where
  pub history : report.history.items ≡ []
  pub fates : report.fates.items ≡ []

-- the line that reports that all is accepted
abbrev pub accepted_line : List ℕ
accepted_line = codes "accepted\n"

-- a code for each tree, which asks what the tree asks
pub record AreCodesOf (trees : List TypedTree) (each : List CodeData) : Type 0 where
  pub one_each : length each ≡ length trees
  pub ask : (k : ℕ) (tree : TypedTree) (code : CodeData) → slice_get trees k ≡ Some tree → slice_get each k ≡ Some code → AsksAs tree code

-- the answer that is this text alone
abbrev pub AnswersText : List ℕ → Report → Sunk → Sunk → Type 0
AnswersText text report out err = RanNothing report × PrintsBy 0 (text ∷ []) report out err

-- the answer if all is accepted
abbrev pub AnswersAccepted : Report → Sunk → Sunk → Type 0
AnswersAccepted report out err = AnswersText accepted_line report out err

-- the answer of a run of which this holds
abbrev pub AnswersRun : (Report → Type 0) → Shown → CellData → Report → Sunk → Sunk → Type 0
AnswersRun Run shown cell report out err =
    Run report × PrintsBy (run_status cell report.history.items) (run_lines shown cell report) report out err

-- the answer of a list: the tables of the cell and the code of its tasks
abbrev pub AnswersList : CellData → List TypedTree → Report → Sunk → Sunk → Type 0
AnswersList cell trees report out err =
    (code : List CodeData) × AreCodesOf trees code × RanNothing report × PrintsBy 0 (listing_of cell code) report out err

-- what is found of a history, and is printed in one line
abbrev pub AnswersAudit : CellData → List TypedTree → List Event → List Fate → Report → Sunk → Sunk → Type 0
AnswersAudit cell trees events fates report out err =
    (found : Result Bool AuditFault) × IsAudit (with_inputs (tree_asks trees) cell) cell events fates found × RanNothing report
    × PrintsBy (audit_status found) (audit_line cell.tasks (length events) found ∷ []) report out err

-- what is found of a history, and is printed with this status: the state after a legal one, otherwise what is wrong
abbrev pub ShowsFound : CellData → List TypedTree → List SourcesData → List Event → (ℕ → List (List ℕ) → Type 0) → Result Bool AuditFault → Type 0
ShowsFound cell trees sources events prints (Ok whole) =
    (state : CellStateData) × IsStateAfter cell trees events state × prints 0 (state_lines cell trees sources state)
ShowsFound cell trees sources events prints (Err fault) =
    let found : Result Bool AuditFault = Err fault in prints (audit_status found) (audit_line cell.tasks (length events) found ∷ [])

-- the answer of the state after a history
abbrev pub AnswersState : CellData → List TypedTree → List SourcesData → List Event → List Fate → Report → Sunk → Sunk → Type 0
AnswersState cell trees sources events fates report out err =
    (found : Result Bool AuditFault) × IsAudit (with_inputs (tree_asks trees) cell) cell events fates found × RanNothing report
    × ShowsFound cell trees sources events (λ status lines. PrintsBy status lines report out err) found

-- how a run is closed once its lines were printed with this result
abbrev pub Closes : ℕ → Result ⊤ Failed → Report → Sunk → Type 0
Closes status (Ok _) report err = (report.refused ≡ None) × (report.status ≡ status) × Takes [] err
Closes status (Err _) report err = (report.refused ≡ Some Write) × (report.status ≡ status_of Write) × TakesLine (refusal_line [] Write) err

-- the answer of a run of which this holds, measured: how near each arm came to each of its zones is printed
abbrev pub AnswersMeasured : (Report → Type 0) → CellData → Report → Sunk → Sunk → Type 0
AnswersMeasured Run cell report out err =
    (clearances : List Clearance) × Run report × AreClearances cell report.history.items cell.zones clearances
    × PrintsBy (run_status cell report.history.items) (measured_lines cell report clearances) report out err

-- the answer of a run of which this holds, traced: each event is printed with its place in these modules
abbrev pub AnswersTraced : (Report → Type 0) → CellData → List TypedTree → List SourcesData → Report → Sunk → Sunk → Type 0
AnswersTraced Run cell trees sources report out err =
    Run report × PrintsBy (run_status cell report.history.items) (traced_lines cell trees sources report) report out err

-- the answer to a verdict
abbrev pub Answers : Verdict → Report → Sunk → Sunk → Type 0
Answers (refuses names refused) report out err = IsRefused names refused report out err
Answers (accepts names) report out err = RanNothing report × IsPrinted 0 (accepted_line ∷ []) report out err
Answers (runs names shown cell trees) report out err =
    IsRunByTurns cell trees report × IsPrinted (run_status cell report.history.items) (run_lines shown cell report) report out err
Answers (runs_free names shown cell trees) report out err =
    IsRun cell trees report × IsPrinted (run_status cell report.history.items) (run_lines shown cell report) report out err
Answers (lists names cell trees) report out err =
    (code : List CodeData) × AreCodesOf trees code × RanNothing report × IsPrinted 0 (listing_of cell code) report out err
Answers (audits names cell trees events fates) report out err =
    (found : Result Bool AuditFault) × IsAudit (with_inputs (tree_asks trees) cell) cell events fates found × RanNothing report
    × IsPrinted (audit_status found) (audit_line cell.tasks (length events) found ∷ []) report out err
Answers (states names cell trees sources events fates) report out err =
    (found : Result Bool AuditFault) × IsAudit (with_inputs (tree_asks trees) cell) cell events fates found × RanNothing report
    × ShowsFound cell trees sources events (λ status lines. IsPrinted status lines report out err) found
Answers (measures names cell trees) report out err =
    (clearances : List Clearance) × IsRunByTurns cell trees report × AreClearances cell report.history.items cell.zones clearances
    × IsPrinted (run_status cell report.history.items) (measured_lines cell report clearances) report out err
Answers (traces names cell trees sources) report out err =
    IsRunByTurns cell trees report × IsPrinted (run_status cell report.history.items) (traced_lines cell trees sources report) report out err
Answers (migrates names text) report out err = (new : List ℕ) × Migrates text new × RanNothing report × IsPrinted 0 (new ∷ []) report out err

-- out of memory: before the first event, with nothing printed
abbrev pub IsOutOfMemory : Report → Sunk → Sunk → Type 0
IsOutOfMemory report out err = IsRefused [] Memory report out err

-- a run of which this holds, or out of memory
abbrev pub RunsOrMemory : (Report → Type 0) → Shown → CellData → Report → Sunk → Sunk → Type 0
RunsOrMemory Run shown cell report out err = IsOutOfMemory report out err ⊎ AnswersRun Run shown cell report out err

-- a run that is measured, or out of memory
abbrev pub MeasuresOrMemory : (Report → Type 0) → CellData → Report → Sunk → Sunk → Type 0
MeasuresOrMemory Run cell report out err = IsOutOfMemory report out err ⊎ AnswersMeasured Run cell report out err

-- a run that is traced, or out of memory
abbrev pub TracesOrMemory : (Report → Type 0) → CellData → List TypedTree → List SourcesData → Report → Sunk → Sunk → Type 0
TracesOrMemory Run cell trees sources report out err = IsOutOfMemory report out err ⊎ AnswersTraced Run cell trees sources report out err

-- a list, or out of memory
abbrev pub ListsOrMemory : CellData → List TypedTree → Report → Sunk → Sunk → Type 0
ListsOrMemory cell trees report out err = IsOutOfMemory report out err ⊎ AnswersList cell trees report out err

-- an audit, or out of memory
abbrev pub AuditsOrMemory : CellData → List TypedTree → List Event → List Fate → Report → Sunk → Sunk → Type 0
AuditsOrMemory cell trees events fates report out err = IsOutOfMemory report out err ⊎ AnswersAudit cell trees events fates report out err

-- the state after a history, or out of memory
abbrev pub StatesOrMemory : CellData → List TypedTree → List SourcesData → List Event → List Fate → Report → Sunk → Sunk → Type 0
StatesOrMemory cell trees sources events fates report out err = IsOutOfMemory report out err ⊎ AnswersState cell trees sources events fates report out err

-- it answers a verdict of which this holds, or is out of memory
abbrev pub AnswersSome : (Verdict → Type 0) → Report → Sunk → Sunk → Type 0
AnswersSome P report out err = IsOutOfMemory report out err ⊎ ((verdict : Verdict) × P verdict × Answers verdict report out err)

-- with all modules read
abbrev pub AnswersReads : Doing → List (List ℕ) → ScriptData → List ReadModule → Report → Sunk → Sunk → Type 0
AnswersReads acts names script reads report out err =
    AnswersSome (CheckedDecides acts names (sources_of script reads) (checked script reads)) report out err

-- with all modules accepted, this cell, its trees and the modules of its tasks, and this text of the file of this name
-- that the action reads last
abbrev pub AnswersMade : Action → List ℕ → List ℕ → List (List ℕ) → List SourcesData → MadeCell → Report → Sunk → Sunk → Type 0
AnswersMade action last text names sources made report out err = AnswersSome (ActionDecides (Some action) last (Ok text) names sources made) report out err

-- with the text of a history for this cell, and the verdict on the history
abbrev pub AnswersHistory : (List Event → List Fate → Verdict) → List ℕ → List (List ℕ) → CellData → Report → Sunk → Sunk → Type 0
AnswersHistory on text names cell report out err = AnswersSome (HistoryDecides on (Ok text) names cell) report out err

-- A verdict on the words and the files: on what each read finds, if the shelf reports its files; otherwise on the
-- results of some reads.
abbrev pub IsVerdict : List (List ℕ) → Option Told → Verdict → Type 0
IsVerdict words (Some files) verdict = Accepted words (told_reads files) verdict
IsVerdict words None verdict = (gave : Reads) × Accepted words gave verdict

-- The report answers what the words and the files come to, or is out of memory.
abbrev pub AnswersWords : List (List ℕ) → Option Told → Report → Sunk → Sunk → Type 0
AnswersWords words told report out err = AnswersSome (IsVerdict words told) report out err
