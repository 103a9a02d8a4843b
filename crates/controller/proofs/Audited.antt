-- The audit of a history, and its report.
use Rattle.std.proofs.Common.{◌≡◌, ◌≤◌, ℕ, List, [], ◌∷◌, length, None, Some, Bool, Result, refl, ap, sym, ◌∙◌, subst, inl, inr}
use Rattle.std.specs.Prelude.{All, IsTrue, ◌&&◌}
use Rattle.std.specs.List.{AllByRecursion}
use Rattle.std.proofs.lemmas.Bool.{and_parts, leb-true}
use Rattle.std.proofs.lemmas.List.Elements.{All-cons, All-nil}
use Rattle.rapid_model.specs.CellData.{CellData}
use Rattle.rapid_model.specs.declared.event.Event.{Event}
use Rattle.rapid_model.specs.declared.fate.Fate.{Fate}
use Rattle.rapid_model.specs.declared.pers_cell.PersCell.{PersCell}
use Rattle.rapid_model.specs.declared.signal_row.SignalRow.{SignalRow}
use Rattle.rapid_model.specs.declared.task_row.TaskRow.{TaskRow}
use Rattle.typed_trees.specs.Plain.{TypedTree}
use Rattle.rapid_meaning.specs.Asking.{tree_asks}
use Rattle.cell_meaning.specs.Asking.{with_inputs}
use Rattle.cell_assembly.specs.Made.{MadeCell}
use Rattle.history_text.specs.HistoryText.{IsFirstFault, Spells}
use Rattle.history_text.specs.InRange.{IsEvent}
use Rattle.history_text.specs.Named.{NamesData, answer_fits, event_fits, has_actor, request_fits, view_names}
use Rattle.history_text.specs.declared.names.Names.{Names}
use Rattle.history_audit.specs.Audits.{IsAudit}
use Rattle.history_audit.specs.declared.audit_fault.AuditFault.{AuditFault}
use Rattle.controller.specs.declared.report.Report.{Report}
use Rattle.cell_loading.specs.declared.refused.Refused.TheVariants.{History, Write}
use Rattle.controller.specs.Accepted.{Verdict, audits, refuses}
use Rattle.controller.specs.Answered.{AnswersAudit, AnswersHistory, AuditsOrMemory, IsRefused, PrintsBy, RanNothing}
use Rattle.run_lines.specs.Audits.{audit_line, audit_status}
use Rattle.run_lines.specs.Output.{names_in}
use Rattle.sink_lines.specs.Printed.{Gained, Sunk}
use Rattle.controller.specs.RefusalLines.{refusal_text}
use Rattle.cell_loading.specs.Refusals.{status_of}
use Rattle.sink_lines.specs.Written.{TakesLine, WritesAll, WritesPart}
use Rattle.controller.proofs.Exits.{is_printed}

-- the names that the text is read with
pub names_seen : (names : Names) (cell : CellData) → names.tasks.now ≡ cell.tasks → names.signals.now ≡ cell.signals → names.pers.now ≡ cell.pers → view_names names ≡ names_in cell
names_seen names cell tasks signals pers =
    ap (λ (ts : List TaskRow). let n : NamesData = record { tasks = ts; signals = names.signals.now; pers = names.pers.now } in n) tasks
    ∙ ap (λ (ss : List SignalRow). let n : NamesData = record { tasks = cell.tasks; signals = ss; pers = names.pers.now } in n) signals
    ∙ ap (λ (ps : List PersCell). let n : NamesData = record { tasks = cell.tasks; signals = cell.signals; pers = ps } in n) pers

-- the actors of a text's history are those of the cell

actors_named : (names : NamesData) (events : List Event) → AllByRecursion (λ (e : Event). IsEvent e × IsTrue (event_fits names e)) events → All (λ (e : Event). e.actor ≤ length names.tasks) events
actors_named names [] fit = All-nil (λ (e : Event). e.actor ≤ length names.tasks)
actors_named names (e ∷ es) fit =
    let parts = and_parts (has_actor names e.actor) (request_fits names e.actor e.request && answer_fits names e.actor e.request e.answer) fit.0.1 in
    All-cons (λ (x : Event). x.actor ≤ length names.tasks) e es (leb-true e.actor (length names.tasks) parts.0) (actors_named names es fit.1)

pub actors_seen : (text : List ℕ) (cell : CellData) (named : NamesData) (events seen : List Event) (fates : List Fate) → named ≡ names_in cell → Spells named text events fates → seen ≡ events
    → All (λ (e : Event). e.actor ≤ length cell.tasks) seen
actors_seen text cell named events seen fates same spelled one =
    subst (λ (es : List Event). All (λ (e : Event). e.actor ≤ length cell.tasks) es) (sym one)
    (subst (λ (n : NamesData). All (λ (e : Event). e.actor ≤ length n.tasks) events) same (actors_named named events spelled.history.events))

-- and the fates are those of its first tasks
pub fates_seen : (text : List ℕ) (cell : CellData) (named : NamesData) (events : List Event) (fates ends : List Fate) → named ≡ names_in cell → Spells named text events fates → ends ≡ fates → length ends ≤ length cell.tasks
fates_seen text cell named events fates ends same spelled other =
    subst (λ (fs : List Fate). length fs ≤ length cell.tasks) (sym other) (subst (λ (n : NamesData). length fates ≤ length n.tasks) same spelled.history.few)

-- what is printed of it

lines_are : (tasks seen : List TaskRow) (count : ℕ) (found : Result Bool AuditFault) → seen ≡ tasks → audit_line seen count found ∷ [] ≡ audit_line tasks count found ∷ []
lines_are tasks seen count found same = ap (λ (rows : List TaskRow). audit_line rows count found ∷ []) same

pub audit_printed : (tasks seen : List TaskRow) (count : ℕ) (found : Result Bool AuditFault) (report : Report) (out err : Sunk) → seen ≡ tasks → report.refused ≡ None → report.status ≡ audit_status found
    → WritesAll (audit_line seen count found ∷ []) out → Gained [] err.old.bytes err.new.bytes → PrintsBy (audit_status found) (audit_line tasks count found ∷ []) report out err
audit_printed tasks seen count found report out err same none status printed told =
    let here = subst (λ (lines : List (List ℕ)). WritesAll lines out) (lines_are tasks seen count found same) printed in
    inl (record { refused_is = none; status_is = status; printed = here.bytes; calls = here.calls; told = told })

pub audit_cut_short : (tasks seen : List TaskRow) (count : ℕ) (found : Result Bool AuditFault) (report : Report) (out err : Sunk) → seen ≡ tasks → report.refused ≡ Some Write → report.status ≡ status_of Write
    → WritesPart (audit_line seen count found ∷ []) out → TakesLine (refusal_text [] Write) err → PrintsBy (audit_status found) (audit_line tasks count found ∷ []) report out err
audit_cut_short tasks seen count found report out err same write status printed told =
    let here = subst (λ (lines : List (List ℕ)). WritesPart lines out) (lines_are tasks seen count found same) printed in
    inr (record { refused_is = write; status_is = status; printed = here.bytes; calls = here.calls; told = told }, here.rose)

-- the core's cell is the one that is audited
pub audit_answered : (cell here : CellData) (trees seen : List TypedTree) (events : List Event) (fates : List Fate) (found : Result Bool AuditFault) (report : Report) (out err : Sunk) → here ≡ cell → seen ≡ trees
    → IsAudit (with_inputs (tree_asks seen) cell) cell events fates found → RanNothing report → PrintsBy (audit_status found) (audit_line here.tasks (length events) found ∷ []) report out err
    → AuditsOrMemory cell trees events fates report out err
audit_answered cell here trees seen events fates found report out err same alike audited nothing printed =
    inr (
      found,
      subst (λ (ts : List TypedTree). IsAudit (with_inputs (tree_asks ts) cell) cell events fates found) alike audited,
      nothing,
      subst (λ (c : CellData). PrintsBy (audit_status found) (audit_line c.tasks (length events) found ∷ []) report out err) same printed,
    )

-- a text that is a history
pub history_audited : (text : List ℕ) (names : List (List ℕ)) (made : MadeCell) (named : NamesData) (events seen : List Event) (fates ends : List Fate) (report : Report) (out err : Sunk) → named ≡ names_in made.cell
    → Spells named text events fates → seen ≡ events → ends ≡ fates → AuditsOrMemory made.cell made.trees seen ends report out err
    → AnswersHistory (audits names made.cell made.trees) text names made.cell report out err
history_audited text names made named events seen fates ends report out err same spelled one other (inl memory) = inl memory
history_audited text names made named events seen fates ends report out err same spelled one other (inr answered) =
    let here : AnswersAudit made.cell made.trees events fates report out err =
    subst (λ (es : List Event). AnswersAudit made.cell made.trees es fates report out err) one
    (subst (λ (fs : List Fate). AnswersAudit made.cell made.trees seen fs report out err) other answered) in
    inr (
      audits names made.cell made.trees events fates,
      inr (events, fates, subst (λ (n : NamesData). Spells n text events fates) same spelled, refl),
      (here.0, here.1, here.2, is_printed here.3),
    )

-- a text that is none
pub history_refused : (on : List Event → List Fate → Verdict) (text : List ℕ) (names : List (List ℕ)) (cell : CellData) (named : NamesData) (line : ℕ) (report : Report) (out err : Sunk) → named ≡ names_in cell
    → IsFirstFault named text line → IsRefused names (History line) report out err → AnswersHistory on text names cell report out err
history_refused on text names cell named line report out err same fault r =
    inr (refuses names (History line), inl (line, subst (λ (n : NamesData). IsFirstFault n text line) same fault, refl), r)
