-- The answer to a verdict carries it out, if no write fails.
use Rattle.std.proofs.Common.{◌≡◌, ◌⊎◌, inl, inr, refl, ap, ◌∙◌, subst, ℕ, Bool, true, false, List, [], ◌∷◌, length, Some, if◌then◌else◌}
use Rattle.std.specs.Prelude.{Option, Result, Ok, Err}
use Rattle.std.specs.List.{list_any}
use Rattle.outside.specs.Count.{Rose}
use Rattle.outside.specs.Told.{Told}
use Rattle.rapid_model.specs.CellData.{CellData}
use Rattle.rapid_model.specs.declared.event.Event.{Event}
use Rattle.typed_trees.specs.Plain.{TypedTree}
use Rattle.history_audit.specs.declared.audit_fault.AuditFault.{AuditFault}
use Rattle.state_text.specs.StateLines.{SourcesData, state_lines}
use Rattle.cell_meaning.specs.Fates.{all_ended, fates_after, is_spent}
use Rattle.cell_loading.specs.declared.refused.Refused.TheVariants.{Write}
use Rattle.controller.specs.declared.report.Report.{Report}
use Rattle.controller.specs.Accepted.{Accepted, Verdict, accepts, audits, lists, migrates, refuses, runs, runs_free, measures, states, traces}
use Rattle.controller.specs.Answered.{Answers, AnswersWords, IsOutOfMemory, IsPrinted, accepted_line, run_lines, measured_lines, traced_lines, ShowsFound}
use Rattle.run_lines.specs.Audits.{audit_line, audit_status}
use Rattle.controller.specs.Complete.{IsComplete, IsDone}
use Rattle.cell_loading.specs.Files.{told_reads}
use Rattle.sink_lines.specs.Printed.{Sunk}
use Rattle.cell_runs.specs.Outcomes.{is_fault, run_status}
use Rattle.controller.proofs.OneVerdict.{OneText, verdict_one}
use Rattle.cell_listing.specs.Listing.{listing_of}

whole_status : (status : ℕ) (lines : List (List ℕ)) (report : Report) (out err : Sunk) → (report.refused ≡ Some Write → ⊥) → IsPrinted status lines report out err → report.status ≡ status
whole_status status lines report out err whole (inl is) = is.status_is
whole_status status lines report out err whole (inr part) = absurd (whole part.refused_is)

-- the status of what is shown after a history
shown_status : (cell : CellData) (trees : List TypedTree) (sources : List SourcesData) (events : List Event) (found : Result Bool AuditFault) (report : Report) (out err : Sunk) → (report.refused ≡ Some Write → ⊥)
    → ShowsFound cell trees sources events (λ status lines. IsPrinted status lines report out err) found → report.status ≡ audit_status found
shown_status cell trees sources events (Ok legal) report out err whole shows = whole_status 0 (state_lines cell trees sources shows.0) report out err whole shows.2
shown_status cell trees sources events (Err fault) report out err whole shows =
    let found : Result Bool AuditFault = Err fault in whole_status (audit_status found) (audit_line cell.tasks (length events) found ∷ []) report out err whole shows

carried_out : (verdict : Verdict) (report : Report) (out err : Sunk) → (report.refused ≡ Some Write → ⊥) → Answers verdict report out err → IsDone verdict report
carried_out (refuses names refused) report out err whole is = (is.refused_is, is.status)
carried_out (accepts names) report out err whole is = whole_status 0 (accepted_line ∷ []) report out err whole is.1
carried_out (runs names shown cell trees) report out err whole is = whole_status (run_status cell report.history.items) (run_lines shown cell report) report out err whole is.1
carried_out (runs_free names shown cell trees) report out err whole is = whole_status (run_status cell report.history.items) (run_lines shown cell report) report out err whole is.1
carried_out (lists names cell trees) report out err whole is = whole_status 0 (listing_of cell is.0) report out err whole is.3
carried_out (measures names cell trees) report out err whole is = whole_status (run_status cell report.history.items) (measured_lines cell report is.0) report out err whole is.3
carried_out (traces names cell trees sources) report out err whole is = whole_status (run_status cell report.history.items) (traced_lines cell trees sources report) report out err whole is.1
carried_out (audits names cell trees events fates) report out err whole is =
    (is.0, is.1, whole_status (audit_status is.0) (audit_line cell.tasks (length events) is.0 ∷ []) report out err whole is.3)
carried_out (states names cell trees sources events fates) report out err whole is = (is.0, is.1, shown_status cell trees sources events is.0 report out err whole is.3)
carried_out (migrates names text) report out err whole is = whole_status 0 (is.0 ∷ []) report out err whole is.3

-- what answers the words and the files carries out what they come to
pub done : (words : List (List ℕ)) (told : Option Told) (report : Report) (out err : Sunk) → AnswersWords words told report out err → (report.refused ≡ Some Write → Rose out.old.faults out.new.faults)
    → IsComplete words told report out err
done words told report out err (inl memory) wrote = λ quiet. inl memory
done words told report out err (inr w) wrote = λ quiet. inr (w.0, w.1, carried_out w.0 report out err (λ cut. quiet (wrote cut)) w.2)

pub complete : OneText → (words : List (List ℕ)) (files : Told) (verdict : Verdict) (report : Report) (out err : Sunk) → AnswersWords words (Some files) report out err
    → (report.refused ≡ Some Write → ⊥) → Accepted words (told_reads files) verdict → IsOutOfMemory report out err ⊎ IsDone verdict report
complete one words files verdict report out err (inl memory) whole accepted = inl memory
complete one words files verdict report out err (inr w) whole accepted =
    let same : w.0 ≡ verdict = verdict_one one words (told_reads files) w.0 verdict w.1 accepted in
    inr (carried_out verdict report out err whole (subst (λ (v : Verdict). Answers v report out err) same w.2))

pub statuses : (cell : CellData) (history : List Event)
    → (run_status cell history ≡ 0) ⊎ ((run_status cell history ≡ 1) ⊎ ((run_status cell history ≡ 8) ⊎ (run_status cell history ≡ 9)))
statuses cell history =
    by (all_ended (length cell.tasks) history) (list_any is_fault (fates_after cell history (length cell.tasks))) (is_spent cell history)
  where
    status : Bool → Bool → Bool → ℕ
    status ended fault spent = if ended then (if fault then 1 else 0) else if spent then 9 else 8

    by : (ended fault spent : Bool) → (status ended fault spent ≡ 0) ⊎ ((status ended fault spent ≡ 1) ⊎ ((status ended fault spent ≡ 8) ⊎ (status ended fault spent ≡ 9)))
    by true true spent = inr (inl refl)
    by true false spent = inl refl
    by false fault true = inr (inr (inr refl))
    by false fault false = inr (inr (inl refl))
