-- The report of a run that is traced.
use Rattle.std.proofs.Common.{◌≡◌, ◌++◌, ℕ, List, length, Result, refl, ap, sym, ◌∙◌, subst, inl, inr}
use Rattle.std.specs.Prelude.{⊤}
use Rattle.outside.specs.declared.failed.Failed.{Failed}
use Rattle.rapid_model.specs.CellData.{CellData, IsCell}
use Rattle.rapid_model.specs.declared.event.Event.{Event}
use Rattle.rapid_model.specs.declared.fate.Fate.{Fate}
use Rattle.typed_trees.specs.Plain.{TypedTree}
use Rattle.rapid_meaning.specs.Asking.{tree_asks}
use Rattle.cell_meaning.specs.Asking.{Asking, with_inputs}
use Rattle.cell_meaning.specs.Fates.{fates_after}
use Rattle.cell_meaning.specs.Histories.{IsLegal, IsWhole}
use Rattle.cell_meaning.specs.Premises.{TasksAskWell}
use Rattle.cell_meaning.specs.Turns.{IsByTurns}
use Rattle.history_text.specs.Lines.{fate_lines}
use Rattle.state_text.specs.StateLines.{SourcesData}
use Rattle.state_text.specs.TraceLines.{trace_lines}
use Rattle.controller.specs.declared.report.Report.{Report}
use Rattle.controller.specs.Answered.{AnswersTraced, Closes, TracesOrMemory, traced_lines}
use Rattle.sink_lines.specs.Printed.{Sunk}
use Rattle.controller.specs.Runs.{IsRunByTurns, TellsRun}
use Rattle.cell_runs.specs.Outcomes.{run_status}
use Rattle.controller.specs.RunsAsked.{IsRunAsking}
use Rattle.sink_lines.specs.Written.{Writes}
use Rattle.controller.proofs.Reports.{lines_printed, run_of}

-- what is printed, in terms of the report
traced_are : (cell : CellData) (trees : List TypedTree) (sources : List SourcesData) (history : List Event) (report : Report) → TellsRun cell history report
    → trace_lines cell.tasks trees sources history ++ fate_lines cell.tasks (fates_after cell history (length cell.tasks)) ≡ traced_lines cell trees sources report
traced_are cell trees sources history report tells =
    ap (λ (h : List Event). trace_lines cell.tasks trees sources h ++ fate_lines cell.tasks (fates_after cell history (length cell.tasks))) (sym tells.history_is)
    ∙ ap (λ (fates : List Fate). trace_lines cell.tasks trees sources report.history.items ++ fate_lines cell.tasks fates) (sym tells.fates_is)

-- a run that is closed with what its lines came to
pub traced_closed : (cell : CellData) (trees : List TypedTree) (sources : List SourcesData) (history : List Event) (status : ℕ) (printed : Result ⊤ Failed) (report : Report) (out err : Sunk) → TellsRun cell history report
    → status ≡ run_status cell history → Writes (trace_lines cell.tasks trees sources history ++ fate_lines cell.tasks (fates_after cell history (length cell.tasks))) printed out → Closes status printed report err
    → AnswersTraced (TellsRun cell history) cell trees sources report out err
traced_closed cell trees sources history status printed report out err tells is wrote closed = (
  tells,
  lines_printed cell history (traced_lines cell trees sources report) status printed report out err tells is
      (subst (λ (lines : List (List ℕ)). Writes lines printed out) (traced_are cell trees sources history report tells) wrote) closed,
)

-- the history is one of the core's cell
pub legal_here : (asks : Asking) (cell here : CellData) (history : List Event) → here ≡ cell → IsLegal (with_inputs asks cell) cell history → IsLegal (with_inputs asks here) here history
legal_here asks cell here history same legal = subst (λ (c : CellData). IsLegal (with_inputs asks c) c history) (sym same) legal

-- a core's report is that of the run by turns
pub asking_traced : (asks : Asking) (cell here : CellData) (trees : List TypedTree) (sources : List SourcesData) (history : List Event) (report : Report) (out err : Sunk) → here ≡ cell
    → IsByTurns (with_inputs asks cell) cell history → IsLegal (with_inputs asks cell) cell history → IsWhole (with_inputs asks cell) cell history
    → AnswersTraced (TellsRun here history) here trees sources report out err → TracesOrMemory (IsRunAsking asks cell) cell trees sources report out err
asking_traced asks cell here trees sources history report out err same run legal whole answered =
    let told : AnswersTraced (TellsRun cell history) cell trees sources report out err = subst (λ (c : CellData). AnswersTraced (TellsRun c history) c trees sources report out err) same answered in
    let tells : TellsRun cell history report = told.0 in
    inr (
      record {
        fates = tells.fates_is ∙ ap (λ (h : List Event). fates_after cell h (length cell.tasks)) (sym tells.history_is);
        by_turns = subst (λ (h : List Event). IsByTurns (with_inputs asks cell) cell h) (sym tells.history_is) run;
        legal = subst (λ (h : List Event). IsLegal (with_inputs asks cell) cell h) (sym tells.history_is) legal;
        whole = subst (λ (h : List Event). IsWhole (with_inputs asks cell) cell h) (sym tells.history_is) whole;
      },
      told.1,
    )

-- and of tasks that ask what their trees ask
pub turns_traced : (cell : CellData) (trees seen : List TypedTree) (sources : List SourcesData) (report : Report) (out err : Sunk) → seen ≡ trees → IsCell cell → TasksAskWell (tree_asks seen) cell
    → TracesOrMemory (IsRunAsking (tree_asks seen) cell) cell seen sources report out err → TracesOrMemory (IsRunByTurns cell trees) cell trees sources report out err
turns_traced cell trees seen sources report out err alike limits well (inl memory) = inl memory
turns_traced cell trees seen sources report out err alike limits well (inr answered) =
    let asked : IsRunAsking (tree_asks seen) cell report = answered.0 in
    let by_turns : IsRunByTurns cell seen report = record {
      run = run_of cell seen report.history.items report (record { limits = limits; well = well; legal = asked.legal; whole = asked.whole }) (record { history_is = refl; fates_is = asked.fates });
      by_turns = asked.by_turns;
    } in
    inr (subst (λ (ts : List TypedTree). AnswersTraced (IsRunByTurns cell ts) cell ts sources report out err) alike (by_turns, answered.1))
