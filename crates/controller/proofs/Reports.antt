-- The report of a run.
use Rattle.std.proofs.Common.{◌≡◌, ◌++◌, ℕ, List, [], length, None, Some, Result, Ok, Err, ap, sym, ◌∙◌, subst, inl, inr}
use Rattle.std.specs.Prelude.{⊤}
use Rattle.outside.specs.declared.failed.Failed.{Failed}
use Rattle.rapid_model.specs.CellData.{CellData, IsCell}
use Rattle.rapid_model.specs.declared.event.Event.{Event}
use Rattle.rapid_model.specs.declared.fate.Fate.{Fate}
use Rattle.typed_trees.specs.Plain.{TypedTree}
use Rattle.rapid_meaning.specs.Asking.{tree_asks}
use Rattle.cell_meaning.specs.Asking.{with_inputs}
use Rattle.cell_meaning.specs.Fates.{fates_after}
use Rattle.cell_meaning.specs.Histories.{IsLegal, IsWhole}
use Rattle.cell_meaning.specs.Premises.{AllAnswered, TasksAskWell}
use Rattle.cell_meaning.specs.Turns.{IsByTurns}
use Rattle.cell_meaning.proofs.ByTurns.{legal_answered}
use Rattle.cell_meaning.proofs.Follow.{outputs_follow}
use Rattle.history_text.specs.Lines.{fate_lines}
use Rattle.clearance_lines.specs.Clearances.{AreClearances, Clearance, clearance_lines}
use Rattle.clearance_lines.specs.Measured.{WritesMeasured}
use Rattle.cell_meaning.proofs.InputScript.{asks_what_it_may}
use Rattle.controller.specs.declared.report.Report.{Report}
use Rattle.cell_loading.specs.declared.refused.Refused.TheVariants.{Write}
use Rattle.cell_loading.specs.Refusals.{status_of}
use Rattle.controller.specs.RefusalLines.{refusal_text}
use Rattle.controller.specs.Runs.{IsRun, IsRunByTurns, TellsRun}
use Rattle.cell_runs.specs.Outcomes.{run_status}
use Rattle.run_lines.specs.Output.{lines_of}
use Rattle.run_lines.specs.declared.shown.Shown.{Shown}
use Rattle.sink_lines.specs.Printed.{Sunk, Gained}
use Rattle.sink_lines.specs.Written.{Writes, WritesAll, WritesPart, TakesLine}
use Rattle.controller.specs.Answered.{AnswersMeasured, AnswersRun, Closes, MeasuresOrMemory, PrintsBy, RunsOrMemory, measured_lines}
use Rattle.cell_runs.proofs.Stalling.{stalled_wait}
use Rattle.cell_runs.proofs.ZonesMissed.{zones_missed}

-- what is printed, in terms of the report
lines_are : (shown : Shown) (cell : CellData) (history : List Event) (report : Report) → TellsRun cell history report
    → lines_of shown cell history (fates_after cell history (length cell.tasks)) ≡ lines_of shown cell report.history.items report.fates.items
lines_are shown cell history report tells =
    ap (λ (h : List Event). lines_of shown cell h (fates_after cell history (length cell.tasks))) (sym tells.history_is)
    ∙ ap (lines_of shown cell report.history.items) (sym tells.fates_is)

pub run_printed : (shown : Shown) (cell : CellData) (history : List Event) (report : Report) (out err : Sunk) → TellsRun cell history report → report.refused ≡ None → report.status ≡ run_status cell history
    → WritesAll (lines_of shown cell history (fates_after cell history (length cell.tasks))) out → Gained [] err.old.bytes err.new.bytes → AnswersRun (TellsRun cell history) shown cell report out err
run_printed shown cell history report out err tells none status printed told =
    let here = subst (λ (lines : List (List ℕ)). WritesAll lines out) (lines_are shown cell history report tells) printed in
    (tells, inl (record { refused_is = none; status_is = status ∙ ap (run_status cell) (sym tells.history_is); printed = here.bytes; calls = here.calls; told = told }))

pub run_cut_short : (shown : Shown) (cell : CellData) (history : List Event) (report : Report) (out err : Sunk) → TellsRun cell history report → report.refused ≡ Some Write → report.status ≡ status_of Write
    → WritesPart (lines_of shown cell history (fates_after cell history (length cell.tasks))) out → TakesLine (refusal_text [] Write) err → AnswersRun (TellsRun cell history) shown cell report out err
run_cut_short shown cell history report out err tells write status printed told =
    let here = subst (λ (lines : List (List ℕ)). WritesPart lines out) (lines_are shown cell history report tells) printed in
    (tells, inr (record { refused_is = write; status_is = status; printed = here.bytes; calls = here.calls; told = told }, here.rose))

-- a run that is closed with what its lines came to
pub run_closed : (shown : Shown) (cell : CellData) (history : List Event) (status : ℕ) (printed : Result ⊤ Failed) (report : Report) (out err : Sunk) → TellsRun cell history report → status ≡ run_status cell history
    → Writes (lines_of shown cell history (fates_after cell history (length cell.tasks))) printed out → Closes status printed report err → AnswersRun (TellsRun cell history) shown cell report out err
run_closed shown cell history status (Ok _) report out err tells is wrote closed = run_printed shown cell history report out err tells closed.0 (closed.1 ∙ is) wrote closed.2
run_closed shown cell history status (Err _) report out err tells is wrote closed = run_cut_short shown cell history report out err tells closed.0 closed.1 wrote closed.2

-- the same of a run that is measured
measured_are : (cell : CellData) (history : List Event) (clearances : List Clearance) (report : Report) → TellsRun cell history report
    → clearance_lines cell history cell.zones clearances ++ fate_lines cell.tasks (fates_after cell history (length cell.tasks)) ≡ measured_lines cell report clearances
measured_are cell history clearances report tells =
    ap (λ (h : List Event). clearance_lines cell h cell.zones clearances ++ fate_lines cell.tasks (fates_after cell history (length cell.tasks))) (sym tells.history_is)
    ∙ ap (λ (fates : List Fate). clearance_lines cell report.history.items cell.zones clearances ++ fate_lines cell.tasks fates) (sym tells.fates_is)

-- lines of a run that is closed
pub lines_printed : (cell : CellData) (history : List Event) (lines : List (List ℕ)) (status : ℕ) (printed : Result ⊤ Failed) (report : Report) (out err : Sunk) → TellsRun cell history report → status ≡ run_status cell history
    → Writes lines printed out → Closes status printed report err → PrintsBy (run_status cell report.history.items) lines report out err
lines_printed cell history lines status (Ok _) report out err tells is wrote closed =
    inl (record { refused_is = closed.0; status_is = closed.1 ∙ is ∙ ap (run_status cell) (sym tells.history_is); printed = wrote.bytes; calls = wrote.calls; told = closed.2 })
lines_printed cell history lines status (Err _) report out err tells is wrote closed =
    inr (record { refused_is = closed.0; status_is = closed.1; printed = wrote.bytes; calls = wrote.calls; told = closed.2 }, wrote.rose)

pub measured_closed : (cell : CellData) (history : List Event) (status : ℕ) (printed : Result ⊤ Failed) (report : Report) (out err : Sunk) → TellsRun cell history report → status ≡ run_status cell history
    → WritesMeasured cell history printed out → Closes status printed report err → AnswersMeasured (TellsRun cell history) cell report out err
measured_closed cell history status printed report out err tells is wrote closed = (
  wrote.clearances,
  tells,
  subst (λ (h : List Event). AreClearances cell h cell.zones wrote.clearances) (sym tells.history_is) wrote.are,
  lines_printed cell history (measured_lines cell report wrote.clearances) status printed report out err tells is
      (subst (λ (lines : List (List ℕ)). Writes lines printed out) (measured_are cell history wrote.clearances report tells) wrote.written) closed,
)

-- what follows from the report is answered too
answered_as : (Run Other : Report → Type 0) (shown : Shown) (cell : CellData) (report : Report) (out err : Sunk) → (Run report → Other report) → AnswersRun Run shown cell report out err → AnswersRun Other shown cell report out err
answered_as Run Other shown cell report out err follows answered = (follows answered.0, answered.1)

-- a legal and complete history of tasks that ask well
pub record IsSound (cell : CellData) (trees : List TypedTree) (history : List Event) : Type 0 where
  pub limits : IsCell cell
  pub well : TasksAskWell (tree_asks trees) cell
  pub legal : IsLegal (with_inputs (tree_asks trees) cell) cell history
  pub whole : IsWhole (with_inputs (tree_asks trees) cell) cell history

pub run_of : (cell : CellData) (trees : List TypedTree) (history : List Event) (report : Report) → IsSound cell trees history → TellsRun cell history report → IsRun cell trees report
run_of cell trees history report sound tells =
    let legal : IsLegal (with_inputs (tree_asks trees) cell) cell report.history.items =
    subst (λ (h : List Event). IsLegal (with_inputs (tree_asks trees) cell) cell h) (sym tells.history_is) sound.legal in
    let whole : IsWhole (with_inputs (tree_asks trees) cell) cell report.history.items =
    subst (λ (h : List Event). IsWhole (with_inputs (tree_asks trees) cell) cell h) (sym tells.history_is) sound.whole in
    record {
      legal = legal;
      whole = whole;
      fates = tells.fates_is ∙ ap (λ (h : List Event). fates_after cell h (length cell.tasks)) (sym tells.history_is);
      clear = zones_missed (with_inputs (tree_asks trees) cell) cell report.history.items legal;
      outputs = outputs_follow (with_inputs (tree_asks trees) cell) cell report.history.items sound.limits (asks_what_it_may (tree_asks trees) cell sound.well) legal;
      stalled = λ status task within going. stalled_wait cell trees report.history.items sound.well legal whole status task within going;
    }

-- the core's report answers the round-robin run of the cell
pub turns_answered : (shown : Shown) (cell here : CellData) (trees seen : List TypedTree) (history : List Event) (report : Report) (out err : Sunk) → here ≡ cell → seen ≡ trees → IsSound cell seen history
    → IsByTurns (with_inputs (tree_asks seen) cell) cell history → AnswersRun (TellsRun here history) shown here report out err → RunsOrMemory (IsRunByTurns cell trees) shown cell report out err
turns_answered shown cell here trees seen history report out err same alike sound run answered =
    let told : AnswersRun (TellsRun cell history) shown cell report out err = subst (λ (c : CellData). AnswersRun (TellsRun c history) shown c report out err) same answered in
    let follows : TellsRun cell history report → IsRunByTurns cell seen report = λ tells. record {
      run = run_of cell seen history report sound tells;
      by_turns = subst (λ (h : List Event). IsByTurns (with_inputs (tree_asks seen) cell) cell h) (sym tells.history_is) run;
    } in
    inr (subst (λ (ts : List TypedTree). AnswersRun (IsRunByTurns cell ts) shown cell report out err) alike (answered_as (TellsRun cell history) (IsRunByTurns cell seen) shown cell report out err follows told))

-- or another run of it
pub free_answered : (shown : Shown) (cell here : CellData) (trees seen : List TypedTree) (history : List Event) (report : Report) (out err : Sunk) → here ≡ cell → seen ≡ trees → IsSound cell seen history
    → AnswersRun (TellsRun here history) shown here report out err → RunsOrMemory (IsRun cell trees) shown cell report out err
free_answered shown cell here trees seen history report out err same alike sound answered =
    let told : AnswersRun (TellsRun cell history) shown cell report out err = subst (λ (c : CellData). AnswersRun (TellsRun c history) shown c report out err) same answered in
    inr (subst (λ (ts : List TypedTree). AnswersRun (IsRun cell ts) shown cell report out err) alike
    (answered_as (TellsRun cell history) (IsRun cell seen) shown cell report out err (λ tells. run_of cell seen history report sound tells) told))

-- the core's report answers the round-robin run that is measured
pub measured_answered : (cell here : CellData) (trees seen : List TypedTree) (history : List Event) (report : Report) (out err : Sunk) → here ≡ cell → seen ≡ trees → IsSound cell seen history
    → IsByTurns (with_inputs (tree_asks seen) cell) cell history → AnswersMeasured (TellsRun here history) here report out err → MeasuresOrMemory (IsRunByTurns cell trees) cell report out err
measured_answered cell here trees seen history report out err same alike sound run answered =
    let told : AnswersMeasured (TellsRun cell history) cell report out err = subst (λ (c : CellData). AnswersMeasured (TellsRun c history) c report out err) same answered in
    let by_turns : IsRunByTurns cell seen report = record {
      run = run_of cell seen history report sound told.1;
      by_turns = subst (λ (h : List Event). IsByTurns (with_inputs (tree_asks seen) cell) cell h) (sym told.1.history_is) run;
    } in
    inr (told.0, subst (λ (ts : List TypedTree). IsRunByTurns cell ts report) alike by_turns, told.2, told.3)

-- what its lines require
pub measured_answers : (cell here : CellData) (seen : List TypedTree) (history : List Event) → here ≡ cell → IsSound cell seen history → AllAnswered here history
measured_answers cell here seen history same sound =
    subst (λ (c : CellData). AllAnswered c history) (sym same)
    (legal_answered (with_inputs (tree_asks seen) cell) cell history (asks_what_it_may (tree_asks seen) cell sound.well) sound.legal)

pub measured_limits : (cell here : CellData) → here ≡ cell → IsCell cell → IsCell here
measured_limits cell here same limits = subst IsCell (sym same) limits
