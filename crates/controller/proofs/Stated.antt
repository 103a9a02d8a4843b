-- The state after a history, and its report.
use Rattle.std.proofs.Common.{◌≡◌, ℕ, List, [], ◌∷◌, length, true, false, None, Some, Bool, Result, Ok, Err, refl, sym, subst, inl, inr}
use Rattle.std.specs.Result.{is_err}
use Rattle.std.proofs.lemmas.Bool.{true≢false}
use Rattle.rapid_model.specs.CellData.{CellData}
use Rattle.rapid_model.specs.declared.event.Event.{Event}
use Rattle.rapid_model.specs.declared.fate.Fate.{Fate}
use Rattle.typed_trees.specs.Plain.{TypedTree}
use Rattle.rapid_meaning.specs.Asking.{tree_asks}
use Rattle.cell_meaning.specs.Asking.{Asking, with_inputs}
use Rattle.cell_meaning.specs.Histories.{IsLegal}
use Rattle.cell_assembly.specs.Made.{MadeCell}
use Rattle.history_text.specs.HistoryText.{Spells}
use Rattle.history_text.specs.Named.{NamesData}
use Rattle.history_audit.specs.Audits.{IsAudit}
use Rattle.history_audit.specs.declared.audit_fault.AuditFault.{AuditFault}
use Rattle.cell_state.specs.States.{CellStateData, IsStateAfter}
use Rattle.state_text.specs.StateLines.{SourcesData, state_lines}
use Rattle.controller.specs.declared.report.Report.{Report}
use Rattle.cell_loading.specs.declared.refused.Refused.TheVariants.{Write}
use Rattle.controller.specs.Accepted.{states}
use Rattle.controller.specs.Answered.{AnswersHistory, AnswersState, IsPrinted, PrintsBy, RanNothing, ShowsFound, StatesOrMemory}
use Rattle.run_lines.specs.Audits.{audit_line, audit_status}
use Rattle.run_lines.specs.Output.{names_in}
use Rattle.sink_lines.specs.Printed.{Gained, Sunk}
use Rattle.controller.specs.RefusalLines.{refusal_text}
use Rattle.cell_loading.specs.Refusals.{status_of}
use Rattle.sink_lines.specs.Written.{TakesLine, WritesAll, WritesPart}
use Rattle.controller.proofs.Exits.{is_printed}

-- the lines of a state that are printed

pub state_printed : (cell here : CellData) (trees : List TypedTree) (sources : List SourcesData) (state : CellStateData) (report : Report) (out err : Sunk) → here ≡ cell → report.refused ≡ None → report.status ≡ 0
    → WritesAll (state_lines here trees sources state) out → Gained [] err.old.bytes err.new.bytes → PrintsBy 0 (state_lines cell trees sources state) report out err
state_printed cell here trees sources state report out err same none status printed told =
    let there = subst (λ (c : CellData). WritesAll (state_lines c trees sources state) out) same printed in
    inl (record { refused_is = none; status_is = status; printed = there.bytes; calls = there.calls; told = told })

pub state_cut_short : (cell here : CellData) (trees : List TypedTree) (sources : List SourcesData) (state : CellStateData) (report : Report) (out err : Sunk) → here ≡ cell → report.refused ≡ Some Write
    → report.status ≡ status_of Write → WritesPart (state_lines here trees sources state) out → TakesLine (refusal_text [] Write) err → PrintsBy 0 (state_lines cell trees sources state) report out err
state_cut_short cell here trees sources state report out err same write status printed told =
    let there = subst (λ (c : CellData). WritesPart (state_lines c trees sources state) out) same printed in
    inr (record { refused_is = write; status_is = status; printed = there.bytes; calls = there.calls; told = told }, there.rose)

-- a history with which nothing is wrong is legal
pub legal_found : (asks : Asking) (cell here : CellData) (events : List Event) (fates : List Fate) (found : Result Bool AuditFault) → is_err found ≡ false → IsAudit (with_inputs asks cell) cell events fates found → here ≡ cell
    → IsLegal (with_inputs asks here) here events
legal_found asks cell here events fates (Ok whole) none audited same = subst (λ (c : CellData). IsLegal (with_inputs asks c) c events) (sym same) audited.legal
legal_found asks cell here events fates (Err fault) none audited same = absurd (true≢false none)

-- what is wrong with a history
pub wrong_stated : (cell here : CellData) (trees seen : List TypedTree) (sources : List SourcesData) (events : List Event) (fates : List Fate) (found : Result Bool AuditFault) (report : Report) (out err : Sunk)
    → is_err found ≡ true → here ≡ cell → seen ≡ trees → IsAudit (with_inputs (tree_asks seen) cell) cell events fates found → RanNothing report
    → PrintsBy (audit_status found) (audit_line here.tasks (length events) found ∷ []) report out err → StatesOrMemory cell trees sources events fates report out err
wrong_stated cell here trees seen sources events fates (Ok whole) report out err wrong same alike audited nothing printed = absurd (true≢false (sym wrong))
wrong_stated cell here trees seen sources events fates (Err fault) report out err wrong same alike audited nothing printed =
    inr (
      Err fault,
      subst (λ (ts : List TypedTree). IsAudit (with_inputs (tree_asks ts) cell) cell events fates (Err fault)) alike audited,
      nothing,
      subst (λ (c : CellData). PrintsBy (audit_status (Err fault)) (audit_line c.tasks (length events) (Err fault) ∷ []) report out err) same printed,
    )

-- the state after a history with which nothing is wrong
pub right_stated : (cell here : CellData) (trees seen : List TypedTree) (sources : List SourcesData) (events : List Event) (fates : List Fate) (found : Result Bool AuditFault) (state : CellStateData) (report : Report) (out err : Sunk)
    → is_err found ≡ false → here ≡ cell → seen ≡ trees → IsAudit (with_inputs (tree_asks seen) cell) cell events fates found → IsStateAfter cell seen events state → RanNothing report
    → PrintsBy 0 (state_lines here seen sources state) report out err → StatesOrMemory cell trees sources events fates report out err
right_stated cell here trees seen sources events fates (Err fault) state report out err right same alike audited is nothing printed = absurd (true≢false right)
right_stated cell here trees seen sources events fates (Ok whole) state report out err right same alike audited is nothing printed =
    inr (
      Ok whole,
      subst (λ (ts : List TypedTree). IsAudit (with_inputs (tree_asks ts) cell) cell events fates (Ok whole)) alike audited,
      nothing,
      (
        state,
        subst (λ (ts : List TypedTree). IsStateAfter cell ts events state) alike is,
        subst (λ (ts : List TypedTree). PrintsBy 0 (state_lines cell ts sources state) report out err) alike
            (subst (λ (c : CellData). PrintsBy 0 (state_lines c seen sources state) report out err) same printed),
      ),
    )

shows_printed : (cell : CellData) (trees : List TypedTree) (sources : List SourcesData) (events : List Event) (report : Report) (out err : Sunk) (found : Result Bool AuditFault)
    → ShowsFound cell trees sources events (λ status lines. PrintsBy status lines report out err) found → ShowsFound cell trees sources events (λ status lines. IsPrinted status lines report out err) found
shows_printed cell trees sources events report out err (Ok whole) shows = (shows.0, shows.1, is_printed shows.2)
shows_printed cell trees sources events report out err (Err fault) shows = is_printed shows

-- a text that is a history
pub history_stated : (text : List ℕ) (names : List (List ℕ)) (made : MadeCell) (sources : List SourcesData) (named : NamesData) (events seen : List Event) (fates ends : List Fate) (report : Report) (out err : Sunk)
    → named ≡ names_in made.cell → Spells named text events fates → seen ≡ events → ends ≡ fates → StatesOrMemory made.cell made.trees sources seen ends report out err
    → AnswersHistory (states names made.cell made.trees sources) text names made.cell report out err
history_stated text names made sources named events seen fates ends report out err same spelled one other (inl memory) = inl memory
history_stated text names made sources named events seen fates ends report out err same spelled one other (inr answered) =
    let here : AnswersState made.cell made.trees sources events fates report out err =
    subst (λ (es : List Event). AnswersState made.cell made.trees sources es fates report out err) one
    (subst (λ (fs : List Fate). AnswersState made.cell made.trees sources seen fs report out err) other answered) in
    inr (
      states names made.cell made.trees sources events fates,
      inr (events, fates, subst (λ (n : NamesData). Spells n text events fates) same spelled, refl),
      (here.0, here.1, here.2, shows_printed made.cell made.trees sources events report out err here.0 here.3),
    )
