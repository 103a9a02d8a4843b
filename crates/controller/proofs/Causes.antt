-- What a refusal of a file says of the words and the sinks: nothing of the words, of reads what was counted, nothing of
-- writes.
use Rattle.std.proofs.Common.{◌≡◌, ◌≢◌, ℕ, ◌≤◌, List, [], ◌∷◌, Some, None, sym, ◌∙◌, subst, inl, inr}
use Rattle.std.specs.Prelude.{Bool, Option, Result, Ok, Err, ◌↔◌, IfSome, length}
use Rattle.std.proofs.lemmas.Option.{IfSome_then}
use Rattle.outside.specs.Count.{Rose}
use Rattle.outside.proofs.Counting.{Rose-since}
use Rattle.rapid_model.specs.CellData.{CellData}
use Rattle.rapid_model.specs.declared.event.Event.{Event}
use Rattle.rapid_model.specs.declared.fate.Fate.{Fate}
use Rattle.typed_trees.specs.Plain.{TypedTree}
use Rattle.history_audit.specs.declared.audit_fault.AuditFault.{AuditFault}
use Rattle.state_text.specs.StateLines.{SourcesData, state_lines}
use Rattle.cell_loading.specs.declared.refused.Refused.{Refused}
use Rattle.cell_loading.specs.declared.refused.Refused.TheVariants.{Words, Script, Module, Read, Write, Memory, TooLong, History}
use Rattle.controller.specs.declared.report.Report.{Report}
use Rattle.run_lines.specs.declared.shown.Shown.{Shown}
use Rattle.controller.specs.Answered.{AnswersAccepted, AnswersText, AuditsOrMemory, ListsOrMemory, RunsOrMemory, PrintsBy, accepted_line, run_lines, MeasuresOrMemory, measured_lines, ShowsFound, StatesOrMemory, TracesOrMemory, traced_lines}
use Rattle.run_lines.specs.Audits.{audit_line, audit_status}
use Rattle.controller.specs.Done.{IsDoneFault}
use Rattle.cell_loading.specs.Files.{IsLoadFault}
use Rattle.sink_lines.specs.Printed.{Sunk}
use Rattle.command_words.specs.Words.{refused_place}
use Rattle.cell_listing.specs.Listing.{listing_of}
use Rattle.cell_runs.specs.Outcomes.{run_status}

-- a fault that is known
pub known_fault : (P : Refused → Type 0) (refused : Refused) (told : Option Refused) → P refused → told ≡ Some refused → IfSome told P
known_fault P refused told fault is = subst (λ (o : Option Refused). IfSome o P) (sym is) fault

told_is : (P : Refused → Type 0) (told : Option Refused) (other : Refused) → IfSome told P → told ≡ Some other → P other
told_is P told other fault same = subst (λ (o : Option Refused). IfSome o P) same fault

-- the words are taken, and the fault is not in them
pub no_words : (P : Refused → Type 0) (words : List (List ℕ)) (told : Option Refused) → ((place : ℕ) → P (Words place) → ⊥) → refused_place words ≡ None → IfSome told P
    → (place : ℕ) → (told ≡ Some (Words place)) ↔ (refused_place words ≡ Some place)
no_words P words told never taken fault = λ place.
    (λ same. absurd (never place (told_is P told (Words place) fault same)), λ same. absurd (let no : None ≡ Some place = sym taken ∙ same in cc))

-- while loading, a read is counted and nothing is written

pub read_counted : (old new : ℕ) (told : Option Refused) → IfSome told (IsLoadFault old new) → (file : ℕ) → told ≡ Some (Read file) → Rose old new
read_counted old new told fault = λ file same. told_is (IsLoadFault old new) told (Read file) fault same

-- also since an earlier time
pub fault_since : (start old new : ℕ) (told : Option Refused) → start ≤ old → old ≤ new → IfSome told (IsLoadFault old new) → IfSome told (IsLoadFault start new)
fault_since start old new told before rise fault = IfSome_then told {P = IsLoadFault old new} {Q = IsLoadFault start new} fault since
  where
    since : (refused : Refused) → IsLoadFault old new refused → IsLoadFault start new refused
    since (Words place) f = f
    since (Script key rule) f = f
    since (Module file place rule) f = f
    since (Read file) f = Rose-since start old new before rise f
    since Write f = f
    since Memory f = f
    since (TooLong file) f = f
    since (History line) f = f

pub no_write : (old new : ℕ) (told : Option Refused) → IfSome told (IsLoadFault old new) → told ≢ Some Write
no_write old new told fault = λ same. told_is (IsLoadFault old new) told Write fault same

-- during an action nothing is read, and a write is counted

pub no_read : {A : Type 0} (old new : ℕ) (told : Option Refused) → IfSome told (IsDoneFault old new) → (file : ℕ) → told ≡ Some (Read file) → A
no_read old new told fault = λ file same. absurd (told_is (IsDoneFault old new) told (Read file) fault same)

pub write_counted : (old new : ℕ) (told : Option Refused) → IfSome told (IsDoneFault old new) → told ≡ Some Write → Rose old new
write_counted old new told fault = λ same. told_is (IsDoneFault old new) told Write fault same

-- why printing is refused
printed_told : (status : ℕ) (lines : List (List ℕ)) (report : Report) (out err : Sunk) → PrintsBy status lines report out err → IfSome report.refused (IsDoneFault out.old.faults out.new.faults)
printed_told status lines report out err (inl whole) = subst (λ (o : Option Refused). IfSome o (IsDoneFault out.old.faults out.new.faults)) (sym whole.refused_is) tt
printed_told status lines report out err (inr part) = subst (λ (o : Option Refused). IfSome o (IsDoneFault out.old.faults out.new.faults)) (sym part.0.refused_is) part.1

-- why a run is refused
pub run_told : (Run : Report → Type 0) (shown : Shown) (cell : CellData) (report : Report) (out err : Sunk) → RunsOrMemory Run shown cell report out err → IfSome report.refused (IsDoneFault out.old.faults out.new.faults)
run_told Run shown cell report out err (inl memory) = subst (λ (o : Option Refused). IfSome o (IsDoneFault out.old.faults out.new.faults)) (sym memory.refused_is) tt
run_told Run shown cell report out err (inr answered) = printed_told (run_status cell report.history.items) (run_lines shown cell report) report out err answered.1

-- why a run that is measured is refused
pub measured_told : (Run : Report → Type 0) (cell : CellData) (report : Report) (out err : Sunk) → MeasuresOrMemory Run cell report out err → IfSome report.refused (IsDoneFault out.old.faults out.new.faults)
measured_told Run cell report out err (inl memory) = subst (λ (o : Option Refused). IfSome o (IsDoneFault out.old.faults out.new.faults)) (sym memory.refused_is) tt
measured_told Run cell report out err (inr answered) = printed_told (run_status cell report.history.items) (measured_lines cell report answered.0) report out err answered.3

-- why a run that is traced is refused
pub traced_told : (Run : Report → Type 0) (cell : CellData) (trees : List TypedTree) (sources : List SourcesData) (report : Report) (out err : Sunk) → TracesOrMemory Run cell trees sources report out err
    → IfSome report.refused (IsDoneFault out.old.faults out.new.faults)
traced_told Run cell trees sources report out err (inl memory) = subst (λ (o : Option Refused). IfSome o (IsDoneFault out.old.faults out.new.faults)) (sym memory.refused_is) tt
traced_told Run cell trees sources report out err (inr answered) = printed_told (run_status cell report.history.items) (traced_lines cell trees sources report) report out err answered.1

-- why a list is refused
pub list_told : (cell : CellData) (trees : List TypedTree) (report : Report) (out err : Sunk) → ListsOrMemory cell trees report out err → IfSome report.refused (IsDoneFault out.old.faults out.new.faults)
list_told cell trees report out err (inl memory) = subst (λ (o : Option Refused). IfSome o (IsDoneFault out.old.faults out.new.faults)) (sym memory.refused_is) tt
list_told cell trees report out err (inr answered) = printed_told 0 (listing_of cell answered.0) report out err answered.3

-- why an audit is refused
pub audit_told : (cell : CellData) (trees : List TypedTree) (events : List Event) (fates : List Fate) (report : Report) (out err : Sunk) → AuditsOrMemory cell trees events fates report out err
    → IfSome report.refused (IsDoneFault out.old.faults out.new.faults)
audit_told cell trees events fates report out err (inl memory) = subst (λ (o : Option Refused). IfSome o (IsDoneFault out.old.faults out.new.faults)) (sym memory.refused_is) tt
audit_told cell trees events fates report out err (inr answered) =
    printed_told (audit_status answered.0) (audit_line cell.tasks (length events) answered.0 ∷ []) report out err answered.3

-- why a state is refused
pub state_told : (cell : CellData) (trees : List TypedTree) (sources : List SourcesData) (events : List Event) (fates : List Fate) (report : Report) (out err : Sunk)
    → StatesOrMemory cell trees sources events fates report out err → IfSome report.refused (IsDoneFault out.old.faults out.new.faults)
state_told cell trees sources events fates report out err (inl memory) = subst (λ (o : Option Refused). IfSome o (IsDoneFault out.old.faults out.new.faults)) (sym memory.refused_is) tt
state_told cell trees sources events fates report out err (inr answered) = by answered.0 answered.3
  where
    by : (found : Result Bool AuditFault) → ShowsFound cell trees sources events (λ status lines. PrintsBy status lines report out err) found → IfSome report.refused (IsDoneFault out.old.faults out.new.faults)
    by (Ok legal) shows = printed_told 0 (state_lines cell trees sources shows.0) report out err shows.2
    by (Err fault) shows =
        let found : Result Bool AuditFault = Err fault in printed_told (audit_status found) (audit_line cell.tasks (length events) found ∷ []) report out err shows

-- why a text is refused
pub text_told : (text : List ℕ) (report : Report) (out err : Sunk) → AnswersText text report out err → IfSome report.refused (IsDoneFault out.old.faults out.new.faults)
text_told text report out err answered = printed_told 0 (text ∷ []) report out err answered.1

-- why reporting that all is accepted is refused
pub accepted_told : (report : Report) (out err : Sunk) → AnswersAccepted report out err → IfSome report.refused (IsDoneFault out.old.faults out.new.faults)
accepted_told report out err answered = printed_told 0 (accepted_line ∷ []) report out err answered.1
