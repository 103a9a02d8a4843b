-- Each way in which a call ends answers its words and files.
use Rattle.std.proofs.Common.{◌≡◌, ℕ, ◌+◌, List, [], ◌∷◌, ◌++◌, map, Bool, Option, Some, None, Result, Ok, Err, refl, ap, sym, ◌∙◌, subst, ◌⊎◌, inl, inr}
use Rattle.std.specs.Borrow.{Bor}
use Rattle.std.specs.Prelude.{Vec}
use Rattle.std.specs.declared.alloc.Global.{Global}
use Rattle.rapid_limits.specs.declared.TheConstants.{SCRIPT_BYTES}
use Rattle.raw_trees.specs.declared.raw_module.RawModule.{RawModule}
use Rattle.outside.specs.Told.{Told}
use Rattle.rapid_model.specs.CellData.{CellData}
use Rattle.rapid_model.specs.ScriptData.{ScriptData, module_names}
use Rattle.typed_trees.specs.Plain.{TypedTree}
use Rattle.cell_assembly.specs.Made.{MadeCell}
use Rattle.state_text.specs.StateLines.{SourcesData}
use Rattle.command_words.specs.declared.command.Action.{Action}
use Rattle.command_words.specs.declared.command.Action.TheVariants as actions
use Rattle.controller.specs.declared.report.Report.{Report}
use Rattle.cell_loading.specs.declared.refused.Refused.{Refused}
use Rattle.cell_loading.specs.declared.refused.Refused.TheVariants.{Words, Memory}
use Rattle.run_lines.specs.declared.shown.Shown.{Shown}
use Rattle.run_lines.specs.declared.shown.Shown.TheVariants as shows
use Rattle.command_words.specs.Words.{refused_place}
use Rattle.cell_loading.specs.Files.{Reads, told_reads}
use Rattle.cell_loading.specs.Loaded.{names_in_turn, file_names, bytes_of, reads_of, IsScriptIn, TextsDecide}
use Rattle.controller.specs.Accepted.{Verdict, refuses, accepts, runs, runs_free, lists, measures, Accepted, names_of, ActionDecides, ActionReads, CheckedDecides, Doing, HistoryDecides, ModulesDecide, FileDecides, WordsDecide, audits, states, traces, sources_of}
use Rattle.cell_loading.specs.ReadModules.{ReadModule, file_text, ModulesOf, checked}
use Rattle.state_lines.specs.Sources.{sources_in}
use Rattle.sink_lines.specs.Printed.{Seen, Sunk}
use Rattle.controller.specs.RefusalLines.{refusal_text}
use Rattle.cell_loading.specs.Refusals.{status_of}
use Rattle.controller.specs.Runs.{IsRun, IsRunByTurns}
use Rattle.cell_runs.specs.Outcomes.{run_status}
use Rattle.controller.specs.Answered.{IsRefused, IsPrinted, Answers, AnswersAccepted, AnswersRun, AnswersHistory, AnswersList, AnswersReads, AnswersMade, AnswersMeasured, AnswersTraced, IsOutOfMemory, IsVerdict, RunsOrMemory, ListsOrMemory, MeasuresOrMemory, TracesOrMemory, AnswersWords, untouched, PrintsBy, run_lines}
use Rattle.sink_lines.specs.Written.{TakesLine}
use Rattle.controller.specs.Asked.{GiveScript, GiveTexts, IsAsked, IsToDo}
use Rattle.sink_lines.proofs.Gains.{gained_none}
use Rattle.cell_loading.proofs.Loads.{modules_from_texts}

-- an out-of-memory refusal is about no file
pub out_of_memory : (names : List (List ℕ)) (refused : Refused) (report : Report) (out err : Sunk) → refused ≡ Memory → IsRefused names refused report out err → IsOutOfMemory report out err
out_of_memory names refused report out err is r =
    let m : IsRefused names Memory report out err = subst (λ (x : Refused). IsRefused names x report out err) is r in
    record { refused_is = m.refused_is; status = m.status; history = m.history; fates = m.fates; printed = m.printed; calls = m.calls; told = m.told }

-- memory runs out before anything is printed
pub memory_refused : (report : Report) (held : Seen) (err : Sunk) → report.refused ≡ Some Memory → report.status ≡ status_of Memory → report.history.items ≡ [] → report.fates.items ≡ []
    → TakesLine (refusal_text [] Memory) err → IsOutOfMemory report (untouched held) err
memory_refused report held err refused status history fates told = record {
  refused_is = refused;
  status = status;
  history = history;
  fates = fates;
  printed = gained_none held.bytes;
  calls = gained_none held.calls;
  told = told;
}

-- the words are refused
pub words_refused : (words : List (List ℕ)) (told : Option Told) (place : ℕ) (report : Report) (out err : Sunk) → refused_place words ≡ Some place
    → IsRefused [] (Words place) report out err → AnswersWords words told report out err
words_refused words told place report out err at r = inr (refuses [] (Words place), on told, r)
  where
    here : (gave : Reads) → Accepted words gave (refuses [] (Words place))
    here gave = record { decides = subst (λ (o : Option ℕ). WordsDecide gave words o (refuses [] (Words place))) (sym at) refl }

    -- no file is read
    on : (o : Option Told) → IsVerdict words o (refuses [] (Words place))
    on None = let none : Reads = λ file name. None in (none, here none)
    on (Some files) = here (told_reads files)

-- the script is refused
pub script_refused : (words : List (List ℕ)) (told : Option Told) (action : Action) (name history : List ℕ) (refused : Refused) (report : Report) (out err : Sunk)
    → GiveScript words told action name history (Err refused) → IsRefused (name ∷ []) refused report out err → AnswersWords words told report out err
script_refused words told action name history refused report out err g r = by g.script_is
  where
    verdict : Verdict
    verdict = refuses (name ∷ []) refused

    acts : Doing
    acts = ActionReads (Some action) g.gave history

    from : (read : Result (List ℕ) Refused) → file_text g.gave 0 SCRIPT_BYTES name ≡ read → FileDecides acts g.gave name read verdict → AnswersWords words told report out err
    from read is d = inr (verdict, g.verdicts verdict (subst (λ (t : Result (List ℕ) Refused). FileDecides acts g.gave name t verdict) (sym is) d), r)

    by : IsScriptIn (file_text g.gave 0 SCRIPT_BYTES name) (Err refused) → AnswersWords words told report out err
    by (inl memory) = inl (out_of_memory (name ∷ []) refused report out err memory r)
    by (inr (inl read)) = from (Err refused) read refl
    by (inr (inr rule)) = from (Ok rule.0) rule.2 (Err rule.1, rule.3, ap (refuses (name ∷ [])) rule.4)

-- what the words and files come to, from what the modules come to
modules_decide : (words : List (List ℕ)) (told : Option Told) (action : Action) (name history : List ℕ) (script : ScriptData) (texts : List (List ℕ)) (failed : Option Refused)
    (modules : Result (List ReadModule) Refused) (verdict : Verdict) (g : GiveTexts words told action name history script texts failed) → ModulesOf g.given.gave 1 (module_names script.tasks) modules
    → ModulesDecide (ActionReads (Some action) g.given.gave history) (names_of name script) script modules verdict → IsVerdict words told verdict
modules_decide words told action name history script texts failed modules verdict g d decides =
    let s = g.given.script_is in
    g.given.verdicts verdict
    (subst (λ (t : Result (List ℕ) Refused). FileDecides (ActionReads (Some action) g.given.gave history) g.given.gave name t verdict) (sym s.1) (Ok script, s.2, (modules, d, decides)))

-- why the modules are refused
abbrev pub AreRefused : List (List ℕ) → Option Refused → Refused → Type 0
AreRefused texts failed refused = (refused ≡ Memory) ⊎ TextsDecide 1 texts failed (Err refused)

-- a module is refused
pub module_refused : (words : List (List ℕ)) (told : Option Told) (action : Action) (name history : List ℕ) (script : ScriptData) (ms : List (Bor (List ℕ))) (texts : List (List ℕ)) (failed : Option Refused)
    (refused : Refused) (report : Report) (out err : Sunk) → names_in_turn ms ≡ module_names script.tasks → GiveTexts words told action name history script texts failed
    → IsRefused (file_names name ms) refused report out err → AreRefused texts failed refused → AnswersWords words told report out err
module_refused words told action name history script ms texts failed refused report out err named g t (inl memory) = inl (out_of_memory (file_names name ms) refused report out err memory t)
module_refused words told action name history script ms texts failed refused report out err named g t (inr d) =
    by (modules_from_texts g.given.gave 1 (module_names script.tasks) texts failed (Err refused) g.texts_are d)
  where
    verdict : Verdict
    verdict = refuses (file_names name ms) refused

    by : (let all : Result (List ReadModule) Refused = Err refused in all ≡ Err Memory) ⊎ ModulesOf g.given.gave 1 (module_names script.tasks) (Err refused) → AnswersWords words told report out err
    by (inl memory) = let e : refused ≡ Memory = cc in inl (out_of_memory (file_names name ms) refused report out err e t)
    by (inr m) = inr (verdict, modules_decide words told action name history script texts failed (Err refused) verdict g m (ap (λ (ns : List (List ℕ)). refuses (name ∷ ns) refused) named), t)

-- what they come to if all modules are read
read_decides : (words : List (List ℕ)) (told : Option Told) (action : Action) (name history : List ℕ) (script : ScriptData) (ms : List (Bor (List ℕ))) (texts : List (List ℕ)) (failed : Option Refused)
    (reads : List ReadModule) (verdict : Verdict) → names_in_turn ms ≡ module_names script.tasks → (g : GiveTexts words told action name history script texts failed) → TextsDecide 1 texts failed (Ok reads)
    → CheckedDecides (ActionReads (Some action) g.given.gave history) (file_names name ms) (sources_of script reads) (checked script reads) verdict → IsVerdict words told verdict
read_decides words told action name history script ms texts failed reads verdict named g d decides = by (modules_from_texts g.given.gave 1 (module_names script.tasks) texts failed (Ok reads) g.texts_are d)
  where
    by : (let all : Result (List ReadModule) Refused = Ok reads in all ≡ Err Memory) ⊎ ModulesOf g.given.gave 1 (module_names script.tasks) (Ok reads) → IsVerdict words told verdict
    by (inl memory) = cc
    by (inr m) =
        modules_decide words told action name history script texts failed (Ok reads) verdict g m
        (subst (λ (ns : List (List ℕ)). CheckedDecides (ActionReads (Some action) g.given.gave history) (name ∷ ns) (sources_of script reads) (checked script reads) verdict) named decides)

-- all is read
pub all_read : (words : List (List ℕ)) (told : Option Told) (action : Action) (name history : List ℕ) (script : ScriptData) (ms : List (Bor (List ℕ))) (texts : List (List ℕ)) (failed : Option Refused)
    (reads : List ReadModule) (report : Report) (out err : Sunk) → names_in_turn ms ≡ module_names script.tasks → (g : GiveTexts words told action name history script texts failed) → TextsDecide 1 texts failed (Ok reads)
    → AnswersReads (ActionReads (Some action) g.given.gave history) (file_names name ms) script reads report out err → AnswersWords words told report out err
all_read words told action name history script ms texts failed reads report out err named g d (inl memory) = inl memory
all_read words told action name history script ms texts failed reads report out err named g d (inr answers) =
    inr (answers.0, read_decides words told action name history script ms texts failed reads answers.0 named g d answers.1, answers.2)

-- each module has its text
texts_are : (file : ℕ) (texts : List (List ℕ)) (failed : Option Refused) (reads : List ReadModule) → TextsDecide file texts failed (Ok reads) → map (λ (read : ReadModule). read.text) reads ≡ texts
texts_are file [] None reads d = let none : reads ≡ [] = cc in ap (map (λ (read : ReadModule). read.text)) none
texts_are file [] (Some refused) reads d = cc
texts_are file (text ∷ texts) failed [] d = absurd d
texts_are file (text ∷ texts) failed (read ∷ reads) d =
    ap (λ (t : List ℕ). t ∷ map (λ (read : ReadModule). read.text) reads) d.0.1 ∙ ap (λ (ts : List (List ℕ)). text ∷ ts) (texts_are (file + 1) texts failed reads d.1)

-- and accepted
pub all_asked : (words : List (List ℕ)) (told : Option Told) (action : Action) (name history : List ℕ) (script : ScriptData) (ms : List (Bor (List ℕ))) (texts : List (List ℕ)) (failed : Option Refused)
    (reads : List ReadModule) (made : MadeCell) → names_in_turn ms ≡ module_names script.tasks → (g : GiveTexts words told action name history script texts failed) → TextsDecide 1 texts failed (Ok reads)
    → checked script reads ≡ Ok made → IsToDo words told (ActionReads (Some action) g.given.gave history) (file_names name ms) (sources_in script.tasks texts) made
all_asked words told action name history script ms texts failed reads made named g d found = record {
  verdicts = λ verdict decides.
      read_decides words told action name history script ms texts failed reads verdict named g d
      (subst (λ (x : Result MadeCell Refused). CheckedDecides (ActionReads (Some action) g.given.gave history) (file_names name ms) (sources_of script reads) x verdict) (sym found)
      (subst (λ (s : List SourcesData). ActionReads (Some action) g.given.gave history (file_names name ms) s made verdict) (sym (ap (sources_in script.tasks) (texts_are 1 texts failed reads d))) decides));
}

-- what answers the action with the cell, its modules and the text answers the words
pub asked_answered : (words : List (List ℕ)) (told : Option Told) (action : Action) (made : MadeCell) (sources : List SourcesData) (text : List ℕ) (report : Report) (out there err : Sunk)
    → IsAsked words told action made sources text → there ≡ err → ((last : List ℕ) (names : List (List ℕ)) → AnswersMade action last text names sources made report out there) → AnswersWords words told report out err
asked_answered words told action made sources text report out there err asked same answers =
    by (subst (λ (s : Sunk). AnswersMade action asked.last text asked.names sources made report out s) same (answers asked.last asked.names))
  where
    by : AnswersMade action asked.last text asked.names sources made report out err → AnswersWords words told report out err
    by (inl memory) = inl memory
    by (inr a) = inr (a.0, asked.verdicts a.0 a.1, a.2)

-- the same, as the program has them
pub parsed_here : (texts : List (Vec ℕ Global)) (trees shown : List RawModule) (failed : Option Refused) → shown ≡ trees → TextsDecide 1 (bytes_of texts) failed (Ok (reads_of 1 texts trees))
    → TextsDecide 1 (bytes_of texts) failed (Ok (reads_of 1 texts shown))
parsed_here texts trees shown failed same d = subst (λ (ms : List RawModule). TextsDecide 1 (bytes_of texts) failed (Ok (reads_of 1 texts ms))) (sym same) d

-- with all read, the outcome

-- a rule is broken
pub check_refused : (names : List (List ℕ)) (acts : Doing) (script : ScriptData) (reads : List ReadModule) (refused : Refused) (report : Report) (out err : Sunk)
    → (refused ≡ Memory) ⊎ (checked script reads ≡ Err refused) → IsRefused names refused report out err → AnswersReads acts names script reads report out err
check_refused names acts script reads refused report out err (inl memory) r = inl (out_of_memory names refused report out err memory r)
check_refused names acts script reads refused report out err (inr found) r =
    inr (
      refuses names refused,
      subst (λ (made : Result MadeCell Refused). CheckedDecides acts names (sources_of script reads) made (refuses names refused)) (sym found) refl,
      r,
    )

-- whether or not a fault is known
pub is_printed : {status : ℕ} {lines : List (List ℕ)} {report : Report} {out err : Sunk} → PrintsBy status lines report out err → IsPrinted status lines report out err
is_printed (inl whole) = inl whole
is_printed (inr part) = inr part.0

accepted_answers : (names : List (List ℕ)) (report : Report) (out err : Sunk) → AnswersAccepted report out err → Answers (accepts names) report out err
accepted_answers names report out err answered = (answered.0, is_printed answered.1)

-- all is accepted, which is reported
pub all_accepted : (last text : List ℕ) (names : List (List ℕ)) (sources : List SourcesData) (action : Action) (made : MadeCell) (report : Report) (out err : Sunk) → action ≡ actions.Check → AnswersAccepted report out err
    → AnswersMade action last text names sources made report out err
all_accepted last text names sources action made report out err is a =
    inr (
      accepts names,
      subst (λ (x : Action). ActionDecides (Some x) last (Ok text) names sources made (accepts names)) (sym is) refl,
      accepted_answers names report out err a,
    )

run_answers : (Run : Report → Type 0) (shown : Shown) (cell : CellData) (report : Report) (out err : Sunk) → AnswersRun Run shown cell report out err
    → Run report × IsPrinted (run_status cell report.history.items) (run_lines shown cell report) report out err
run_answers Run shown cell report out err answered = (answered.0, is_printed answered.1)

-- the tasks run round-robin
tasks_run : (last text : List ℕ) (names : List (List ℕ)) (sources : List SourcesData) (action : Action) (shown : Shown) (made : MadeCell) (report : Report) (out err : Sunk)
    → ActionDecides (Some action) last (Ok text) names sources made (runs names shown made.cell made.trees) → RunsOrMemory (IsRunByTurns made.cell made.trees) shown made.cell report out err
    → AnswersMade action last text names sources made report out err
tasks_run last text names sources action shown made report out err d (inl memory) = inl memory
tasks_run last text names sources action shown made report out err d (inr run) =
    inr (runs names shown made.cell made.trees, d, run_answers (IsRunByTurns made.cell made.trees) shown made.cell report out err run)

pub round_run : (last text : List ℕ) (names : List (List ℕ)) (sources : List SourcesData) (action : Action) (full : Bool) (made : MadeCell) (report : Report) (out err : Sunk) → action ≡ actions.Round full
    → RunsOrMemory (IsRunByTurns made.cell made.trees) (shows.Events full) made.cell report out err → AnswersMade action last text names sources made report out err
round_run last text names sources action full made report out err is =
    tasks_run last text names sources action (shows.Events full) made report out err
    (subst (λ (x : Action). ActionDecides (Some x) last (Ok text) names sources made (runs names (shows.Events full) made.cell made.trees)) (sym is) refl)

pub load_run : (last text : List ℕ) (names : List (List ℕ)) (sources : List SourcesData) (action : Action) (moves : ℕ) (made : MadeCell) (report : Report) (out err : Sunk) → action ≡ actions.Load moves
    → RunsOrMemory (IsRunByTurns made.cell made.trees) shows.Summary made.cell report out err → AnswersMade action last text names sources made report out err
load_run last text names sources action moves made report out err is =
    tasks_run last text names sources action shows.Summary made report out err
    (subst (λ (x : Action). ActionDecides (Some x) last (Ok text) names sources made (runs names shows.Summary made.cell made.trees)) (sym is) refl)

-- or each on its own
pub tasks_run_free : (last text : List ℕ) (names : List (List ℕ)) (sources : List SourcesData) (action : Action) (full : Bool) (made : MadeCell) (report : Report) (out err : Sunk) → action ≡ actions.Run full
    → RunsOrMemory (IsRun made.cell made.trees) (shows.Events full) made.cell report out err → AnswersMade action last text names sources made report out err
tasks_run_free last text names sources action full made report out err is (inl memory) = inl memory
tasks_run_free last text names sources action full made report out err is (inr run) =
    inr (
      runs_free names (shows.Events full) made.cell made.trees,
      subst (λ (x : Action). ActionDecides (Some x) last (Ok text) names sources made (runs_free names (shows.Events full) made.cell made.trees)) (sym is) refl,
      run_answers (IsRun made.cell made.trees) (shows.Events full) made.cell report out err run,
    )

list_answers : (names : List (List ℕ)) (cell : CellData) (trees : List TypedTree) (report : Report) (out err : Sunk) → AnswersList cell trees report out err → Answers (lists names cell trees) report out err
list_answers names cell trees report out err answered = (answered.0, answered.1, answered.2, is_printed answered.3)

-- the cell and the code of its tasks are listed
pub cell_listed : (last text : List ℕ) (names : List (List ℕ)) (sources : List SourcesData) (action : Action) (made : MadeCell) (report : Report) (out err : Sunk) → action ≡ actions.List → ListsOrMemory made.cell made.trees report out err
    → AnswersMade action last text names sources made report out err
cell_listed last text names sources action made report out err is (inl memory) = inl memory
cell_listed last text names sources action made report out err is (inr list) =
    inr (
      lists names made.cell made.trees,
      subst (λ (x : Action). ActionDecides (Some x) last (Ok text) names sources made (lists names made.cell made.trees)) (sym is) refl,
      list_answers names made.cell made.trees report out err list,
    )

-- a history is audited
pub cell_audited : (last text seen : List ℕ) (names : List (List ℕ)) (sources : List SourcesData) (action : Action) (made : MadeCell) (report : Report) (out err : Sunk) → action ≡ actions.Audit → seen ≡ text
    → AnswersHistory (audits (names ++ last ∷ []) made.cell made.trees) seen (names ++ last ∷ []) made.cell report out err → AnswersMade action last text names sources made report out err
cell_audited last text seen names sources action made report out err is same (inl memory) = inl memory
cell_audited last text seen names sources action made report out err is same (inr answered) =
    inr (
      answered.0,
      subst (λ (x : Action). ActionDecides (Some x) last (Ok text) names sources made answered.0) (sym is)
          (subst (λ (t : List ℕ). HistoryDecides (audits (names ++ last ∷ []) made.cell made.trees) (Ok t) (names ++ last ∷ []) made.cell answered.0) same answered.1),
      answered.2,
    )

-- the state after a history is shown
pub cell_stated : (last text seen : List ℕ) (names : List (List ℕ)) (sources : List SourcesData) (action : Action) (made : MadeCell) (report : Report) (out err : Sunk) → action ≡ actions.State → seen ≡ text
    → AnswersHistory (states (names ++ last ∷ []) made.cell made.trees sources) seen (names ++ last ∷ []) made.cell report out err → AnswersMade action last text names sources made report out err
cell_stated last text seen names sources action made report out err is same (inl memory) = inl memory
cell_stated last text seen names sources action made report out err is same (inr answered) =
    inr (
      answered.0,
      subst (λ (x : Action). ActionDecides (Some x) last (Ok text) names sources made answered.0) (sym is)
          (subst (λ (t : List ℕ). HistoryDecides (states (names ++ last ∷ []) made.cell made.trees sources) (Ok t) (names ++ last ∷ []) made.cell answered.0) same answered.1),
      answered.2,
    )

-- a run is measured
measure_answers : (names : List (List ℕ)) (cell : CellData) (trees : List TypedTree) (report : Report) (out err : Sunk) → AnswersMeasured (IsRunByTurns cell trees) cell report out err → Answers (measures names cell trees) report out err
measure_answers names cell trees report out err answered = (answered.0, answered.1, answered.2, is_printed answered.3)

pub cell_measured : (last text : List ℕ) (names : List (List ℕ)) (sources : List SourcesData) (action : Action) (made : MadeCell) (report : Report) (out err : Sunk) → action ≡ actions.Clearance → MeasuresOrMemory (IsRunByTurns made.cell made.trees) made.cell report out err
    → AnswersMade action last text names sources made report out err
cell_measured last text names sources action made report out err is (inl memory) = inl memory
cell_measured last text names sources action made report out err is (inr answered) =
    inr (
      measures names made.cell made.trees,
      subst (λ (x : Action). ActionDecides (Some x) last (Ok text) names sources made (measures names made.cell made.trees)) (sym is) refl,
      measure_answers names made.cell made.trees report out err answered,
    )

-- a run is traced
trace_answers : (names : List (List ℕ)) (cell : CellData) (trees : List TypedTree) (sources : List SourcesData) (report : Report) (out err : Sunk) → AnswersTraced (IsRunByTurns cell trees) cell trees sources report out err
    → Answers (traces names cell trees sources) report out err
trace_answers names cell trees sources report out err answered = (answered.0, is_printed answered.1)

pub cell_traced : (last text : List ℕ) (names : List (List ℕ)) (sources : List SourcesData) (action : Action) (made : MadeCell) (report : Report) (out err : Sunk) → action ≡ actions.Trace
    → TracesOrMemory (IsRunByTurns made.cell made.trees) made.cell made.trees sources report out err → AnswersMade action last text names sources made report out err
cell_traced last text names sources action made report out err is (inl memory) = inl memory
cell_traced last text names sources action made report out err is (inr answered) =
    inr (
      traces names made.cell made.trees sources,
      subst (λ (x : Action). ActionDecides (Some x) last (Ok text) names sources made (traces names made.cell made.trees sources)) (sym is) refl,
      trace_answers names made.cell made.trees sources report out err answered,
    )
