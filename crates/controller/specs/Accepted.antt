-- What command words and files come to: the first refusal; that all is accepted; the cell and the trees of its tasks, for
-- `audit` and `state` with a history; or for `migrate` the text of the script.
use Rattle.std.specs.Prelude.{◌≡◌, ℕ, Bool, true, false, ◌+◌, ◌++◌, ◌⊎◌, List, [], ◌∷◌, length, map, Option, Some, None, Result, Ok, Err}
use Rattle.rapid_limits.specs.declared.TheConstants.{HISTORY_BYTES, SCRIPT_BYTES}
use Rattle.rapid_model.specs.CellData.{CellData}
use Rattle.rapid_model.specs.ScriptData.{ScriptData, module_names}
use Rattle.rapid_model.specs.declared.event.Event.{Event}
use Rattle.rapid_model.specs.declared.fate.Fate.{Fate}
use Rattle.cell_script.specs.Break.{Read}
use Rattle.cell_script.specs.ScriptOf.{ScriptOf}
use Rattle.typed_trees.specs.Plain.{TypedTree}
use Rattle.cell_assembly.specs.Made.{MadeCell}
use Rattle.history_text.specs.HistoryText.{IsFirstFault, Spells}
use Rattle.command_words.specs.declared.command.Action.{Action}
use Rattle.command_words.specs.declared.command.Action.TheVariants as actions
use Rattle.cell_loading.specs.declared.refused.Refused.{Refused}
use Rattle.cell_loading.specs.declared.refused.Refused.TheVariants.{Words, Script, History}
use Rattle.state_text.specs.StateLines.{SourcesData}
use Rattle.run_lines.specs.declared.shown.Shown.{Shown}
use Rattle.run_lines.specs.declared.shown.Shown.TheVariants as shows
use Rattle.cell_loading.specs.Files.{Reads}
use Rattle.cell_loading.specs.LoadFiles.{load_reads}
use Rattle.run_lines.specs.Output.{names_in as names_of_cell}
use Rattle.command_words.specs.Words.{refused_place, script_name, history_name, asked}
use Rattle.cell_loading.specs.ReadModules.{ReadModule, ModulesOf, checked, file_text}
use Rattle.state_lines.specs.Sources.{sources_in}

-- The refusal; or all is accepted, for `check`; or the cell and the trees, for a round-robin run or one in which each
-- task runs on its own, with what is printed of it, or for their list, or for the audit of a history with these events
-- and fates, or for the state after it, whose places are those of the tasks' modules, or for a round-robin run that is
-- measured, or for one that is traced, with the same places; or the text of the script, for the same in version 2. And
-- the names of the files in the order in which they are read, as far as the script is known.
pub data Verdict : Type 0 where
  refuses : List (List ℕ) → Refused → Verdict
  accepts : List (List ℕ) → Verdict
  runs : List (List ℕ) → Shown → CellData → List TypedTree → Verdict
  runs_free : List (List ℕ) → Shown → CellData → List TypedTree → Verdict
  lists : List (List ℕ) → CellData → List TypedTree → Verdict
  audits : List (List ℕ) → CellData → List TypedTree → List Event → List Fate → Verdict
  states : List (List ℕ) → CellData → List TypedTree → List SourcesData → List Event → List Fate → Verdict
  measures : List (List ℕ) → CellData → List TypedTree → Verdict
  traces : List (List ℕ) → CellData → List TypedTree → List SourcesData → Verdict
  migrates : List (List ℕ) → List ℕ → Verdict

abbrev pub sources_of : ScriptData → List ReadModule → List SourcesData
sources_of script reads = sources_in script.tasks (map (λ read. read.text) reads)

-- what is done with the names of the files that were read, with the modules of each task, and with the cell and the
-- trees that they gave
abbrev pub Doing : Type 1
Doing = List (List ℕ) → List SourcesData → MadeCell → Verdict → Type 0

-- what the text of a history comes to: the first line with which the lines so far start no history of the cell, or this
-- verdict on the history that it spells
abbrev pub HistoryDecides : (List Event → List Fate → Verdict) → Result (List ℕ) Refused → List (List ℕ) → CellData → Verdict → Type 0
HistoryDecides on (Err refused) names cell verdict = verdict ≡ refuses names refused
HistoryDecides on (Ok text) names cell verdict =
    ((line : ℕ) × IsFirstFault (names_of_cell cell) text line × (verdict ≡ refuses names (History line)))
    ⊎ ((events : List Event) × (fates : List Fate) × Spells (names_of_cell cell) text events fates × (verdict ≡ on events fates))

-- the action reads the text of a history after all else is accepted
abbrev pub reads_history : Action → Bool
reads_history actions.Audit = true
reads_history actions.State = true
reads_history action = false

-- the action prints places in the tasks' modules
abbrev pub prints_places : Action → Bool
prints_places actions.State = true
prints_places actions.Trace = true
prints_places action = false

-- What the action comes to if all is accepted, with this cell and these trees. `audit` and `state` read one more file,
-- of this name, and this is what the read comes to. `migrate` asks for no cell, and words without an action are refused.
abbrev pub ActionDecides : Option Action → List ℕ → Result (List ℕ) Refused → Doing
ActionDecides (Some actions.Check) last read names sources made verdict = verdict ≡ accepts names
ActionDecides (Some (actions.Round full)) last read names sources made verdict = verdict ≡ runs names (shows.Events full) made.cell made.trees
ActionDecides (Some (actions.Run full)) last read names sources made verdict = verdict ≡ runs_free names (shows.Events full) made.cell made.trees
ActionDecides (Some actions.List) last read names sources made verdict = verdict ≡ lists names made.cell made.trees
ActionDecides (Some (actions.Load moves)) last read names sources made verdict = verdict ≡ runs names shows.Summary made.cell made.trees
ActionDecides (Some actions.Audit) last read names sources made verdict =
    HistoryDecides (audits (names ++ last ∷ []) made.cell made.trees) read (names ++ last ∷ []) made.cell verdict
ActionDecides (Some actions.State) last read names sources made verdict =
    HistoryDecides (states (names ++ last ∷ []) made.cell made.trees sources) read (names ++ last ∷ []) made.cell verdict
ActionDecides (Some actions.Clearance) last read names sources made verdict = verdict ≡ measures names made.cell made.trees
ActionDecides (Some actions.Trace) last read names sources made verdict = verdict ≡ traces names made.cell made.trees sources
ActionDecides (Some actions.Migrate) last read names sources made verdict = ⊥
ActionDecides None last read names sources made verdict = ⊥

-- the same if the reads give these: the last file is read after those with these names
abbrev pub ActionReads : Option Action → Reads → List ℕ → Doing
ActionReads action gave last names sources made verdict = ActionDecides action last (file_text gave (length names) HISTORY_BYTES last) names sources made verdict

abbrev pub CheckedDecides : Doing → List (List ℕ) → List SourcesData → Result MadeCell Refused → Verdict → Type 0
CheckedDecides acts names sources (Err refused) verdict = verdict ≡ refuses names refused
CheckedDecides acts names sources (Ok made) verdict = acts names sources made verdict

-- given the script, its modules and its cell
abbrev pub ModulesDecide : Doing → List (List ℕ) → ScriptData → Result (List ReadModule) Refused → Verdict → Type 0
ModulesDecide acts names script (Err refused) verdict = verdict ≡ refuses names refused
ModulesDecide acts names script (Ok reads) verdict = CheckedDecides acts names (sources_of script reads) (checked script reads) verdict

abbrev pub names_of : List ℕ → ScriptData → List (List ℕ)
names_of name script = name ∷ module_names script.tasks

-- what the script's text comes to
abbrev pub ScriptDecides : Doing → Reads → List ℕ → Read ScriptData → Verdict → Type 0
ScriptDecides acts gave name (Err broken) verdict = verdict ≡ refuses (name ∷ []) (Script broken.key broken.rule)
ScriptDecides acts gave name (Ok script) verdict =
    (modules : Result (List ReadModule) Refused) × ModulesOf gave 1 (module_names script.tasks) modules
    × ModulesDecide acts (names_of name script) script modules verdict

abbrev pub FileDecides : Doing → Reads → List ℕ → Result (List ℕ) Refused → Verdict → Type 0
FileDecides acts gave name (Err refused) verdict = verdict ≡ refuses (name ∷ []) refused
FileDecides acts gave name (Ok text) verdict =
    (script : Read ScriptData) × ScriptOf text script × ScriptDecides acts gave name script verdict

-- what the files of an action come to, if the reads give these and the script's file has this name
abbrev pub FilesDecide : Doing → Reads → List ℕ → Verdict → Type 0
FilesDecide acts gave name verdict = FileDecides acts gave name (file_text gave 0 SCRIPT_BYTES name) verdict

-- what the reads of its files give: those of `load` are the texts of the load cell
abbrev pub reads_for : Option Action → Reads → Reads
reads_for (Some (actions.Load moves)) gave = load_reads moves
reads_for _ gave = gave

-- what the script's text comes to, if no module is read
abbrev pub MigrationDecides : List ℕ → List ℕ → Read ScriptData → Verdict → Type 0
MigrationDecides name text (Err broken) verdict = verdict ≡ refuses (name ∷ []) (Script broken.key broken.rule)
MigrationDecides name text (Ok script) verdict = verdict ≡ migrates (name ∷ []) text

abbrev pub AloneDecides : List ℕ → Result (List ℕ) Refused → Verdict → Type 0
AloneDecides name (Err refused) verdict = verdict ≡ refuses (name ∷ []) refused
AloneDecides name (Ok text) verdict = (script : Read ScriptData) × ScriptOf text script × MigrationDecides name text script verdict

-- whether the action reads the script alone
abbrev pub reads_script_alone : Option Action → Bool
reads_script_alone (Some actions.Migrate) = true
reads_script_alone _ = false

-- what the files of the action come to, if it does or does not, where the script's file has the first of these names
-- and the last file the second
abbrev pub AskedDecides : Bool → Option Action → Reads → List ℕ → List ℕ → Verdict → Type 0
AskedDecides true action gave name last verdict = AloneDecides name (file_text gave 0 SCRIPT_BYTES name) verdict
AskedDecides false action gave name last verdict =
    let reads = reads_for action gave in FilesDecide (ActionReads action reads last) reads name verdict

abbrev pub WordsDecide : Reads → List (List ℕ) → Option ℕ → Verdict → Type 0
WordsDecide gave words (Some place) verdict = verdict ≡ refuses [] (Words place)
WordsDecide gave words None verdict =
    AskedDecides (reads_script_alone (asked words)) (asked words) gave (script_name words) (history_name words) verdict

-- what the words and the files come to, if the reads give these
pub record Accepted (words : List (List ℕ)) (gave : Reads) (verdict : Verdict) : Type 0 where
  pub decides : WordsDecide gave words (refused_place words) verdict
