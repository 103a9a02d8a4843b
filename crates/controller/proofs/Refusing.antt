-- No verdict refuses for lack of memory or for a write.
use Rattle.std.proofs.Common.{◌≡◌, ℕ, ◌+◌, List, [], ◌∷◌, ◌++◌, Bool, true, false, refl, sym, subst, inl, inr}
use Rattle.std.specs.Prelude.{Option, Some, None, IfErr, Result, Ok, Err, nat_le, length, if◌then◌else◌}
use Rattle.rapid_limits.specs.declared.TheConstants.{HISTORY_BYTES, MODULE_BYTES, SCRIPT_BYTES}
use Rattle.rapid_model.specs.CellData.{CellData}
use Rattle.rapid_model.specs.ScriptData.{ScriptData, module_names}
use Rattle.rapid_model.specs.declared.event.Event.{Event}
use Rattle.rapid_model.specs.declared.fate.Fate.{Fate}
use Rattle.cell_assembly.specs.Made.{MadeCell}
use Rattle.cell_script.specs.Break.{Read}
use Rattle.module_parser.specs.Modules.{ModuleText}
use Rattle.rapid_forms.specs.declared.fault.SyntaxFault.{SyntaxFault}
use Rattle.rapid_forms.specs.declared.fault.SyntaxFault.TheVariants as faults
use Rattle.command_words.specs.declared.command.Action.{Action}
use Rattle.command_words.specs.declared.command.Action.TheVariants as actions
use Rattle.cell_loading.specs.declared.refused.Refused.{Refused}
use Rattle.cell_loading.specs.declared.refused.Refused.TheVariants as refusals
use Rattle.cell_loading.specs.Files.{Reads, text_of}
use Rattle.command_words.specs.Words.{refused_place, script_name, history_name, asked}
use Rattle.controller.specs.Accepted.{Doing, Verdict, refuses, accepts, runs, runs_free, lists, audits, migrates, Accepted, reads_for, ActionDecides, ActionReads, AloneDecides, AskedDecides, CheckedDecides, MigrationDecides, reads_script_alone, HistoryDecides, ModulesDecide, names_of, ScriptDecides, FileDecides, WordsDecide, measures, states, traces, sources_of}
use Rattle.cell_loading.specs.ReadModules.{ReadModule, file_text, fault_refusal, ModuleIn, ModulesOf, checked}
use Rattle.state_text.specs.StateLines.{SourcesData}
use Rattle.cell_loading.proofs.Checking.{checks_refuse}

-- the words, a file, the script or a module is refused
abbrev pub IsOfInput : Refused → Type 0
IsOfInput (refusals.Words place) = Unit {0}
IsOfInput (refusals.Script key rule) = Unit {0}
IsOfInput (refusals.Module file place rule) = Unit {0}
IsOfInput (refusals.Read file) = Unit {0}
IsOfInput refusals.Write = ⊥
IsOfInput refusals.Memory = ⊥
IsOfInput (refusals.TooLong file) = Unit {0}
IsOfInput (refusals.History line) = Unit {0}

-- of a verdict, if it refuses
abbrev RefusesInput : Verdict → Type 0
RefusesInput (refuses names refused) = IsOfInput refused
RefusesInput (accepts names) = Unit {0}
RefusesInput (runs names shown cell trees) = Unit {0}
RefusesInput (runs_free names shown cell trees) = Unit {0}
RefusesInput (lists names cell trees) = Unit {0}
RefusesInput (audits names cell trees events fates) = Unit {0}
RefusesInput (states names cell trees sources events fates) = Unit {0}
RefusesInput (migrates names text) = Unit {0}
RefusesInput (measures names cell trees) = Unit {0}
RefusesInput (traces names cell trees sources) = Unit {0}

is_refused : (names : List (List ℕ)) (refused : Refused) (verdict : Verdict) → IsOfInput refused → verdict ≡ refuses names refused → RefusesInput verdict
is_refused names refused verdict of is = subst RefusesInput (sym is) of

-- the files

of_text : (file limit : ℕ) (gave : Option (List ℕ)) → IfErr (text_of file limit gave) IsOfInput
of_text file limit None = tt
of_text file limit (Some bytes) = past (nat_le (length bytes) limit)
  where
    past : (b : Bool) → IfErr (let r : Result (List ℕ) Refused = (if b then Ok bytes else Err (refusals.TooLong file)) in r) IsOfInput
    past true = tt
    past false = tt

of_fault : (file : ℕ) (text : List ℕ) (fault : SyntaxFault) → ModuleText text (Err fault) → IsOfInput (fault_refusal file text fault)
of_fault file text (faults.Lex f) is = tt
of_fault file text (faults.Rule rule at) is = tt
of_fault file text faults.Memory is = absurd is

of_module : (file : ℕ) (read : Result (List ℕ) Refused) (refused : Refused) → IfErr read IsOfInput → ModuleIn file read (Err refused) → IsOfInput refused
of_module file (Err r) refused of d = let same : refused ≡ r = cc in subst IsOfInput (sym same) of
of_module file (Ok text) refused of d = subst IsOfInput (sym d.2) (of_fault file text d.0 d.1)

of_modules : (gave : Reads) (file : ℕ) (names : List (List ℕ)) (refused : Refused) → ModulesOf gave file names (Err refused) → IsOfInput refused
of_modules gave file [] refused d = cc
of_modules gave file (name ∷ names) refused (inl d) = of_module file (file_text gave file MODULE_BYTES name) refused (of_text file MODULE_BYTES (gave file name)) d
of_modules gave file (name ∷ names) refused (inr d) = of_modules gave (file + 1) names refused d.2

-- from what is checked to the words

-- what an action comes to refuses only for the input
abbrev IsForInput : Doing → Type 0
IsForInput acts = (names : List (List ℕ)) (sources : List SourcesData) (made : MadeCell) (verdict : Verdict) → acts names sources made verdict → RefusesInput verdict

of_history : (on : List Event → List Fate → Verdict) (read : Result (List ℕ) Refused) (names : List (List ℕ)) (cell : CellData) (verdict : Verdict) → IfErr read IsOfInput
    → ((events : List Event) (fates : List Fate) → RefusesInput (on events fates)) → HistoryDecides on read names cell verdict → RefusesInput verdict
of_history on (Err refused) names cell verdict of each d = is_refused names refused verdict of d
of_history on (Ok text) names cell verdict of each (inl d) = is_refused names (refusals.History d.0) verdict tt d.2
of_history on (Ok text) names cell verdict of each (inr d) = subst RefusesInput (sym d.3) (each d.0 d.1)

of_action : (action : Option Action) (last : List ℕ) (read : Result (List ℕ) Refused) (names : List (List ℕ)) (sources : List SourcesData) (made : MadeCell) (verdict : Verdict) → IfErr read IsOfInput
    → ActionDecides action last read names sources made verdict → RefusesInput verdict
of_action (Some actions.Check) last read names sources made verdict of d = subst RefusesInput (sym d) tt
of_action (Some (actions.Round full)) last read names sources made verdict of d = subst RefusesInput (sym d) tt
of_action (Some (actions.Run full)) last read names sources made verdict of d = subst RefusesInput (sym d) tt
of_action (Some actions.List) last read names sources made verdict of d = subst RefusesInput (sym d) tt
of_action (Some (actions.Load moves)) last read names sources made verdict of d = subst RefusesInput (sym d) tt
of_action (Some actions.Audit) last read names sources made verdict of d =
    of_history (audits (names ++ last ∷ []) made.cell made.trees) read (names ++ last ∷ []) made.cell verdict of (λ events fates. tt) d
of_action (Some actions.State) last read names sources made verdict of d =
    of_history (states (names ++ last ∷ []) made.cell made.trees sources) read (names ++ last ∷ []) made.cell verdict of (λ events fates. tt) d
of_action (Some actions.Clearance) last read names sources made verdict of d = subst RefusesInput (sym d) tt
of_action (Some actions.Trace) last read names sources made verdict of d = subst RefusesInput (sym d) tt
of_action (Some actions.Migrate) last read names sources made verdict of d = absurd d
of_action None last read names sources made verdict of d = absurd d

of_reads : (action : Option Action) (gave : Reads) (last : List ℕ) → IsForInput (ActionReads action gave last)
of_reads action gave last = λ names sources made verdict d.
    of_action action last (file_text gave (length names) HISTORY_BYTES last) names sources made verdict (of_text (length names) HISTORY_BYTES (gave (length names) last)) d

of_checked : (acts : Doing) (names : List (List ℕ)) (sources : List SourcesData) (found : Result MadeCell Refused) (verdict : Verdict) → IsForInput acts → IfErr found IsOfInput
    → CheckedDecides acts names sources found verdict → RefusesInput verdict
of_checked acts names sources (Err refused) verdict each of d = is_refused names refused verdict of d
of_checked acts names sources (Ok made) verdict each of d = each names sources made verdict d

of_decided : (acts : Doing) (names : List (List ℕ)) (script : ScriptData) (modules : Result (List ReadModule) Refused) (verdict : Verdict) → IsForInput acts
    → ((refused : Refused) → modules ≡ Err refused → IsOfInput refused) → ModulesDecide acts names script modules verdict → RefusesInput verdict
of_decided acts names script (Err refused) verdict each of d = is_refused names refused verdict (of refused refl) d
of_decided acts names script (Ok reads) verdict each of d =
    of_checked acts names (sources_of script reads) (checked script reads) verdict each (checks_refuse IsOfInput (λ key rule. tt) (λ file place rule. tt) script reads) d

of_script : (acts : Doing) (gave : Reads) (name : List ℕ) (script : Read ScriptData) (verdict : Verdict) → IsForInput acts → ScriptDecides acts gave name script verdict → RefusesInput verdict
of_script acts gave name (Err broken) verdict each d = is_refused (name ∷ []) (refusals.Script broken.key broken.rule) verdict tt d
of_script acts gave name (Ok script) verdict each d =
    of_decided acts (names_of name script) script d.0 verdict each
    (λ refused is. of_modules gave 1 (module_names script.tasks) refused (subst (λ (m : Result (List ReadModule) Refused). ModulesOf gave 1 (module_names script.tasks) m) is d.1)) d.2

of_file : (acts : Doing) (gave : Reads) (name : List ℕ) (read : Result (List ℕ) Refused) (verdict : Verdict) → IsForInput acts → IfErr read IsOfInput → FileDecides acts gave name read verdict → RefusesInput verdict
of_file acts gave name (Err refused) verdict each of d = is_refused (name ∷ []) refused verdict of d
of_file acts gave name (Ok text) verdict each of d = of_script acts gave name d.0 verdict each d.2

-- the script alone, or with the modules

of_migration : (name text : List ℕ) (script : Read ScriptData) (verdict : Verdict) → MigrationDecides name text script verdict → RefusesInput verdict
of_migration name text (Err broken) verdict d = is_refused (name ∷ []) (refusals.Script broken.key broken.rule) verdict tt d
of_migration name text (Ok script) verdict d = subst RefusesInput (sym d) tt

of_alone : (name : List ℕ) (read : Result (List ℕ) Refused) (verdict : Verdict) → IfErr read IsOfInput → AloneDecides name read verdict → RefusesInput verdict
of_alone name (Err refused) verdict of d = is_refused (name ∷ []) refused verdict of d
of_alone name (Ok text) verdict of d = of_migration name text d.0 verdict d.2

of_asked : (alone : Bool) (action : Option Action) (gave : Reads) (name last : List ℕ) (verdict : Verdict) → AskedDecides alone action gave name last verdict → RefusesInput verdict
of_asked true action gave name last verdict d = of_alone name (file_text gave 0 SCRIPT_BYTES name) verdict (of_text 0 SCRIPT_BYTES (gave 0 name)) d
of_asked false action gave name last verdict d =
    let read = reads_for action gave in
    of_file (ActionReads action read last) read name (file_text read 0 SCRIPT_BYTES name) verdict (of_reads action read last) (of_text 0 SCRIPT_BYTES (read 0 name)) d

of_words : (gave : Reads) (words : List (List ℕ)) (place : Option ℕ) (verdict : Verdict) → WordsDecide gave words place verdict → RefusesInput verdict
of_words gave words (Some place) verdict d = is_refused [] (refusals.Words place) verdict tt d
of_words gave words None verdict d = of_asked (reads_script_alone (asked words)) (asked words) gave (script_name words) (history_name words) verdict d

pub refuses_input : (words : List (List ℕ)) (gave : Reads) (names : List (List ℕ)) (refused : Refused) → Accepted words gave (refuses names refused) → IsOfInput refused
refuses_input words gave names refused a = of_words gave words (refused_place words) (refuses names refused) a.decides
