-- Words and the results of the reads have at most one verdict, provided that a text comes to one module.
use Rattle.std.proofs.Common.{◌≡◌, Bool, true, false, ℕ, ◌+◌, List, [], ◌∷◌, ◌++◌, length, Option, Some, None, Result, Ok, Err, refl, ap, sym, ◌∙◌, subst, inl, inr}
use Rattle.rapid_limits.specs.declared.TheConstants.{HISTORY_BYTES, MODULE_BYTES, SCRIPT_BYTES}
use Rattle.toml.specs.Data.{Members}
use Rattle.cell_assembly.specs.Made.{MadeCell}
use Rattle.rapid_model.specs.CellData.{CellData}
use Rattle.rapid_model.specs.ScriptData.{IsScript, ScriptData, module_names}
use Rattle.rapid_model.specs.declared.event.Event.{Event}
use Rattle.rapid_model.specs.declared.fate.Fate.{Fate}
use Rattle.cell_script.specs.Break.{ScriptBreak, Read}
use Rattle.cell_script.specs.ScriptOf.{script_of, IsTable, IsNoToml, ScriptOf}
use Rattle.raw_trees.specs.Plain.{PlainModule}
use Rattle.rapid_forms.specs.declared.fault.SyntaxFault.{SyntaxFault}
use Rattle.module_parser.specs.Modules.{ModuleText}
use Rattle.history_text.specs.HistoryText.{AreNamed}
use Rattle.state_text.specs.StateLines.{SourcesData}
use Rattle.history_text.proofs.NextLines.{one_first_fault, spelled_has_no_fault}
use Rattle.history_text.proofs.OneHistory.{read_once}
use Rattle.command_words.specs.declared.command.Action.{Action}
use Rattle.command_words.specs.declared.command.Action.TheVariants as actions
use Rattle.cell_loading.specs.declared.refused.Refused.{Refused}
use Rattle.cell_loading.specs.declared.refused.Refused.TheVariants.{History}
use Rattle.command_words.specs.Words.{refused_place, script_name, history_name, asked}
use Rattle.cell_loading.specs.Files.{Reads}
use Rattle.run_lines.specs.Output.{names_in}
use Rattle.controller.specs.Accepted.{Doing, Verdict, audits, refuses, Accepted, reads_for, ActionDecides, ActionReads, AloneDecides, AskedDecides, CheckedDecides, MigrationDecides, reads_script_alone, HistoryDecides, ModulesDecide, names_of, ScriptDecides, FileDecides, WordsDecide, states, sources_of}
use Rattle.cell_loading.specs.ReadModules.{ReadModule, file_text, fault_refusal, ModuleOf, ModuleIn, ModulesOf, checked}
use Rattle.controller.proofs.NamedTasks.{made_named, script_within}

-- a text comes to one module or one fault
abbrev pub OneText : Type 0
OneText = (text : List ℕ) (a b : Result PlainModule SyntaxFault) → ModuleText text a → ModuleText text b → a ≡ b

same_keys : (text : List ℕ) (members others : Members) → IsTable text members → IsTable text others → members ≡ others
same_keys text members others a b = let e : Some members ≡ Some others = sym a.table ∙ b.table in cc

no_table : {A : Type 0} (text : List ℕ) (broken : ScriptBreak) (members : Members) → IsNoToml text broken → IsTable text members → A
no_table text broken members a b = let e : Some members ≡ None = sym b.table ∙ a.refused b.utf8 in cc

-- a text is one script, or breaks one rule at one key
script_one : (text : List ℕ) (a b : Read ScriptData) → ScriptOf text a → ScriptOf text b → a ≡ b
script_one text (Ok s) (Ok t) a b = sym a.2 ∙ ap script_of (same_keys text a.0 b.0 a.1 b.1) ∙ b.2
script_one text (Ok s) (Err y) a (inl b) = no_table text y a.0 b a.1
script_one text (Ok s) (Err y) a (inr b) = sym a.2 ∙ ap script_of (same_keys text a.0 b.0 a.1 b.1) ∙ b.2
script_one text (Err x) (Ok t) (inl a) b = no_table text x b.0 a b.1
script_one text (Err x) (Ok t) (inr a) b = sym a.2 ∙ ap script_of (same_keys text a.0 b.0 a.1 b.1) ∙ b.2
script_one text (Err x) (Err y) (inl a) (inl b) = ap Err (a.is ∙ sym b.is)
script_one text (Err x) (Err y) (inl a) (inr b) = no_table text x b.0 a b.1
script_one text (Err x) (Err y) (inr a) (inl b) = no_table text y a.0 b a.1
script_one text (Err x) (Err y) (inr a) (inr b) = sym a.2 ∙ ap script_of (same_keys text a.0 b.0 a.1 b.1) ∙ b.2

-- a text is one module, or is refused
read_one : (s t : ReadModule) → s.file ≡ t.file → s.text ≡ t.text → s.raw ≡ t.raw → s ≡ t
read_one s t file text raw =
    ap (λ (n : ℕ). let m : ReadModule = record { file = n; text = s.text; raw = s.raw } in m) file
    ∙ ap (λ (x : List ℕ). let m : ReadModule = record { file = t.file; text = x; raw = s.raw } in m) text
    ∙ ap (λ (x : PlainModule). let m : ReadModule = record { file = t.file; text = t.text; raw = x } in m) raw

module_of_one : OneText → (file : ℕ) (text : List ℕ) (a b : Result ReadModule Refused) → ModuleOf file text a → ModuleOf file text b → a ≡ b
module_of_one one file text (Err x) (Err y) p q =
    let e : Err p.0 ≡ Err q.0 = one text (Err p.0) (Err q.0) p.1 q.1 in
    let same : p.0 ≡ q.0 = cc in
    ap Err (p.2 ∙ ap (fault_refusal file text) same ∙ sym q.2)
module_of_one one file text (Err x) (Ok t) p q = let e : Ok t.raw ≡ Err p.0 = one text (Ok t.raw) (Err p.0) q.2 p.1 in cc
module_of_one one file text (Ok s) (Err y) p q = let e : Ok s.raw ≡ Err q.0 = one text (Ok s.raw) (Err q.0) p.2 q.1 in cc
module_of_one one file text (Ok s) (Ok t) p q =
    let e : Ok s.raw ≡ Ok t.raw = one text (Ok s.raw) (Ok t.raw) p.2 q.2 in
    let same : s.raw ≡ t.raw = cc in
    ap Ok (read_one s t (p.0 ∙ sym q.0) (p.1 ∙ sym q.1) same)

module_one : OneText → (file : ℕ) (read : Result (List ℕ) Refused) (a b : Result ReadModule Refused) → ModuleIn file read a → ModuleIn file read b → a ≡ b
module_one one file (Err refused) a b p q = p ∙ sym q
module_one one file (Ok text) a b p q = module_of_one one file text a b p q

modules_one : OneText → (gave : Reads) (file : ℕ) (names : List (List ℕ)) (a b : Result (List ReadModule) Refused) → ModulesOf gave file names a → ModulesOf gave file names b → a ≡ b
modules_one one gave file [] a b p q = p ∙ sym q
modules_one one gave file (n ∷ ns) (Ok []) b p q = absurd p
modules_one one gave file (n ∷ ns) (Ok (s ∷ ss)) (Ok []) p q = absurd q
modules_one one gave file (n ∷ ns) (Ok (s ∷ ss)) (Ok (t ∷ ts)) p q =
    let e : Ok s ≡ Ok t = module_one one file (file_text gave file MODULE_BYTES n) (Ok s) (Ok t) p.0 q.0 in
    let f : Ok ss ≡ Ok ts = modules_one one gave (file + 1) ns (Ok ss) (Ok ts) p.1 q.1 in
    let first : s ≡ t = cc in
    let rest : ss ≡ ts = cc in
    ap (λ (x : ReadModule). Ok (x ∷ ss)) first ∙ ap (λ (xs : List ReadModule). Ok (t ∷ xs)) rest
modules_one one gave file (n ∷ ns) (Ok (s ∷ ss)) (Err y) p (inl q) =
    let e : Ok s ≡ Err y = module_one one file (file_text gave file MODULE_BYTES n) (Ok s) (Err y) p.0 q in cc
modules_one one gave file (n ∷ ns) (Ok (s ∷ ss)) (Err y) p (inr q) =
    let e : Ok ss ≡ Err y = modules_one one gave (file + 1) ns (Ok ss) (Err y) p.1 q.2 in cc
modules_one one gave file (n ∷ ns) (Err x) (Ok []) p q = absurd q
modules_one one gave file (n ∷ ns) (Err x) (Ok (t ∷ ts)) (inl p) q =
    let e : Ok t ≡ Err x = module_one one file (file_text gave file MODULE_BYTES n) (Ok t) (Err x) q.0 p in cc
modules_one one gave file (n ∷ ns) (Err x) (Ok (t ∷ ts)) (inr p) q =
    let e : Ok ts ≡ Err x = modules_one one gave (file + 1) ns (Ok ts) (Err x) q.1 p.2 in cc
modules_one one gave file (n ∷ ns) (Err x) (Err y) (inl p) (inl q) =
    let e : Err x ≡ Err y = module_one one file (file_text gave file MODULE_BYTES n) (Err x) (Err y) p q in
    let same : x ≡ y = cc in ap Err same
modules_one one gave file (n ∷ ns) (Err x) (Err y) (inl p) (inr q) =
    let e : Ok q.0 ≡ Err x = module_one one file (file_text gave file MODULE_BYTES n) (Ok q.0) (Err x) q.1 p in cc
modules_one one gave file (n ∷ ns) (Err x) (Err y) (inr p) (inl q) =
    let e : Ok p.0 ≡ Err y = module_one one file (file_text gave file MODULE_BYTES n) (Ok p.0) (Err y) p.1 q in cc
modules_one one gave file (n ∷ ns) (Err x) (Err y) (inr p) (inr q) = modules_one one gave (file + 1) ns (Err x) (Err y) p.2 q.2

-- a text of a history comes to one verdict

history_one : (on : List Event → List Fate → Verdict) (read : Result (List ℕ) Refused) (names : List (List ℕ)) (cell : CellData) (v w : Verdict) → AreNamed cell.tasks → HistoryDecides on read names cell v
    → HistoryDecides on read names cell w → v ≡ w
history_one on (Err refused) names cell v w named p q = p ∙ sym q
history_one on (Ok text) names cell v w named (inl p) (inl q) =
    let same : p.0 ≡ q.0 = one_first_fault (names_in cell) text p.0 q.0 p.1 q.1 in
    p.2 ∙ ap (λ (line : ℕ). refuses names (History line)) same ∙ sym q.2
history_one on (Ok text) names cell v w named (inl p) (inr q) = absurd (spelled_has_no_fault (names_in cell) text q.0 q.1 p.0 named q.2 p.1)
history_one on (Ok text) names cell v w named (inr p) (inl q) = absurd (spelled_has_no_fault (names_in cell) text p.0 p.1 q.0 named p.2 q.1)
history_one on (Ok text) names cell v w named (inr p) (inr q) =
    let same = read_once (names_in cell) text p.0 q.0 p.1 q.1 named p.2 q.2 in
    p.3 ∙ ap (λ (events : List Event). on events p.1) same.0 ∙ ap (λ (fates : List Fate). on q.0 fates) same.1 ∙ sym q.3

-- what is accepted is done in only one way, with a cell whose tasks have names
abbrev IsOne : Doing → Type 0
IsOne acts = (names : List (List ℕ)) (sources : List SourcesData) (made : MadeCell) (v w : Verdict) → AreNamed made.cell.tasks → acts names sources made v → acts names sources made w → v ≡ w

action_one : (action : Option Action) (last : List ℕ) (read : Result (List ℕ) Refused) (names : List (List ℕ)) (sources : List SourcesData) (made : MadeCell) (v w : Verdict) → AreNamed made.cell.tasks
    → ActionDecides action last read names sources made v → ActionDecides action last read names sources made w → v ≡ w
action_one (Some actions.Check) last read names sources made v w named p q = p ∙ sym q
action_one (Some (actions.Round full)) last read names sources made v w named p q = p ∙ sym q
action_one (Some (actions.Run full)) last read names sources made v w named p q = p ∙ sym q
action_one (Some actions.List) last read names sources made v w named p q = p ∙ sym q
action_one (Some (actions.Load moves)) last read names sources made v w named p q = p ∙ sym q
action_one (Some actions.Audit) last read names sources made v w named p q =
    history_one (audits (names ++ last ∷ []) made.cell made.trees) read (names ++ last ∷ []) made.cell v w named p q
action_one (Some actions.State) last read names sources made v w named p q =
    history_one (states (names ++ last ∷ []) made.cell made.trees sources) read (names ++ last ∷ []) made.cell v w named p q
action_one (Some actions.Clearance) last read names sources made v w named p q = p ∙ sym q
action_one (Some actions.Trace) last read names sources made v w named p q = p ∙ sym q
action_one (Some actions.Migrate) last read names sources made v w named p q = absurd p
action_one None last read names sources made v w named p q = absurd p

reads_one : (action : Option Action) (gave : Reads) (last : List ℕ) → IsOne (ActionReads action gave last)
reads_one action gave last = λ names sources made v w named p q. action_one action last (file_text gave (length names) HISTORY_BYTES last) names sources made v w named p q

checked_one : (acts : Doing) → IsOne acts → (names : List (List ℕ)) (sources : List SourcesData) (found : Result MadeCell Refused) (v w : Verdict)
    → ((made : MadeCell) → found ≡ Ok made → AreNamed made.cell.tasks) → CheckedDecides acts names sources found v → CheckedDecides acts names sources found w → v ≡ w
checked_one acts each names sources (Err refused) v w named p q = p ∙ sym q
checked_one acts each names sources (Ok made) v w named p q = each names sources made v w (named made refl) p q

modules_decide_one : (acts : Doing) → IsOne acts → (names : List (List ℕ)) (script : ScriptData) (modules : Result (List ReadModule) Refused) (v w : Verdict) → IsScript script
    → ModulesDecide acts names script modules v → ModulesDecide acts names script modules w → v ≡ w
modules_decide_one acts each names script (Err refused) v w limits p q = p ∙ sym q
modules_decide_one acts each names script (Ok reads) v w limits p q =
    checked_one acts each names (sources_of script reads) (checked script reads) v w (λ made is. made_named script reads made limits is) p q

script_decides_one : OneText → (acts : Doing) → IsOne acts → (gave : Reads) (name text : List ℕ) (script : Read ScriptData) (v w : Verdict) → ScriptOf text script → ScriptDecides acts gave name script v
    → ScriptDecides acts gave name script w → v ≡ w
script_decides_one one acts each gave name text (Err broken) v w spelled p q = p ∙ sym q
script_decides_one one acts each gave name text (Ok script) v w spelled p q =
    let same : p.0 ≡ q.0 = modules_one one gave 1 (module_names script.tasks) p.0 q.0 p.1 q.1 in
    modules_decide_one acts each (names_of name script) script q.0 v w (script_within text script spelled)
    (subst (λ (m : Result (List ReadModule) Refused). ModulesDecide acts (names_of name script) script m v) same p.2) q.2

file_decides_one : OneText → (acts : Doing) → IsOne acts → (gave : Reads) (name : List ℕ) (read : Result (List ℕ) Refused) (v w : Verdict) → FileDecides acts gave name read v → FileDecides acts gave name read w → v ≡ w
file_decides_one one acts each gave name (Err refused) v w p q = p ∙ sym q
file_decides_one one acts each gave name (Ok text) v w p q =
    let same : p.0 ≡ q.0 = script_one text p.0 q.0 p.1 q.1 in
    script_decides_one one acts each gave name text q.0 v w q.1 (subst (λ (s : Read ScriptData). ScriptDecides acts gave name s v) same p.2) q.2

-- the script alone, or with the modules

migration_one : (name text : List ℕ) (script : Read ScriptData) (v w : Verdict) → MigrationDecides name text script v → MigrationDecides name text script w → v ≡ w
migration_one name text (Err broken) v w p q = p ∙ sym q
migration_one name text (Ok script) v w p q = p ∙ sym q

alone_one : (name : List ℕ) (read : Result (List ℕ) Refused) (v w : Verdict) → AloneDecides name read v → AloneDecides name read w → v ≡ w
alone_one name (Err refused) v w p q = p ∙ sym q
alone_one name (Ok text) v w p q =
    let same : p.0 ≡ q.0 = script_one text p.0 q.0 p.1 q.1 in
    migration_one name text q.0 v w (subst (λ (s : Read ScriptData). MigrationDecides name text s v) same p.2) q.2

asked_one : OneText → (alone : Bool) (action : Option Action) (gave : Reads) (name last : List ℕ) (v w : Verdict) → AskedDecides alone action gave name last v → AskedDecides alone action gave name last w → v ≡ w
asked_one one true action gave name last v w p q = alone_one name (file_text gave 0 SCRIPT_BYTES name) v w p q
asked_one one false action gave name last v w p q =
    let read = reads_for action gave in
    file_decides_one one (ActionReads action read last) (reads_one action read last) read name (file_text read 0 SCRIPT_BYTES name) v w p q

words_decide_one : OneText → (gave : Reads) (words : List (List ℕ)) (place : Option ℕ) (v w : Verdict) → WordsDecide gave words place v → WordsDecide gave words place w → v ≡ w
words_decide_one one gave words (Some place) v w p q = p ∙ sym q
words_decide_one one gave words None v w p q = asked_one one (reads_script_alone (asked words)) (asked words) gave (script_name words) (history_name words) v w p q

pub verdict_one : OneText → (words : List (List ℕ)) (gave : Reads) (v w : Verdict) → Accepted words gave v → Accepted words gave w → v ≡ w
verdict_one one words gave v w a b = words_decide_one one gave words (refused_place words) v w a.decides b.decides
