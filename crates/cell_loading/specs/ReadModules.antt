-- What the modules of a script come to: their trees, the cell and the trees of its tasks, or the first refusal.
use Rattle.std.specs.Prelude.{◌≡◌, ℕ, zero, suc, ◌+◌, ◌⊎◌, take, drop, slice_get, List, [], ◌∷◌, length, map, Option, Some, None, Result, Ok, Err}
use Rattle.rapid_limits.specs.declared.TheConstants.{MODULE_BYTES}
use Rattle.rapid_model.specs.ScriptData.{ScriptData}
use Rattle.rapid_model.specs.declared.script_task.ScriptTask.{ScriptTask}
use Rattle.rapid_lexer.specs.Places.{line_of, column_of}
use Rattle.rapid_lexer.specs.declared.place.Place.{Place}
use Rattle.raw_trees.specs.Plain.{PlainModule}
use Rattle.typed_trees.specs.Plain.{TypedTree}
use Rattle.rule_checks.specs.declared.rule.TypeRule.{TypeRule}
use Rattle.rule_checks.specs.declared.rule.TypeRule.TheVariants.{PersType}
use Rattle.rule_checks.specs.Checks.{◌>>=◌}
use Rattle.rule_checks.specs.TypeChecks.{Checked}
use Rattle.task_types.specs.Task.{task_of}
use Rattle.cell_assembly.specs.Cells.{CellBreak, Clash, InScript, Making}
use Rattle.cell_assembly.specs.Made.{MadeCell, make_cell}
use Rattle.rapid_forms.specs.declared.fault.SyntaxFault.{SyntaxFault}
use Rattle.rapid_forms.specs.declared.fault.SyntaxFault.TheVariants as faults
use Rattle.module_parser.specs.Modules.{ModuleText}
use Rattle.cell_loading.specs.declared.refused.Refused.{Refused}
use Rattle.cell_loading.specs.declared.refused.Refused.TheVariants.{Script, Module, Memory}
use Rattle.cell_loading.specs.declared.refused.ModuleRule.{ModuleRule}
use Rattle.cell_loading.specs.declared.refused.ModuleRule.TheVariants.{Lex, Syntax, «Type»}
use Rattle.cell_loading.specs.Files.{Reads, text_of}

-- what the read of a file of this number comes to
abbrev pub file_text : Reads → ℕ → ℕ → List ℕ → Result (List ℕ) Refused
file_text gave file limit name = text_of file limit (gave file name)

-- the line and the column of a byte
abbrev pub place_at : List ℕ → ℕ → Place
place_at text at = record { line = line_of text at; column = column_of text at }

-- the refusal for a fault of the text in the file of this number
abbrev pub fault_refusal : ℕ → List ℕ → SyntaxFault → Refused
fault_refusal file text (faults.Lex f) = Module file (place_at text f.at) (Lex f.rule)
fault_refusal file text (faults.Rule rule at) = Module file (place_at text at) (Syntax rule)
fault_refusal file text faults.Memory = Memory

-- a module that was read: the number of its file, its text, and what the text spells
pub record ReadModule : Type 0 where
  pub file : ℕ
  pub text : List ℕ
  pub raw : PlainModule

-- what a text comes to: a refusal for its fault, or the module that it spells
abbrev pub ModuleOf : ℕ → List ℕ → Result ReadModule Refused → Type 0
ModuleOf file text (Err refused) = (fault : SyntaxFault) × ModuleText text (Err fault) × (refused ≡ fault_refusal file text fault)
ModuleOf file text (Ok read) = (read.file ≡ file) × (read.text ≡ text) × ModuleText text (Ok read.raw)

-- the module in the file of this number
abbrev pub ModuleIn : ℕ → Result (List ℕ) Refused → Result ReadModule Refused → Type 0
ModuleIn file (Err refused) verdict = verdict ≡ Err refused
ModuleIn file (Ok text) verdict = ModuleOf file text verdict

-- the modules with these names, the first of which has this number; or the first refusal
abbrev pub ModulesOf : Reads → ℕ → List (List ℕ) → Result (List ReadModule) Refused → Type 0
ModulesOf gave file [] verdict = verdict ≡ Ok []
ModulesOf gave file (name ∷ names) (Err refused) =
    ModuleIn file (file_text gave file MODULE_BYTES name) (Err refused)
    ⊎ ((read : ReadModule) × ModuleIn file (file_text gave file MODULE_BYTES name) (Ok read) × ModulesOf gave (file + 1) names (Err refused))
ModulesOf gave file (name ∷ names) (Ok []) = ⊥
ModulesOf gave file (name ∷ names) (Ok (read ∷ reads)) =
    ModuleIn file (file_text gave file MODULE_BYTES name) (Ok read) × ModulesOf gave (file + 1) names (Ok reads)

-- the text of a module, if there is one, and the number of its file
abbrev pub read_text : Option ReadModule → List ℕ
read_text (Some read) = read.text
read_text None = []

abbrev pub read_file : Option ReadModule → ℕ
read_file (Some read) = read.file
read_file None = 0

-- the refusal for a rule, at a byte of the module of this number among these
abbrev pub module_refusal : List ReadModule → ℕ → ℕ → ModuleRule → Refused
module_refusal reads number at rule = let read = slice_get reads number in Module (read_file read) (place_at (read_text read) at) rule

-- the same for a rule of names and types
abbrev pub rule_refusal : List ReadModule → ℕ → ℕ → TypeRule → Refused
rule_refusal reads number at rule = module_refusal reads number at («Type» rule)

abbrev pub or_refused : List ReadModule → Checked TypedTree → Result TypedTree Refused
or_refused reads (Ok tree) = Ok tree
or_refused reads (Err broken) = Err (rule_refusal reads broken.«module» broken.at broken.rule)

abbrev pub names_in : List ScriptTask → List (List ℕ)
names_in tasks = map (λ task. task.name) tasks

-- the typed tree of a task, whose modules these are
abbrev pub typed_task : ScriptData → ScriptTask → List ReadModule → Result TypedTree Refused
typed_task script task reads =
    or_refused reads (task_of (map (λ read. read.raw) reads) (names_in script.tasks) script.signals task.axes)

-- the typed trees of these tasks, each with as many of the modules as it names; or the first refusal
abbrev pub typed_tasks : ScriptData → List ScriptTask → List ReadModule → Result (List TypedTree) Refused
typed_tasks script [] reads = Ok []
typed_tasks script (task ∷ tasks) reads =
    let count = length task.modules in
    typed_task script task (take count reads) >>= (λ tree. typed_tasks script tasks (drop count reads) >>= (λ trees. Ok (tree ∷ trees)))

-- how many modules the tasks before the one of this number have
abbrev pub modules_before : List ScriptTask → ℕ → ℕ
modules_before [] number = 0
modules_before (task ∷ tasks) zero = 0
modules_before (task ∷ tasks) (suc number) = length task.modules + modules_before tasks number

-- why the trees give no cell: the later of two declarations that differ, or a value of the script
abbrev pub cell_refusal : ScriptData → List ReadModule → CellBreak → Refused
cell_refusal script reads (Clash task number at) = rule_refusal reads (modules_before script.tasks task + number) at PersType
cell_refusal script reads (InScript key rule) = Script key rule

abbrev pub cell_or_refused : ScriptData → List ReadModule → Making MadeCell → Result MadeCell Refused
cell_or_refused script reads (Ok made) = Ok made
cell_or_refused script reads (Err broken) = Err (cell_refusal script reads broken)

-- The cell of a script and of its modules, and the trees of its tasks, which use its numbers; or the first refusal, in
-- this order: names and types, task by task; what the tasks share; the script's values of persistents.
abbrev pub checked : ScriptData → List ReadModule → Result MadeCell Refused
checked script reads = typed_tasks script script.tasks reads >>= (λ trees. cell_or_refused script reads (make_cell script trees))
