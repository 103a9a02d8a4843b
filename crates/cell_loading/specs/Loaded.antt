-- What loading a script and its modules comes to, and how contracts see what is loaded.
use Rattle.std.specs.Prelude.{◌≡◌, ℕ, ◌+◌, ◌≤◌, ◌<◌, ◌^◌, ◌⊎◌, List, [], ◌∷◌, map, length, Option, None, Some, Result, Ok, Err, Vec, All}
use Rattle.std.specs.Borrow.{Bor}
use Rattle.std.specs.declared.alloc.Global.{Global}
use Rattle.rapid_limits.specs.declared.TheConstants.{MODULE_BYTES}
use Rattle.rapid_model.specs.CellData.{CellData}
use Rattle.rapid_model.specs.ScriptData.{ScriptData}
use Rattle.cell_script.specs.Break.{ScriptBreak}
use Rattle.cell_script.specs.ScriptOf.{ScriptOf}
use Rattle.raw_trees.specs.Views.{view_module}
use Rattle.raw_trees.specs.declared.raw_module.RawModule.{RawModule}
use Rattle.module_parser.specs.Modules.{ModuleText}
use Rattle.rule_checks.specs.declared.fault.TypeFault.{TypeFault}
use Rattle.rule_checks.specs.declared.fault.TypeFault.TheVariants as types
use Rattle.cell_assembly.specs.Cells.{Clash}
use Rattle.cell_assembly.specs.declared.cell_fault.CellFault.{CellFault}
use Rattle.cell_assembly.specs.declared.cell_fault.CellFault.TheVariants as cells
use Rattle.cell_assembly.specs.Made.{MadeCell}
use Rattle.typed_trees.specs.Views.{view_tree}
use Rattle.typed_trees.specs.declared.tree.Tree.{Tree}
use Rattle.cell_loading.specs.declared.check.CheckedCell.{CheckedCell}
use Rattle.cell_loading.specs.declared.module_texts.ModuleTexts.{ModuleTexts}
use Rattle.cell_loading.specs.declared.modules.Modules.{Modules}
use Rattle.cell_loading.specs.declared.refused.Refused.{Refused}
use Rattle.cell_loading.specs.declared.refused.Refused.TheVariants.{Script, Memory}
use Rattle.cell_loading.specs.Files.{Reads}
use Rattle.cell_loading.specs.ReadModules.{ReadModule, ModuleOf, file_text, rule_refusal, cell_refusal}

-- the names of the modules' files
abbrev pub names_in_turn : List (Bor (List ℕ)) → List (List ℕ)
names_in_turn names = map (λ name. name.now) names

-- the names of the files, the script's first
abbrev pub file_names : List ℕ → List (Bor (List ℕ)) → List (List ℕ)
file_names script names = script ∷ names_in_turn names

-- a cell with its trees
abbrev pub made_with : CellData → List Tree → MadeCell
made_with cell trees = record { cell = cell; trees = map view_tree trees }

abbrev pub made_of : CheckedCell → MadeCell
made_of c = made_with c.cell c.trees.items

-- modules with their texts and trees, the first of them in the file of this number
abbrev pub reads_of : ℕ → List (Vec ℕ Global) → List RawModule → List ReadModule
reads_of file (text ∷ texts) (tree ∷ trees) = record { file = file; text = text.items; raw = view_module tree } ∷ reads_of (file + 1) texts trees
reads_of _ _ _ = []

abbrev pub reads_in : Modules → List ReadModule
reads_in modules = reads_of modules.first modules.texts.now modules.trees.now

-- a text is within the limit of a module
abbrev pub IsWithin : Vec ℕ Global → Type 0
IsWithin text = length text.items ≤ MODULE_BYTES

-- a text spells each of the modules
abbrev pub IsSpelled : ReadModule → Type 0
IsSpelled read = (source : List ℕ) × ModuleText source (Ok read.raw)

abbrev pub AreSpelled : List ReadModule → Type 0
AreSpelled reads = All IsSpelled reads

-- each tree has its text, and each file its number
pub record ArePaired (modules : Modules) : Type 0 where
  pub same : length modules.texts.now ≡ length modules.trees.now
  pub within : All IsWithin modules.texts.now
  pub files : modules.first + length modules.texts.now < 2 ^ 32

-- the script that the result of reading its file comes to, or out of memory
abbrev pub IsScriptIn : Result (List ℕ) Refused → Result ScriptData Refused → Type 0
IsScriptIn read (Ok script) = (text : List ℕ) × (read ≡ Ok text) × ScriptOf text (Ok script)
IsScriptIn read (Err refused) =
    (refused ≡ Memory) ⊎ ((read ≡ Err refused)
    ⊎ ((text : List ℕ) × (broken : ScriptBreak) × (read ≡ Ok text) × ScriptOf text (Err broken) × (refused ≡ Script broken.key broken.rule)))

-- The texts of the files with these names, the first of which has this number, up to the first one that is not read,
-- and why that one is not. Or out of memory.
abbrev pub AreTexts : Reads → ℕ → List (List ℕ) → List (List ℕ) → Option Refused → Type 0
AreTexts gave file [] [] None = Unit {0}
AreTexts gave file (name ∷ names) [] (Some refused) = (refused ≡ Memory) ⊎ (file_text gave file MODULE_BYTES name ≡ Err refused)
AreTexts gave file (name ∷ names) (text ∷ texts) failed =
    (file_text gave file MODULE_BYTES name ≡ Ok text) × AreTexts gave (file + 1) names texts failed
AreTexts _ _ _ _ _ = ⊥

-- what these texts come to, the first of which has this number, with the failure after them
abbrev pub TextsDecide : ℕ → List (List ℕ) → Option Refused → Result (List ReadModule) Refused → Type 0
TextsDecide file [] None verdict = verdict ≡ Ok []
TextsDecide file [] (Some refused) verdict = verdict ≡ Err refused
TextsDecide file (text ∷ texts) failed (Err refused) =
    ModuleOf file text (Err refused)
    ⊎ ((read : ReadModule) × ModuleOf file text (Ok read) × TextsDecide (file + 1) texts failed (Err refused))
TextsDecide file (text ∷ texts) failed (Ok []) = ⊥
TextsDecide file (text ∷ texts) failed (Ok (read ∷ reads)) = ModuleOf file text (Ok read) × TextsDecide (file + 1) texts failed (Ok reads)

-- the bytes of texts
abbrev pub bytes_of : List (Vec ℕ Global) → List (List ℕ)
bytes_of texts = map (λ v. v.items) texts

-- what one text comes to, or out of memory
abbrev pub IsParsed : ℕ → List ℕ → Result RawModule Refused → Type 0
IsParsed file text (Ok tree) = ModuleText text (Ok (view_module tree))
IsParsed file text (Err refused) = (refused ≡ Memory) ⊎ ModuleOf file text (Err refused)

-- what the texts come to, or out of memory
abbrev pub AreParsed : List (Vec ℕ Global) → Option Refused → Result (Vec RawModule Global) Refused → Type 0
AreParsed texts failed (Ok trees) = TextsDecide 1 (bytes_of texts) failed (Ok (reads_of 1 texts trees.items))
AreParsed texts failed (Err refused) = (refused ≡ Memory) ⊎ TextsDecide 1 (bytes_of texts) failed (Err refused)

-- the refusal of modules for a rule of names and types, or out of memory
abbrev pub IsRuleRefusal : List ReadModule → TypeFault → Refused → Type 0
IsRuleRefusal reads (types.Rule number at rule) refused = refused ≡ rule_refusal reads number at rule
IsRuleRefusal reads types.Memory refused = refused ≡ Memory

-- the refusal of a cell, or out of memory
abbrev pub IsCellRefusal : ScriptData → List ReadModule → CellFault → Refused → Type 0
IsCellRefusal script reads (cells.Clash task number at) refused = refused ≡ cell_refusal script reads (Clash task number at)
IsCellRefusal script reads (cells.Script key rule) refused = refused ≡ Script key rule
IsCellRefusal script reads cells.Memory refused = refused ≡ Memory

-- their texts are within the limit of a module
abbrev pub AreShort : Option ModuleTexts → Type 0
AreShort None = Unit {0}
AreShort (Some modules) = All IsWithin modules.texts.items
