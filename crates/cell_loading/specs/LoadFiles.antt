-- The files of the load cell, which are its own texts.
use Rattle.std.specs.Prelude.{ℕ, zero, suc, List, [], Some, bytes_eq}
use Rattle.std.specs.Map.{lookup}
use Rattle.std.specs.Option.{unwrap_or}
use Rattle.cell_load.specs.Texts.{module_files, script_text}
use Rattle.cell_loading.specs.Files.{Reads}

-- the text of the module with this name, or an empty one if no module has it
abbrev pub module_named : List (List ℕ × List ℕ) → List ℕ → List ℕ
module_named files name = unwrap_or (lookup (bytes_eq name) files) []

-- the results of reading them: the first is the script, whatever its name, and the others are its modules
abbrev pub load_reads : ℕ → Reads
load_reads moves zero name = Some (script_text moves)
load_reads moves (suc file) name = Some (module_named (module_files moves) name)
