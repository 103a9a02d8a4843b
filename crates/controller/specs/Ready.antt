-- What an action is done with.
use Rattle.std.specs.Prelude.{◌≡◌, ℕ, ◌⊎◌, List, length, Result, Ok, Err, String, string_bytes}
use Rattle.std.specs.declared.alloc.Global.{Global}
use Rattle.rapid_model.specs.ScriptData.{ScriptData}
use Rattle.cell_script.specs.Break.{ScriptBreak}
use Rattle.cell_script.specs.ScriptOf.{ScriptOf}
use Rattle.cell_assembly.specs.Made.{MadeCell}
use Rattle.accepted_cells.specs.Accepted.{IsAccepted}
use Rattle.script_migration.specs.Migrated.{Migrates}
use Rattle.cell_loading.specs.declared.refused.Refused.{Refused}
use Rattle.cell_loading.specs.declared.refused.Refused.TheVariants.{Script, Memory}

-- the cell of some accepted script, and a tree for each of its tasks
pub record HasScript (made : MadeCell) : Type 0 where
  pub script : ScriptData
  pub accepted : IsAccepted script made
  pub one_each : length made.trees ≡ length made.cell.tasks

-- the script in version 2 that the result of reading its file comes to, or out of memory
abbrev pub IsMigratedIn : Result (List ℕ) Refused → Result (String Global) Refused → Type 0
IsMigratedIn read (Ok printed) = (text : List ℕ) × (read ≡ Ok text) × Migrates text (string_bytes printed)
IsMigratedIn read (Err refused) =
    (refused ≡ Memory) ⊎ ((read ≡ Err refused)
    ⊎ ((text : List ℕ) × (broken : ScriptBreak) × (read ≡ Ok text) × ScriptOf text (Err broken) × (refused ≡ Script broken.key broken.rule)))
