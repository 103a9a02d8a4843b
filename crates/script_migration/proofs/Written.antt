-- A text that is written of another text's table.
use Rattle.std.proofs.Common.{◌≡◌, ℕ, List, Option, Some, None, Ok, String, Global, IfSome, string_bytes, subst, sym, ◌∙◌}
use Rattle.std.proofs.lemmas.Option.{same_Some}
use Rattle.toml.specs.Data.{Members}
use Rattle.rapid_model.specs.ScriptData.{ScriptData}
use Rattle.cell_script.specs.ScriptOf.{IsTable, script_of}
use Rattle.script_migration.specs.Migrated.{IsWritten, Migrates, with_version_2}
use Rattle.script_migration.proofs.Same.{same_script}

pub is_written : (text : List ℕ) (old new : Members) (printed : Option (String Global)) → IsTable text old → new ≡ with_version_2 old → IfSome printed (λ s. IsTable (string_bytes s) new)
    → IfSome printed (λ s. IsWritten text (string_bytes s))
is_written text old new None read same written = tt
is_written text old new (Some s) read same written =
    record { members = old; read = read; written = subst (λ (ms : Members). IsTable (string_bytes s) ms) same written }

-- a text is read as one table, so what was printed is of the table that spells the script
pub migrates : (text new : List ℕ) (members : Members) (script : ScriptData) → IsWritten text new → IsTable text members → script_of members ≡ Ok script → Migrates text new
migrates text new members script written read is =
    let same : members ≡ written.members = same_Some members written.members (sym read.table ∙ written.read.table) in
    let here : script_of written.members ≡ Ok script = subst (λ (ms : Members). script_of ms ≡ Ok script) same is in
    record { text = written; script = script; before = here; after = same_script written.members script here }
