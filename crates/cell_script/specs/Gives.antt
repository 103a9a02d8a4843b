-- The result of reading a part of the script.
use Rattle.std.specs.Prelude.{ℕ, List, [], Option, Some, None, Result}
use Rattle.toml.specs.View.{table_view}
use Rattle.rule_checks.specs.Gives as words
use Rattle.cell_script.specs.declared.fault.ScriptFault.{ScriptFault}
use Rattle.cell_script.specs.declared.fault.ScriptFault.TheVariants.{Rule, Memory}
use Rattle.cell_script.specs.declared.keys.TableKeys.{TableKeys}
use Rattle.cell_script.specs.declared.path.Path.{Path}
use Rattle.cell_script.specs.declared.path.Path.TheVariants.{Script, Element}
use Rattle.cell_script.specs.Break.{ScriptBreak, Read, element_key}
use Rattle.cell_script.specs.Keys.{Keys}

-- the broken rule that a fault names; out of memory names none
abbrev pub broken_rule : ScriptFault → Option ScriptBreak
broken_rule (Rule key rule) = Some (record { key = key; rule = rule })
broken_rule Memory = None

abbrev pub Fails : {A : Type 0} → ScriptFault → Read A → Type 0
Fails fault read = words.Fails (broken_rule fault) read

abbrev pub Gives : {X A : Type 0} → (X → A) → Result X ScriptFault → Read A → Type 0
Gives view result read = words.Gives broken_rule view result read

-- where a table is
abbrev pub path_of : Path → List ℕ
path_of Script = []
path_of (Element array index) = element_key array.now index

-- a table, and where it is
abbrev pub view_keys : TableKeys → Keys
view_keys keys = record { path = path_of keys.path; members = table_view keys.table.now }
