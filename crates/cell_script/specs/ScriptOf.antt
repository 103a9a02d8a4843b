-- What the text of a cell script means.
use Rattle.std.specs.Prelude.{◌≡◌, ◌⊎◌, ℕ, List, [], ◌∷◌, codes, Some, None, Ok, Err}
use Rattle.std.specs.Str.{IsUtf8}
use Rattle.rapid_limits.specs.declared.TheConstants.{DEFAULT_STEPS, MOST_CELL_ZONES, MOST_INPUTS, MOST_PERS_VALUES, MOST_SIGNALS, MOST_STEPS, NEWEST_VERSION}
use Rattle.toml.specs.Data.{Members}
use Rattle.toml.specs.Parse.{parse_document}
use Rattle.rapid_model.specs.ScriptData.{ScriptData, most_tasks}
use Rattle.rapid_model.specs.declared.script_rule.ScriptRule.TheVariants.{NotToml}
use Rattle.cell_script.specs.declared.fault.ScriptFault.{ScriptFault}
use Rattle.cell_script.specs.declared.fault.ScriptFault.TheVariants.{Rule, Memory}
use Rattle.rule_checks.specs.Checks.{◌>>=◌}
use Rattle.cell_script.specs.Break.{ScriptBreak, Read}
use Rattle.cell_script.specs.Keys.{Keys, needed, optional, value_of, only_keys, whole_at, rows_at, each_row}
use Rattle.cell_script.specs.Rows.{signal_of, task_of, pers_of, zone_of, input_of}

-- the script that a table spells, or the first rule that it breaks, in the order of its keys
unfoldable pub script_of_keys : Keys → Read ScriptData
script_of_keys keys = do
  version ← needed keys (codes "version") >>= whole_at (codes "version") 1 NEWEST_VERSION
  steps ← optional DEFAULT_STEPS (whole_at (codes "steps") 1 MOST_STEPS) (value_of keys (codes "steps"))
  signals ← optional [] (λ d. rows_at (codes "signal") 0 MOST_SIGNALS d >>= each_row signal_of []) (value_of keys (codes "signal"))
  tasks ← needed keys (codes "task") >>= rows_at (codes "task") 1 (most_tasks version) >>= each_row (task_of version) []
  pers ← optional [] (λ d. rows_at (codes "pers") 0 MOST_PERS_VALUES d >>= each_row pers_of []) (value_of keys (codes "pers"))
  zones ← optional [] (λ d. rows_at (codes "zone") 0 MOST_CELL_ZONES d >>= each_row (zone_of signals tasks) []) (value_of keys (codes "zone"))
  inputs ← optional [] (λ d. rows_at (codes "input") 0 MOST_INPUTS d >>= each_row (input_of signals tasks) []) (value_of keys (codes "input"))
  only_keys keys (codes "version" ∷ codes "steps" ∷ codes "signal" ∷ codes "task" ∷ codes "pers" ∷ codes "zone" ∷ codes "input" ∷ [])
      (Ok (record { version = version; steps = steps; signals = signals; tasks = tasks; pers = pers; zones = zones; inputs = inputs }))

abbrev pub script_of : Members → Read ScriptData
script_of members = script_of_keys (record { path = []; members = members })

-- the text is UTF-8, and TOML reads it as a table with these keys
pub record IsTable (text : List ℕ) (members : Members) : Type 0 where
  pub utf8 : IsUtf8 text
  pub table : parse_document text ≡ Some members

-- the text is not TOML, which is reported for the script as a whole: the key is empty
pub record IsNoToml (text : List ℕ) (broken : ScriptBreak) : Type 0 where
  pub is : broken ≡ record { key = []; rule = NotToml }
  pub refused : IsUtf8 text → parse_document text ≡ None

-- the script that a text spells, or the first rule that it breaks
abbrev pub ScriptOf : List ℕ → Read ScriptData → Type 0
ScriptOf text (Ok script) = (members : Members) × IsTable text members × (script_of members ≡ Ok script)
ScriptOf text (Err broken) = IsNoToml text broken ⊎ ((members : Members) × IsTable text members × (script_of members ≡ Err broken))

-- why a text was refused: the broken rule and its key; out of memory says nothing about the text
abbrev pub FaultOf : List ℕ → ScriptFault → Type 0
FaultOf text (Rule key rule) = ScriptOf text (Err (record { key = key; rule = rule }))
FaultOf text Memory = Unit {0}
