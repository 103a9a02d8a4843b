-- The names of the rules for a cell script.
use Rattle.std.specs.Prelude.{ℕ, List, codes}
use Rattle.rapid_model.specs.declared.script_rule.ScriptRule.{ScriptRule}
use Rattle.rapid_model.specs.declared.script_rule.ScriptRule.TheVariants as rules

abbrev pub rule_name : ScriptRule → List ℕ
rule_name rules.NotToml = codes "NotToml"
rule_name rules.NoKey = codes "NoKey"
rule_name rules.Kind = codes "Kind"
rule_name rules.UnknownKey = codes "UnknownKey"
rule_name rules.Range = codes "Range"
rule_name rules.Name = codes "Name"
rule_name rules.Twice = codes "Twice"
rule_name rules.NoSuch = codes "NoSuch"
rule_name rules.Pair = codes "Pair"
