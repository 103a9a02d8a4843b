-- The names of the rules in error messages.
use Rattle.std.specs.Prelude.{ℕ, List, codes}
use Rattle.rule_checks.specs.declared.rule.TypeRule.{TypeRule}
use Rattle.rule_checks.specs.declared.rule.TypeRule.TheVariants as types

abbrev pub type_rule_name : TypeRule → List ℕ
type_rule_name types.NameTwice = codes "NameTwice"
type_rule_name types.NameTaken = codes "NameTaken"
type_rule_name types.NoName = codes "NoName"
type_rule_name types.NotThis = codes "NotThis"
type_rule_name types.TypeClash = codes "TypeClash"
type_rule_name types.NoInit = codes "NoInit"
type_rule_name types.NotConst = codes "NotConst"
type_rule_name types.ConstOrder = codes "ConstOrder"
type_rule_name types.ConstFault = codes "ConstFault"
type_rule_name types.DimRange = codes "DimRange"
type_rule_name types.WholeArray = codes "WholeArray"
type_rule_name types.ReadOnly = codes "ReadOnly"
type_rule_name types.BadRef = codes "BadRef"
type_rule_name types.ArgCount = codes "ArgCount"
type_rule_name types.ArgName = codes "ArgName"
type_rule_name types.NoLabel = codes "NoLabel"
type_rule_name types.LabelTwice = codes "LabelTwice"
type_rule_name types.HandlerOnly = codes "HandlerOnly"
type_rule_name types.ReturnKind = codes "ReturnKind"
type_rule_name types.PersKind = codes "PersKind"
type_rule_name types.CornerZone = codes "CornerZone"
type_rule_name types.ToolOnly = codes "ToolOnly"
type_rule_name types.SyncName = codes "SyncName"
type_rule_name types.NoArm = codes "NoArm"
type_rule_name types.NoMain = codes "NoMain"
type_rule_name types.DataRange = codes "DataRange"
type_rule_name types.PersType = codes "PersType"
