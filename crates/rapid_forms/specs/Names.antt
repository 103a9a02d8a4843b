-- The names of the rules of syntax in error messages.
use Rattle.std.specs.Prelude.{ℕ, List, codes}
use Rattle.rapid_forms.specs.declared.fault.SyntaxRule.{SyntaxRule}
use Rattle.rapid_forms.specs.declared.fault.SyntaxRule.TheVariants as syntaxes

abbrev pub syntax_rule_name : SyntaxRule → List ℕ
syntax_rule_name syntaxes.Syntax = codes "Syntax"
syntax_rule_name syntaxes.LeftOut = codes "LeftOut"
syntax_rule_name syntaxes.TooDeep = codes "TooDeep"
