-- The names of the rules for tokens in error messages.
use Rattle.std.specs.Prelude.{ℕ, List, codes}
use Rattle.rapid_lexer.specs.declared.fault.LexRule.{LexRule}
use Rattle.rapid_lexer.specs.declared.fault.LexRule.TheVariants as lexes

abbrev pub lex_rule_name : LexRule → List ℕ
lex_rule_name lexes.BadByte = codes "BadByte"
lex_rule_name lexes.OpenString = codes "OpenString"
lex_rule_name lexes.BadEscape = codes "BadEscape"
lex_rule_name lexes.LongString = codes "LongString"
lex_rule_name lexes.LongName = codes "LongName"
lex_rule_name lexes.BadLiteral = codes "BadLiteral"
lex_rule_name lexes.OpenHeader = codes "OpenHeader"
