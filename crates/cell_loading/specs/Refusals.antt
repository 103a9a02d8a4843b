-- The status of a refusal, and the file that it is about.
use Rattle.std.specs.Prelude.{ℕ, List, Option, Some, None}
use Rattle.cell_loading.specs.declared.refused.Refused.{Refused}
use Rattle.cell_loading.specs.declared.refused.Refused.TheVariants.{Words, Script, Module, Read, Write, Memory, TooLong, History}
use Rattle.cell_loading.specs.declared.refused.ModuleRule.{ModuleRule}
use Rattle.cell_loading.specs.declared.refused.ModuleRule.TheVariants as modules
use Rattle.rapid_lexer.specs.Names.{lex_rule_name}
use Rattle.rule_checks.specs.Names.{type_rule_name}
use Rattle.rapid_forms.specs.Names.{syntax_rule_name}

abbrev pub status_of : Refused → ℕ
status_of (Words place) = 2
status_of (Script key rule) = 3
status_of (Module file place rule) = 4
status_of (Read file) = 5
status_of Write = 6
status_of Memory = 7
status_of (TooLong file) = 10
status_of (History line) = 11

abbrev pub module_rule_name : ModuleRule → List ℕ
module_rule_name (modules.Lex rule) = lex_rule_name rule
module_rule_name (modules.Syntax rule) = syntax_rule_name rule
module_rule_name (modules.«Type» rule) = type_rule_name rule

-- the number of the file that a refusal is about
abbrev pub file_of : Refused → Option ℕ
file_of (Words place) = None
file_of (Script key rule) = None
file_of (Module file place rule) = Some file
file_of (Read file) = Some file
file_of Write = None
file_of Memory = None
file_of (TooLong file) = Some file
file_of (History line) = None
