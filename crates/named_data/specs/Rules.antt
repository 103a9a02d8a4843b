-- Rules that are reported at a byte of a module.
use Rattle.std.specs.Prelude.{ℕ, Err}
use Rattle.rule_checks.specs.declared.rule.TypeRule.{TypeRule}
use Rattle.rule_checks.specs.declared.spot.Spot.{Spot}
use Rattle.rule_checks.specs.TypeChecks.{Checked, TypeBreak}
use Rattle.data_scopes.specs.Scopes.{Names}

-- the names of a task's modules, and the spot of the current expression or statement
pub record Site : Type 0 where
  pub names : Names
  pub spot : Spot

-- a rule that is broken at a byte of the spot's module
abbrev pub at_byte : Site → ℕ → TypeRule → TypeBreak
at_byte site at rule = record { «module» = site.spot.«module»; at = at; rule = rule }

abbrev pub fail : {A : Type 0} → Site → ℕ → TypeRule → Checked A
fail site at rule = Err (at_byte site at rule)
