-- Checks of the rules of names and types.
use Rattle.std.specs.Prelude.{ℕ, Option, Some, None, Result}
use Rattle.rule_checks.specs.declared.fault.TypeFault.{TypeFault}
use Rattle.rule_checks.specs.declared.fault.TypeFault.TheVariants.{Rule, Memory}
use Rattle.rule_checks.specs.declared.rule.TypeRule.{TypeRule}
use Rattle.rule_checks.specs.declared.spot.Spot.{Spot}
use Rattle.rule_checks.specs.Gives as words

-- a broken rule and its position
pub record TypeBreak : Type 0 where
  pub «module» : ℕ
  pub at : ℕ
  pub rule : TypeRule

abbrev pub Checked : Type 0 → Type 0
Checked A = Result A TypeBreak

-- a rule broken at a spot
abbrev pub at_spot : Spot → TypeRule → TypeBreak
at_spot spot rule = record { «module» = spot.«module»; at = spot.at; rule = rule }

-- the broken rule in a fault; out of memory has none
abbrev pub broken_rule : TypeFault → Option TypeBreak
broken_rule (Rule number at rule) = Some (record { «module» = number; at = at; rule = rule })
broken_rule Memory = None

abbrev pub Fails : {A : Type 0} → TypeFault → Checked A → Type 0
Fails fault check = words.Fails (broken_rule fault) check

abbrev pub Gives : {X A : Type 0} → (X → A) → Result X TypeFault → Checked A → Type 0
Gives view result check = words.Gives broken_rule view result check
