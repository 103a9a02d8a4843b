use Rattle.std.proofs.Common.{sym, ◌∙◌}
use Rattle.std.proofs.lemmas.Bool.{false≢true}
use Rattle.history_audit.proofs.fates.is_fate.Goals as goal

pub returns-then-whole : goal.returns-then-whole
returns-then-whole c = (
  λ found. (c.if-whole.true, c.same_fate.ensures.0 found ∙ c.fate.ensures),
  λ right. c.same_fate.ensures.1 (right.1 ∙ sym c.fate.ensures),
)

pub returns-else-whole : goal.returns-else-whole
returns-else-whole c = (λ found. absurd (false≢true (sym c.if-whole.false ∙ found)), λ right. absurd (false≢true (sym c.if-whole.false ∙ right.0)))
