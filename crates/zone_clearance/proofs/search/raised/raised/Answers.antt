use Rattle.std.proofs.Common.{◌∙◌}
use Rattle.std.proofs.lemmas.Bool.{false≢true}
use Rattle.std.proofs.lemmas.Int.{by_lt_z}
use Rattle.zone_clearance.proofs.Products.{line_value}
use Rattle.zone_clearance.proofs.Raising.{IsRaised-swap, ends-swap, ends_met}
use Rattle.zone_clearance.proofs.search.raised.raised.Goals as goal

pub returns-then-is_at_least : goal.returns-then-is_at_least
returns-then-is_at_least c =
    ends_met c.args.one c.args.two c.args.best _ (line_value _ c.lower_end-ends.ensures.small ∙ c.lower_end-ends.ensures.lower)
    (c.is_at_least.ensures.0 c.if-is_at_least.true)

pub raised_between-requires-clause-above : goal.raised_between-requires-clause-above
raised_between-requires-clause-above c =
    by_lt_z _ _ (λ above. above) (λ under. absurd (false≢true (c.if-is_at_least.ensures.1 under)))

pub raised_between-requires-else-one-two-clause-ends : goal.raised_between-requires-else-one-two-clause-ends
raised_between-requires-else-one-two-clause-ends c =
    line_value _ c.lower_end-ends.ensures.small ∙ c.lower_end-ends.ensures.lower ∙ ends-swap c.args.one.start c.args.one.end c.args.two.start c.args.two.end

pub raised_between-requires-else-one-two-clause-above : goal.raised_between-requires-else-one-two-clause-above
raised_between-requires-else-one-two-clause-above c =
    by_lt_z _ _ (λ above. above) (λ under. absurd (false≢true (c.if-is_at_least.ensures.1 under)))

pub returns-else-one-two : goal.returns-else-one-two
returns-else-one-two c = IsRaised-swap c.args.two c.args.one c.args.best _ c.raised_between-else-one-two.ensures
