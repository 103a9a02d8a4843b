use Rattle.std.proofs.Common.{◌∙◌, refl, arith}
use Rattle.std.proofs.lemmas.Bool.{false≢true}
use Rattle.std.proofs.lemmas.Int.{ints}
use Rattle.zone_clearance.proofs.Products.{line_value, positive_from_product}
use Rattle.zone_clearance.proofs.Raising.{IsWhole, crossing_met, raised_by_upper, raised_to_ends, raised_to_crossing}
use Rattle.zone_clearance.proofs.search.raised.raised_between.Goals as goal

pub returns-then-lower-upper : goal.returns-then-lower-upper
returns-then-lower-upper c =
    let whole : IsWhole c.whole.result c.args.ends = record { top = c.whole.ensures.top ∙ line_value _ c.requires.small; bottom = c.whole.ensures.bottom } in
    raised_by_upper c.args.upper c.args.lower c.args.best _ c.args.ends c.requires.ends whole c.requires.above c.requires.upper (omega (arith, ints))

pub returns-in_err-level : goal.returns-in_err-level
returns-in_err-level c =
    rw c.from_residual.ensures
    (crossing_met c.args.upper c.args.lower c.args.best c.requires.upper (omega (arith, ints)) c.in_err-level.ensures)

pub whole-requires-then-is_at_least-clause-not_negative : goal.whole-requires-then-is_at_least-clause-not_negative
whole-requires-then-is_at_least-clause-not_negative c =
    rw (line_value _ c.requires.small) (positive_from_product c.args.ends _ _ c.requires.above)

pub returns-then-is_at_least : goal.returns-then-is_at_least
returns-then-is_at_least c =
    let level = c.whole-then-is_at_least in
    let whole : IsWhole level.result c.args.ends = record { top = level.ensures.top ∙ line_value _ c.requires.small; bottom = level.ensures.bottom } in
    raised_to_ends c.args.upper c.args.lower c.args.best _ c.in_ok-level.level c.args.ends c.requires.ends whole c.requires.above c.requires.upper (omega (arith, ints)) c.in_ok-level.ensures
    (rw (line_value _ c.requires.small) at (c.if-is_at_least.ensures.0 refl))

pub returns-else-is_at_least : goal.returns-else-is_at_least
returns-else-is_at_least c =
    raised_to_crossing c.args.upper c.args.lower c.args.best c.in_ok-level.level c.args.ends c.requires.ends c.requires.upper (omega (arith, ints)) c.in_ok-level.ensures
    (λ low. false≢true (c.if-is_at_least.ensures.1 (rw (line_value _ c.requires.small) low)))
