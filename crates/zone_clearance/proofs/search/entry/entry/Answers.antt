use Rattle.std.proofs.Common.{pos, ◌*ℤ◌, ◌<ℤ◌}
use Rattle.std.proofs.lemmas.Bool.{false≢true}
use Rattle.std.proofs.lemmas.Int.{by_lt_z}
use Rattle.zone_clearance.proofs.Entries.{never_under}
use Rattle.zone_clearance.proofs.Products.{line_value}
use Rattle.zone_clearance.proofs.search.entry.entry.Goals as goal

pub returns-then-not-is_at_least : goal.returns-then-not-is_at_least
returns-then-not-is_at_least c =
    let line = c.args.line in
    let level = c.args.level in
    let start : pos level.top <ℤ (line.start *ℤ pos level.bottom) =
    by_lt_z _ _ (λ above. above) (λ under. absurd (false≢true (c.if-is_at_least.ensures.1 (rw (line_value line.start line.small_start) under)))) in
    let end : pos level.top <ℤ (line.end *ℤ pos level.bottom) =
    by_lt_z _ _ (λ above. above) (λ under. absurd (false≢true (c.if-not-is_at_least.ensures.1 (rw (line_value line.end line.small_end) under)))) in
    λ k m some way under. never_under line.start line.end level.top level.bottom k m start end some way under
