use Rattle.std.proofs.Common.{sym, ◌∙◌, ap, pos, ℕ}
use Rattle.std.proofs.lemmas.Bool.{false≢true}
use Rattle.zone_clearance.proofs.ClaimNumbers.{at_least_read, lowest_read, not_above_read, read_lowest, size_read, some_read}
use Rattle.zone_clearance.proofs.check.claiming.claim_of.Goals as goal
use Rattle.zone_clearance.proofs.check.claiming.claim_of.Goals.{then-not-are_coprime-via-then-not-are_coprime, then-not-are_coprime-via-else-not-are_coprime+then-not-are_coprime-2}

pub returns-then-not-are_coprime : goal.returns-then-not-are_coprime
returns-then-not-are_coprime c = λ written.
    let gap = c.args.gap.now in
    let small = c.requires in
    elim c.then-not-are_coprime.branch [
      | then-not-are_coprime-via-then-not-are_coprime w ↦
          false≢true (sym w.if-not-are_coprime.true ∙ c.are_coprime.ensures.1 (read_lowest gap.top gap.bottom small.top small.bottom written.distance.lowest))
      | then-not-are_coprime-via-else-not-are_coprime+then-not-are_coprime-2 w ↦
          false≢true (sym w.if-not-are_coprime-2.true ∙ w.are_coprime-else-not-are_coprime.ensures.1 (read_lowest gap.at_top gap.at_bottom small.at_top small.at_bottom written.place.lowest))
    ]

pub returns : goal.returns
returns c =
    let gap = c.args.gap.now in
    let small = c.requires in
    let top = at_least_read gap.top (pos 0) small.top c.if-gap-lt0.false in
    let bottom = at_least_read gap.bottom (pos 1) small.bottom c.if-gap-lt1.false in
    let at_top = at_least_read gap.at_top (pos 0) small.at_top c.if-gap-lt0-2.false in
    let at_bottom = at_least_read gap.at_bottom (pos 1) small.at_bottom c.if-gap-lt1-2.false in
    record {
      written = record {
        distance = record {
          not_negative = top;
          positive = bottom;
          lowest = lowest_read gap.top gap.bottom small.top small.bottom (c.are_coprime.ensures.0 c.if-not-are_coprime.false);
        };
        place = record {
          not_negative = at_top;
          positive = at_bottom;
          lowest = lowest_read gap.at_top gap.at_bottom small.at_top small.at_bottom (c.are_coprime-else-not-are_coprime.ensures.0 c.if-not-are_coprime-2.false);
        };
        on_the_way = not_above_read gap.at_top gap.at_bottom small.at_top small.at_bottom c.if-gap.false;
      };
      top = size_read gap.top small.top top;
      bottom = size_read gap.bottom small.bottom (some_read gap.bottom bottom);
      at_top = size_read gap.at_top small.at_top at_top ∙ ap (λ (n : ℕ). pos n) (sym c.new.ensures.top);
      at_bottom = size_read gap.at_bottom small.at_bottom (some_read gap.at_bottom at_bottom) ∙ ap (λ (n : ℕ). pos n) (sym c.new.ensures.bottom);
    }
