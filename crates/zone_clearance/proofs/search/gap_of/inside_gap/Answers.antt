use Rattle.zone_clearance.proofs.Finding.{IsMadeOf, IsNumbered, inside_is, inside_sides, zero_line}
use Rattle.zone_clearance.proofs.search.gap_of.inside_gap.Goals as goal

pub best_pair-best-requires : goal.best_pair-best-requires
best_pair-best-requires c = record { zero = zero_line c.args.p.now c.args.q.now c.args.shape.now.bounds c.lines_of-lines.result c.lines_of-lines.ensures }

pub returns-clause-gap : goal.returns-clause-gap
returns-clause-gap c =
    let shape = c.args.shape.now in
    let best = c.best_pair-best.result in
    let place = c.latest_entry-place.result in
    let made : IsMadeOf c.gap_at.result best.level.top best.level.bottom place.top place.bottom = record { written = c.gap_at.ensures.written; distance = c.gap_at.ensures.distance; place = c.gap_at.ensures.place } in
    inside_is c.args.p.now c.args.q.now shape.inside shape.bounds c.lines_of-lines.result best place c.gap_at.result c.requires.inside c.lines_of-lines.ensures c.best_pair-best.ensures c.latest_entry-place.ensures made

pub returns-clause-sides : goal.returns-clause-sides
returns-clause-sides c =
    let shape = c.args.shape.now in
    let best = c.best_pair-best.result in
    let place = c.latest_entry-place.result in
    let made : IsMadeOf c.gap_at.result best.level.top best.level.bottom place.top place.bottom = record { written = c.gap_at.ensures.written; distance = c.gap_at.ensures.distance; place = c.gap_at.ensures.place } in
    let first : IsNumbered c.numbered_side.result best.first = record { is = c.numbered_side.ensures.side; order = c.numbered_side.ensures.order } in
    let second : IsNumbered c.numbered_side-2.result best.second = record { is = c.numbered_side-2.ensures.side; order = c.numbered_side-2.ensures.order } in
    inside_sides c.args.p.now c.args.q.now shape.inside shape.bounds c.lines_of-lines.result best place c.gap_at.result c.numbered_side.result c.numbered_side-2.result c.requires.inside c.lines_of-lines.ensures c.best_pair-best.ensures made
    c.gap_at.ensures.first c.gap_at.ensures.second first second
