use Rattle.std.proofs.Common.{◌≤◌, length, arith}
use Rattle.zone_clearance.proofs.Finding.{IsMadeOf, IsNumbered, arrival_is, arrives, outside_is, outside_side, some_arrival}
use Rattle.zone_clearance.proofs.search.gap_of.outside_gap.Goals as goal

pub unwrap-arrival-requires : goal.unwrap-arrival-requires
unwrap-arrival-requires c =
    let lines = c.lines_of-lines.result in
    let level = c.least_end-level.result in
    let room : length lines ≤ 25 = omega arith in
    arrives lines level 25 c.earliest_entry.result c.earliest_entry.ensures
    (some_arrival c.args.p.now c.args.q.now c.args.shape.now.bounds lines level 25 c.lines_of-lines.ensures c.least_end-level.ensures c.requires.named room)

pub returns-clause-gap : goal.returns-clause-gap
returns-clause-gap c =
    let shape = c.args.shape.now in
    let lines = c.lines_of-lines.result in
    let level = c.least_end-level.result in
    let arrival = c.unwrap-arrival.result in
    let room : length lines ≤ 25 = omega arith in
    let there = arrival_is lines level 25 c.earliest_entry.result arrival c.unwrap-arrival.ensures c.earliest_entry.ensures in
    let made : IsMadeOf c.gap_at.result level.top level.bottom arrival.place.top arrival.place.bottom = record { written = c.gap_at.ensures.written; distance = c.gap_at.ensures.distance; place = c.gap_at.ensures.place } in
    outside_is c.args.p.now c.args.q.now shape.inside shape.bounds lines level arrival 25 c.gap_at.result c.requires.outside c.lines_of-lines.ensures c.least_end-level.ensures there room made

pub returns-clause-side : goal.returns-clause-side
returns-clause-side c =
    let shape = c.args.shape.now in
    let lines = c.lines_of-lines.result in
    let level = c.least_end-level.result in
    let arrival = c.unwrap-arrival.result in
    let there = arrival_is lines level 25 c.earliest_entry.result arrival c.unwrap-arrival.ensures c.earliest_entry.ensures in
    let made : IsMadeOf c.gap_at.result level.top level.bottom arrival.place.top arrival.place.bottom = record { written = c.gap_at.ensures.written; distance = c.gap_at.ensures.distance; place = c.gap_at.ensures.place } in
    let first : IsNumbered c.numbered_side.result arrival.number = record { is = c.numbered_side.ensures.side; order = c.numbered_side.ensures.order } in
    outside_side c.args.p.now c.args.q.now shape.inside shape.bounds lines level arrival 25 c.gap_at.result c.numbered_side.result c.requires.outside c.lines_of-lines.ensures there made c.gap_at.ensures.first first
