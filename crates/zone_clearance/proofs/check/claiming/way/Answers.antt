use Rattle.std.proofs.Common.{◌<◌, ◌-◌, ◌^◌, arith}
use Rattle.zone_clearance.proofs.Wide.{part_value, sum_fits, sum_value}
use Rattle.zone_clearance.proofs.check.claiming.way.Goals as goal

pub overflow_add-result : goal.overflow_add-result
overflow_add-result c =
    let line = c.args.line in
    let place = c.args.place in
    let rest : place.bottom - place.top < 2 ^ 60 = omega (arith, place.small) in
    let top : place.top < 2 ^ 60 = omega (arith, place.small, place.on_the_way) in
    sum_fits _ _ line.start line.end (place.bottom - place.top) place.top line.small_start rest line.small_end top
    (part_value _ _ line.start (place.bottom - place.top) line.small_start rest c.from.ensures c.from-2.ensures)
    (part_value _ _ line.end place.top line.small_end top c.from-3.ensures c.from-4.ensures)

pub returns : goal.returns
returns c =
    let line = c.args.line in
    let place = c.args.place in
    let rest : place.bottom - place.top < 2 ^ 60 = omega (arith, place.small) in
    let top : place.top < 2 ^ 60 = omega (arith, place.small, place.on_the_way) in
    sum_value _ _ line.start line.end place.top place.bottom line.small_start line.small_end place.on_the_way place.small
    (part_value _ _ line.start (place.bottom - place.top) line.small_start rest c.from.ensures c.from-2.ensures)
    (part_value _ _ line.end place.top line.small_end top c.from-3.ensures c.from-4.ensures)
