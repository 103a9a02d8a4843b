use Rattle.std.proofs.Common.{◌<◌, ◌≤◌, length, arith}
use Rattle.clearance_lines.proofs.ArmPositions.{zone_arm, zone_in_reach, zone_names}
use Rattle.clearance_lines.proofs.Walking.{begins, same_start, some_small, some_start, starts_well, to_well, walked_past, walked_to, zone_ends, zone_stays}
use Rattle.clearance_lines.proofs.clearances.print_zone.Goals as goal
use Rattle.clearance_lines.proofs.clearances.print_zone.Goals.{in-Some, in_default}

pub unwrap-start-requires : goal.unwrap-start-requires
unwrap-start-requires g c = some_start c.args.core.now.cell c.args.zone.now c.start_of.result c.start_of.ensures (zone_arm c.args.core.now.cell c.args.zone.now c.requires.limits c.requires.zone)

pub loop-k-init : goal.loop-k-init
loop-k-init g c =
    let cell = c.args.core.now.cell in
    let zone = c.args.zone.now in
    let z = zone_arm cell zone c.requires.limits c.requires.zone in
    begins cell c.args.core.now.history zone c.unwrap-start.result c.args.before _ z (same_start cell zone c.start_of.result c.unwrap-start.result c.start_of.ensures c.unwrap-start.ensures z)

pub measured-move_to-requires-clause-named : goal.measured-move_to-requires-clause-named
measured-move_to-requires-clause-named g c = zone_names c.args.core.now.cell c.args.zone.now (zone_arm c.args.core.now.cell c.args.zone.now c.requires.limits c.requires.zone)

pub measured-move_to-requires-clause-in_reach : goal.measured-move_to-requires-clause-in_reach
measured-move_to-requires-clause-in_reach g c =
    let cell = c.args.core.now.cell in
    let zone = c.args.zone.now in
    let history = c.args.core.now.history in
    let z = zone_arm cell zone c.requires.limits c.requires.zone in
    let inside = c.loop-k-test.true in
    let same = c.len-k-end.ensures.same in
    let lt : c.loop-k.k < length history = omega (arith, inside, same) in
    zone_in_reach cell zone c.loop-k.at c.in-Some.to z c.loop-k.invariant.well (to_well cell history zone c.in-Some.to c.given_to.result c.loop-k.k c.requires.answered z lt (λ e at. c.given_to.ensures e at) c.in-Some.is)

pub nearer-requires-clause-old : goal.nearer-requires-clause-old
nearer-requires-clause-old g c = c.loop-k.invariant.small

pub loop-k-preserved : goal.loop-k-preserved
loop-k-preserved g c =
    let cell = c.args.core.now.cell in
    let zone = c.args.zone.now in
    let history = c.args.core.now.history in
    let z = zone_arm cell zone c.requires.limits c.requires.zone in
    let inside = c.loop-k-test.true in
    let same = c.len-k-end.ensures.same in
    let lt : c.loop-k.k < length history = omega (arith, inside, same) in
    elim c.match-given_to.branch [
      | in-Some w ↦
          rw (w.at-is, w.nearest-is, w.nearer.ensures, w.printed-is, w.out-is)
          (walked_to cell history zone c.unwrap-start.result c.loop-k.at w.in-Some.to c.given_to.result c.loop-k.k c.loop-k.nearest w.measured-move_to.result c.args.before c.loop-k.printed w.print_gap-printed.result _ _ _ c.requires.answered z lt
          (λ e at. c.given_to.ensures e at) w.in-Some.is c.loop-k.invariant w.measured-move_to.ensures.event w.measured-move_to.ensures.gap w.measured-move_to.ensures.sides w.measured-move_to.ensures.small w.print_gap-printed.ensures)
      | in_default w ↦
          rw (w.at-is, w.nearest-is, w.printed-is, w.out-is)
          (walked_past cell history zone c.unwrap-start.result c.loop-k.at c.given_to.result c.loop-k.k c.loop-k.nearest c.args.before c.loop-k.printed _ _ lt (λ e at. c.given_to.ensures e at) w.in_default.is c.loop-k.invariant)
    ]

pub print_nearest-requires : goal.print_nearest-requires
print_nearest-requires g c = some_small c.loop-k.nearest c.in-Some-nearest.nearest c.in-Some-nearest.is c.loop-k.invariant.small

pub print_stay-requires-clause-named : goal.print_stay-requires-clause-named
print_stay-requires-clause-named g c = zone_names c.args.core.now.cell c.args.zone.now (zone_arm c.args.core.now.cell c.args.zone.now c.requires.limits c.requires.zone)

pub print_stay-requires-clause-in_reach : goal.print_stay-requires-clause-in_reach
print_stay-requires-clause-in_reach g c =
    let cell = c.args.core.now.cell in
    let zone = c.args.zone.now in
    let z = zone_arm cell zone c.requires.limits c.requires.zone in
    let well = starts_well cell zone c.start_of.result c.unwrap-start.result c.start_of.ensures c.unwrap-start.ensures z in
    zone_in_reach cell zone c.unwrap-start.result c.unwrap-start.result z well well

pub returns-in-Some-nearest : goal.returns-in-Some-nearest
returns-in-Some-nearest g c =
    let cell = c.args.core.now.cell in
    let zone = c.args.zone.now in
    let history = c.args.core.now.history in
    let z = zone_arm cell zone c.requires.limits c.requires.zone in
    let past = c.loop-k-test.false in
    let count = c.len-k-end.ensures.same in
    let all : length history ≤ c.loop-k.k = omega (arith, past, count) in
    let same = same_start cell zone c.start_of.result c.unwrap-start.result c.start_of.ensures c.unwrap-start.ensures z in
    zone_ends cell history zone c.loop-k.at c.loop-k.k c.loop-k.nearest c.in-Some-nearest.nearest c.args.before c.loop-k.printed c.print_nearest.result _ _ _ z c.unwrap-start.result same all c.in-Some-nearest.is c.loop-k.invariant c.print_nearest.ensures

pub returns-in-None : goal.returns-in-None
returns-in-None g c =
    let cell = c.args.core.now.cell in
    let zone = c.args.zone.now in
    let history = c.args.core.now.history in
    let z = zone_arm cell zone c.requires.limits c.requires.zone in
    let past = c.loop-k-test.false in
    let count = c.len-k-end.ensures.same in
    let all : length history ≤ c.loop-k.k = omega (arith, past, count) in
    let same = same_start cell zone c.start_of.result c.unwrap-start.result c.start_of.ensures c.unwrap-start.ensures z in
    zone_stays cell history zone c.loop-k.at c.loop-k.k c.loop-k.nearest c.args.before c.loop-k.printed c.print_stay.result _ _ _ z c.unwrap-start.result same all c.in-None.is c.loop-k.invariant c.print_stay.ensures
