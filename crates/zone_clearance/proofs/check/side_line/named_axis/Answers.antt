use Rattle.std.proofs.Common.{◌≡◌, ◌≤◌, ◌<◌, ◌-◌, length, refl, arith}
use Rattle.joint_clip.proofs.Axes.{element_at}
use Rattle.zone_clearance.proofs.NamedSides.{angle_read, bound_past, bound_read, reach_read}
use Rattle.zone_clearance.proofs.check.side_line.named_axis.Goals as goal

pub returns-then-index-ge-MOST_AXES : goal.returns-then-index-ge-MOST_AXES
returns-then-index-ge-MOST_AXES c =
    let from = c.from.ensures in
    let index = c.in_ok-index.ensures in
    bound_past c.args.bounds.now c.args.axis c.in_ok-index.index (omega (arith, from, index.0)) (omega (arith, from, index.1)) (omega arith)

pub returns : goal.returns
returns c =
    let from = c.from.ensures in
    let index = c.in_ok-index.ensures in
    let bounds = c.args.bounds.now in
    let some : 1 ≤ c.args.axis = omega (arith, from, index.0) in
    let is : c.in_ok-index.index ≡ c.args.axis - 1 = omega (arith, from, index.1) in
    let below : c.in_ok-index.index < length bounds = omega arith in
    let within_p : c.in_ok-index.index < length c.args.p.now.axis = omega arith in
    let within_q : c.in_ok-index.index < length c.args.q.now.axis = omega arith in
    let named = element_at bounds c.in_ok-index.index _ _ below c.in_ok-bound.was in
    record {
      bound = bound_read bounds c.args.axis c.in_ok-index.index c.in_ok-bound.bound some is named;
      start = angle_read c.args.p.now.axis c.args.axis c.in_ok-index.index _ is within_p;
      end = angle_read c.args.q.now.axis c.args.axis c.in_ok-index.index _ is within_q;
      in_reach = reach_read c.args.p.now c.args.q.now bounds c.in_ok-index.index c.in_ok-bound.bound _ _ _ _ c.requires named within_p within_q refl refl;
    }
