use Rattle.std.proofs.Common.{◌<◌, ◌-◌, ◌/◌, ◌∙◌, length, None, pos, arith}
use Rattle.std.proofs.lemmas.List.{get_or_default}
use Rattle.joint_clip.proofs.Axes.{element_at}
use Rattle.zone_clearance.proofs.Numbers.{numbered_low, numbered_high}
use Rattle.zone_clearance.proofs.search.lines.numbered_line.Goals as goal

pub low-requires : goal.low-requires
low-requires c =
    let axis = (c.args.number - 1) / 2 in
    let inside : axis < length c.args.bounds.now = omega arith in
    let start = get_or_default c.args.p.now.axis axis c.index-p-axis.result (pos 0) (omega arith) in
    let end = get_or_default c.args.q.now.axis axis c.index-q-axis.result (pos 0) (omega arith) in
    rw (start, end) (c.requires.in_reach axis c.in_ok-bound.bound (element_at c.args.bounds.now axis _ _ inside c.in_ok-bound.was))

pub high-requires : goal.high-requires
high-requires c =
    let axis = (c.args.number - 1) / 2 in
    let inside : axis < length c.args.bounds.now = omega arith in
    let start = get_or_default c.args.p.now.axis axis c.index-p-axis.result (pos 0) (omega arith) in
    let end = get_or_default c.args.q.now.axis axis c.index-q-axis.result (pos 0) (omega arith) in
    rw (start, end) (c.requires.in_reach axis c.in_ok-bound.bound (element_at c.args.bounds.now axis _ _ inside c.in_ok-bound.was))

pub returns-then-number-eq1 : goal.returns-then-number-eq1
returns-then-number-eq1 c =
    let axis = (c.args.number - 1) / 2 in
    numbered_low c.args.inside c.args.p.now c.args.q.now c.args.bounds.now c.args.number c.in_ok-bound.bound _ _ c.low.result (omega arith) (omega arith)
    (get_or_default c.args.bounds.now axis None c.index-bounds-axis.result (omega arith) ∙ c.in_ok-bound.was)
    (get_or_default c.args.p.now.axis axis c.index-p-axis.result (pos 0) (omega arith))
    (get_or_default c.args.q.now.axis axis c.index-q-axis.result (pos 0) (omega arith))
    c.low.ensures.start c.low.ensures.end

pub returns-else-number-eq1 : goal.returns-else-number-eq1
returns-else-number-eq1 c =
    let axis = (c.args.number - 1) / 2 in
    numbered_high c.args.inside c.args.p.now c.args.q.now c.args.bounds.now c.args.number c.in_ok-bound.bound _ _ c.high.result (omega arith) c.if-number-eq1.false
    (get_or_default c.args.bounds.now axis None c.index-bounds-axis.result (omega arith) ∙ c.in_ok-bound.was)
    (get_or_default c.args.p.now.axis axis c.index-p-axis.result (pos 0) (omega arith))
    (get_or_default c.args.q.now.axis axis c.index-q-axis.result (pos 0) (omega arith))
    c.high.ensures.start c.high.ensures.end
