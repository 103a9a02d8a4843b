use Rattle.std.proofs.Common.{arith, length-set}
use Rattle.zone_clearance.proofs.Numbers.{lines_more, lines_all}
use Rattle.zone_clearance.proofs.search.lines.lines_of.Goals as goal

pub loop-number-init : goal.loop-number-init
loop-number-init c = record { so_far = λ side is below. absurd (omega arith); room = omega arith }

pub loop-number-preserved : goal.loop-number-preserved
loop-number-preserved c =
    let loop = c.loop-number in
    record {
      so_far = lines_more c.args.inside c.args.p.now c.args.q.now c.args.bounds.now loop.lines loop.number c.numbered_line.result (omega arith) loop.invariant.so_far c.numbered_line.ensures;
      room = omega (arith, length-set loop.lines loop.number c.numbered_line.result);
    }

pub returns : goal.returns
returns c =
    lines_all c.args.inside c.args.p.now c.args.q.now c.args.bounds.now c.loop-number.lines c.loop-number.number (omega arith) (omega arith) c.loop-number.invariant.so_far
