use Rattle.std.proofs.Common.{refl}
use Rattle.clearance_lines.proofs.NearestGaps.{product_read}
use Rattle.clearance_lines.proofs.clearances.is_nearer.Goals as goal

pub returns : goal.returns
returns c =
    let one = c.args.one.now in
    let two = c.args.two.now in
    let left = product_read one.top two.bottom c.requires.one.top c.requires.two.bottom in
    let right = product_read two.top one.bottom c.requires.two.top c.requires.one.bottom in
    rw (left, right) refl
