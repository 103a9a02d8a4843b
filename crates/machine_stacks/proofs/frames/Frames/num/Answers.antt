use Rattle.std.proofs.Common.{◌≡◌, length, reverse}
use Rattle.machine_stacks.specs.FrameStack.{index_in}
use Rattle.machine_stacks.proofs.Placing.{read}
use Rattle.machine_stacks.proofs.frames.Frames.num.Goals as goal

pub returns : goal.returns
returns c =
    let f = c.self.inside in
    let e : c.index_at-index.result ≡ index_in (length f.values.items) (reverse f.marks.items) c.args.frame c.args.at = cc in
    let held = read f.values.items (reverse f.marks.items) c.args.frame c.args.at c.self.invariant in
    rw (← c.self.view_is) (cc)
