use Rattle.std.proofs.Common.{reverse, arith}
use Rattle.machine_stacks.proofs.Framing.{values_in-frames_in}
use Rattle.machine_stacks.proofs.frames.Frames.values.Goals as goal

pub returns : goal.returns
returns c =
    let f = c.self.inside in
    rw (← c.self.view_is) (omega (arith, values_in-frames_in f.values.items (reverse f.marks.items) c.self.invariant))
