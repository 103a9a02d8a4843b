use Rattle.std.proofs.Common.{reverse, arith}
use Rattle.std.proofs.lemmas.List.{length-reverse}
use Rattle.machine_stacks.proofs.Framing.{length-frames_in}
use Rattle.machine_stacks.proofs.frames.Frames.count.Goals as goal

pub returns : goal.returns
returns c =
    let f = c.self.inside in
    rw (← c.self.view_is) (omega (arith, length-frames_in f.values.items (reverse f.marks.items), length-reverse f.marks.items))
