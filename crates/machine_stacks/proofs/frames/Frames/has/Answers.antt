use Rattle.std.proofs.Common.{◌≡◌, length, reverse, sym, ap, ◌∙◌}
use Rattle.std.specs.Prelude.{is_some}
use Rattle.machine_stacks.specs.FrameStack.{index_in}
use Rattle.machine_stacks.proofs.Placing.{index_within, is_read, read}
use Rattle.machine_stacks.proofs.frames.Frames.has.Goals as goal

pub returns : goal.returns
returns c =
    let f = c.self.inside in
    let at = index_in (length f.values.items) (reverse f.marks.items) c.args.frame c.args.at in
    let e : c.index_at.result ≡ at = cc in
    let held = read f.values.items (reverse f.marks.items) c.args.frame c.args.at c.self.invariant in
    rw (← c.self.view_is)
    (c.is_some.ensures ∙ ap is_some e ∙ is_read f.values.items at (index_within (length f.values.items) (reverse f.marks.items) c.args.frame c.args.at c.self.invariant) ∙ ap is_some (sym held))
