use Rattle.std.proofs.Common.{◌∙◌}
use Rattle.task_steps.proofs.Counts.{put_count, put_values}
use Rattle.task_steps.proofs.task.Task.put_in_frame.Goals as goal

pub invariant_of-self : goal.invariant_of-self
invariant_of-self c =
    let k = c.self.invariant in
    record {
      below = k.below;
      framed = rw c.put.ensures (put_count c.self.inside.frames.frames c.args.frame c.args.at c.in_ok-held.held ∙ k.framed);
      few = k.few;
      top = k.top;
      within = k.within;
      operands = k.operands;
      waiting = k.waiting;
      rows = k.rows;
      frames = rw c.put.ensures k.frames;
      values = rw c.put.ensures k.values;
      few_values = rw (c.put.ensures, put_values c.self.inside.frames.frames c.args.frame c.args.at c.in_ok-held.held) k.few_values;
      few_slots = k.few_slots;
      over = k.over;
    }
