use Rattle.std.proofs.Common.{arith}
use Rattle.task_steps.proofs.task.Task.go_behind_part.Goals as goal

pub invariant_of-self : goal.invariant_of-self
invariant_of-self c =
    let k = c.self.invariant in
    record {
      below = rw c.clear.ensures k.below;
      framed = k.framed;
      few = k.few;
      top = rw c.clear.ensures (omega arith);
      within = rw c.clear.ensures k.within;
      operands = rw c.clear.ensures k.operands;
      waiting = rw c.clear.ensures k.waiting;
      rows = k.rows;
      frames = k.frames;
      values = k.values;
      few_values = k.few_values;
      few_slots = k.few_slots;
      over = k.over;
    }
