use Rattle.std.proofs.Common.{arith}
use Rattle.task_steps.proofs.task.Task.pop.Goals as goal

pub invariant_of-self : goal.invariant_of-self
invariant_of-self c =
    let k = c.self.invariant in
    let top = rw c.pop.ensures at k.top in
    record {
      below = rw c.pop.ensures at k.below;
      framed = k.framed;
      few = k.few;
      top = omega arith;
      within = rw c.pop.ensures at k.within;
      operands = rw c.pop.ensures at k.operands;
      waiting = rw c.pop.ensures at k.waiting;
      rows = k.rows;
      frames = k.frames;
      values = k.values;
      few_values = k.few_values;
      few_slots = k.few_slots;
      over = k.over;
    }
