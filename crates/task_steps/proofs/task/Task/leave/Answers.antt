use Rattle.std.proofs.Common.{◌≡◌, ap, suc, length, arith}
use Rattle.machine_stacks.specs.OperandStack.{OperandStack}
use Rattle.task_steps.proofs.Counts.{fewer_values}
use Rattle.task_steps.proofs.Rooms.{one_fewer}
use Rattle.task_steps.proofs.task.Task.leave.Goals as goal

pub invariant_of-self-in-Started : goal.invariant_of-self-in-Started
invariant_of-self-in-Started c =
    let k = c.self.invariant in
    let shorter : suc (length c.pop.new.self.items) ≡ length c.self.inside.rows.items = omega (arith, c.in_ok-row.ensures.len) in
    let lower : length c.self.inside.operands.below ≡ suc (length c.close.new.self.below) = ap (λ (s : OperandStack). length s.below) c.close.ensures in
    let within = rw c.close.ensures at k.within in
    let room = rw c.close.ensures at k.operands in
    let depth = rw c.close.ensures at k.waiting in
    record {
      below = omega arith;
      framed = rw c.leave.ensures (one_fewer c.self.inside.frames.frames (length c.pop.new.self.items) (omega arith));
      few = omega arith;
      top = within.0;
      within = within.1;
      operands = room;
      waiting = depth;
      rows = rw c.in_ok-row.ensures.capacity k.rows;
      frames = rw c.leave.ensures k.frames;
      values = rw c.leave.ensures k.values;
      few_values = rw c.leave.ensures (omega (arith, fewer_values c.self.inside.frames.frames));
      few_slots = k.few_slots;
      over = k.over;
    }

pub invariant_of-self-in-Called : goal.invariant_of-self-in-Called
invariant_of-self-in-Called c =
    let k = c.self.invariant in
    let shorter : suc (length c.pop.new.self.items) ≡ length c.self.inside.rows.items = omega (arith, c.in_ok-row.ensures.len) in
    let lower : length c.self.inside.operands.below ≡ suc (length c.close.new.self.below) = ap (λ (s : OperandStack). length s.below) c.close.ensures in
    let within = rw c.close.ensures at k.within in
    let room = rw c.close.ensures at k.operands in
    let depth = rw c.close.ensures at k.waiting in
    record {
      below = omega arith;
      framed = rw c.leave.ensures (one_fewer c.self.inside.frames.frames (length c.pop.new.self.items) (omega arith));
      few = omega arith;
      top = within.0;
      within = within.1;
      operands = room;
      waiting = depth;
      rows = rw c.in_ok-row.ensures.capacity k.rows;
      frames = rw c.leave.ensures k.frames;
      values = rw c.leave.ensures k.values;
      few_values = rw c.leave.ensures (omega (arith, fewer_values c.self.inside.frames.frames));
      few_slots = k.few_slots;
      over = k.over;
    }

pub invariant_of-self-in-Trapped : goal.invariant_of-self-in-Trapped
invariant_of-self-in-Trapped c =
    let k = c.self.invariant in
    let shorter : suc (length c.pop.new.self.items) ≡ length c.self.inside.rows.items = omega (arith, c.in_ok-row.ensures.len) in
    let lower : length c.self.inside.operands.below ≡ suc (length c.close.new.self.below) = ap (λ (s : OperandStack). length s.below) c.close.ensures in
    let within = rw c.close.ensures at k.within in
    let room = rw c.close.ensures at k.operands in
    let depth = rw c.close.ensures at k.waiting in
    record {
      below = rw c.clear.ensures (omega arith);
      framed = rw c.leave.ensures (one_fewer c.self.inside.frames.frames (length c.pop.new.self.items) (omega arith));
      few = omega arith;
      top = rw c.clear.ensures (omega arith);
      within = rw c.clear.ensures (within.1);
      operands = rw c.clear.ensures (room);
      waiting = rw c.clear.ensures (depth);
      rows = rw c.in_ok-row.ensures.capacity k.rows;
      frames = rw c.leave.ensures k.frames;
      values = rw c.leave.ensures k.values;
      few_values = rw c.leave.ensures (omega (arith, fewer_values c.self.inside.frames.frames));
      few_slots = k.few_slots;
      over = k.over;
    }
