use Rattle.std.proofs.Common.{◌<◌, length, arith}
use Rattle.task_steps.proofs.Rooms.{room_for}
use Rattle.task_steps.proofs.task.Task.push_place.Goals as goal

pub push_place-requires : goal.push_place-requires
push_place-requires c =
    let k = c.self.invariant in
    let some : length c.self.inside.operands.top < c.self.inside.room = rw (← c.self.view_is) at c.requires in
    record { room = room_for c.self.inside.room c.self.inside.operands.room c.self.inside.operands.top c.self.inside.operands.below k.within some (omega arith) k.operands }

pub invariant_of-self : goal.invariant_of-self
invariant_of-self c =
    let k = c.self.invariant in
    let some : length c.self.inside.operands.top < c.self.inside.room = rw (← c.self.view_is) at c.requires in
    record {
      below = rw c.push_place.ensures k.below;
      framed = k.framed;
      few = k.few;
      top = rw c.push_place.ensures (omega arith);
      within = rw c.push_place.ensures k.within;
      operands = rw c.push_place.ensures k.operands;
      waiting = rw c.push_place.ensures k.waiting;
      rows = k.rows;
      frames = k.frames;
      values = k.values;
      few_values = k.few_values;
      few_slots = k.few_slots;
      over = k.over;
    }
