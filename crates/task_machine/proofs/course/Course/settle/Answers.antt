use Rattle.std.proofs.Common.{◌∙◌}
use Rattle.task_machine.proofs.course.Course.settle.Goals as goal

pub loop-self-preserved : goal.loop-self-preserved
loop-self-preserved c =
    let on = rw c.loop-self.invariant.code at c.advance.ensures.reached in
    record {
      code = c.advance.ensures.code ∙ c.loop-self.invariant.code;
      begun = c.advance.ensures.begun;
      place = c.advance.ensures.place;
      reached = λ answers here. on answers (c.loop-self.invariant.reached answers here);
    }
