use Rattle.std.proofs.Common.{◌∙◌}
use Rattle.rapid_model.specs.declared.value.Value.TheVariants as values
use Rattle.typed_trees.specs.declared.datum.Datum.TheVariants.{Plain}
use Rattle.task_steps.proofs.Counts.{put_count, put_values}
use Rattle.task_steps.proofs.task.Task.put_num.Goals as goal

pub invariant_of-self-in-Frame : goal.invariant_of-self-in-Frame
invariant_of-self-in-Frame c =
    let k = c.self.invariant in
    let new = Plain (values.Num c.args.number) in
    record {
      below = k.below;
      framed = rw c.put_num.ensures (put_count c.self.inside.frames.frames c.in-Frame.frame c.in-Frame.at new ∙ k.framed);
      few = k.few;
      top = k.top;
      within = k.within;
      operands = k.operands;
      waiting = k.waiting;
      rows = k.rows;
      frames = rw c.put_num.ensures k.frames;
      values = rw c.put_num.ensures k.values;
      few_values = rw (c.put_num.ensures, put_values c.self.inside.frames.frames c.in-Frame.frame c.in-Frame.at new) k.few_values;
      few_slots = k.few_slots;
      over = k.over;
    }
