use Rattle.std.proofs.Common.{◌∙◌, ◌-◌, length}
use Rattle.rapid_model.specs.declared.value.Value.TheVariants.{Num}
use Rattle.typed_trees.specs.declared.datum.Datum.TheVariants.{Plain}
use Rattle.stack_code.specs.Steps.{jumps}
use Rattle.task_steps.specs.Doing.{here_of}
use Rattle.task_steps.specs.Tasks.{seen_task}
use Rattle.task_steps.proofs.Counts.{put_count, put_values}
use Rattle.task_steps.proofs.Counters.{set_own}
use Rattle.task_steps.proofs.task.Task.set_counter.Goals as goal

pub invariant_of-self : goal.invariant_of-self
invariant_of-self c =
    let k = c.self.invariant in
    let new = Plain (Num c.args.next) in
    record {
      below = k.below;
      framed = rw c.put_own_num.ensures (put_count c.self.inside.frames.frames (length c.self.inside.frames.frames - 1) c.args.at new ∙ k.framed);
      few = k.few;
      top = k.top;
      within = k.within;
      operands = k.operands;
      waiting = k.waiting;
      rows = k.rows;
      frames = rw c.put_own_num.ensures k.frames;
      values = rw c.put_own_num.ensures k.values;
      few_values = rw c.put_own_num.ensures (rw (put_values c.self.inside.frames.frames (length c.self.inside.frames.frames - 1) c.args.at new) k.few_values);
      few_slots = k.few_slots;
      over = k.over;
    }

pub returns-clause-turns : goal.returns-clause-turns
returns-clause-turns c = λ code.
    let t = seen_task c.self.inside in
    let there = rw (← c.self.view_is) at c.requires in
    rw (← c.self.view_is, c.put_own_num.ensures) (set_own code t.data' c.args.at c.args.next (jumps (here_of code t.conf) c.args.to t.conf.stack) there)
