use Rattle.std.proofs.Common.{◌≡◌, ◌≢◌, List}
use Rattle.rapid_model.specs.declared.answer.Answer.{Answer}
use Rattle.task_code.specs.Reached.{Reached}
use Rattle.task_steps.specs.Doing.{doing_of}
use Rattle.task_steps.specs.Phases as phases
use Rattle.task_machine.specs.Standing.{HasPlace}
use Rattle.task_machine.proofs.course.Course.settle.Given as goal

abbrev pub invariant-loop-self : goal.invariant-loop-self
invariant-loop-self l = record {
  code : l.self.code ≡ l.initial.self.code;
  begun : l.self.task.phase ≢ phases.New;
  place : HasPlace l.self.task.phase l.self.task.data';
  reached : (answers : List Answer) → Reached l.initial.self.code (doing_of l.initial.self.code l.initial.self.task.phase l.initial.self.task.conf) l.initial.self.task.data' answers
      → Reached l.initial.self.code (doing_of l.initial.self.code l.self.task.phase l.self.task.conf) l.self.task.data' answers;
}

abbrev pub decreases-loop-self : goal.decreases-loop-self
decreases-loop-self l = l.self.runs.0
