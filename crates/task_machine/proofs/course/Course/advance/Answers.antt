use Rattle.std.proofs.Common.{◌∙◌}
use Rattle.task_code.specs.Leads.{Runs}
use Rattle.stack_code.specs.Steps.{step}
use Rattle.task_steps.specs.Doing.{doing_of}
use Rattle.task_steps.specs.Points.{conf_in}
use Rattle.task_machine.proofs.Going.{comes_it, goes_it, nearer, steps_it}
use Rattle.task_machine.proofs.Looking.{has_place}
use Rattle.task_machine.proofs.Operations.{placed_step}
use Rattle.task_machine.proofs.course.Course.advance.Goals as goal

pub step-requires-clause-runs : goal.step-requires-clause-runs
step-requires-clause-runs c = steps_it c.args.self.now.code c.args.self.now.task c.requires.going c.args.self.now.runs

pub invariant_of-self : goal.invariant_of-self
invariant_of-self c = record {
  room = c.step.ensures.room ∙ c.args.self.now.room;
  runs = goes_it c.args.self.now.code c.args.self.now.task c.step.new.self c.requires.going c.args.self.now.runs c.step.ensures.on;
}

pub returns-clause-nearer : goal.returns-clause-nearer
returns-clause-nearer c =
    let code = c.args.self.now.code in
    let fewer = λ (next : Runs code (doing_of code c.step.new.self.phase c.step.new.self.conf) c.step.new.self.data'). nearer code c.args.self.now.task c.step.new.self c.requires.going c.args.self.now.runs next c.step.ensures.on in
    search fewer

pub returns-clause-reached : goal.returns-clause-reached
returns-clause-reached c = λ answers here. comes_it c.args.self.now.code c.args.self.now.task c.step.new.self answers c.requires.going c.args.self.now.runs c.step.ensures.on here

pub returns-clause-place : goal.returns-clause-place
returns-clause-place c =
    let code = c.args.self.now.code in
    let s = c.args.self.now.task in
    has_place code (step code (conf_in code s.conf)) s.data' c.step.new.self (placed_step code (conf_in code s.conf) s.data') c.step.ensures.on
