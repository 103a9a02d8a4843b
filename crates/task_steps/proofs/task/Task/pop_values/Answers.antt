use Rattle.std.proofs.Common.{refl, ◌∙◌, ◌-◌, drop, length, length-set, arith}
use Rattle.task_steps.proofs.Packs.{all_left, none_left, not_there, one_left, onto}
use Rattle.task_steps.proofs.Popped.{with_more}
use Rattle.task_steps.proofs.task.Task.pop_values.Goals as goal

pub loop-left-init : goal.loop-left-init
loop-left-init c = record {
  within = omega arith;
  long = refl;
  on = λ next. all_left c.args.values.now (length c.args.values.now) c.args.self.now.conf.stack next refl;
  rest = refl;
}

pub returns-in_default-clause-on : goal.returns-in_default-clause-on
returns-in_default-clause-on c = λ next.
    c.loop-left.invariant.on next
    ∙ not_there c.loop-left.left c.loop-left.self.conf.stack c.pop_value.new.self.conf.stack (onto (drop c.loop-left.left c.loop-left.values) next) (omega arith) c.in_default.ensures.on

pub returns-in_default-clause-rest : goal.returns-in_default-clause-rest
returns-in_default-clause-rest c = with_more c.args.self.now c.loop-left.self c.pop_value.new.self c.loop-left.invariant.rest c.in_default.ensures.rest

pub loop-left-preserved : goal.loop-left-preserved
loop-left-preserved c =
    let i = c.loop-left.invariant in
    let values = c.loop-left.values in
    let left = c.loop-left.left in
    record {
      within = omega (arith, length-set values (left - 1) c.in-Some.value);
      long = length-set values (left - 1) c.in-Some.value ∙ i.long;
      on = λ next.
          i.on next
          ∙ one_left values left (left - 1) c.loop-left.self.conf.stack c.pop_value.new.self.conf.stack c.in-Some.value next (omega arith) (omega (arith, i.within)) c.in-Some.ensures.on;
      rest = with_more c.args.self.now c.loop-left.self c.pop_value.new.self i.rest c.in-Some.ensures.rest;
    }

pub returns-clause-on : goal.returns-clause-on
returns-clause-on c = λ next.
    c.loop-left.invariant.on next ∙ none_left c.loop-left.values c.loop-left.left c.loop-left.self.conf.stack next (omega arith)
