use Rattle.std.proofs.Common.{ap, sym, ◌∙◌}
use Rattle.std.specs.ControlFlow.{continue_value}
use Rattle.clearance_lines.proofs.Walking.{given_by_own, given_mine, given_others, joints_for}
use Rattle.clearance_lines.proofs.clearances.given_to.Goals as goal

pub returns-in_err-actor : goal.returns-in_err-actor
returns-in_err-actor c = λ e at.
    c.from_residual.ensures ∙ sym (given_by_own c.args.task e ∙ ap (joints_for c.args.task) (sym (c.given.ensures e at) ∙ c.branch-actor.ensures ∙ ap continue_value c.in_err-actor.is))

pub returns-then-actor-task : goal.returns-then-actor-task
returns-then-actor-task c = λ e at. given_mine c.args.task e _ _ (sym (c.given.ensures e at) ∙ c.in_ok-actor.was) c.if-actor-task.true

pub returns-else-actor-task : goal.returns-else-actor-task
returns-else-actor-task c = λ e at. given_others c.args.task e _ _ (sym (c.given.ensures e at) ∙ c.in_ok-actor.was) c.if-actor-task.false
