use Rattle.std.proofs.Common.{sym, ◌∙◌}
use Rattle.task_steps.proofs.Storings.{bool_held, no_bool_held}
use Rattle.task_steps.proofs.operations.testing.truth_in.Goals as goal

pub returns-in-Some : goal.returns-in-Some
returns-in-Some c = sym (bool_held c.args.held.now c.in-Some.value.now (sym c.in-Some.ensures) ∙ c.truth_of.ensures)

pub returns-in-None : goal.returns-in-None
returns-in-None c = sym (no_bool_held c.args.held.now (sym c.in-None.ensures))
