use Rattle.std.proofs.Common.{refl}
use Rattle.rapid_meaning.specs.Doings.{after}
use Rattle.task_steps.proofs.task.Task.truth_at.Goals as goal

pub returns-in_err-held : goal.returns-in_err-held
unfolding after
returns-in_err-held c = rw (c.from_residual.ensures, ← c.own_part.ensures, c.in_err-held.was) refl

pub returns : goal.returns
unfolding after
returns c = rw (← c.own_part.ensures, c.in_ok-held.was) c.truth_in.ensures
