use Rattle.std.proofs.Common.{sym, ◌∙◌}
use Rattle.task_steps.proofs.InPlace.{there_value}
use Rattle.task_steps.proofs.task.Task.store_other.Goals as goal

pub ask_to_write-requires-clause-value : goal.ask_to_write-requires-clause-value
ask_to_write-requires-clause-value c = there_value _ _ (sym c.value_at.ensures ∙ c.in-Some-value_at.is)
