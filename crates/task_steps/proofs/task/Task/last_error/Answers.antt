use Rattle.std.proofs.Common.{◌∷◌}
use Rattle.typed_trees.specs.declared.datum.Datum.TheVariants.{Plain}
use Rattle.rapid_meaning.specs.Values.{whole}
use Rattle.stack_code.specs.Steps.{to_next}
use Rattle.task_steps.specs.Doing.{here_of}
use Rattle.task_steps.specs.Tasks.{seen_task}
use Rattle.task_steps.proofs.Readings.{reads_now}
use Rattle.task_steps.proofs.task.Task.last_error.Goals as goal

pub returns : goal.returns
returns c = λ code.
    let t = seen_task c.self.inside in
    let h = here_of code t.conf in
    rw (c.value.ensures, c.whole.ensures, c.from.ensures, ← c.self.view_is) (reads_now code (λ d. to_next h (Plain (whole d.errno) ∷ t.conf.stack)) t.data')
