use Rattle.std.proofs.Common.{ap, ◌∙◌}
use Rattle.rapid_meaning.specs.Doings.{after}
use Rattle.task_steps.specs.Own.{own_num_in}
use Rattle.task_steps.specs.Seen.{Seen}
use Rattle.task_steps.proofs.Counters.{counter_own}
use Rattle.task_steps.proofs.task.Task.counter.Goals as goal

pub returns-clause-reads : goal.returns-clause-reads
unfolding after
returns-clause-reads c = λ code next.
    let d = c.args.self.now.data' in
    counter_own code d c.args.at c.own_num.result next (c.own_num.ensures ∙ ap (λ (s : Seen). own_num_in c.args.at s.data') c.self.view_is)

pub returns-clause-num : goal.returns-clause-num
returns-clause-num c = c.own_num.ensures ∙ ap (λ (s : Seen). own_num_in c.args.at s.data') c.self.view_is
