use Rattle.std.proofs.Common.{◌≡◌, ap, ◌∙◌, if◌then◌else◌}
use Rattle.rapid_meaning.specs.Data.{seen_in}
use Rattle.stack_code.specs.Operands.{on_truth}
use Rattle.stack_code.specs.Steps.{holds, to_next}
use Rattle.task_steps.specs.Doing.{here_of}
use Rattle.task_steps.specs.Seen.{Seen}
use Rattle.task_steps.proofs.Along.{alike_is, alike_then}
use Rattle.task_steps.proofs.Looks.{wait_holds}
use Rattle.task_steps.proofs.task.Task.wait.Goals as goal

pub returns-clause-turns : goal.returns-clause-turns
returns-clause-turns c = λ code.
    let s = c.args.self.now in
    let t = c.pop_truth.new.self in
    let h = here_of code s.conf in
    let on : on_truth s.conf.stack (λ b rest. if b then to_next h rest else holds h c.args.to rest) ≡ holds h c.args.to t.conf.stack =
    rw c.if-ready.false at (c.in_ok-ready.ensures.on (λ b rest. if b then to_next h rest else holds h c.args.to rest)) in
    let confirmed : c.seen-seen.result ≡ seen_in t.data'.frames = c.seen-seen.ensures ∙ ap (λ (u : Seen). seen_in u.data'.frames) c.self.view_is in
    alike_then code _ _ _ _ _ _ (alike_is code _ _ s.data' on) (wait_holds code s t c.args.to c.seen-seen.result c.in_ok-ready.ensures.rest confirmed)
