use Rattle.std.proofs.Common.{◌≡◌, sym, ◌∙◌, ap}
use Rattle.rapid_model.specs.declared.answer.Answer.{Answer}
use Rattle.rapid_model.specs.declared.request.Request.TheVariants as requests
use Rattle.trap_dispatch.specs.declared.due.Due.{Due}
use Rattle.trap_dispatch.specs.Tasks.{look_answer}
use Rattle.trap_dispatch.specs.Traps.{task_at}
use Rattle.cell_meaning.specs.Answers.{look_of}
use Rattle.cell_meaning.specs.Interrupts.{asked_with}
use Rattle.cell_meaning.proofs.MoreFirings.{asked_with-Look}
use Rattle.cell_core.proofs.interrupts.look.Goals as goal

pub returns-clause-traps : goal.returns-clause-traps
returns-clause-traps c =
    let answer : c.of_due.result ≡ look_of (look_answer (task_at c.args.traps.now c.args.actor)) c.args.seen =
    c.of_due.ensures ∙ ap (λ (due : Due). look_of due c.args.seen) c.look-due.ensures.answer in
    c.look-due.ensures.after ∙ sym (asked_with-Look c.args.traps.now c.args.actor c.args.seen)
    ∙ ap (λ (a : Answer). asked_with c.args.traps.now c.args.actor requests.Look a) (sym answer)
