use Rattle.std.proofs.Common.{◌≡◌, ap, ◌∷◌, Some, None}
use Rattle.task_steps.specs.Points.{Started, Called, Trapped}
use Rattle.task_steps.specs.declared.routines.left.Left.{Left}
use Rattle.task_steps.proofs.Endings.{back_called, back_none, back_started, back_trapped}
use Rattle.task_steps.proofs.task.Task.back.Goals as goal

pub returns-in-Some-Started-clause-turns : goal.returns-in-Some-Started-clause-turns
returns-in-Some-Started-clause-turns c = λ code.
    let saved : c.args.self.now.conf.saved ≡ Started ∷ c.leave.new.self.conf.saved = rw c.in-Some-Started.field-0-is at c.in-Some-Started.ensures.saved in
    back_started code _ _ _ _ c.args.value saved c.leave.ensures.data

pub returns-in-Some-clause-turns : goal.returns-in-Some-clause-turns
returns-in-Some-clause-turns c = λ code.
    let after = c.leave.new.self.conf in
    let saved : c.args.self.now.conf.saved ≡ Called after.pc after.stack after.frame ∷ after.saved = rw c.in-Some-Called.field-0-is at c.in-Some-Called.ensures.saved in
    let outside = c.in-Some-Called.ensures.called (ap (λ (l : Left). Some l) c.in-Some-Called.field-0-is) in
    rw (c.in-Some.is, c.value.ensures) (back_called code _ after _ _ (Some c.in-Some.value) saved outside c.leave.ensures.data)

pub returns-in-None-value-clause-turns : goal.returns-in-None-value-clause-turns
returns-in-None-value-clause-turns c = λ code.
    let after = c.leave.new.self.conf in
    let saved : c.args.self.now.conf.saved ≡ Called after.pc after.stack after.frame ∷ after.saved = rw c.in-Some-Called.field-0-is at c.in-Some-Called.ensures.saved in
    let outside = c.in-Some-Called.ensures.called (ap (λ (l : Left). Some l) c.in-Some-Called.field-0-is) in
    rw c.in-None-value.is (back_called code _ after _ _ None saved outside c.leave.ensures.data)

pub returns-in-Some-Trapped-clause-turns : goal.returns-in-Some-Trapped-clause-turns
returns-in-Some-Trapped-clause-turns c = λ code.
    let after = c.leave.new.self.conf in
    let saved : c.args.self.now.conf.saved ≡ Trapped after.pc after.frame after.way ∷ after.saved = rw c.in-Some-Trapped.field-0-is at c.in-Some-Trapped.ensures.saved in
    back_trapped code _ after _ _ c.args.value saved (c.in-Some-Trapped.ensures.trapped (ap (λ (l : Left). Some l) c.in-Some-Trapped.field-0-is)) c.leave.ensures.data

pub returns-in-None-clause-turns : goal.returns-in-None-clause-turns
returns-in-None-clause-turns c = λ code. back_none code _ _ _ c.args.value c.in-None.ensures.saved c.leave.ensures.data
