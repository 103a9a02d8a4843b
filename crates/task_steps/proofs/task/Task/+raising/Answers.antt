use Rattle.std.proofs.Common.{◌≡◌, sym, ap, subst, ◌∙◌, ℕ, List, ◌∷◌, length, Option, None, Some, arith}
use Rattle.rapid_meaning.specs.Doings.{Misfit}
use Rattle.stack_code.specs.Raising.{handler_in, handler_of}
use Rattle.task_code.specs.Leads.{Runs}
use Rattle.task_code.proofs.Leading.{runs_misfit}
use Rattle.task_steps.specs.Alike.{Follows}
use Rattle.task_steps.specs.Doing.{raised_at}
use Rattle.task_steps.specs.Points.{Waiting, Started, Called, Trapped, own_at, running_in, saved_in}
use Rattle.task_steps.specs.Seen.{Seen}
use Rattle.task_steps.specs.Phases as phases
use Rattle.task_steps.specs.Phases.{phase_of}
use Rattle.task_steps.proofs.Along.{alike_then, runs_along}
use Rattle.task_steps.proofs.Errors.{not_some, out_called, out_none, out_started, out_trapped, part_stands}
use Rattle.task_steps.proofs.task.Task.+raising.Goals as goal

pub raise-returns-in-Some-clause-on : goal.raise-returns-in-Some-clause-on
raise-returns-in-Some-clause-on t c =
    let none : c.self.inside.frame.failed ≡ None = not_some c.self.inside.frame.failed (sym c.is_some.ensures ∙ c.if-is_some.false) in
    let there : handler_of c.args.code.now c.self.inside.frame.routine ≡ Some c.in-Some.handler =
    sym (ap (λ (hs : List (Option ℕ)). handler_in hs c.self.inside.frame.routine) c.marks.ensures.handlers) ∙ (sym c.handler_of.ensures ∙ c.in-Some.is) in
    let going : phase_of c.self.inside.stage c.self.inside.asked c.self.inside.then ≡ phases.Going = ap (λ (s : Seen). s.phase) c.self.view_is ∙ c.requires.going in
    rw (← c.self.view_is) (part_stands c.args.code.now c.self.inside c.clear.new.self c.args.place c.args.error c.in-Some.handler going c.clear.ensures none there)

pub raise_out-raise-requires : goal.raise_out-raise-requires
unfolding saved_in
raise_out-raise-requires t c =
    let code = c.args.code.now in
    let after = c.leave.new.self.conf in
    let saved : c.args.self.now.conf.saved ≡ Called after.pc after.stack after.frame ∷ after.saved = rw c.in-Some-Called.field-0-is at c.in-Some-Called.ensures.saved in
    let alike = out_called code (saved_in code c.args.self.now.conf.saved) c.args.self.now.data' c.leave.new.self.data' after.pc (own_at code after.pc) after.stack (running_in code after.frame) (saved_in code after.saved) c.args.error (ap (saved_in code) saved) c.leave.ensures.data in
    let here : c.self.inside.pc ≡ after.pc = ap (λ (s : Seen). s.conf.pc) c.self.view_is in (
      omega (arith, ap (λ (ss : List Waiting). length ss) saved),
      (c.leave.ensures.phase ∙ c.requires.going, subst (λ (place : ℕ). Runs code (raised_at code place after c.args.error) c.leave.new.self.data') (sym here) (runs_along code _ _ _ _ alike c.requires.runs)),
    )

pub raise_out-unreachable-requires : goal.raise_out-unreachable-requires
unfolding saved_in
raise_out-unreachable-requires t c =
    let alike = out_none c.args.code.now (saved_in c.args.code.now c.args.self.now.conf.saved) c.args.self.now.data' c.args.error (ap (saved_in c.args.code.now) c.in-None.ensures.saved) in
    runs_misfit c.args.code.now c.args.self.now.data' (runs_along c.args.code.now _ Misfit _ _ alike c.requires.runs)

pub raise_out-returns-in-Some-Called-clause-on : goal.raise_out-returns-in-Some-Called-clause-on
unfolding saved_in
raise_out-returns-in-Some-Called-clause-on t c =
    let code = c.args.code.now in
    let after = c.leave.new.self.conf in
    let saved : c.args.self.now.conf.saved ≡ Called after.pc after.stack after.frame ∷ after.saved = rw c.in-Some-Called.field-0-is at c.in-Some-Called.ensures.saved in
    let alike = out_called code (saved_in code c.args.self.now.conf.saved) c.args.self.now.data' c.leave.new.self.data' after.pc (own_at code after.pc) after.stack (running_in code after.frame) (saved_in code after.saved) c.args.error (ap (saved_in code) saved) c.leave.ensures.data in
    let here : c.self.inside.pc ≡ after.pc = ap (λ (s : Seen). s.conf.pc) c.self.view_is in
    alike_then code _ _ _ _ _ _ alike (subst (λ (place : ℕ). Follows code (raised_at code place after c.args.error) c.leave.new.self.data' c.raise.new.self) here c.raise.ensures.on)

pub raise_out-returns-in-Some-Started-clause-on : goal.raise_out-returns-in-Some-Started-clause-on
unfolding saved_in
raise_out-returns-in-Some-Started-clause-on t c =
    let saved : c.args.self.now.conf.saved ≡ Started ∷ c.leave.new.self.conf.saved = rw c.in-Some-Started.field-0-is at c.in-Some-Started.ensures.saved in
    rw c.end.ensures (out_started c.args.code.now (saved_in c.args.code.now c.args.self.now.conf.saved) c.args.self.now.data' c.leave.new.self.data' (saved_in c.args.code.now c.leave.new.self.conf.saved) c.args.error (ap (saved_in c.args.code.now) saved) c.leave.ensures.data)

pub raise_out-returns-in-Some-Trapped-clause-on : goal.raise_out-returns-in-Some-Trapped-clause-on
unfolding saved_in
raise_out-returns-in-Some-Trapped-clause-on t c =
    let after = c.leave.new.self.conf in
    let saved : c.args.self.now.conf.saved ≡ Trapped after.pc after.frame after.way ∷ after.saved = rw c.in-Some-Trapped.field-0-is at c.in-Some-Trapped.ensures.saved in
    rw c.end-in-Some-Trapped.ensures (out_trapped c.args.code.now (saved_in c.args.code.now c.args.self.now.conf.saved) c.args.self.now.data' c.leave.new.self.data' after.pc (running_in c.args.code.now after.frame) after.way (saved_in c.args.code.now after.saved) c.args.error (ap (saved_in c.args.code.now) saved) c.leave.ensures.data)
