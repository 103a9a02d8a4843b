use Rattle.std.proofs.Common.{◌≡◌, refl, ap, ◌∙◌, subst, ℕ, Some}
use Rattle.typed_trees.specs.declared.datum.Datum.{Datum}
use Rattle.typed_trees.specs.declared.datum.Datum.TheVariants as datums
use Rattle.rapid_meaning.specs.Doings.{Act, Misfit, after, fault}
use Rattle.rapid_meaning.specs.Places.{store}
use Rattle.stack_code.specs.Steps.{does}
use Rattle.task_steps.specs.Alike.{Turns, with_stack}
use Rattle.task_steps.specs.Doing.{here_of}
use Rattle.task_steps.proofs.Along.{alike_is, alike_then}
use Rattle.task_steps.proofs.Popped.{with_more}
use Rattle.task_steps.proofs.Shapings.{of_two, same_data, shape_taken}
use Rattle.task_steps.proofs.Storings.{turns_at}
use Rattle.task_steps.proofs.task.Task.define.Goals as goal

pub returns-in_err-made-clause-turns : goal.returns-in_err-made-clause-turns
unfolding after
returns-in_err-made-clause-turns c =
    let code = c.args.code.now in
    let s = c.args.self.now in
    let t = c.pop_place.new.self in
    let first = c.pop_value.new.self.conf.stack in
    let second = c.pop_value-2.new.self.conf.stack in
    let v = c.in_ok-first.first in
    let w = c.in_ok-second.second in
    let p = c.in_ok-place.place in
    let rest : t ≡ with_stack t.conf.stack s = with_more s c.pop_value-2.new.self t (with_more s c.pop_value.new.self c.pop_value-2.new.self c.in_ok-second.ensures.rest c.in_ok-first.ensures.rest) c.in_ok-place.ensures.rest in
    let taken = shape_taken (here_of code s.conf) c.args.inside c.args.home first second t.conf.stack w v p c.in_ok-second.ensures.on c.in_ok-first.ensures.on c.in_ok-place.ensures.on in
    let known : of_two code.axes c.args.inside c.args.home v w p ≡ Misfit =
    subst (λ (axes : ℕ). of_two axes c.args.inside c.args.home v w p ≡ Misfit) c.axes.ensures.same (c.in_err-made.ensures p) in
    rw c.from_residual-in_err-made.ensures (same_data code s t _ _ rest (taken ∙ ap (λ (m : Act). does (here_of code s.conf) t.conf.stack m) known))

pub returns-in-Ok-clause-turns : goal.returns-in-Ok-clause-turns
unfolding after
returns-in-Ok-clause-turns c =
    let code = c.args.code.now in
    let s = c.args.self.now in
    let t = c.pop_place.new.self in
    let first = c.pop_value.new.self.conf.stack in
    let second = c.pop_value-2.new.self.conf.stack in
    let v = c.in_ok-first.first in
    let w = c.in_ok-second.second in
    let p = c.in_ok-place.place in
    let new : Datum = datums.Shape (Some c.in-Ok.shape) in
    let rest : t ≡ with_stack t.conf.stack s = with_more s c.pop_value-2.new.self t (with_more s c.pop_value.new.self c.pop_value-2.new.self c.in_ok-second.ensures.rest c.in_ok-first.ensures.rest) c.in_ok-place.ensures.rest in
    let taken = shape_taken (here_of code s.conf) c.args.inside c.args.home first second t.conf.stack w v p c.in_ok-second.ensures.on c.in_ok-first.ensures.on c.in_ok-place.ensures.on in
    let known : of_two code.axes c.args.inside c.args.home v w p ≡ store p new =
    subst (λ (axes : ℕ). of_two axes c.args.inside c.args.home v w p ≡ store p new) c.axes.ensures.same (rw c.in-Ok.is at (c.in_ok-made.ensures p)) in
    let stored : Turns code (does (here_of code t.conf) t.conf.stack (store p new)) t.data' c.store_at.result c.store_at.new.self =
    subst (λ (x : Datum). Turns code (does (here_of code t.conf) t.conf.stack (store p x)) t.data' c.store_at.result c.store_at.new.self) c.of_shape.ensures (c.store_at.ensures.turns code) in
    alike_then code _ _ _ _ _ _ (alike_is code _ _ s.data' (taken ∙ ap (λ (m : Act). does (here_of code s.conf) t.conf.stack m) known))
    (turns_at code s t c.store_at.new.self (λ h bottom. does h bottom (store p new)) c.store_at.result rest stored (λ h stack bottom. refl))

pub returns-in-Err-clause-turns : goal.returns-in-Err-clause-turns
unfolding after
returns-in-Err-clause-turns c =
    let code = c.args.code.now in
    let s = c.args.self.now in
    let t = c.pop_place.new.self in
    let first = c.pop_value.new.self.conf.stack in
    let second = c.pop_value-2.new.self.conf.stack in
    let v = c.in_ok-first.first in
    let w = c.in_ok-second.second in
    let p = c.in_ok-place.place in
    let rest : t ≡ with_stack t.conf.stack s = with_more s c.pop_value-2.new.self t (with_more s c.pop_value.new.self c.pop_value-2.new.self c.in_ok-second.ensures.rest c.in_ok-first.ensures.rest) c.in_ok-place.ensures.rest in
    let taken = shape_taken (here_of code s.conf) c.args.inside c.args.home first second t.conf.stack w v p c.in_ok-second.ensures.on c.in_ok-first.ensures.on c.in_ok-place.ensures.on in
    let known : of_two code.axes c.args.inside c.args.home v w p ≡ fault c.in-Err.why =
    subst (λ (axes : ℕ). of_two axes c.args.inside c.args.home v w p ≡ fault c.in-Err.why) c.axes.ensures.same (rw c.in-Err.is at (c.in_ok-made.ensures p)) in
    same_data code s t _ _ rest (taken ∙ ap (λ (m : Act). does (here_of code s.conf) t.conf.stack m) known)
