use Rattle.std.proofs.Common.{◌≡◌, ◌||◌, ap, subst, sym, refl, ◌∙◌}
use Rattle.trap_dispatch.specs.Firing.{fired_numbers}
use Rattle.trap_dispatch.specs.Tasks.{TaskData, after_changes}
use Rattle.trap_dispatch.proofs.Queued.{empty, sound-after, parts-after, unfired-parts}
use Rattle.trap_dispatch.proofs.task_traps.TaskTraps.fired.Goals as goal

pub invariant_of-self : goal.invariant_of-self
invariant_of-self c =
    let fired : c.as_slice.result.now ≡ fired_numbers c.args.changes.now c.self.inside.numbers = cc in
    sound-after c.args.changes.now c.self.inside.numbers c.end_fired.new.numbers c.self.inside.queue c.enqueue.new.queue c.as_slice.result.now c.end_fired.ensures fired c.enqueue.ensures.queued c.self.invariant

pub returns : goal.returns
returns c =
    let s = c.self.inside in
    let fired : c.as_slice.result.now ≡ fired_numbers c.args.changes.now s.numbers = cc in
    let t : TaskData = record { numbers = s.numbers; queue = s.queue.items; flood = s.flood; disabled = s.disabled; in_trap = s.in_trap } in
    parts-after c.args.changes.now t c.end_fired.new.numbers s.queue c.enqueue.new.queue c.as_slice.result.now (s.flood || c.enqueue.result)
    c.end_fired.ensures fired c.self.invariant.0 refl c.enqueue.ensures.queued (ap (λ b. s.flood || b) c.enqueue.ensures.flood)
    ∙ ap (after_changes c.args.changes.now) c.self.view_is

pub returns-then-is_empty : goal.returns-then-is_empty
returns-then-is_empty c =
    let s = c.self.inside in
    let t : TaskData = record { numbers = s.numbers; queue = s.queue.items; flood = s.flood; disabled = s.disabled; in_trap = s.in_trap } in
    let none = empty c.fired_numbers-fired.result.items (sym c.is_empty.ensures ∙ c.if-is_empty.true) in
    subst (λ (o : TaskData). o ≡ after_changes c.args.changes.now o) c.self.view_is
    (unfired-parts c.args.changes.now t c.self.invariant.1.room (sym c.fired_numbers-fired.ensures ∙ none))
