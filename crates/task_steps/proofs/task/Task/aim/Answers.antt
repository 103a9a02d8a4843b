use Rattle.std.proofs.Common.{◌≡◌, refl, sym, ◌∙◌, subst, ℕ}
use Rattle.rapid_meaning.specs.Doings.{Raises, after}
use Rattle.rapid_meaning.specs.Moves.{aim}
use Rattle.rapid_meaning.specs.Values.{target_in, tool_speed_in}
use Rattle.stack_code.specs.Operands.{on_value}
use Rattle.stack_code.specs.Steps.{fails, sets_out}
use Rattle.task_steps.specs.Doing.{came, here_of}
use Rattle.task_steps.proofs.Popped.{ends_here, with_more}
use Rattle.task_steps.proofs.task.Task.aim.Goals as goal

pub returns-clause-on : goal.returns-clause-on
returns-clause-on c =
    let code = c.args.code.now in
    let s = c.args.self.now in
    let t = c.pop_value-2.new.self in
    let to = c.in_ok-target.target in
    let speed = c.in_ok-speed.speed in
    let set_out : after (after (target_in to) (λ joints. after (tool_speed_in speed) (λ n. aim code.axes joints n) Raises) Raises) (sets_out (here_of code t.conf) t.conf.stack) (fails (here_of code t.conf))
    ≡ came (here_of code t.conf) c.aimed.result =
    subst (λ (axes : ℕ). after (after (target_in to) (λ joints. after (tool_speed_in speed) (λ n. aim axes joints n) Raises) Raises) (sets_out (here_of code t.conf) t.conf.stack) (fails (here_of code t.conf)) ≡ came (here_of code t.conf) c.aimed.result)
    c.axes.ensures.same (c.aimed.ensures (here_of code t.conf) (sym c.axes.ensures.same)) in
    c.in_ok-speed.ensures.on (λ speed rest0. on_value rest0 (λ target rest. after (after (target_in target) (λ joints. after (tool_speed_in speed) (λ n. aim code.axes joints n) Raises) Raises) (sets_out (here_of code s.conf) rest) (fails (here_of code s.conf))))
    ∙ (c.in_ok-target.ensures.on (λ target rest. after (after (target_in target) (λ joints. after (tool_speed_in speed) (λ n. aim code.axes joints n) Raises) Raises) (sets_out (here_of code s.conf) rest) (fails (here_of code s.conf)))
    ∙ ends_here code s t (λ h rest. after (after (target_in to) (λ joints. after (tool_speed_in speed) (λ n. aim code.axes joints n) Raises) Raises) (sets_out h rest) (fails h)) c.aimed.result
    (with_more s c.pop_value.new.self t c.in_ok-speed.ensures.rest c.in_ok-target.ensures.rest) set_out (λ h stack rest. refl))
