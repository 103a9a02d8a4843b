use Rattle.std.proofs.Common.{◌≡◌, ◌+◌, ◌-◌, ◌<◌, length, ◌∙◌, sym, ap, arith}
use Rattle.std.specs.Str.{str_to_ascii_lowercase}
use Rattle.data_scopes.specs.Scopes.{loop_named}
use Rattle.data_scopes.proofs.LoopRows.{named_at}
use Rattle.data_scopes.proofs.loops.loop_named.Goals as goal

pub returns-then-is_named : goal.returns-then-is_named
returns-then-is_named c =
    let more : 0 < length c.args.loops.now - c.loop-step._step = omega arith in
    sym (named_at (length c.args.loops.now - c.loop-step._step) (str_to_ascii_lowercase c.args.name.now) c.args.loops.now c.loop-step.at c.in_ok-number.number c.in_ok-row.row.now _ more c.in_ok-number.was (c.in_ok-row.ensures.lookup).3.0 (c.in_ok-row.ensures.lookup).1 c.if-is_named.ensures) ∙ c.loop-step.invariant

pub loop-step-preserved : goal.loop-step-preserved
loop-step-preserved c =
    let more : 0 < length c.args.loops.now - c.loop-step._step = omega arith in
    let fewer : length c.args.loops.now - (c.loop-step._step + 1) ≡ length c.args.loops.now - c.loop-step._step - 1 = omega arith in
    ap (λ n. loop_named n (str_to_ascii_lowercase c.args.name.now) c.args.loops.now c.outer-at.result) fewer
    ∙ ap (loop_named (length c.args.loops.now - c.loop-step._step - 1) (str_to_ascii_lowercase c.args.name.now) c.args.loops.now) c.outer-at.ensures
    ∙ sym (named_at (length c.args.loops.now - c.loop-step._step) (str_to_ascii_lowercase c.args.name.now) c.args.loops.now c.loop-step.at c.in_ok-number.number c.in_ok-row.row.now _ more c.in_ok-number.was (c.in_ok-row.ensures.lookup).3.0 (c.in_ok-row.ensures.lookup).1 c.if-is_named.ensures) ∙ c.loop-step.invariant
