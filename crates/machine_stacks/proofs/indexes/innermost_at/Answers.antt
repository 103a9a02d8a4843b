use Rattle.std.proofs.Common.{sym, ◌∙◌, arith}
use Rattle.machine_stacks.proofs.Placing.{behind, innermost, no_innermost, past}
use Rattle.machine_stacks.proofs.indexes.innermost_at.Goals as goal

pub returns-in_err-mark : goal.returns-in_err-mark
returns-in_err-mark c = rw c.from_residual.ensures (sym (no_innermost c.args.values c.args.marks.now c.args.at (sym c.in_err-mark.ensures.value)))

pub returns-then-at-values : goal.returns-then-at-values
returns-then-at-values c =
    let s = innermost c.args.values c.args.marks.now c.args.at c.in_ok-mark.mark.now c.requires (sym c.in_ok-mark.ensures.value) in
    sym (s.0 ∙ behind _ _ c.args.at (omega arith))

pub returns-else-at-values : goal.returns-else-at-values
returns-else-at-values c =
    let s = innermost c.args.values c.args.marks.now c.args.at c.in_ok-mark.mark.now c.requires (sym c.in_ok-mark.ensures.value) in
    sym (s.0 ∙ past _ _ c.args.at (omega arith))
