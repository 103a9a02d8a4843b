use Rattle.std.proofs.Common.{reverse, sym, ◌∙◌, arith}
use Rattle.std.proofs.lemmas.List.{length-reverse}
use Rattle.machine_stacks.proofs.Placing.{Stands, behind, no_index, past, stands_at}
use Rattle.machine_stacks.proofs.indexes.index_at.Goals as goal

pub returns-then-frame-marks : goal.returns-then-frame-marks
returns-then-frame-marks c = sym (no_index c.args.values (reverse c.args.marks.now) c.args.frame c.args.at (omega (arith, length-reverse c.args.marks.now)))

pub overflow_sub-end : goal.overflow_sub-end
overflow_sub-end c =
    let s : Stands c.args.values (reverse c.args.marks.now) c.args.marks.now c.args.frame c.args.at (record { base = 0; seen = 0 }) = stands_at c.args.values c.args.marks.now c.args.frame c.args.at (record { base = 0; seen = 0 }) c.requires (omega arith) in
    rw c.end_at-end.ensures s.1

pub returns-then-at-end : goal.returns-then-at-end
returns-then-at-end c =
    let s : Stands c.args.values (reverse c.args.marks.now) c.args.marks.now c.args.frame c.args.at (record { base = 0; seen = 0 }) = stands_at c.args.values c.args.marks.now c.args.frame c.args.at (record { base = 0; seen = 0 }) c.requires (omega arith) in
    sym (s.0 ∙ behind _ _ c.args.at (rw (← c.end_at-end.ensures) (omega arith)))

pub returns-else-at-end : goal.returns-else-at-end
returns-else-at-end c =
    let s : Stands c.args.values (reverse c.args.marks.now) c.args.marks.now c.args.frame c.args.at (record { base = 0; seen = 0 }) = stands_at c.args.values c.args.marks.now c.args.frame c.args.at (record { base = 0; seen = 0 }) c.requires (omega arith) in
    sym (s.0 ∙ past _ _ c.args.at (rw (← c.end_at-end.ensures) (omega arith)))
