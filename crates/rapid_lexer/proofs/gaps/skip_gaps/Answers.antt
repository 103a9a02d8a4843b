use Rattle.std.proofs.Common.{false, sym, ◌∙◌, arith}
use Rattle.rapid_lexer.proofs.GapLoops.{gap_len_end, gap_len_bang, gap_len_blank, gap_len_other}
use Rattle.rapid_lexer.proofs.gaps.skip_gaps.Goals as goal

pub loop-now-preserved-then-byte-eq33 : goal.loop-now-preserved-then-byte-eq33
loop-now-preserved-then-byte-eq33 c = record {
  same = omega (arith, gap_len_bang c.args.source.now c.loop-now.now c.loop-now-test.true c.if-byte-eq33.true, c.line_end-now.ensures.same, c.loop-now.invariant.same);
  within = c.line_end-now.ensures.within;
}

pub loop-now-preserved : goal.loop-now-preserved
loop-now-preserved c = record {
  same = omega (arith, gap_len_blank c.args.source.now c.loop-now.now c.loop-now-test.true c.if-byte-eq33.false (sym c.is_blank.ensures ∙ c.if-is_blank.true), c.loop-now.invariant.same);
  within = omega arith;
}

pub returns-else-is_blank-clause-same : goal.returns-else-is_blank-clause-same
returns-else-is_blank-clause-same c =
    omega (arith, gap_len_other c.args.source.now c.loop-now.now c.loop-now-test.true c.if-byte-eq33.false (sym c.is_blank.ensures ∙ c.if-is_blank.false), c.loop-now.invariant.same)

pub returns-clause-same : goal.returns-clause-same
returns-clause-same c = omega (arith, gap_len_end false c.args.source.now c.loop-now.now c.loop-now-test.false, c.loop-now.invariant.same)
