use Rattle.std.proofs.Common.{true, false, arith}
use Rattle.rapid_lexer.proofs.GapLoops.{gap_len_end, gap_len_comment, gap_len_line_end}
use Rattle.rapid_lexer.proofs.gaps.line_end.Goals as goal

pub loop-now-preserved : goal.loop-now-preserved
loop-now-preserved c = record {
  same = omega (arith, gap_len_comment c.args.source.now c.loop-now.now c.loop-now-test.true c.if-source-now-ne10.true, c.loop-now.invariant.same);
  within = omega arith;
  goes_on = omega arith;
}

pub returns-else-source-now-ne10-clause-same : goal.returns-else-source-now-ne10-clause-same
returns-else-source-now-ne10-clause-same c =
    omega (arith, gap_len_line_end c.args.source.now c.loop-now.now c.loop-now-test.true c.if-source-now-ne10.false, c.loop-now.invariant.same)

pub returns-after-loop-now-clause-same : goal.returns-after-loop-now-clause-same
returns-after-loop-now-clause-same c =
    omega (arith, gap_len_end true c.args.source.now c.loop-now.now c.loop-now-test.false, gap_len_end false c.args.source.now c.loop-now.now c.loop-now-test.false, c.loop-now.invariant.same)
