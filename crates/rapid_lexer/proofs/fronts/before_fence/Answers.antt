use Rattle.std.proofs.Common.{sym, ◌∙◌}
use Rattle.rapid_lexer.specs.Gaps.{before_fence}
use Rattle.rapid_lexer.proofs.TokenSteps.{before_fence_more}
use Rattle.rapid_lexer.proofs.fronts.before_fence.Goals as goal

pub loop-i-preserved : goal.loop-i-preserved
loop-i-preserved c = before_fence_more c.args.bytes.now c.loop-i.i (before_fence c.args.bytes.now) c.loop-i-test.true (sym c.is_fence.ensures.same ∙ c.if-is_fence.false) c.loop-i.invariant
