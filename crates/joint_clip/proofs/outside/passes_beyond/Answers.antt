use Rattle.std.proofs.lemmas.Bool.{false≢true}
use Rattle.joint_clip.proofs.Beyond.{beyond_at_start, end_beyond}
use Rattle.joint_clip.proofs.outside.passes_beyond.Goals as goal

pub returns-then-is_beyond : goal.returns-then-is_beyond
returns-then-is_beyond c =
    (λ is. beyond_at_start c.args.bound.now c.args.p c.args.q (c.is_beyond.ensures.0 is), λ beyond. c.if-is_beyond.true)

pub returns-else-is_beyond : goal.returns-else-is_beyond
returns-else-is_beyond c =
    end_beyond c.args.bound.now c.args.p c.args.q _ (λ beyond. false≢true (c.if-is_beyond.ensures.1 beyond)) c.is_beyond-else-is_beyond.ensures
