use Rattle.joint_clip.proofs.Parts.{same_where, cut_twice, none_where}
use Rattle.joint_clip.proofs.Sides.{IsAbove, IsBelow, within-inner, above-within, below-within}
use Rattle.joint_clip.proofs.part.Part.within.Goals as goal

pub returns-in_err-cut : goal.returns-in_err-cut
returns-in_err-cut c =
    let bound = c.args.bound in
    let above : IsAbove bound.low c.args.p c.args.q c.above.result = record { start = c.above.ensures.start; end = c.above.ensures.end } in
    rw c.from_residual.ensures (none_where _ _
    (λ k m some way h. (h.0, above-within bound c.args.p c.args.q _ k m above way h.1))
    c.in_err-cut.ensures)

pub returns : goal.returns
returns c =
    let bound = c.args.bound in
    let above : IsAbove bound.low c.args.p c.args.q c.above.result = record { start = c.above.ensures.start; end = c.above.ensures.end } in
    let below : IsBelow bound.high c.args.p c.args.q c.below.result = record { start = c.below.ensures.start; end = c.below.ensures.end } in
    same_where _ _ _
    (λ k m some way h. (h.0.0, within-inner bound c.args.p c.args.q _ _ k m above below way h.0.1 h.1))
    (λ k m some way h. ((h.0, above-within bound c.args.p c.args.q _ k m above way h.1), below-within bound c.args.p c.args.q _ k m below way h.1))
    (cut_twice _ _ _ _ c.in_ok-cut.ensures c.cut-2.ensures)
