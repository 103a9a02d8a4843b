use Rattle.std.proofs.Common.{arith, pos, ◌<ℤ◌, ◌≤ℤ◌}
use Rattle.std.proofs.lemmas.Int.{ints}
use Rattle.joint_clip.proofs.Parts.{same_where}
use Rattle.joint_clip.proofs.Sides.{IsCrossing, inner-from, from-inner, inner-to, to-inner}
use Rattle.joint_clip.proofs.part.Part.cut.Goals as goal

pub returns-then-side-lt0 : goal.returns-then-side-lt0
returns-then-side-lt0 c =
    let side = c.args.side in
    let crossing : IsCrossing side c.crossing.result = record { top = c.crossing.ensures.top; bottom = c.crossing.ensures.bottom } in
    let beyond : side.start <ℤ pos 0 = omega (arith, ints) in
    let here : pos 0 ≤ℤ side.end = omega (arith, ints) in
    same_where _ _ _
    (λ k m some way h. (h.0, inner-from side _ k m crossing way beyond here h.1))
    (λ k m some way h. (h.0, from-inner side _ k m crossing way beyond here h.1))
    c.starting_at.ensures

pub returns-then-side-lt0-3 : goal.returns-then-side-lt0-3
returns-then-side-lt0-3 c =
    let side = c.args.side in
    let crossing : IsCrossing side c.crossing-then-side-lt0-3.result = record { top = c.crossing-then-side-lt0-3.ensures.top; bottom = c.crossing-then-side-lt0-3.ensures.bottom } in
    let here : pos 0 ≤ℤ side.start = omega (arith, ints) in
    let beyond : side.end <ℤ pos 0 = omega (arith, ints) in
    same_where _ _ _
    (λ k m some way h. (h.0, inner-to side _ k m crossing way here beyond h.1))
    (λ k m some way h. (h.0, to-inner side _ k m crossing way here beyond h.1))
    c.ending_at.ensures
