use Rattle.std.proofs.Common.{◌≤◌, ◌+◌, length, sym, ◌∙◌, refl, arith}
use Rattle.std.proofs.lemmas.Bool.{false≢true}
use Rattle.zone_clearance.specs.declared.side.Side.TheVariants.{Low, High}
use Rattle.zone_clearance.specs.Claims.{Passes}
use Rattle.zone_clearance.proofs.Passing.{line_of, of_all, of_line, of_more, of_none, zero_passes}
use Rattle.zone_clearance.proofs.check.claim.Claim.is_passed_by_all.Goals as goal
use Rattle.zone_clearance.proofs.check.claim.Claim.is_passed_by_all.Goals.{then-not-passes-via-then-not-passes, then-not-passes-via-else-not-passes+then-not-passes-2}

pub loop-axis-init : goal.loop-axis-init
loop-axis-init c =
    let shape = c.args.shape.now in
    record { so_far = of_none (Passes shape.inside c.args.self) shape.inside c.args.p.now c.args.q.now shape.bounds (zero_passes shape.inside c.args.self) }

pub loop-axis-preserved : goal.loop-axis-preserved
loop-axis-preserved c =
    let shape = c.args.shape.now in
    let holds = Passes shape.inside c.args.self in
    let p = c.args.p.now in
    let q = c.args.q.now in
    let axis = c.loop-axis.axis in
    record {
      so_far =
          of_more holds shape.inside p q shape.bounds axis c.loop-axis.invariant.so_far
          (of_line holds shape.inside p q shape.bounds (Low (axis + 1)) c.side_line-low.result c.side_line-low.ensures (c.passes.ensures.0 c.if-not-passes.false))
          (of_line holds shape.inside p q shape.bounds (High (axis + 1)) c.side_line-high.result c.side_line-high.ensures (c.passes-else-not-passes.ensures.0 c.if-not-passes-2.false));
    }

pub returns-then-not-passes : goal.returns-then-not-passes
returns-then-not-passes c =
    let shape = c.args.shape.now in
    let holds = Passes shape.inside c.args.self in
    let p = c.args.p.now in
    let q = c.args.q.now in
    let axis = c.loop-axis.axis in (
      λ is. absurd (false≢true is),
      λ all.
          elim c.then-not-passes.branch [
            | then-not-passes-via-then-not-passes w ↦
                absurd (false≢true (sym w.if-not-passes.true ∙ c.passes.ensures.1 (line_of holds shape.inside p q shape.bounds (Low (axis + 1)) c.side_line-low.result c.side_line-low.ensures (all (Low (axis + 1))))))
            | then-not-passes-via-else-not-passes+then-not-passes-2 w ↦
                absurd (false≢true (sym w.if-not-passes-2.true ∙ w.passes-else-not-passes.ensures.1 (line_of holds shape.inside p q shape.bounds (High (axis + 1)) c.side_line-high.result c.side_line-high.ensures (all (High (axis + 1))))))
          ],
    )

pub returns : goal.returns
returns c =
    let shape = c.args.shape.now in
    let count = c.axes_of-axis-end.ensures.count in
    let all : length shape.bounds ≤ c.loop-axis.axis = omega (arith, count) in
    (λ is. of_all (Passes shape.inside c.args.self) shape.inside c.args.p.now c.args.q.now shape.bounds c.loop-axis.axis all c.loop-axis.invariant.so_far, λ passes. refl)
