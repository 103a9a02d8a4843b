use Rattle.std.proofs.Common.{◌≤◌, ◌+◌, ℤ, length, sym, ◌∙◌, refl, arith}
use Rattle.std.proofs.lemmas.Bool.{false≢true}
use Rattle.zone_clearance.specs.declared.side.Side.TheVariants.{Low, High}
use Rattle.zone_clearance.specs.Claims.{Arrives}
use Rattle.zone_clearance.proofs.Passing.{arrives_by, never_by, of_all, of_line, of_more, of_none, zero_never_arrives}
use Rattle.zone_clearance.proofs.check.claim.Claim.is_reached_by_some.Goals as goal
use Rattle.zone_clearance.proofs.check.claim.Claim.is_reached_by_some.Goals.{then-is_reached_by-via-then-is_reached_by, then-is_reached_by-via-else-is_reached_by+then-is_reached_by-2}

pub loop-axis-init : goal.loop-axis-init
loop-axis-init c =
    let shape = c.args.shape.now in
    record { so_far = of_none (λ (start end : ℤ). ¬ Arrives c.args.self start end) shape.inside c.args.p.now c.args.q.now shape.bounds (λ kind. zero_never_arrives c.args.self) }

pub loop-axis-preserved : goal.loop-axis-preserved
loop-axis-preserved c =
    let shape = c.args.shape.now in
    let holds = λ (start end : ℤ). ¬ Arrives c.args.self start end in
    let p = c.args.p.now in
    let q = c.args.q.now in
    let axis = c.loop-axis.axis in
    record {
      so_far =
          of_more holds shape.inside p q shape.bounds axis c.loop-axis.invariant.so_far
          (of_line holds shape.inside p q shape.bounds (Low (axis + 1)) c.side_line-low.result c.side_line-low.ensures
          (never_by c.args.self c.side_line-low.result (λ arrives. false≢true (sym c.if-is_reached_by.false ∙ c.is_reached_by.ensures.1 arrives))))
          (of_line holds shape.inside p q shape.bounds (High (axis + 1)) c.side_line-high.result c.side_line-high.ensures
          (never_by c.args.self c.side_line-high.result (λ arrives. false≢true (sym c.if-is_reached_by-2.false ∙ c.is_reached_by-else-is_reached_by.ensures.1 arrives))));
    }

pub returns-then-is_reached_by : goal.returns-then-is_reached_by
returns-then-is_reached_by c =
    let shape = c.args.shape.now in
    let axis = c.loop-axis.axis in (
      λ is.
          elim c.then-is_reached_by.branch [
            | then-is_reached_by-via-then-is_reached_by w ↦
                arrives_by c.args.p.now c.args.q.now shape c.args.self (Low (axis + 1)) c.side_line-low.result c.side_line-low.ensures (c.is_reached_by.ensures.0 w.if-is_reached_by.true)
            | then-is_reached_by-via-else-is_reached_by+then-is_reached_by-2 w ↦
                arrives_by c.args.p.now c.args.q.now shape c.args.self (High (axis + 1)) c.side_line-high.result c.side_line-high.ensures (w.is_reached_by-else-is_reached_by.ensures.0 w.if-is_reached_by-2.true)
          ],
      λ some. refl,
    )

pub returns : goal.returns
returns c =
    let shape = c.args.shape.now in
    let count = c.axes_of-axis-end.ensures.count in
    let all : length shape.bounds ≤ c.loop-axis.axis = omega (arith, count) in (
      λ is. absurd (false≢true is),
      λ some. absurd (of_all (λ (start end : ℤ). ¬ Arrives c.args.self start end) shape.inside c.args.p.now c.args.q.now shape.bounds c.loop-axis.axis all c.loop-axis.invariant.so_far some.side some.start some.end some.way some.arrives),
    )
