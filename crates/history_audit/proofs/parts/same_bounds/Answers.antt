use Rattle.std.proofs.Common.{◌≡◌, List, Option, ap, get_or, sym, ◌∙◌, refl, arith}
use Rattle.std.proofs.lemmas.Bool.{false≢true}
use Rattle.std.proofs.lemmas.List.{get_or_default, take_more_same}
use Rattle.rapid_num.specs.declared.shape.Bound.{Bound}
use Rattle.history_audit.proofs.Alike.{all_alike}
use Rattle.history_audit.proofs.parts.same_bounds.Goals as goal

pub loop-k-preserved : goal.loop-k-preserved
loop-k-preserved c =
    let k = c.loop-k.k in
    let x = c.index-a-k.result in
    let y = c.index-b-k.result in
    let same : x ≡ y = c.same_bound.ensures.0 c.if-not-same_bound.false in
    take_more_same c.args.a.now c.args.b.now k x (omega arith) (omega (arith, c.requires)) c.loop-k.invariant
    (sym c.index-a-k.is ∙ same ∙ c.index-b-k.is ∙ get_or_default c.args.b.now k y x (omega (arith, c.requires)))

pub returns-then-not-same_bound : goal.returns-then-not-same_bound
returns-then-not-same_bound c = (
  λ found. absurd (false≢true found),
  λ same.
      let k = c.loop-k.k in
      let x = c.index-a-k.result in
      let y = c.index-b-k.result in
      let equal : x ≡ y =
      c.index-a-k.is ∙ ap (λ (xs : List (Option Bound)). get_or xs k x) same ∙ get_or_default c.args.b.now k x y (omega (arith, c.requires)) ∙ sym c.index-b-k.is in
      absurd (false≢true (sym c.if-not-same_bound.true ∙ c.same_bound.ensures.1 equal)),
)

pub returns : goal.returns
returns c = (
  λ found. all_alike c.args.a.now c.args.b.now c.loop-k.k c.loop-k.invariant (omega arith) (omega (arith, c.requires)),
  λ same. refl,
)
