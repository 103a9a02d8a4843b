use Rattle.std.proofs.Common.{◌≡◌, false, Option, Some, None, is_some, refl, sym, ◌∙◌}
use Rattle.std.proofs.lemmas.Bool.{false≢true}
use Rattle.zone_clearance.specs.declared.side.Side.{Side}
use Rattle.zone_clearance.proofs.Checked.{gap_outside, needs_all}
use Rattle.zone_clearance.proofs.check.gap_holds.holds_outside.Goals as goal

none_of : (side : Option Side) → is_some side ≡ false → side ≡ None
none_of None is = refl
none_of (Some side) is = absurd (false≢true (sym is))

pub returns-then-is_under : goal.returns-then-is_under
returns-then-is_under c =
    let alone = none_of c.args.gap.now.second (sym c.is_some.ensures ∙ c.if-is_some.false) in (
      λ is.
          gap_outside c.args.p.now c.args.q.now c.args.shape.now c.args.gap.now c.args.claim c.in-Some.line c.requires.outside alone c.requires.claim c.in-Some.ensures
          (c.is_under.ensures.0 c.if-is_under.true) (c.is_passed_by_all.ensures.0 is),
      λ holds. c.is_passed_by_all.ensures.1 (needs_all c.args.p.now c.args.q.now c.args.shape.now c.args.gap.now c.args.claim c.requires.outside c.requires.claim holds),
    )
