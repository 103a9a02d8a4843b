use Rattle.std.proofs.Common.{◌≤◌, sym, ◌∙◌, inl, inr, arith, eq-eqb}
use Rattle.std.proofs.lemmas.Bool.{false≢true, true_from_ne_false}
use Rattle.zone_clearance.specs.Claims.{AllPass, LinesProve}
use Rattle.zone_clearance.proofs.Checked.{gap_inside, needs_arrival, needs_pass, needs_prove}
use Rattle.zone_clearance.proofs.check.gap_holds.holds_inside.Goals as goal
use Rattle.zone_clearance.proofs.check.gap_holds.holds_inside.Goals.{then-is_proved_by, else-is_proved_by}

pub returns-then-claim-eq0 : goal.returns-then-claim-eq0
returns-then-claim-eq0 c =
    let claim = c.args.claim in
    let prove : LinesProve c.in-Some-side_line.one c.in-Some-side_line-2.two claim.top claim.bottom = elim c.if-is_proved_by.branch [
      | then-is_proved_by w ↦ c.is_proved_by.ensures.0 w.if-is_proved_by.true
      | else-is_proved_by w ↦ absurd (false≢true (sym w.if-is_proved_by.false ∙ sym w.value-is ∙ c.if-is_passed_by_all.true))
    ] in
    let passes : AllPass c.args.p.now c.args.q.now c.args.shape.now claim = elim c.if-is_proved_by.branch [
      | then-is_proved_by w ↦ w.is_passed_by_all.ensures.0 (sym w.value-is ∙ c.if-is_passed_by_all.true)
      | else-is_proved_by w ↦ absurd (false≢true (sym w.if-is_proved_by.false ∙ sym w.value-is ∙ c.if-is_passed_by_all.true))
    ] in (
      λ is.
          gap_inside c.args.p.now c.args.q.now c.args.shape.now c.args.gap.now claim c.in-Some.second c.in-Some-side_line.one c.in-Some-side_line-2.two c.requires.inside c.in-Some.is c.requires.claim
          c.in-Some-side_line.ensures c.in-Some-side_line-2.ensures prove passes (inl c.if-claim-eq0.true),
      λ holds. eq-eqb _ _ c.if-claim-eq0.true,
    )

pub returns-else-claim-eq0 : goal.returns-else-claim-eq0
returns-else-claim-eq0 c =
    let claim = c.args.claim in
    let later = c.if-claim-eq0.false in
    let some : 1 ≤ claim.place.top = omega (arith, later) in
    let prove : LinesProve c.in-Some-side_line.one c.in-Some-side_line-2.two claim.top claim.bottom = elim c.if-is_proved_by.branch [
      | then-is_proved_by w ↦ c.is_proved_by.ensures.0 w.if-is_proved_by.true
      | else-is_proved_by w ↦ absurd (false≢true (sym w.if-is_proved_by.false ∙ sym w.value-is ∙ c.if-is_passed_by_all.true))
    ] in
    let passes : AllPass c.args.p.now c.args.q.now c.args.shape.now claim = elim c.if-is_proved_by.branch [
      | then-is_proved_by w ↦ w.is_passed_by_all.ensures.0 (sym w.value-is ∙ c.if-is_passed_by_all.true)
      | else-is_proved_by w ↦ absurd (false≢true (sym w.if-is_proved_by.false ∙ sym w.value-is ∙ c.if-is_passed_by_all.true))
    ] in (
      λ is.
          gap_inside c.args.p.now c.args.q.now c.args.shape.now c.args.gap.now claim c.in-Some.second c.in-Some-side_line.one c.in-Some-side_line-2.two c.requires.inside c.in-Some.is c.requires.claim
          c.in-Some-side_line.ensures c.in-Some-side_line-2.ensures prove passes (inr (c.is_reached_by_some.ensures.0 is)),
      λ holds.
          true_from_ne_false c.is_reached_by_some.result
          (λ no.
          needs_arrival c.args.p.now c.args.q.now c.args.shape.now c.args.gap.now claim c.in-Some.second c.requires.inside c.in-Some.is c.requires.claim holds some
          (λ arrives. false≢true (sym no ∙ c.is_reached_by_some.ensures.1 arrives))),
    )

pub returns-else-is_passed_by_all : goal.returns-else-is_passed_by_all
returns-else-is_passed_by_all c =
    let claim = c.args.claim in (
      λ is. absurd (false≢true (sym c.if-is_passed_by_all.false ∙ is)),
      λ holds.
          elim c.if-is_proved_by.branch [
            | then-is_proved_by w ↦
                absurd (false≢true (sym c.if-is_passed_by_all.false ∙ w.value-is
                ∙ w.is_passed_by_all.ensures.1 (needs_pass c.args.p.now c.args.q.now c.args.shape.now c.args.gap.now claim c.in-Some.second c.requires.inside c.in-Some.is c.requires.claim holds)))
            | else-is_proved_by w ↦
                absurd (false≢true (sym w.if-is_proved_by.false
                ∙ c.is_proved_by.ensures.1
                (needs_prove c.args.p.now c.args.q.now c.args.shape.now c.args.gap.now claim c.in-Some.second c.in-Some-side_line.one c.in-Some-side_line-2.two c.requires.inside c.in-Some.is c.requires.claim c.in-Some-side_line.ensures c.in-Some-side_line-2.ensures holds)))
          ],
    )
