use Rattle.std.proofs.Common.{sym, ◌∙◌}
use Rattle.std.proofs.lemmas.Bool.{false≢true}
use Rattle.zone_clearance.proofs.Crossing.{IsPlaceRead, crossing_down, crossing_up}
use Rattle.zone_clearance.proofs.check.proved.crossing.Goals as goal
use Rattle.zone_clearance.proofs.check.proved.crossing.Goals.{then-one-two-2, else-one-two-2+then-one-two-3, else-one-two-2+else-one-two-3, then-one-two, else-one-two}

pub returns-then-one-two-4 : goal.returns-then-one-two-4
returns-then-one-two-4 c =
    let one = c.args.one in
    let two = c.args.two in
    let read : IsPlaceRead one two c.new.result c.abs_diff-start.result c.abs_diff-end.result =
    record { start = c.abs_diff-start.ensures; end = c.abs_diff-end.ensures; top = c.new.ensures.top; bottom = c.new.ensures.bottom }
    in
    elim c.if-one-two-2.branch [
      | then-one-two-2 w ↦ elim c.if-one-two.branch [
        | then-one-two v ↦ crossing_down one two c.new.result _ _ v.if-one-two.true (sym v.value-is ∙ w.if-one-two-2.true) read
        | else-one-two v ↦ absurd (false≢true (sym v.if-one-two.false ∙ sym v.value-is ∙ w.if-one-two-2.true))
      ]
      | else-one-two-2+then-one-two-3 w ↦ crossing_up one two c.new.result _ _ w.if-one-two-3.true (sym w.value-is ∙ c.if-one-two-4.true) read
      | else-one-two-2+else-one-two-3 w ↦ absurd (false≢true (sym w.if-one-two-3.false ∙ sym w.value-is ∙ c.if-one-two-4.true))
    ]
