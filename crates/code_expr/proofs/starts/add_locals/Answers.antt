use Rattle.std.proofs.Common.{map, subst, ◌++◌, ◌∙◌, ap}
use Rattle.std.proofs.lemmas.List.{take_all}
use Rattle.rapid_model.specs.Sorts.{width}
use Rattle.code_expr.specs.Starts.{AreStarts}
use Rattle.code_expr.proofs.Widths.{locals_as}
use Rattle.code_expr.proofs.starts.add_locals.Goals as goal

pub returns : goal.returns
returns c = λ widths before.
    let list = c.deref-local-items.result.now in
    let all = take_all c.loop-local.local-index list c.loop-local-test.false ∙ c.deref-local-items.ensures.value in
    subst (λ rows. AreStarts c.loop-local.starts.items (widths ++ rows)) (ap (map (λ local. width local.len)) all ∙ locals_as c.args.routine.now.locals.items) (c.loop-local.invariant widths before)
