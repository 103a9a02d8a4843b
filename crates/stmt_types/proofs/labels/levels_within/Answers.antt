use Rattle.std.proofs.Common.{◌+◌, ◌++◌, drop, ap, sym, ◌∙◌, append_assoc}
use Rattle.std.proofs.lemmas.List.{at_drop_more}
use Rattle.stmt_types.specs.Labels.{labels_around}
use Rattle.stmt_types.proofs.LabelPlaces.{levels_last}
use Rattle.stmt_types.proofs.labels.levels_within.Goals as goal

pub loop-level-preserved : goal.loop-level-preserved
loop-level-preserved c =
    let before = c.loop-level.levels.items in
    let around = c.args.around.now in
    let i = c.loop-level.level-index in
    let level = c.level-item.result in
    ap (λ ls. labels_around ls ++ labels_around (drop (i + 1) around)) c.in_ok-push-2.ensures.items
    ∙ ap (λ ls. ls ++ labels_around (drop (i + 1) around)) (levels_last before level)
    ∙ append_assoc (labels_around before) level.now (labels_around (drop (i + 1) around))
    ∙ sym (ap (λ ls. labels_around before ++ ls) (at_drop_more labels_around around i level c.loop-level-test.true ∙ ap (λ x. x.now ++ labels_around (drop (i + 1) around)) (sym c.level-item.is)))
    ∙ c.loop-level.invariant
