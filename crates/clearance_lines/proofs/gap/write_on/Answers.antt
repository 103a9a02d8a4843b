use Rattle.std.proofs.Common.{◌∷◌, []}
use Rattle.std.proofs.lemmas.Result.{err_from_is_err_and}
use Rattle.clearance_lines.proofs.PathGaps.{after_failed, after_written}
use Rattle.clearance_lines.proofs.gap.write_on.Goals as goal

pub returns-in_err-before : goal.returns-in_err-before
returns-in_err-before g c =
    let p = err_from_is_err_and c.from_residual.result c.from_residual.ensures.1 in
    after_failed (c.args.line.now ∷ []) c.args.before c.from_residual.result _ _ _ c.in_err-before.was (p.1)

pub returns : goal.returns
returns g c = after_written (c.args.line.now ∷ []) c.args.before c.write_all.result _ _ _ c.in_ok-before.was c.write_all.ensures
