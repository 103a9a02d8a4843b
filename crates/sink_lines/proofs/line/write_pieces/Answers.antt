use Rattle.std.proofs.Common.{[], ◌∷◌}
use Rattle.std.specs.Prelude.{codes}
use Rattle.std.proofs.lemmas.Result.{err_from_is_err_and}
use Rattle.sink_lines.proofs.Gains.{writes_then, wrote_first}
use Rattle.sink_lines.proofs.line.write_pieces.Goals as goal

pub returns-in_err-write_two : goal.returns-in_err-write_two
returns-in_err-write_two g c =
    let p = err_from_is_err_and c.from_residual.result c.from_residual.ensures.1 in
    rw (p.1) (wrote_first (c.args.head.now ∷ c.args.name.now ∷ []) (c.args.between.now ∷ c.args.rule.now ∷ codes "\n" ∷ []) _ c.in_err-write_two.ensures)

pub returns : goal.returns
returns g c = writes_then (c.args.head.now ∷ c.args.name.now ∷ []) (c.args.between.now ∷ c.args.rule.now ∷ codes "\n" ∷ []) _ _ _ _ c.in_ok-write_two.ensures c.write_three.ensures
