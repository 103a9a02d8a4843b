use Rattle.std.proofs.Common.{[], ◌∷◌}
use Rattle.std.proofs.lemmas.Result.{err_from_is_err_and}
use Rattle.sink_lines.proofs.Gains.{writes_then, wrote_first}
use Rattle.sink_lines.proofs.write.write_three.Goals as goal

pub returns-in_err-write_all : goal.returns-in_err-write_all
returns-in_err-write_all g c =
    let p = err_from_is_err_and c.from_residual.result c.from_residual.ensures.1 in
    rw (p.1) (wrote_first (c.args.head.now ∷ []) (c.args.middle.now ∷ c.args.tail.now ∷ []) _ c.in_err-write_all.ensures)

pub returns : goal.returns
returns g c = writes_then (c.args.head.now ∷ []) (c.args.middle.now ∷ c.args.tail.now ∷ []) _ _ _ _ c.in_ok-write_all.ensures c.write_two.ensures
