use Rattle.std.proofs.Common.{◌∙◌, List, ℕ, subst}
use Rattle.sink_lines.specs.Printed.{sunk}
use Rattle.sink_lines.specs.Written.{WritesLine}
use Rattle.sink_lines.proofs.Gains.{in_one, in_five}
use Rattle.sink_lines.proofs.line.write_line.Goals as goal

pub returns-in-Ok : goal.returns-in-Ok
returns-in-Ok g c =
    subst (λ (line : List ℕ). WritesLine line c.write_all.result (sunk g.E.Sink.told g.E.Sink.calls g.E.Sink.faults c.args.err.now c.write_all.new.out)) (c.as_slice.ensures.value ∙ c.in-Ok.ensures.fits)
    (in_one _ _ _ c.write_all.ensures)

pub returns-in-Err : goal.returns-in-Err
returns-in-Err g c = in_five _ _ _ _ _ _ c.in-Err.ensures.long c.write_pieces.ensures
