use Rattle.std.proofs.Common.{ℕ, List, subst}
use Rattle.sink_lines.specs.Printed.{sunk}
use Rattle.controller.specs.RefusalLines.{refusal_text}
use Rattle.sink_lines.specs.Written.{TakesLine}
use Rattle.controller.proofs.report.refuse_file.Goals as goal

pub returns-clause-told : goal.returns-clause-told
returns-clause-told g c =
    subst (λ (name : List ℕ). TakesLine (refusal_text name c.args.refused) (sunk g.E.Sink.told g.E.Sink.calls g.E.Sink.faults c.args.err.now c.refuse.new.err))
    c.told_name.ensures c.refuse.ensures.told
