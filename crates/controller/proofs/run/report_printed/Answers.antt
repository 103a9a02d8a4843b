use Rattle.std.proofs.Common.{sym, subst}
use Rattle.std.specs.Prelude.{Result, ⊤}
use Rattle.outside.specs.declared.failed.Failed.{Failed}
use Rattle.controller.specs.Answered.{Closes}
use Rattle.sink_lines.specs.Printed.{sunk}
use Rattle.sink_lines.proofs.Gains.{gained_none}
use Rattle.controller.proofs.run.report_printed.Goals as goal

pub returns-in-Ok-clause-closed : goal.returns-in-Ok-clause-closed
returns-in-Ok-clause-closed g c =
    subst (λ (printed : Result ⊤ Failed). Closes c.args.status printed c.report_of.result (sunk g.E.Sink.told g.E.Sink.calls g.E.Sink.faults c.args.err.now c.args.err.now)) (sym c.in-Ok.is)
    (c.report_of.ensures.refused, c.report_of.ensures.status, gained_none _)

pub returns-in-Err-clause-closed : goal.returns-in-Err-clause-closed
returns-in-Err-clause-closed g c =
    subst (λ (printed : Result ⊤ Failed). Closes c.args.status printed c.report_of-in-Err.result (sunk g.E.Sink.told g.E.Sink.calls g.E.Sink.faults c.args.err.now c.tell_refusal.new.err)) (sym c.in-Err.is)
    (c.report_of-in-Err.ensures.refused, c.report_of-in-Err.ensures.status, c.tell_refusal.ensures.told)
