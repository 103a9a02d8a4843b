use Rattle.std.proofs.Common.{sym, ◌∙◌}
use Rattle.std.proofs.lemmas.Bool.{false≢true}
use Rattle.cell_gate.proofs.Asked.{never_waits}
use Rattle.cell_gate.proofs.asking.try_act.Goals as goal

pub unreachable-requires : goal.unreachable-requires
unreachable-requires c = false≢true (sym c.in-NotYet.ensures.served.not_enabled ∙ never_waits c.args.core.now.cell c.args.core.now.history c.args.actor c.args.request.now c.requires.plain)
