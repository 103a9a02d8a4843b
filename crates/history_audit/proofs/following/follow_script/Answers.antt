use Rattle.std.proofs.Common.{inr, sym, ◌∙◌}
use Rattle.std.proofs.lemmas.Bool.{leb-false, leb-true}
use Rattle.cell_meaning.specs.Asking.{with_inputs}
use Rattle.history_audit.proofs.Causes.{ended_wrong}
use Rattle.history_audit.proofs.Scripts.{script_alone, script_asks}
use Rattle.history_audit.proofs.following.follow_script.Goals as goal

pub returns-then-all_inputs_done-clause-followed : goal.returns-then-all_inputs_done-clause-followed
returns-then-all_inputs_done-clause-followed g c =
    ended_wrong (with_inputs g.A.Askers.asks c.args.core.now.cell) c.args.core.now.cell c.args.core.now.history c.args.event.now c.requires.may c.requires.legal
    (inr (c.requires.script, leb-true _ _ (sym c.all_inputs_done.ensures ∙ c.if-all_inputs_done.true)))

pub serve-requires-clause-asked : goal.serve-requires-clause-asked
serve-requires-clause-asked g c =
    script_asks g.A.Askers.asks c.args.core.now.cell c.args.core.now.history c.args.event.now.actor c.inputs_done-index.result c.requires.script c.inputs_done-index.ensures
    (leb-false _ _ (sym c.all_inputs_done.ensures ∙ c.if-all_inputs_done.false))

pub serve-requires-clause-alone : goal.serve-requires-clause-alone
serve-requires-clause-alone g c = script_alone g.A.Askers.asks c.args.core.now.cell c.args.core.now.history c.args.event.now.actor c.inputs_done-index.result c.requires.script c.inputs_done-index.ensures
