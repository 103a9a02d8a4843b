use Rattle.data_scopes.proofs.Shared.{filled, filled_tables}
use Rattle.data_scopes.proofs.filling.with_outside.Goals as goal

pub new-requires : goal.new-requires
new-requires c = filled _ _ _ _ c.args.signals.now _ c.in_ok-declare_signals.ensures.ok c.in_ok-declare_predefined.ensures.ok c.len-count.ensures c.in_ok-signals.ensures.ok

pub returns-clause-ok : goal.returns-clause-ok
returns-clause-ok c = filled_tables _ _ _ _ c.args.signals.now _ c.in_ok-declare_signals.ensures.ok c.in_ok-declare_predefined.ensures.ok c.len-count.ensures c.in_ok-signals.ensures.ok _ _ _ _ c.new.ensures
