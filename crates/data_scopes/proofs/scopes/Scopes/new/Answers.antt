use Rattle.std.proofs.Common.{map}
use Rattle.raw_trees.specs.Views.{view_module}
use Rattle.rule_checks.proofs.Steps.{ok_same}
use Rattle.data_scopes.proofs.Typed.{names_kept}
use Rattle.data_scopes.proofs.scopes.Scopes.new.Goals as goal

pub invariant_of-result : goal.invariant_of-result
invariant_of-result c =
    names_kept (map view_module c.args.modules.now) c.args.known.now.signals.now c.in_ok-tables.tables c.in_ok-rows.rows c.constants.result c.in_ok-kept.kept.items c.in_ok-tables.ensures.ok c.in_ok-rows.ensures c.constants.ensures (ok_same _ _ c.in_ok-kept.ensures)
