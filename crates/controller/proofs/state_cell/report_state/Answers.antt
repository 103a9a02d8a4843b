use Rattle.std.proofs.Common.{map, refl}
use Rattle.typed_trees.specs.Views.{view_tree}
use Rattle.state_lines.specs.Sources.{view_modules}
use Rattle.sink_lines.proofs.Gains.{gained_none}
use Rattle.controller.proofs.Stated.{state_cut_short, state_printed}
use Rattle.controller.proofs.state_cell.report_state.Goals as goal

pub returns-in-Ok-clause-nothing : goal.returns-in-Ok-clause-nothing
returns-in-Ok-clause-nothing g c = record { history = c.new.ensures.items; fates = c.new-in-Ok.ensures.items }

pub returns-in-Ok-clause-printed : goal.returns-in-Ok-clause-printed
returns-in-Ok-clause-printed g c =
    state_printed c.args.stated.now.core.cell c.cell.result.now (map view_tree c.args.trees.now) (view_modules c.args.modules.now) c.args.stated.now.state _ _ _ c.cell.ensures refl refl c.in-Ok.ensures (gained_none _)

pub returns-in-Err-clause-nothing : goal.returns-in-Err-clause-nothing
returns-in-Err-clause-nothing g c = record { history = c.refuse.ensures.history; fates = c.refuse.ensures.fates }

pub returns-in-Err-clause-printed : goal.returns-in-Err-clause-printed
returns-in-Err-clause-printed g c =
    state_cut_short c.args.stated.now.core.cell c.cell.result.now (map view_tree c.args.trees.now) (view_modules c.args.modules.now) c.args.stated.now.state _ _ _ c.cell.ensures c.refuse.ensures.refused
    c.refuse.ensures.status c.in-Err.ensures c.refuse.ensures.told
