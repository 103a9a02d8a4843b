use Rattle.std.proofs.Common.{map}
use Rattle.cell_assembly.specs.Views.{view_info}
use Rattle.cell_assembly.proofs.Kept.{table_given}
use Rattle.cell_assembly.proofs.giving.give.Goals as goal

pub invariant_of-result : goal.invariant_of-result
invariant_of-result c =
    let pers = c.pers.inside in
    table_given pers.globals (map view_info pers.infos.items) (map view_info c.in_ok-infos.infos.items) c.args.number c.args.row.now c.global_number-k.result c.pers.invariant c.in_ok-infos.ensures
