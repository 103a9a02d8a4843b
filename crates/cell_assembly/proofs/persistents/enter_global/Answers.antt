use Rattle.std.proofs.Common.{◌∙◌, ap, sym}
use Rattle.name_tables.specs.Names.{entered}
use Rattle.cell_assembly.specs.Views.{view_info}
use Rattle.cell_assembly.proofs.NameTables.{enters_global}
use Rattle.cell_assembly.proofs.persistents.enter_global.Goals as goal

pub returns-clause-ok : goal.returns-clause-ok
returns-clause-ok c =
    let table = c.args.table.now in
    enters_global table c.enter.new.self (view_info c.args.info.now) c.args.number (sym c.is_some.ensures ∙ c.if-is_some.false)
    (c.in_ok-enter.ensures.ok ∙ ap (λ name. entered name c.args.number table) c.bytes.ensures.same)
