use Rattle.toml.specs.View.{table_view}
use Rattle.script_migration.proofs.Written.{is_written}
use Rattle.script_migration.proofs.migrating.printed.Goals as goal

pub returns-in-Ok : goal.returns-in-Ok
returns-in-Ok c =
    is_written c.args.text.now (table_view c.in_ok-table.table) (table_view c.set_version.new.table) c.printed_table.result c.in_ok-table.ensures c.in-Ok.ensures c.printed_table.ensures
