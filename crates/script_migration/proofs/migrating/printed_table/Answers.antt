use Rattle.std.proofs.Common.{string_bytes}
use Rattle.std.proofs.lemmas.Str.{IsUtf8-had}
use Rattle.script_migration.proofs.migrating.printed_table.Goals as goal

pub returns-in-Ok : goal.returns-in-Ok
returns-in-Ok c = record {
  utf8 = IsUtf8-had (string_bytes c.in-Ok.printed) c.in-Ok.printed.ok;
  table = c.in-Ok.ensures.reads_back (c.table_fits.ensures c.if-not-table_fits.false);
}
