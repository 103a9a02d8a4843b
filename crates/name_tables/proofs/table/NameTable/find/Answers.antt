use Rattle.name_tables.proofs.Entries.{nowhere}
use Rattle.name_tables.proofs.table.NameTable.find.Goals as goal

pub returns-then-is_empty : goal.returns-then-is_empty
returns-then-is_empty g c = nowhere _ c.self.inside.entries.entries _ c.self.view_is (c.is_empty.ensures.0 c.if-is_empty.true)
