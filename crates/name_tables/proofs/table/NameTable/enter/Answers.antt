use Rattle.std.proofs.Common.{rules}
use Rattle.name_tables.proofs.Entries.{inserted, stays_short}
use Rattle.name_tables.proofs.table.NameTable.enter.Goals as goal

pub invariant_of-self-2 : goal.invariant_of-self-2
invariant_of-self-2 g c = stays_short _ c.args.value c.in-Some.key c.self.inside.entries.entries _ c.self.invariant c.in-Some.ensures.0 c.in-Some.ensures.1 (search rules)

pub returns-clause-ok : goal.returns-clause-ok
returns-clause-ok g c = inserted _ c.args.value c.in-Some.key c.self.inside.entries.entries _ _ c.self.view_is c.in-Some.ensures.0 (search rules)
