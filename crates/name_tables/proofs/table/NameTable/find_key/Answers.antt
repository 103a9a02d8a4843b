use Rattle.std.proofs.Common.{sym, ◌∙◌}
use Rattle.name_tables.proofs.Entries.{found, nowhere, too_long}
use Rattle.name_tables.proofs.table.NameTable.find_key.Goals as goal

pub returns-then-is_empty : goal.returns-then-is_empty
returns-then-is_empty g c = nowhere _ c.self.inside.entries.entries _ c.self.view_is (c.is_empty.ensures.0 c.if-is_empty.true)

pub returns-in_err-key : goal.returns-in_err-key
returns-in_err-key g c = c.from_residual.ensures ∙ sym (too_long _ _ _ c.self.view_is c.self.invariant c.in_err-key.ensures)

pub returns : goal.returns
returns g c = c.copied.ensures ∙ c.get.ensures.value ∙ found _ c.in_ok-key.key.now c.self.inside.entries.entries _ c.self.view_is c.in_ok-key.ensures.0
