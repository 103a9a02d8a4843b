-- The results of the functions for statements, as their callers see them.
use Rattle.std.proofs.Common.{ℕ}
use Rattle.expr_parser.proofs.Known.{Known}
use Rattle.stmt_parser.specs.Grammar.{items}
use Rattle.stmt_parser.specs.Reads.{items_read}
use Rattle.stmt_parser.proofs.Ahead.{items_ll}
use Rattle.stmt_parser.proofs.Answered.{items_above, items_reads}

pub items_known : (n : ℕ) → Known items n (items_read n)
items_known n = record { null = _; first = _; more = _; reads = items_reads n; ahead = items_ll; above = items_above }
