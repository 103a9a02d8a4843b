use Rattle.std.proofs.Common.{◌≡◌, ◌≤◌, ◌+◌, eqb, take}
use Rattle.std.specs.Prelude.{count_by}
use Rattle.rapid_lexer.proofs.Columns.{since_line}
use Rattle.rapid_lexer.proofs.place.place_of.Given as goal

abbrev pub invariant-loop-byte : goal.invariant-loop-byte
invariant-loop-byte l = record {
  line : l.line ≡ count_by (λ b. eqb b 10) (take l.byte-index l.byte-items) + 1;
  column : l.column ≡ since_line (take l.byte-index l.byte-items) + 1;
  few_lines : l.line ≤ l.byte-index + 1;
  few_columns : l.column ≤ l.byte-index + 1;
}
