use Rattle.std.proofs.Common.{◌≡◌, ◌+◌, ◌≤◌, ◌*◌, ◌++◌, length, take}
use Rattle.std.specs.Prelude.{flat_map}
use Rattle.value_text.specs.ValueText.{quoted_byte}
use Rattle.value_text.proofs.quoted.push_quoted.Given as goal

abbrev pub invariant-loop-byte : goal.invariant-loop-byte
invariant-loop-byte g l = record {
  text : l.line.bytes ≡ l.initial.line.bytes ++ flat_map quoted_byte (take l.byte-index l.byte-items);
  short : length l.line.bytes ≤ length l.initial.line.bytes + 2 * l.byte-index;
}
