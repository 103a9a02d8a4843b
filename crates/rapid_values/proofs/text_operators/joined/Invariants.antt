use Rattle.std.proofs.Common.{◌≡◌, ◌++◌, take}
use Rattle.rapid_values.proofs.text_operators.joined.Given as goal

abbrev pub invariant-loop-byte : goal.invariant-loop-byte
invariant-loop-byte l = l.text ≡ l.left ++ take l.byte-index l.bytes
