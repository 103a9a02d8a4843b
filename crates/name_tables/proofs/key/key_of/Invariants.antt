use Rattle.std.proofs.Common.{◌≡◌, take, length}
use Rattle.std.specs.Str.{str_to_ascii_lowercase}
use Rattle.name_tables.proofs.key.key_of.Given as goal

abbrev pub invariant-loop-byte : goal.invariant-loop-byte
invariant-loop-byte l = (l.key.items ≡ str_to_ascii_lowercase (take l.byte-index l.name)) × (length l.key.items ≡ l.byte-index)
