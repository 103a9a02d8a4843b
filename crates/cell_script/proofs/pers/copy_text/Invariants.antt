use Rattle.std.proofs.Common.{◌≡◌, take}
use Rattle.cell_script.proofs.pers.copy_text.Given as goal

abbrev pub invariant-loop-byte : goal.invariant-loop-byte
invariant-loop-byte l = l.text ≡ take l.byte-index l.bytes
