use Rattle.std.proofs.Common.{◌≡◌, ℕ, List, ◌++◌, take}
use Rattle.cell_script.specs.Break.{shown}
use Rattle.cell_script.proofs.path.show.Given as goal

abbrev pub invariant-loop-byte : goal.invariant-loop-byte
invariant-loop-byte l = (front : List ℕ) → l.initial.text ≡ shown front → l.text ≡ shown (front ++ take l.byte-index l.bytes)
