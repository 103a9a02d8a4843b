use Rattle.std.proofs.Common.{◌≡◌, drop}
use Rattle.std.specs.Prelude.{bytes_eq}
use Rattle.std.specs.Map.{lookup}
use Rattle.outside.specs.MemoryShelf.{files_of}
use Rattle.outside.proofs.memory_shelf.bytes_at.Given as goal

-- the file is searched for among the remaining files
abbrev pub invariant-loop-key : goal.invariant-loop-key
invariant-loop-key l = lookup (bytes_eq l.name) (files_of l.files) ≡ lookup (bytes_eq l.name) (files_of (drop l.key-index l.files))
