use Rattle.std.proofs.Common.{◌+◌, ◌-◌, ◌≡◌, ℕ, ◌≤◌, List, ◌++◌, length}
use Rattle.std.specs.Io.KnownBytes.{Consumes}
use Rattle.outside.proofs.file_shelf.read_to_limit.Given as goal

abbrev pub invariant-loop-gained : goal.invariant-loop-gained
invariant-loop-gained g l = ((bytes : List ℕ) × (l.into.items ≡ l.fn.into.items ++ bytes) × (length bytes ≡ l.gained) × Consumes (g.F.Read.remaining l.fn.file) (g.F.Read.remaining l.file) bytes) × (l.gained ≤ l.limit + 1)

abbrev pub decreases-loop-gained : goal.decreases-loop-gained
decreases-loop-gained g l = l.limit + 1 - l.gained
