-- How counts, and the reported state, carry over several calls.
use Rattle.std.proofs.Common.{◌≡◌, ℕ, ◌≤◌, ap, arith}
use Rattle.outside.specs.Count.{Rose}
use Rattle.outside.specs.Told.{Told, after_reads}

-- a count that rose in the last step rose overall
pub Rose-since : (a b c : ℕ) → a ≤ b → b ≤ c → Rose b c → Rose a c
Rose-since a b c ab bc rose = grind arith

-- the reported state after no reads
pub after_reads-zero : (t : Told) → after_reads 0 t ≡ t
after_reads-zero t = ap (λ (calls : ℕ). let told : Told = record { files = t.files; calls = calls; failing = t.failing } in told) (omega arith)
