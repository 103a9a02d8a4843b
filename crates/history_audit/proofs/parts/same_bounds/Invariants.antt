-- The bounds so far are equal.
use Rattle.std.proofs.Common.{◌≡◌, take}
use Rattle.history_audit.proofs.parts.same_bounds.Given as goal

abbrev pub invariant-loop-k : goal.invariant-loop-k
invariant-loop-k l = take l.k l.a ≡ take l.k l.b
