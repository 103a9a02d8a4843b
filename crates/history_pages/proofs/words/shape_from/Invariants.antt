use Rattle.std.proofs.Common.{◌≡◌, ℕ, ◌<◌, None, drop, get_or, length}
use Rattle.history_pages.specs.Words.{bound_at}
use Rattle.history_pages.proofs.words.shape_from.Given as goal

-- the bounds of the axes so far
abbrev pub invariant-loop-axis : goal.invariant-loop-axis
invariant-loop-axis l = record {
  long : length l.bounds ≡ 12;
  read : (k : ℕ) → k < l.axis → get_or l.bounds k None ≡ bound_at (drop l.from l.words.items) k;
}
