use Rattle.std.proofs.Common.{◌≡◌, ◌≤◌, length}
use Rattle.board_bench.proofs.pages.kept.Given as goal

-- as many events as there were turns, with room for all
abbrev pub invariant-loop-k : goal.invariant-loop-k
invariant-loop-k l = (length l.pages.events ≡ l.k) × (l.pages.room ≡ l.count)

abbrev pub invariant-loop-k-2 : goal.invariant-loop-k-2
invariant-loop-k-2 l = l.kept ≤ l.k
