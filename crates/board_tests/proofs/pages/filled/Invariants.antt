use Rattle.std.proofs.Common.{◌≡◌, length}
use Rattle.board_tests.proofs.pages.filled.Given as goal

-- as many events as there were turns, with room for all
abbrev pub invariant-loop-k : goal.invariant-loop-k
invariant-loop-k l = (length l.pages.events ≡ l.k) × (l.pages.room ≡ 5000)
