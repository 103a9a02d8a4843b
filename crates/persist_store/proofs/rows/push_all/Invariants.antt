use Rattle.std.proofs.Common.{◌≡◌, ◌++◌, take}
use Rattle.persist_store.proofs.rows.push_all.Given as goal

-- the nums so far
abbrev pub invariant-loop-number : goal.invariant-loop-number
invariant-loop-number l = l.row.items ≡ l.initial.row.items ++ take l.number-index l.nums
