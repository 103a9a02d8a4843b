use Rattle.std.proofs.Common.{◌≡◌, true, drop, length, take}
use Rattle.std.specs.List.{list_all}
use Rattle.rapid_num.specs.Range.{is_num}
use Rattle.history_pages.proofs.words.nums_from.Given as goal

-- the nums so far
abbrev pub invariant-loop-k : goal.invariant-loop-k
invariant-loop-k g l = record {
  long : length l.nums ≡ g.row.COUNT;
  read : take l.k l.nums ≡ take l.k (drop l.from l.words.items);
  nums : list_all is_num (take l.k (drop l.from l.words.items)) ≡ true;
}
