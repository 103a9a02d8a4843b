use Rattle.std.proofs.Common.{◌≡◌, true, take}
use Rattle.std.specs.List.{list_all}
use Rattle.rapid_num.specs.Range.{is_num}
use Rattle.history_pages.specs.Paged.{with_items}
use Rattle.history_pages.proofs.words.put_nums.Given as goal

-- the nums so far
abbrev pub invariant-loop-number : goal.invariant-loop-number
invariant-loop-number l = record {
  pushed : l.words ≡ with_items l.initial.words (take l.number-index l.nums);
  nums : list_all is_num (take l.number-index l.nums) ≡ true;
}
