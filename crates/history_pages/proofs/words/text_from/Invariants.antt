use Rattle.std.proofs.Common.{◌≡◌, true, drop}
use Rattle.std.specs.List.{list_all}
use Rattle.rapid_num.specs.Characters.{is_printable}
use Rattle.history_pages.specs.Words.{bytes_in}
use Rattle.history_pages.proofs.words.text_from.Given as goal

-- the characters so far
abbrev pub invariant-loop-k : goal.invariant-loop-k
invariant-loop-k l = record {
  read : l.text ≡ bytes_in l.k (drop l.from l.words.items);
  printable : list_all is_printable (bytes_in l.k (drop l.from l.words.items)) ≡ true;
}
