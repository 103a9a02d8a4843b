use Rattle.std.proofs.Common.{◌≡◌, true, length, take}
use Rattle.std.specs.List.{flat_map, list_all}
use Rattle.history_pages.specs.Paged.{with_items}
use Rattle.history_pages.specs.Words.{bound_words, is_proper_bound}
use Rattle.history_pages.proofs.words.put_shape.Given as goal

-- the bounds so far
abbrev pub invariant-loop-bound : goal.invariant-loop-bound
invariant-loop-bound l = record {
  twelve : length l.bound-items ≡ 12;
  pushed : l.words ≡ with_items l.initial.words (flat_map bound_words (take l.bound-index l.bound-items));
  bounds : list_all is_proper_bound (take l.bound-index l.bound-items) ≡ true;
}
