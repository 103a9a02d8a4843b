use Rattle.std.proofs.Common.{◌≡◌, ◌*◌, drop, map}
use Rattle.std.specs.List.{range_with_len}
use Rattle.history_pages.specs.Paged.{with_items}
use Rattle.history_pages.specs.Words.{word_of}
use Rattle.history_pages.proofs.words.put_text.Given as goal

-- the words so far
abbrev pub invariant-loop-k : goal.invariant-loop-k
invariant-loop-k l = l.words ≡ with_items l.initial.words (map (λ j. word_of (drop (8 * j) l.fn.text)) (range_with_len 0 l.k))
