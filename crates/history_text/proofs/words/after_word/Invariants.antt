use Rattle.std.proofs.Common.{◌≡◌, drop}
use Rattle.history_text.specs.Reading.{after_word}
use Rattle.history_text.proofs.words.after_word.Given as goal

abbrev pub invariant-loop-byte : goal.invariant-loop-byte
invariant-loop-byte l = after_word l.word l.text ≡ after_word (drop l.byte-index l.word) l.rest
