use Rattle.std.proofs.Common.{◌≡◌, drop}
use Rattle.rapid_lexer.specs.Reading.{is_word}
use Rattle.rapid_lexer.proofs.words.is_word.Given as goal

abbrev pub invariant-loop-i : goal.invariant-loop-i
invariant-loop-i l = is_word (drop l.i l.word) (drop l.i l.text) ≡ is_word l.word l.text
