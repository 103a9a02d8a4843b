use Rattle.std.proofs.Common.{◌≡◌, drop, map}
use Rattle.rapid_lexer.specs.Bytes.{upper}
use Rattle.rapid_lexer.specs.Words.{word_in, word_of}
use Rattle.rapid_lexer.proofs.WordLoops.{plain}
use Rattle.rapid_lexer.proofs.words.word_of.Given as goal

abbrev pub invariant-loop-capitals : goal.invariant-loop-capitals
invariant-loop-capitals l = word_in (plain (drop l.capitals-index l.capitals-items)) (map upper l.text) ≡ word_of l.text
