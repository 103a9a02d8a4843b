use Rattle.std.proofs.Common.{length}
use Rattle.string_texts.proofs.Begun.{IsBegun}
use Rattle.string_texts.proofs.text.text_after_quote.Given as goal

abbrev pub invariant-loop-byte : goal.invariant-loop-byte
invariant-loop-byte l = IsBegun l.bytes l.left l.text

abbrev pub decreases-loop-byte : goal.decreases-loop-byte
decreases-loop-byte l = length l.left
