use Rattle.std.proofs.Common.{length, ◌-◌}
use Rattle.rapid_lexer.specs.Tokens.{views}
use Rattle.rapid_lexer.proofs.Readings.{IsRead}
use Rattle.rapid_lexer.proofs.tokens.all_tokens.Given as goal

abbrev pub invariant-loop-next : goal.invariant-loop-next
invariant-loop-next l = IsRead l.source l.lexer (views l.tokens.items)

abbrev pub decreases-loop-next : goal.decreases-loop-next
decreases-loop-next l = length l.source - l.lexer.at
