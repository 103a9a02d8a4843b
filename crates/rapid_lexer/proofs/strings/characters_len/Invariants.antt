use Rattle.std.proofs.Common.{◌≡◌, ◌≤◌, ◌-◌, length, drop}
use Rattle.rapid_lexer.specs.Reading.{characters_len}
use Rattle.rapid_lexer.proofs.CharacterLoop.{plus}
use Rattle.rapid_lexer.proofs.strings.characters_len.Given as goal

abbrev pub invariant-loop : goal.invariant-loop
invariant-loop l = record {
  same : plus l.now (characters_len (80 - l.counter) (drop l.now l.bytes)) ≡ characters_len 80 l.bytes;
  within : l.now ≤ length l.bytes;
}
