use Rattle.std.proofs.Common.{ap, ◌∙◌, arith}
use Rattle.std.proofs.lemmas.List.{take_rest}
use Rattle.rapid_lexer.specs.Reading.{character_len}
use Rattle.rapid_lexer.proofs.CharacterLoop.{characters_end, characters_more, characters_over}
use Rattle.rapid_lexer.proofs.strings.characters_len.Goals as goal

pub returns-then-len-eq0-clause-same : goal.returns-then-len-eq0-clause-same
returns-then-len-eq0-clause-same c =
    characters_end _ c.loop.now c.character_len-len.result c.args.bytes.now _ (c.character_len-len.ensures.same ∙ ap character_len (take_rest c.args.bytes.now c.loop.now)) c.if-len-eq0.true c.loop.invariant.same

pub loop-preserved : goal.loop-preserved
loop-preserved c = record {
  same = characters_more c.loop.counter c.loop.now c.character_len-len.result c.args.bytes.now _ c.loop-test.true (c.character_len-len.ensures.same ∙ ap character_len (take_rest c.args.bytes.now c.loop.now)) c.if-len-eq0.false c.loop.invariant.same;
  within = grind (arith, c.character_len-len.ensures.within);
}

pub returns-then-character_len-eq0-clause-same : goal.returns-then-character_len-eq0-clause-same
returns-then-character_len-eq0-clause-same c =
    characters_end _ c.loop.now c.character_len.result c.args.bytes.now _ (c.character_len.ensures.same ∙ ap character_len (take_rest c.args.bytes.now c.loop.now)) c.if-character_len-eq0.true c.loop.invariant.same

pub returns-else-character_len-eq0-clause-same : goal.returns-else-character_len-eq0-clause-same
returns-else-character_len-eq0-clause-same c =
    characters_over c.loop.counter c.loop.now c.character_len.result c.args.bytes.now _ (omega arith) (c.character_len.ensures.same ∙ ap character_len (take_rest c.args.bytes.now c.loop.now)) c.if-character_len-eq0.false c.loop.invariant.same
