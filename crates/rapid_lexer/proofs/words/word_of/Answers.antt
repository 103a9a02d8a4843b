use Rattle.std.proofs.Common.{◌≡◌, get_or, ap, map, sym, ◌∙◌, arith}
use Rattle.rapid_lexer.specs.Bytes.{upper}
use Rattle.rapid_lexer.specs.Words.{word_in}
use Rattle.rapid_lexer.proofs.WordLoops.{words_with_first, row_more}
use Rattle.rapid_lexer.proofs.words.word_of.Goals as goal

pub loop-capitals-init : goal.loop-capitals-init
loop-capitals-init c =
    let first : c.in-Some.first.now ≡ get_or c.args.text.now 0 0 = grind (arith, c.in-Some.ensures.item) in
    ap (λ rows. word_in rows (map upper c.args.text.now)) c.words_with-capitals-items.ensures
    ∙ words_with_first c.args.text.now _ (grind (arith, c.in-Some.ensures.item)) (c.upper.ensures ∙ ap upper first)

pub returns-then-is_word : goal.returns-then-is_word
returns-then-is_word c =
    sym (rw c.if-is_word.true at (row_more c.words_with-capitals-items.result.now c.args.text.now c.loop-capitals.capitals-index _ _ c.loop-capitals-test.true c.is_word.ensures)) ∙ c.loop-capitals.invariant

pub loop-capitals-preserved : goal.loop-capitals-preserved
loop-capitals-preserved c =
    sym (rw c.if-is_word.false at (row_more c.words_with-capitals-items.result.now c.args.text.now c.loop-capitals.capitals-index _ _ c.loop-capitals-test.true c.is_word.ensures)) ∙ c.loop-capitals.invariant
