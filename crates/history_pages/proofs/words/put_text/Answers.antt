use Rattle.std.proofs.Common.{◌≡◌, ◌*◌, ◌<◌, nat_le, length, drop, map, to_z, of_z, ap, ◌∙◌, lit<, arith}
use Rattle.std.specs.List.{list_all, range_with_len}
use Rattle.std.proofs.lemmas.Bool.{and_from, le-leb}
use Rattle.std.proofs.lemmas.Int.{to_z-of_z}
use Rattle.std.specs.Int.{w64}
use Rattle.rapid_num.specs.Characters.{is_printable}
use Rattle.history_pages.specs.Paged.{with_items}
use Rattle.history_pages.specs.Words.{word_of, words_for}
use Rattle.history_pages.proofs.Writing.{all_printable, room_for_word, word_more}
use Rattle.history_pages.proofs.words.put_text.Goals as goal

pub push-requires : goal.push-requires
push-requires c =
    let same : length c.bytes-bytes.result.now ≡ length c.args.text.now = ap length c.bytes-bytes.ensures.same in
    let less : c.loop-k.k < 10 = omega arith in
    (lit< tt, room_for_word c.loop-k.words c.args.words.now (λ j. word_of (drop (8 * j) c.args.text.now)) c.loop-k.k 10 c.loop-k.invariant less c.requires)

pub loop-k-preserved : goal.loop-k-preserved
loop-k-preserved c =
    let back : to_z w64 (of_z w64 c.word_from.result) ≡ c.word_from.result = to_z-of_z w64 c.word_from.result (record { sfits = c.word_from.type_inv }) in
    c.push.ensures
    ∙ word_more c.loop-k.words c.args.words.now (λ j. word_of (drop (8 * j) c.args.text.now)) c.loop-k.k (to_z w64 (of_z w64 c.word_from.result)) c.loop-k.invariant
    (back ∙ c.word_from.ensures ∙ ap (λ bytes. word_of (drop (8 * c.loop-k.k) bytes)) c.bytes-bytes.ensures.same)

pub returns-clause-pushed : goal.returns-clause-pushed
returns-clause-pushed c =
    let same : length c.bytes-bytes.result.now ≡ length c.args.text.now = ap length c.bytes-bytes.ensures.same in
    let end : c.loop-k.k ≡ words_for (length c.args.text.now) = omega arith in
    c.loop-k.invariant ∙ ap (λ n. with_items c.args.words.now (map (λ j. word_of (drop (8 * j) c.args.text.now)) (range_with_len 0 n))) end

pub returns-clause-text : goal.returns-clause-text
returns-clause-text c =
    and_from (nat_le (length c.args.text.now) 80) (list_all is_printable c.args.text.now) (le-leb (length c.args.text.now) 80 c.bytes-bytes.ensures.short)
    (all_printable c.args.text.now c.bytes-bytes.ensures.printable)
