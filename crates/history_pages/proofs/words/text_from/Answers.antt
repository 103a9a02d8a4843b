use Rattle.std.proofs.Common.{◌≡◌, ◌<◌, ◌≤◌, ◌*◌, [], ◌∷◌, ◌++◌, length, drop, sym, ap, ◌∙◌, arith}
use Rattle.std.proofs.lemmas.Bool.{and_parts, lt-ltb}
use Rattle.std.specs.List.{list_all}
use Rattle.rapid_num.specs.Characters.{is_printable}
use Rattle.history_pages.specs.Words.{bytes_in}
use Rattle.history_pages.proofs.Reading.{bytes_more, length-bytes, long_text, not_printable, printable_more, refused_character, text_read}
use Rattle.history_pages.proofs.words.text_from.Goals as goal

pub returns-then-count-gt-LONGEST_STRING : goal.returns-then-count-gt-LONGEST_STRING
returns-then-count-gt-LONGEST_STRING c = long_text c.args.count (drop c.args.from c.args.words.now.items) (omega arith)

pub returns-then-not-push : goal.returns-then-not-push
returns-then-not-push c =
    let words = drop c.args.from c.args.words.now.items in
    let long : length c.loop-k.text ≡ c.loop-k.k = ap length c.loop-k.invariant.read ∙ length-bytes c.loop-k.k words in
    let room : length c.loop-k.text < 80 = omega arith in
    not_printable c.args.count words c.loop-k.k (omega arith)
    (ap is_printable (sym c.byte_from.ensures) ∙ refused_character c.byte_from.result _ (sym c.if-not-push.ensures.taken) (lt-ltb (length c.loop-k.text) 80 room))

pub loop-k-preserved : goal.loop-k-preserved
loop-k-preserved c =
    let words = drop c.args.from c.args.words.now.items in
    record {
      read = c.if-not-push.ensures.pushed ∙ ap (λ text. text ++ c.byte_from.result ∷ []) c.loop-k.invariant.read
          ∙ ap (λ byte. bytes_in c.loop-k.k words ++ byte ∷ []) c.byte_from.ensures ∙ sym (bytes_more words c.loop-k.k);
      printable = printable_more words c.loop-k.k c.loop-k.invariant.printable
          (ap is_printable (sym c.byte_from.ensures) ∙ (and_parts (is_printable c.byte_from.result) _ (sym c.if-not-push.ensures.taken)).0);
    }

pub returns : goal.returns
returns c =
    let words = drop c.args.from c.args.words.now.items in
    let end : c.loop-k.k ≡ c.args.count = omega arith in
    let short : c.args.count ≤ 80 = omega arith in
    let enough : c.args.count ≤ 8 * length words = omega arith in
    text_read c.args.count words c.loop-k.text short enough (c.loop-k.invariant.read ∙ ap (λ n. bytes_in n words) end)
    (ap (λ n. list_all is_printable (bytes_in n words)) (sym end) ∙ c.loop-k.invariant.printable)
