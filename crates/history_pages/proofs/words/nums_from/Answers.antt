use Rattle.std.proofs.Common.{◌≡◌, ◌<◌, ◌≤◌, Some, length, drop, get_or, to_z, of_z, sym, ap, ◌∙◌, arith}
use Rattle.std.proofs.lemmas.Int.{to_z-of_z}
use Rattle.std.proofs.lemmas.List.{length-set}
use Rattle.std.specs.Int.{w64}
use Rattle.rapid_num.specs.Arithmetic.{num_of}
use Rattle.history_pages.proofs.Reading.{no_nums, num_more, nums_more, word_at}
use Rattle.history_pages.proofs.words.nums_from.Goals as goal

pub returns-in_err-nums-2 : goal.returns-in_err-nums-2
returns-in_err-nums-2 g c =
    let words = drop c.args.from c.args.words.now.items in
    let back : to_z w64 (of_z w64 c.at.result) ≡ c.at.result = to_z-of_z w64 c.at.result (record { sfits = c.at.type_inv }) in
    let there : get_or words c.loop-k.k c.at.result ≡ c.at.result = word_at c.args.words.now.items c.args.from c.loop-k.k c.at.result c.at.result c.at.ensures in
    let enough : g.row.COUNT ≤ length words = omega arith in
    c.from_residual-in_err-nums-2.ensures
    ∙ no_nums g.row.COUNT words c.loop-k.k c.at.result c.loop-k-test.true enough there (ap num_of (sym back) ∙ sym c.new-in-loop-k.ensures ∙ c.in_err-nums-2.was)

pub loop-k-preserved : goal.loop-k-preserved
loop-k-preserved g c =
    let words = drop c.args.from c.args.words.now.items in
    let number = c.in_ok-nums-2.field-0 in
    let back : to_z w64 (of_z w64 c.at.result) ≡ c.at.result = to_z-of_z w64 c.at.result (record { sfits = c.at.type_inv }) in
    let there : get_or words c.loop-k.k c.at.result ≡ c.at.result = word_at c.args.words.now.items c.args.from c.loop-k.k c.at.result c.at.result c.at.ensures in
    let made : num_of c.at.result ≡ Some number = ap num_of (sym back) ∙ sym c.new-in-loop-k.ensures ∙ c.in_ok-nums-2.was in
    let long : length c.loop-k.nums ≡ g.row.COUNT = c.loop-k.invariant.long in
    let below : c.loop-k.k < length c.loop-k.nums = omega arith in
    let within : c.loop-k.k < length words = omega arith in
    record {
      long = length-set c.loop-k.nums c.loop-k.k number ∙ long;
      read = num_more c.loop-k.nums words c.loop-k.k c.at.result number below within c.loop-k.invariant.read there made;
      nums = nums_more words c.loop-k.k c.at.result number within c.loop-k.invariant.nums there made;
    }
