use Rattle.std.proofs.Common.{◌≡◌, ◌++◌, ◌∙◌, ap, arith, drop, length, refl}
use Rattle.std.proofs.lemmas.Grind.{common_steps}
use Rattle.std.proofs.lemmas.List.{drop_at}
use Rattle.rapid_num.specs.NumText.{fixed_text}
use Rattle.rapid_num.proofs.ReadBack.{read_from_fixed}
use Rattle.rapid_num.proofs.write.push_fixed.Goals as goal

pub returns-clause-reads_back : goal.returns-clause-reads_back
returns-clause-reads_back g c n e =
    let before = c.args.text.now.bytes in
    let text : c.push_three_digits.new.text.bytes ≡ before ++ fixed_text c.args.value = grind (arith, common_steps) in
    let appended : drop (length before) c.push_three_digits.new.text.bytes ≡ fixed_text c.args.value = ap (drop (length before)) text ∙ drop_at before (fixed_text c.args.value) (length before) refl in
    read_from_fixed _ c.args.value n appended c.push_whole-rest.ensures.range e
