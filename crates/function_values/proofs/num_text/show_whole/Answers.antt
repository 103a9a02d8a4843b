use Rattle.std.proofs.Common.{◌≡◌, ◌∙◌, ◌≤◌, ◌+◌, ◌++◌, ap, arith, rules, length, decimal}
use Rattle.std.proofs.lemmas.Fmt.{length-decimal-le}
use Rattle.std.proofs.lemmas.List.{length-append}
use Rattle.std.specs.List.{list_all}
use Rattle.rapid_num.specs.Characters.{is_printable}
use Rattle.rapid_num.proofs.PrintableDigits.{printable_decimal}
use Rattle.function_values.proofs.num_text.show_whole.Goals as goal

pub show-requires-clause-printable : goal.show-requires-clause-printable
show-requires-clause-printable c = ap (list_all is_printable) (c.as_bytes.ensures.value ∙ c.format.ensures.text) ∙ printable_decimal c.args.whole (c.ranges.whole.fits)

pub returns-clause-whole : goal.returns-clause-whole
returns-clause-whole c = search rules

pub returns-clause-short : goal.returns-clause-short
returns-clause-short c =
    let digits = length-decimal-le 13 c.args.whole (omega arith) (omega arith) (omega arith) in
    let all : length c.show.new.text ≡ length c.args.text.now + length (decimal c.args.whole) = ap length (returns-clause-whole c) ∙ length-append c.args.text.now (decimal c.args.whole) in
    omega arith
