use Rattle.std.proofs.Common.{◌∙◌, ap}
use Rattle.std.specs.List.{list_all}
use Rattle.rapid_num.specs.Characters.{is_printable}
use Rattle.rapid_num.proofs.PrintableDigits.{printable_decimal}
use Rattle.cell_assembly.proofs.giving.key_of.Goals as goal

pub show-requires-2-clause-printable : goal.show-requires-2-clause-printable
show-requires-2-clause-printable c = ap (list_all is_printable) (c.as_bytes.ensures.value ∙ c.format.ensures.text) ∙ printable_decimal c.args.number (c.ranges.number.fits)
