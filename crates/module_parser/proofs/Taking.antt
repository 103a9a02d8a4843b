-- What the loops read takes at least one token each time.
use Rattle.std.proofs.Common.{ℕ, List}
use Rattle.rapid_forms.specs.declared.sign.Sign.{Sign}
use Rattle.rapid_forms.specs.declared.sign.Sign.TheVariants as signs
use Rattle.rapid_forms.proofs.Loops.{Takes}
use Rattle.stmt_parser.specs.Reads.{behind_read}
use Rattle.rapid_forms.proofs.Serves.{serves_take}
use Rattle.stmt_parser.proofs.Answered.{behind_serves}
use Rattle.module_parser.specs.Reads.{datum_read, more_param_read, more_attribute_read, item_read}
use Rattle.module_parser.proofs.Answered.{param_serves, datum_serves, item_serves, attribute_serves}

pub datum_takes : (words : List Sign) (n : ℕ) → Takes (datum_read words n)
datum_takes words n = serves_take (datum_serves {n = n} words)

pub more_param_takes : Takes more_param_read
unfolding more_param_read behind_read
more_param_takes = serves_take (behind_serves {n = 0} signs.Comma param_serves)

pub item_takes : (n : ℕ) → Takes (item_read n)
item_takes n = serves_take (item_serves {n = n})

pub more_attribute_takes : Takes more_attribute_read
unfolding more_attribute_read behind_read
more_attribute_takes = serves_take (behind_serves {n = 0} signs.Comma attribute_serves)
