use Rattle.std.proofs.Common.{◌≡◌, drop}
use Rattle.rapid_forms.specs.Signs.{has}
use Rattle.rapid_forms.proofs.tokens.is_one_of.Given as goal

abbrev pub invariant-loop-other : goal.invariant-loop-other
invariant-loop-other l = has (drop l.other-index l.signs) l.sign ≡ has l.signs l.sign
