use Rattle.std.proofs.Common.{◌≡◌, None, replicate}
use Rattle.cell_assembly.proofs.one_pers.nothing_given.Given as goal

abbrev pub invariant-loop-element : goal.invariant-loop-element
invariant-loop-element l = l.given.items ≡ replicate l._element None
