use Rattle.std.proofs.Common.{◌≡◌, ◌++◌, replicate}
use Rattle.std.specs.Vec.{vec_capacity}
use Rattle.typed_trees.specs.declared.datum.Datum.TheVariants.{Mark}
use Rattle.machine_stacks.proofs.apart.fill.Given as goal

abbrev pub invariant-loop-zero : goal.invariant-loop-zero
invariant-loop-zero l = (l.apart.items ≡ l.initial.apart.items ++ replicate l._zero (Mark 0)) × (vec_capacity l.apart ≡ vec_capacity l.initial.apart)
