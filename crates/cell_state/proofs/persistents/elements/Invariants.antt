-- The elements before this one.
use Rattle.std.proofs.Common.{◌≡◌, take}
use Rattle.cell_meaning.specs.Stored.{persistent_after}
use Rattle.cell_state.proofs.persistents.elements.Given as goal

abbrev pub invariant-loop-k : goal.invariant-loop-k
invariant-loop-k l = l.values.items ≡ take l.k (persistent_after l.core.cell l.core.history l.pers)
