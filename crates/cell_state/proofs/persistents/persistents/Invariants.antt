-- The persistents before this one.
use Rattle.std.proofs.Common.{◌≡◌, map, take}
use Rattle.cell_meaning.specs.Stored.{persistents_after}
use Rattle.cell_state.proofs.persistents.persistents.Given as goal

abbrev pub invariant-loop-number : goal.invariant-loop-number
invariant-loop-number l = map (λ elements. elements.items) l.all.items ≡ take l.number (persistents_after l.core.cell l.core.history)
