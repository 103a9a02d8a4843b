use Rattle.std.proofs.Common.{◌≡◌, map, take}
use Rattle.cell_core.specs.Actors.{before}
use Rattle.cell_core.proofs.starting.actors_of.Given as goal

abbrev pub invariant-loop-row : goal.invariant-loop-row
invariant-loop-row l = l.actors.items ≡ map (λ row. before row.arm) (take l.row-index l.rows)
