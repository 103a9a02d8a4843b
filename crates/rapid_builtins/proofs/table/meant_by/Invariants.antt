use Rattle.std.proofs.Common.{◌≡◌, drop, map}
use Rattle.rapid_builtins.specs.Names.{meant_by}
use Rattle.rapid_builtins.proofs.table.meant_by.Given as goal

abbrev pub invariant-loop-spelling : goal.invariant-loop-spelling
invariant-loop-spelling g l = meant_by l.name (map (λ row. (row.0.now, row.1)) (drop l.spelling-index l.rows)) ≡ meant_by l.name (map (λ row. (row.0.now, row.1)) l.rows)
