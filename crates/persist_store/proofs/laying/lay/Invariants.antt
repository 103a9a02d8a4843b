use Rattle.std.proofs.Common.{take}
use Rattle.persist_store.specs.Rows.{ArePut}
use Rattle.persist_store.proofs.laying.lay.Given as goal

-- the values so far
abbrev pub invariant-loop-value : goal.invariant-loop-value
invariant-loop-value l = ArePut l.initial.rows l.rows l.row.sort l.from (take l.value-index l.row.first)
