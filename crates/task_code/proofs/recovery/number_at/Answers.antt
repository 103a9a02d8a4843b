use Rattle.std.proofs.Common.{arith, leb, leb-true, leb-false, rules}
use Rattle.std.proofs.lemmas.List.Sorted.{IsPartitionPoint-from_clause, IsPartitionedBy-leb}
use Rattle.task_code.proofs.Tiling.{ends_rise, first_behind}
use Rattle.task_code.proofs.recovery.number_at.Goals as goal

-- rows before the partition point end before the place, rows after it do not
pub returns : goal.returns
returns c =
    let owners = c.args.owners.now in
    let parted = IsPartitionedBy-leb (λ o. o.past) owners c.args.pc (λ i j d order within. ends_rise 0 c.requires.count owners i j d c.requires.tiles order within) in
    let point = IsPartitionPoint-from_clause (λ o. leb o.past c.args.pc) owners _ c.partition_point.ensures.partitioned parted (λ a r q k. search rules) in
    first_behind 0 c.requires.count c.args.pc owners _ c.requires.tiles (omega arith) c.requires.below
    (λ k d below. leb-true _ _ (point.0 k d (omega arith) below)) (λ k d above below. leb-false _ _ (point.1 k d above below)) c.partition_point.ensures.bound
