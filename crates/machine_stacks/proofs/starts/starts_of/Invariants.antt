use Rattle.std.proofs.Common.{◌≡◌, All, IsTrue, map, take}
use Rattle.machine_stacks.specs.Starts.{lies_within, index_of}
use Rattle.machine_stacks.proofs.starts.starts_of.Given as goal

abbrev pub invariant-loop-row : goal.invariant-loop-row
invariant-loop-row l = record {
  last : index_of l.firsts l.last ≡ l.index;
  indexes : map (index_of l.firsts) l.starts.items ≡ map (λ row. row.first) (take l.row-index l.rows);
  within : All (λ start. IsTrue (lies_within l.firsts start)) l.starts.items;
}
