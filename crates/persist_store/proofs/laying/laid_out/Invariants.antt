use Rattle.std.proofs.Common.{◌≡◌, map, take}
use Rattle.persist_store.specs.Rows.{IsLaid, row_of}
use Rattle.persist_store.specs.Stores.{first_row}
use Rattle.persist_store.proofs.laying.laid_out.Given as goal

-- the persistents so far
abbrev pub invariant-loop-row : goal.invariant-loop-row
invariant-loop-row l = record {
  rows : map (row_of l.rows) l.places.items ≡ map first_row (take l.row-index l.fn.cell.pers);
  laid : IsLaid l.rows l.places.items;
}
