-- What contracts see of a gate.
use Rattle.atomic_table.specs.Seated.{TableId}
use Rattle.rapid_model.specs.CellData.{CellData}

-- its cell, and which gate it is
pub record GateData : Type 0 where
  pub cell : CellData
  pub table : TableId
