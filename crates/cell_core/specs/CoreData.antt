-- What contracts see of a core.
use Rattle.std.specs.Prelude.{List}
use Rattle.rapid_model.specs.CellData.{CellData}
use Rattle.rapid_model.specs.declared.event.Event.{Event}

pub record CoreData : Type 0 where
  pub cell : CellData
  pub history : List Event
