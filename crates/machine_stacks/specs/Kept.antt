-- The datum that a machine keeps.
use Rattle.typed_trees.specs.declared.datum.Datum.{Datum}
use Rattle.typed_trees.specs.declared.datum.Datum.TheVariants as datums
use Rattle.machine_stacks.specs.declared.held.Kept.{Kept}
use Rattle.machine_stacks.specs.declared.held.Kept.TheVariants.{Plain, Mark, Shape, Place}

abbrev pub datum_of : Kept → Datum
datum_of (Plain value) = datums.Plain value
datum_of (Mark number) = datums.Mark number
datum_of (Shape shape) = datums.Shape shape
datum_of (Place place) = datums.Place place
