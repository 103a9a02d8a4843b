-- The datum that an operation pushes.
use Rattle.rapid_model.specs.declared.value.Value.TheVariants.{Num}
use Rattle.typed_trees.specs.declared.datum.Datum.{Datum}
use Rattle.typed_trees.specs.declared.datum.Datum.TheVariants.{Plain}
use Rattle.stack_code.specs.declared.pushed.Kept.{Kept}
use Rattle.stack_code.specs.declared.pushed.Kept.TheVariants.{Number, Other}

abbrev pub datum_of : Kept → Datum
datum_of (Number number) = Plain (Num number)
datum_of (Other value) = Plain value.value
