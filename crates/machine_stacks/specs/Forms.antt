-- What a datum of each form has. The place of one that stands for a place is `place_in` of rapid_meaning.
use Rattle.std.specs.Prelude.{ℕ, ℤ, Bool, Option, None, Some}
use Rattle.rapid_num.specs.declared.shape.Shape.{Shape}
use Rattle.rapid_model.specs.declared.value.Value.{Value}
use Rattle.rapid_model.specs.declared.value.Value.TheVariants as values
use Rattle.typed_trees.specs.declared.datum.Datum.{Datum}
use Rattle.typed_trees.specs.declared.datum.Datum.TheVariants as datums

abbrev pub as_value : Datum → Option Value
as_value (datums.Plain value) = Some value
as_value _ = None

abbrev pub as_num : Datum → Option ℤ
as_num (datums.Plain (values.Num number)) = Some number
as_num _ = None

abbrev pub as_bool : Datum → Option Bool
as_bool (datums.Plain (values.Bool truth)) = Some truth
as_bool _ = None

abbrev pub as_mark : Datum → Option ℕ
as_mark (datums.Mark number) = Some number
as_mark _ = None

abbrev pub as_shape : Datum → Option (Option Shape)
as_shape (datums.Shape shape) = Some shape
as_shape _ = None
