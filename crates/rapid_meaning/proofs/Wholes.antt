-- The part Whole is all of a value.
use Rattle.std.proofs.Common.{◌≡◌, refl, Some}
use Rattle.rapid_model.specs.declared.part_name.PartName.{PartName}
use Rattle.rapid_model.specs.declared.part_name.PartName.TheVariants as parts
use Rattle.typed_trees.specs.declared.datum.Datum.{Datum}
use Rattle.typed_trees.specs.declared.datum.Datum.TheVariants as datums
use Rattle.rapid_meaning.specs.Places.{part_in, part_within}

pub whole_in : (x : Datum) → part_in parts.Whole x ≡ Some x
whole_in (datums.Plain v) = refl
whole_in (datums.Mark n) = refl
whole_in (datums.Shape s) = refl
whole_in (datums.Place q) = refl

pub whole_within : (part : PartName) → part_within part parts.Whole ≡ Some part
whole_within parts.Whole = refl
whole_within part = refl
