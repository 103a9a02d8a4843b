-- The types of the persistents of the test cell.
use Rattle.std.specs.Prelude.{ℕ, List, [], ◌∷◌, slice_index_or}
use Rattle.rapid_model.specs.declared.sort.Sort.{Sort}
use Rattle.rapid_model.specs.declared.sort.Sort.TheVariants as sorts

abbrev pub row_sorts : List Sort
row_sorts = sorts.Num ∷ sorts.Bool ∷ sorts.JointTarget ∷ sorts.Tasks ∷ sorts.SpeedData ∷ sorts.ExtJoint ∷ []

abbrev pub row_sort : ℕ → Sort
row_sort pers = slice_index_or row_sorts pers sorts.Num
