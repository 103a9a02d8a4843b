-- The values of persistents, and writing one of their parts (RAPID Kernel, data references, assignment).
use Rattle.std.specs.Prelude.{◌≡◌, ℕ, ◌-◌, false, List, [], length, Option, None, Some, slice_index_or, slice_set, IsTrue}
use Rattle.std.specs.List.{list_all}
use Rattle.rapid_model.specs.Paths.{has_sort}
use Rattle.rapid_model.specs.Sorts.{width}
use Rattle.rapid_model.specs.declared.path.Path.{Path}
use Rattle.rapid_model.specs.declared.pers_cell.PersCell.{PersCell}
use Rattle.rapid_model.specs.declared.sort.Sort.{Sort}
use Rattle.rapid_model.specs.declared.sort.Sort.TheVariants as sorts
use Rattle.rapid_model.specs.declared.value.Value.{Value}
use Rattle.rapid_model.specs.declared.value.Value.TheVariants as values
use Rattle.rapid_values.specs.Values.{put_part}

-- the type of a persistent, its length if it is an array, and a value for each element
pub record PersData : Type 0 where
  pub sort : Sort
  pub len : Option ℕ
  pub values : List Value

-- there are as many values as elements, each of the type
pub record IsKept (row : PersData) : Type 0 where
  pub count : length row.values ≡ width row.len
  pub sorts : IsTrue (list_all (has_sort row.sort) row.values)

-- a persistent with its first values
abbrev pub first_row : PersCell → PersData
first_row row = record { sort = row.sort; len = row.len; values = row.first }

abbrev pub no_row : PersData
no_row = record { sort = sorts.Num; len = None; values = [] }

abbrev pub row_at : List PersData → ℕ → PersData
row_at rows pers = slice_index_or rows pers no_row

-- the value of an element, by a path's index: from 1, or 0 if the persistent is not an array
abbrev pub element_of : PersData → ℕ → Value
element_of row index = slice_index_or row.values (index - 1) (values.Bool false)

abbrev pub with_element : PersData → ℕ → Value → PersData
with_element row index value = record row { values = slice_set row.values (index - 1) value }

-- one persistent is the other with a value put in as the part that a path names; everything else stays the same
pub record IsPut (old new : PersData) (path : Path) (value : Value) : Type 0 where
  pub part : put_part (element_of old path.index) path.part value ≡ Some (element_of new path.index)
  pub others : new ≡ with_element old path.index (element_of new path.index)

-- the same for one persistent of many; all others stay the same
pub record IsStored (old new : List PersData) (pers : ℕ) (path : Path) (value : Value) : Type 0 where
  pub put : IsPut (row_at old pers) (row_at new pers) path value
  pub others : new ≡ slice_set old pers (row_at new pers)
