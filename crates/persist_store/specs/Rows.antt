-- How the values of persistents lie in rows: all nums of a cell in one, all bools in another, all texts in a third.
use Rattle.std.specs.Prelude.{◌≡◌, ℕ, ◌+◌, ◌-◌, ◌*◌, ◌≤◌, Bool, true, false, ℤ, pos, List, [], ◌∷◌, ◌++◌, length, take, drop, map, slice_index_or, slice_set}
use Rattle.std.specs.List.{All, AllPairs, list_all, range_with_len}
use Rattle.rapid_limits.specs.declared.TheConstants.{MOST_AXES, ROBOT_AXES}
use Rattle.rapid_model.specs.Paths.{has_sort}
use Rattle.rapid_model.specs.Sorts.{has_values, width}
use Rattle.rapid_model.specs.declared.part_name.PartName.{PartName}
use Rattle.rapid_model.specs.declared.part_name.PartName.TheVariants as parts
use Rattle.rapid_model.specs.declared.path.Path.{Path}
use Rattle.rapid_model.specs.declared.pers_cell.PersCell.{PersCell}
use Rattle.rapid_model.specs.declared.sort.Sort.{Sort}
use Rattle.rapid_model.specs.declared.sort.Sort.TheVariants as sorts
use Rattle.rapid_model.specs.declared.value.Value.{Value}
use Rattle.rapid_model.specs.declared.value.Value.TheVariants as values
use Rattle.persist_store.specs.Stores.{PersData, first_row}
use Rattle.persist_store.specs.declared.place.Place.{Place}
use Rattle.persist_store.specs.declared.place.Spot.{Spot}

pub record RowsData : Type 0 where
  pub nums : List ℤ
  pub bools : List Bool
  pub texts : List (List ℕ)

pub data Kind : Type 0 where
  Nums : Kind
  Bools : Kind
  Texts : Kind

-- the row of a type
abbrev pub kind : Sort → Kind
kind sorts.Bool = Bools
kind sorts.Text = Texts
kind sorts.Tasks = Texts
kind _ = Nums

-- how many items of its row a value of the type takes
abbrev pub span : Sort → ℕ
span sorts.RobJoint = 6
span sorts.ExtJoint = 6
span sorts.JointTarget = MOST_AXES
span sorts.SpeedData = 4
span _ = 1

abbrev pub length_in : RowsData → Kind → ℕ
length_in rows Nums = length rows.nums
length_in rows Bools = length rows.bools
length_in rows Texts = length rows.texts

-- that many items of a list, from an index on
abbrev pub window : {A : Type 0} → ℕ → ℕ → List A → List A
window from count xs = take count (drop from xs)

-- the value of a type that begins at an index of its row
abbrev pub value_at : RowsData → Sort → ℕ → Value
value_at rows sorts.Num at = values.Num (slice_index_or rows.nums at (pos 0))
value_at rows sorts.Bool at = values.Bool (slice_index_or rows.bools at false)
value_at rows sorts.Text at = values.Text (slice_index_or rows.texts at [])
value_at rows sorts.Tasks at = values.Text (slice_index_or rows.texts at [])
value_at rows sorts.RobJoint at = values.Rob (window at 6 rows.nums)
value_at rows sorts.ExtJoint at = values.Ext (window at 6 rows.nums)
value_at rows sorts.JointTarget at = values.Target (record { axis = window at MOST_AXES rows.nums })
value_at rows sorts.SpeedData at = values.Speed (window at 4 rows.nums)
value_at rows _ at = values.Bool false

-- a persistent: its elements lie one after another
abbrev pub row_of : RowsData → Place → PersData
row_of rows place = record {
  sort = place.sort;
  len = place.len;
  values = map (λ k. value_at rows place.sort (place.from + k * span place.sort)) (range_with_len 0 (width place.len));
}

-- the type of a part that a value of the type has
abbrev pub sort_in : Sort → PartName → Sort
sort_in sort parts.Whole = sort
sort_in sort parts.Robax = sorts.RobJoint
sort_in sort parts.Extax = sorts.ExtJoint
sort_in sort (parts.Axis number) = sorts.Num
sort_in sort (parts.SpeedPart number) = sorts.Num
sort_in sort parts.Taskname = sorts.Text

-- where an axis lies within the value; the axes of an extjoint are numbered from 6
abbrev pub axis_in : Sort → ℕ → ℕ
axis_in sorts.ExtJoint number = number - ROBOT_AXES
axis_in _ number = number

-- where a part begins within the value
abbrev pub offset_in : Sort → PartName → ℕ
offset_in sort (parts.Axis number) = axis_in sort number
offset_in sort (parts.SpeedPart number) = number
offset_in sort parts.Extax = ROBOT_AXES
offset_in sort _ = 0

-- where the part of a persistent that a path names lies, and its type
abbrev pub spot_of : Place → Path → Spot
spot_of place path = record {
  sort = sort_in place.sort path.part;
  at = place.from + (path.index - 1) * span place.sort + offset_in place.sort path.part;
}

abbrev pub nums_of : Value → List ℤ
nums_of (values.Num number) = number ∷ []
nums_of (values.Rob axes) = axes
nums_of (values.Ext axes) = axes
nums_of (values.Target joints) = joints.axis
nums_of (values.Speed nums) = nums
nums_of _ = []

-- a list with some items overwritten by others, from an index on
abbrev pub spliced : {A : Type 0} → List A → ℕ → List A → List A
spliced xs from ys = take from xs ++ (ys ++ drop (from + length ys) xs)

-- the rows with a value written from an index on
abbrev pub written : RowsData → ℕ → Value → RowsData
written rows at (values.Bool truth) = record rows { bools = slice_set rows.bools at truth }
written rows at (values.Text text) = record rows { texts = slice_set rows.texts at text }
written rows at value = record rows { nums = spliced rows.nums at (nums_of value) }

-- the rows with one more value at the end
abbrev pub grown : RowsData → Value → RowsData
grown rows (values.Bool truth) = record rows { bools = rows.bools ++ truth ∷ [] }
grown rows (values.Text text) = record rows { texts = rows.texts ++ text ∷ [] }
grown rows value = record rows { nums = rows.nums ++ nums_of value }

-- a value of the type at this index lies within its row
abbrev pub IsWithin : RowsData → Sort → ℕ → Type 0
IsWithin rows sort at = at + span sort ≤ length_in rows (kind sort)

-- the index after the last element
abbrev pub end_of : Place → ℕ
end_of place = place.from + width place.len * span place.sort

abbrev pub AreApart : Place → Place → Type 0
AreApart place next = kind place.sort ≡ kind next.sort → end_of place ≤ next.from

-- each persistent has a type with values and lies within its row, and no two overlap
pub record IsLaid (rows : RowsData) (places : List Place) : Type 0 where
  pub sorts : All (λ (place : Place). has_values place.sort ≡ true) places
  pub within : All (λ (place : Place). end_of place ≤ length_in rows (kind place.sort)) places
  pub apart : AllPairs AreApart places

-- the old rows are prefixes of the new ones
pub record Extends (old new : RowsData) : Type 0 where
  pub nums : (more : List ℤ) × (new.nums ≡ old.nums ++ more)
  pub bools : (more : List Bool) × (new.bools ≡ old.bools ++ more)
  pub texts : (more : List (List ℕ)) × (new.texts ≡ old.texts ++ more)

-- that many values of a type were appended to its row, from this index on
pub record ArePut (old new : RowsData) (sort : Sort) (from : ℕ) (firsts : List Value) : Type 0 where
  pub grows : Extends old new
  pub long : length_in new (kind sort) ≡ from + length firsts * span sort
  pub there : map (λ k. value_at new sort (from + k * span sort)) (range_with_len 0 (length firsts)) ≡ firsts
  pub values : list_all (has_sort sort) firsts ≡ true

-- a persistent was appended to its row, with its first values
pub record IsAdded (old new : RowsData) (row : PersCell) (place : Place) : Type 0 where
  pub sort : has_values place.sort ≡ true
  pub grows : Extends old new
  pub begins : place.from ≡ length_in old (kind place.sort)
  pub ends : end_of place ≤ length_in new (kind place.sort)
  pub firsts : row_of new place ≡ first_row row
