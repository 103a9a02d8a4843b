-- The meetings among the data of the modules: the VARs of type syncident.
use Rattle.std.specs.Prelude.{◌≡◌, ℕ, ◌+◌, ◌<◌, zero, suc, Bool, false, List, [], ◌∷◌, length, Option, Some, None, slice_get, if◌then◌else◌}
use Rattle.rapid_model.specs.declared.sort.Sort.TheVariants as sorts
use Rattle.data_scopes.specs.declared.data_row.DatumRow.{DatumRow}
use Rattle.data_scopes.specs.Sorts.{same_sort}

abbrev pub is_meeting : Option DatumRow → Bool
is_meeting None = false
is_meeting (Some row) = same_sort row.sort sorts.SyncIdent

-- how many of the first data of the modules are meetings: the number of the next one
abbrev pub meetings_before : ℕ → List DatumRow → ℕ
meetings_before zero rows = 0
meetings_before (suc count) [] = 0
meetings_before (suc count) (row ∷ rows) = (if is_meeting (Some row) then 1 else 0) + meetings_before count rows

-- for each datum, the number of meetings before it; and how many there are in all
pub record AreCounted (rows : List DatumRow) (before : List ℕ) (meetings : ℕ) : Type 0 where
  pub as_many : length before ≡ length rows
  pub each : (number : ℕ) → number < length rows → slice_get before number ≡ Some (meetings_before number rows)
  pub all : meetings ≡ meetings_before (length rows) rows
