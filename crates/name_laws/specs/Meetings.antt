-- The name that a meeting's number has.
use Rattle.std.specs.Prelude.{◌≡◌, ℕ, List, Some, slice_get}
use Rattle.rapid_model.specs.declared.sort.Sort.TheVariants as sorts
use Rattle.typed_trees.specs.Plain.{TypedSlot}
use Rattle.data_scopes.specs.declared.data_row.DatumRow.{DatumRow}
use Rattle.data_scopes.specs.Meetings.{meetings_before}

-- the VAR of this number is a syncident, and the meeting with the number counted there has its name
pub record IsMeeting (slots : List TypedSlot) (meetings : List (List ℕ)) (rows : List DatumRow) (k : ℕ) : Type 0 where
  pub row : TypedSlot
  pub has_row : slice_get slots k ≡ Some row
  pub is_one : row.sort ≡ sorts.SyncIdent
  pub has_name : slice_get meetings (meetings_before k rows) ≡ Some row.name
