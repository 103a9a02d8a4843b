-- What holds of each task of a cell.
use Rattle.std.proofs.Common.{◌≡◌, ℕ, zero, suc, true, List, [], ◌∷◌, Some, slice_get, subst}
use Rattle.std.specs.List.{list_all}
use Rattle.std.proofs.lemmas.Bool.{and_parts}
use Rattle.rapid_model.specs.CellData.{starts_well}
use Rattle.rapid_model.specs.Limits.{is_start}
use Rattle.rapid_model.specs.Names.{is_short_name}
use Rattle.rapid_model.specs.declared.task_row.TaskRow.{TaskRow}

-- the arm of a task starts at a position
pub starts_at : (rows : List TaskRow) (task : ℕ) (row : TaskRow) → list_all starts_well rows ≡ true → slice_get rows task ≡ Some row → is_start row.axes row.arm ≡ true
starts_at [] task row all at = absurd cc
starts_at (r ∷ rows) zero row all at =
    let same : r ≡ row = cc in
    subst (λ (s : TaskRow). is_start s.axes s.arm ≡ true) same (and_parts (is_short_name r.name) (is_start r.axes r.arm) (and_parts (starts_well r) (list_all starts_well rows) all).0).1
starts_at (r ∷ rows) (suc task) row all at = starts_at rows task row (and_parts (starts_well r) (list_all starts_well rows) all).1 at
