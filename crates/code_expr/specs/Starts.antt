-- Where rows of data begin that lie one after the other.
use Rattle.std.specs.Prelude.{◌≡◌, ℕ, ◌+◌, ◌≤◌, List, length, slice_index, sum, take}

-- the place where each row begins, by the widths of the rows, and after them the end of all
pub record AreStarts (starts widths : List ℕ) : Type 0 where
  pub count : length starts ≡ length widths + 1
  pub each : (row : ℕ) → row ≤ length widths → slice_index starts row ≡ sum (take row widths)
