-- The operands of a task.
use Rattle.std.specs.Prelude.{ℕ, ◌+◌, List, [], ◌∷◌, length, reverse, take, drop, sum_by}
use Rattle.typed_trees.specs.declared.datum.Datum.{Datum}

-- the operands of the running routine, and those of the routines that wait for it, the innermost first, each with the
-- one pushed last first; and the room for operands in all and for waiting routines
pub record OperandStack : Type 0 where
  pub top : List Datum
  pub below : List (List Datum)
  pub room : ℕ
  pub depth : ℕ

-- the operands of routines, if those of each begin at these indexes
abbrev pub stacked : List Datum → List ℕ → List (List Datum)
stacked items [] = []
stacked items (base ∷ bases) = reverse (drop base items) ∷ stacked (take base items) bases

-- the number of operands of all routines
abbrev pub operands_in : OperandStack → ℕ
operands_in s = length s.top + sum_by length s.below
