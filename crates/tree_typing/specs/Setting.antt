-- The context in which the forms of a task are typed.
use Rattle.std.specs.Prelude.{ℕ, Bool, nat_lt}
use Rattle.typed_trees.specs.Plain.{TypedTree}

-- the number of signals of the cell, and the task's tree
pub record Setting : Type 0 where
  pub signals : ℕ
  pub tree : TypedTree

-- the task has an arm
abbrev pub has_arm : Setting → Bool
has_arm c = nat_lt 0 c.tree.axes
