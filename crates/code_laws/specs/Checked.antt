-- What a checked tree satisfies.
use Rattle.std.specs.Prelude.{ℕ, All}
use Rattle.rapid_model.specs.CellData.{CellData}
use Rattle.typed_trees.specs.Plain.{TypedTree}
use Rattle.tree_typing.specs.Numbered.{Numbered}
use Rattle.tree_typing.specs.WellTyped.{WellTyped}
use Rattle.code_laws.specs.Orderly.{NumbersLabels}

-- It is well typed for a number of signals, has the numbers of a cell, and its labels are numbered in text order in
-- each routine.
pub record IsChecked (tree : TypedTree) : Type 0 where
  pub signals : ℕ
  pub cell : CellData
  pub number : ℕ
  pub typed : WellTyped signals tree
  pub numbered : Numbered cell number tree
  pub labels : All NumbersLabels tree.routines
