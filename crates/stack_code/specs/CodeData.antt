-- The code of a task as contracts see it.
use Rattle.std.specs.Prelude.{ℕ, List, Option}
use Rattle.typed_trees.specs.declared.datum.Datum.{Datum}
use Rattle.stack_code.specs.declared.op.Op.{Op}
use Rattle.stack_code.specs.declared.owner.Owner.{Owner}
use Rattle.stack_code.specs.declared.pers_sort.PersSort.{PersSort}
use Rattle.stack_code.specs.declared.routine_row.RoutineRow.{RoutineRow}

pub record CodeData : Type 0 where
  pub ops : List Op
  pub routines : List RoutineRow
  -- they tile the operations in order
  pub owners : List Owner
  -- for each routine the place of its ERROR part, if it has one
  pub handlers : List (Option ℕ)
  pub slots : List Datum
  -- the initial values of all routines, one after the other
  pub firsts : List Datum
  -- the names of all tasks of the script
  pub tasks : List (List ℕ)
  pub sorts : List PersSort
  -- the most operands that a frame holds
  pub deepest : ℕ
  pub main : ℕ
  -- the number of axes of the task's arm, 0 without an arm
  pub axes : ℕ
