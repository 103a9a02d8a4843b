-- Facts about the code of a tree.
use Rattle.std.proofs.Common.{◌≡◌, ℕ, ◌≤◌, List, ◌++◌, None, Some, max, drop, slice_get}
use Rattle.std.specs.Option.{option_map}
use Rattle.typed_trees.specs.Plain.{TypedRoutine, TypedTree}
use Rattle.typed_trees.specs.declared.datum.Datum.{Datum}
use Rattle.rapid_meaning.specs.Answering.{fitting_of}
use Rattle.rapid_meaning.specs.Frames.{first_values}
use Rattle.stack_code.specs.Compiled.{part_need, part_start, routine_code, routine_row}
use Rattle.stack_code.specs.Needs.{stmts_need}
use Rattle.stack_code.specs.Placed.{Placed, StandsAt}
use Rattle.stack_code.specs.Raising.{handler_of}
use Rattle.code_laws.specs.Calls.{Takes}
use Rattle.code_laws.specs.Orderly.{IsOrderlyRoutine}
use Rattle.code_laws.proofs.Sim.{Target}

-- a routine by its number: its row, its code, its initial values, its ERROR part, and room for its operands
pub record Found (tree : TypedTree) (t : Target) (number : ℕ) (routine : TypedRoutine) : Type 0 where
  pub entry : ℕ
  pub first : ℕ
  pub row : slice_get t.code.routines number ≡ Some (routine_row entry first routine)
  pub behind : List Placed
  pub code : StandsAt t.code entry (routine_code tree entry routine behind)
  pub others : List Datum
  pub firsts : drop first t.code.firsts ≡ first_values routine ++ others
  pub handler : handler_of t.code number ≡ option_map (λ list. part_start tree routine entry) routine.handler
  pub room : max (stmts_need tree routine routine.list) (part_need tree routine routine.handler) ≤ t.code.deepest
  pub orderly : IsOrderlyRoutine tree routine

pub record IsCodeOf (tree : TypedTree) (t : Target) : Type 0 where
  pub fits : t.by ≡ fitting_of tree
  pub found : (number : ℕ) (routine : TypedRoutine) → slice_get tree.routines number ≡ Some routine → Found tree t number routine
  pub missing : (number : ℕ) → slice_get tree.routines number ≡ None → slice_get t.code.routines number ≡ None
  pub tasks : t.code.tasks ≡ tree.tasks
  pub main : t.code.main ≡ tree.main
  pub axes : t.code.axes ≡ tree.axes
  pub main_takes : Takes tree tree.main 0
