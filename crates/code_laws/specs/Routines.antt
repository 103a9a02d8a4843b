-- Code that has the routines of a tree.
use Rattle.std.specs.Prelude.{◌≡◌, ℕ, ◌≤◌, max, List, ◌++◌, map, drop, None, Some, slice_get}
use Rattle.std.specs.Option.{option_map}
use Rattle.typed_trees.specs.Plain.{TypedRoutine, TypedTree}
use Rattle.typed_trees.specs.declared.datum.Datum.{Datum}
use Rattle.rapid_meaning.specs.Answering.{fitting_of}
use Rattle.rapid_meaning.specs.Frames.{first_values}
use Rattle.stack_code.specs.CodeData.{CodeData}
use Rattle.stack_code.specs.CodeRuns.{fitting_by}
use Rattle.stack_code.specs.Compiled.{compiled, deepest_in, owner_rows, part_need, part_start, placed_in, routine_code, routine_row}
use Rattle.stack_code.specs.Needs.{stmts_need}
use Rattle.stack_code.specs.Placed.{Placed, StandsAt}
use Rattle.stack_code.specs.Raising.{handler_of}

-- a routine by its number: its row, its operations at its entry, its initial values, its ERROR part, and room for its
-- operands
pub record HasRoutine (tree : TypedTree) (code : CodeData) (number : ℕ) (routine : TypedRoutine) : Type 0 where
  pub entry : ℕ
  pub first : ℕ
  pub row : slice_get code.routines number ≡ Some (routine_row entry first routine)
  pub behind : List Placed
  pub stands : StandsAt code entry (routine_code tree entry routine behind)
  pub others : List Datum
  pub firsts : drop first code.firsts ≡ first_values routine ++ others
  pub handler : handler_of code number ≡ option_map (λ list. part_start tree routine entry) routine.handler
  pub room : max (stmts_need tree routine routine.list) (part_need tree routine routine.handler) ≤ code.deepest

-- the routines of the tree and no others, its main and its task names; the answers that fit the tree are those that fit
-- the code
pub record HasRoutines (tree : TypedTree) (code : CodeData) : Type 0 where
  pub routines : (number : ℕ) (routine : TypedRoutine) → slice_get tree.routines number ≡ Some routine → HasRoutine tree code number routine
  pub missing : (number : ℕ) → slice_get tree.routines number ≡ None → slice_get code.routines number ≡ None
  pub main : code.main ≡ tree.main
  pub tasks : code.tasks ≡ tree.tasks
  pub fits : fitting_by code ≡ fitting_of tree

-- what a tree compiles to, with more operations appended, and with room for at least this many operands
abbrev pub extended : TypedTree → List Placed → ℕ → CodeData
extended tree more room = record (compiled tree) {
  ops = map (λ p. p.op) (placed_in tree ++ more);
  owners = owner_rows (placed_in tree ++ more);
  deepest = max (deepest_in tree tree.routines) room;
}
