-- The state of compiled code, answer by answer, for the examples.
use Rattle.std.proofs.Common.{◌≡◌, ℕ, List, [], ◌∷◌, ◌++◌}
use Rattle.std.specs.Prelude.{⊤, map}
use Rattle.joint_planner.specs.Setpoints.{greatest_change, step_of}
use Rattle.rapid_model.specs.declared.answer.Answer.{Answer}
use Rattle.typed_trees.specs.Plain.{TypedTree}
use Rattle.rapid_meaning.specs.Answering.{Outcome, performed, sort_of_pers}
use Rattle.rapid_meaning.specs.Data.{frame_at, with_frame}
use Rattle.rapid_meaning.specs.Doings.{after}
use Rattle.rapid_meaning.specs.Functions.{last_digits}
use Rattle.rapid_meaning.specs.Instructions.{has}
use Rattle.rapid_meaning.specs.Meetings.{with_tasks}
use Rattle.rapid_meaning.specs.Zones.{on_axes}
use Rattle.rapid_meaning.specs.Runs.{Next, deep, next_of, state_after}
use Rattle.stack_code.specs.CodeData.{CodeData}
use Rattle.stack_code.specs.CodeRuns.{code_after, exec, sort_in}
use Rattle.stack_code.specs.Compiled.{compiled, deepest_in, handlers_of, routine_rows, routines_code, rows_from, sorts_of}
use Rattle.stack_code.specs.Needs.{pieces_need, values_need}
use Rattle.stack_code.specs.Placed.{owner_at}
use Rattle.stack_code.specs.Raising.{raised_to}
use Rattle.stack_code.specs.Sizes.{pieces_size, values_size}
use Rattle.stack_code.specs.StmtLayouts.{pieces_code, values_code}

-- more operations than the examples do
abbrev pub enough : ℕ
enough = 1_000

-- the state of code with its data before the first answer, before the second and so on, and after the last
unfoldable pub code_stands : CodeData → List Answer → List Answer → List (Outcome ⊤)
unfolding exec performed after frame_at with_frame sort_in last_digits on_axes has with_tasks greatest_change step_of owner_at raised_to
code_stands code before [] = code_after code enough before ∷ []
code_stands code before (a ∷ more) = code_after code enough before ∷ code_stands code (before ++ a ∷ []) more

-- the states of a tree's code
unfoldable pub compiled_stands : TypedTree → List Answer → List (Outcome ⊤)
unfolding code_stands deepest_in handlers_of routine_rows routines_code rows_from sorts_of pieces_need values_need pieces_size values_size pieces_code values_code
compiled_stands tree answers = code_stands (compiled tree) [] answers

-- what it asks
unfoldable pub compiled_asks : TypedTree → List Answer → List Next
unfolding compiled_stands
compiled_asks tree answers = map next_of (compiled_stands tree answers)

-- the states of a tree
unfoldable pub tree_stands : TypedTree → List Answer → List Answer → List (Outcome ⊤)
unfolding state_after deep performed after frame_at with_frame sort_of_pers last_digits on_axes has with_tasks greatest_change step_of
tree_stands tree before [] = state_after tree before ∷ []
tree_stands tree before (a ∷ more) = state_after tree before ∷ tree_stands tree (before ++ a ∷ []) more

-- for these answers a tree and its code ask the same, with the same data
abbrev pub StandsAlike : TypedTree → List Answer → Type 0
StandsAlike tree answers = compiled_stands tree answers ≡ tree_stands tree [] answers
