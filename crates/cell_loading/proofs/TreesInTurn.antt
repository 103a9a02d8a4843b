-- What follows the tree of a task, step by step.
use Rattle.std.specs.Prelude.{List, ◌∷◌, Result, Ok}
use Rattle.rapid_model.specs.ScriptData.{ScriptData}
use Rattle.typed_trees.specs.Plain.{TypedTree}
use Rattle.rule_checks.specs.Checks.{◌>>=◌}
use Rattle.cell_assembly.specs.Made.{MadeCell, make_cell}
use Rattle.cell_loading.specs.declared.refused.Refused.{Refused}
use Rattle.cell_loading.specs.ReadModules.{ReadModule, cell_or_refused}

abbrev pub with_tree : TypedTree → Result (List TypedTree) Refused → Result (List TypedTree) Refused
with_tree tree more = more >>= (λ trees. Ok (tree ∷ trees))

abbrev pub then_trees : Result TypedTree Refused → Result (List TypedTree) Refused → Result (List TypedTree) Refused
then_trees first more = first >>= (λ tree. with_tree tree more)

abbrev pub cell_from : ScriptData → List ReadModule → Result (List TypedTree) Refused → Result MadeCell Refused
cell_from script reads found = found >>= (λ trees. cell_or_refused script reads (make_cell script trees))
