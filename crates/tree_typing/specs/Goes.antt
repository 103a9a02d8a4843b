-- A task that never misfits.
use Rattle.std.specs.Prelude.{List, ⊤}
use Rattle.typed_trees.specs.Plain.{TypedTree}
use Rattle.rapid_meaning.specs.Data.{Data}
use Rattle.rapid_meaning.specs.Runs.{Next, asks, ended, unfit, misfit}
use Rattle.tree_typing.specs.Kinds.{Cell}
use Rattle.tree_typing.specs.States.{IsState}

-- it asks, or has ended
abbrev pub Goes : Next → Type 0
Goes (asks request) = ⊤
Goes ended = ⊤
Goes unfit = ⊥
Goes misfit = ⊥

-- data have the types that the tree names, with frames of some places
pub record AreTyped (tree : TypedTree) (d : Data) : Type 0 where
  pub frames : List (List Cell)
  pub state : IsState tree d.trapped frames d
