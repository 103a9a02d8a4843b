-- The persistents and meetings that the tasks of a cell declare, and which of them are the same (RAPID Overview,
-- persistent data).
use Rattle.std.specs.Prelude.{◌≡◌, ℕ, ◌+◌, ◌<◌, false, List, [], ◌∷◌, ◌++◌, map, flat_map, Some, slice_get}
use Rattle.rapid_model.specs.Names.{IsOneName}
use Rattle.typed_trees.specs.Plain.{TypedPers, TypedTree}

-- a PERS of the task with this number
pub record Declared : Type 0 where
  pub task : ℕ
  pub row : TypedPers

abbrev pub of_task : ℕ → TypedPers → Declared
of_task task row = record { task = task; row = row }

-- each PERS of the trees, the first of which is that of the task with this number: by task, and in a tree by module and
-- place
abbrev pub declared_from : ℕ → List TypedTree → List Declared
declared_from task [] = []
declared_from task (tree ∷ trees) = map (of_task task) tree.pers ++ declared_from (task + 1) trees

abbrev pub declared_by : List TypedTree → List Declared
declared_by trees = declared_from 0 trees

-- two PERS are the same persistent if both are global (neither is LOCAL or TASK) and have the same name
pub record AreOne (d e : Declared) : Type 0 where
  pub global : d.row.own ≡ false
  pub other_global : e.row.own ≡ false
  pub named : IsOneName d.row.name e.row.name

-- of the same type and length
pub record AreAlike (row other : TypedPers) : Type 0 where
  pub sort : row.sort ≡ other.sort
  pub len : row.len ≡ other.len

-- the declarations of the same persistent before an index agree
abbrev pub AreAlikeBefore : ℕ → List Declared → Type 0
AreAlikeBefore index declared =
    (i j : ℕ) (d e : Declared) → i < j → j < index → slice_get declared i ≡ Some d → slice_get declared j ≡ Some e → AreOne d e → AreAlike d.row e.row

-- the meetings of the trees, by task and first use
abbrev pub meetings_of : List TypedTree → List (List ℕ)
meetings_of trees = flat_map (λ tree. tree.meetings) trees
