-- What the layout of code relies on.
use Rattle.std.specs.Prelude.{◌≡◌, ℕ, suc, IsTrue, List, [], ◌∷◌, Option, None, Some, All, ⊤}
use Rattle.typed_trees.specs.Plain.{TypedRoutine, TypedStmts, TypedTree}
use Rattle.typed_trees.specs.Labels.{numbers_in_routine}
use Rattle.rapid_meaning.specs.Answering.{is_trap_kind}
use Rattle.code_laws.specs.Calls.{StmtsCalls, Takes}

-- the numbers count from n
abbrev pub Counts : ℕ → List ℕ → Type 0
Counts n [] = ⊤
Counts n (number ∷ more) = (number ≡ n) × Counts (suc n) more

abbrev pub PartCalls : TypedTree → Option TypedStmts → Type 0
PartCalls tree None = ⊤
PartCalls tree (Some list) = StmtsCalls tree list

-- the labels of a routine's list and of its ERROR part are numbered in text order from 0
abbrev pub NumbersLabels : TypedRoutine → Type 0
NumbersLabels routine = Counts 0 (numbers_in_routine routine)

-- A routine: its calls pass as many arguments as are taken, and its statements call PROCs; its labels are numbered in
-- text order from 0; and a TRAP has no parameters.
pub record IsOrderlyRoutine (tree : TypedTree) (routine : TypedRoutine) : Type 0 where
  pub list : StmtsCalls tree routine.list
  pub part : PartCalls tree routine.handler
  pub labels : NumbersLabels routine
  pub traps : IsTrue (is_trap_kind routine.kind) → routine.params ≡ []

-- a tree, whose main has no parameters
pub record IsOrderly (tree : TypedTree) : Type 0 where
  pub routines : All (IsOrderlyRoutine tree) tree.routines
  pub main : Takes tree tree.main 0
