-- How often a FOR iterates (RAPID Kernel, FOR).
use Rattle.std.specs.Prelude.{◌≡◌, ℕ, zero, suc, ◌+◌, ◌≤◌, ◌/◌, ℤ, pos, negsuc, ◌-ℤ◌, int_lt, nat_abs, List, [], ◌∷◌, ◌++◌, Option, None, Some, if◌then◌else◌, slice_get}
use Rattle.rapid_model.specs.declared.answer.Answer.{Answer}
use Rattle.rapid_model.specs.declared.answer.Answer.TheVariants.{Go}
use Rattle.rapid_model.specs.declared.value.Value.TheVariants as values
use Rattle.typed_trees.specs.Plain.{TypedRoutine, TypedStmts, TypedTree}
use Rattle.typed_trees.specs.declared.datum.Datum.TheVariants as datums
use Rattle.rapid_meaning.specs.Answering.{Gave}
use Rattle.rapid_meaning.specs.Data.{Data, Frame}
use Rattle.rapid_meaning.specs.Flows.{Normal, Where, Rest}
use Rattle.rapid_meaning.specs.Layouts.{local_start}
use Rattle.rapid_meaning.specs.Runs.{deep}

-- how many steps of a positive size lead from a value past one that is not below it
abbrev pub steps_past : ℤ → ℤ → ℕ → ℕ
steps_past from to step = nat_abs (to -ℤ from) / step + 1

-- The number of iterations from the first value to the last: zero if the first is past the last, else one for each
-- whole step between them, and one more. None: for ever, by a step of zero.
abbrev pub turns : ℤ → ℤ → ℤ → Option ℕ
turns first last (pos zero) = if int_lt last first then Some 0 else None
turns first last (pos (suc n)) = if int_lt last first then Some 0 else Some (steps_past first last (suc n))
turns first last (negsuc n) = if int_lt first last then Some 0 else Some (steps_past last first (suc n))

-- the innermost frame has the variable, the last value and the step of a FOR
pub record Counts (routine : TypedRoutine) (local : ℕ) (d : Data) (variable last step : ℤ) : Type 0 where
  pub frame : Frame
  pub below : List Frame
  pub frames : d.frames ≡ frame ∷ below
  pub has_variable : slice_get frame.values (local_start routine local + 0) ≡ Some (datums.Plain (values.Num variable))
  pub has_last : slice_get frame.values (local_start routine local + 1) ≡ Some (datums.Plain (values.Num last))
  pub has_step : slice_get frame.values (local_start routine local + 2) ≡ Some (datums.Plain (values.Num step))

-- a list ends normally with these answers, and leaves these three as they are
pub record Ends (tree : TypedTree) (w : Where) (local : ℕ) (list : TypedStmts) (n : ℕ) (d : Data) (answers left : List Answer) (variable last step : ℤ) : Type 0 where
  pub after : Data
  pub ends : deep tree n (Rest w list list) d (answers ++ left) ≡ Gave Normal after left
  pub counts : Counts w.routine local after variable last step

-- the list of a FOR always ends so with these answers, whatever its variable, if parts may nest to this depth
pub record EndsNormally (tree : TypedTree) (w : Where) (local : ℕ) (list : TypedStmts) (answers : List Answer) (parts : ℕ) : Type 0 where
  pub always : (n : ℕ) (d : Data) (left : List Answer) (variable last step : ℤ) → parts ≤ n → Counts w.routine local d variable last step
      → Ends tree w local list n d answers left variable last step

-- the answers to `count` iterations in a row: to the Look of each, and to its list
unfoldable pub turn_by_turn : ℕ → List Answer → ℕ → List Answer
turn_by_turn seen answers zero = []
turn_by_turn seen answers (suc count) = Go seen ∷ (answers ++ turn_by_turn seen answers count)
