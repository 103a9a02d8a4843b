-- FOR (RAPID Kernel, FOR). Its variable, last value and step are three data of the frame. Each test and each step reads
-- them again.
use Rattle.std.specs.Prelude.{ℕ, ◌+◌, Bool, ℤ, pos, neg_ℤ, int_lt, Option, None, Some, if◌then◌else◌}
use Rattle.rapid_num.specs.Arithmetic.{sum_of}
use Rattle.rapid_model.specs.declared.value.Value.TheVariants as values
use Rattle.typed_trees.specs.Plain.{TypedExpr, TypedRoutine, TypedTree}
use Rattle.typed_trees.specs.declared.datum.Lvalue.{Lvalue}
use Rattle.rapid_meaning.specs.Doings.{Doing, Gives, Reads, Act, ◌>>=◌, ◌>>◌, goes_to}
use Rattle.rapid_meaning.specs.Flows.{Flow, Normal, Part}
use Rattle.rapid_meaning.specs.Instructions.{num}
use Rattle.rapid_meaning.specs.Layouts.{local_start}
use Rattle.rapid_meaning.specs.Places.{own_place, read_value, write_value}
use Rattle.rapid_meaning.specs.Values.{num_in}

-- the place of one of the three data of a FOR, counted from 0
abbrev pub counter_place : TypedRoutine → ℕ → ℕ → Doing Lvalue
counter_place routine local which = Reads (λ d. Gives (own_place (local_start routine local + which) d.frames))

abbrev pub counter : TypedRoutine → ℕ → ℕ → Doing ℤ
counter routine local which = do
  p ← counter_place routine local which
  v ← read_value p
  num_in v

abbrev pub set_counter : TypedRoutine → ℕ → ℕ → ℤ → Act
set_counter routine local which n = do
  p ← counter_place routine local which
  write_value p (values.Num n)

-- the step if none is given: 1, or -1 if the first value is the greater
abbrev pub direction : ℤ → ℤ → ℤ
direction first last = if int_lt last first then neg_ℤ (pos 1_000) else pos 1_000

abbrev pub step_value : TypedTree → TypedRoutine → ℤ → ℤ → Option TypedExpr → Doing ℤ
step_value tree routine first last None = Gives (direction first last)
step_value tree routine first last (Some step) = num tree routine step

-- evaluates the first value, the last value and the step, and then stores all three
abbrev pub bounds : TypedTree → TypedRoutine → ℕ → TypedExpr → TypedExpr → Option TypedExpr → Act
bounds tree routine local first last step = do
  from ← num tree routine first
  to ← num tree routine last
  by ← step_value tree routine from to step
  set_counter routine local 0 from
  set_counter routine local 1 to
  set_counter routine local 2 by

-- the variable has passed the last value; a step of zero counts up
abbrev pub has_passed : ℤ → ℤ → ℤ → Bool
has_passed variable last step = if int_lt step (pos 0) then int_lt variable last else int_lt last variable

-- does the next iteration, from its Look, unless the variable has passed the last value
abbrev pub turn_due : TypedRoutine → ℕ → Part → Doing Flow
turn_due routine local next = do
  variable ← counter routine local 0
  last ← counter routine local 1
  step ← counter routine local 2
  if has_passed variable last step then Gives Normal else goes_to next

-- the loop ends if the variable leaves the range of num
abbrev pub counted : TypedRoutine → ℕ → Part → Option ℤ → Doing Flow
counted routine local next None = Gives Normal
counted routine local next (Some n) = do
  set_counter routine local 0 n
  turn_due routine local next

-- adds the step to the variable
abbrev pub counts_on : TypedRoutine → ℕ → Part → Doing Flow
counts_on routine local next = do
  variable ← counter routine local 0
  step ← counter routine local 2
  counted routine local next (sum_of variable step)
