-- What an expression does, and its value (RAPID Kernel, expressions). Operands are evaluated from left to right.
use Rattle.std.specs.Prelude.{ℕ, List, [], ◌∷◌, Option, Some}
use Rattle.std.specs.Option.{option_map}
use Rattle.rapid_model.specs.declared.function.Function.{Function}
use Rattle.rapid_model.specs.declared.function.Function.TheVariants as functions
use Rattle.rapid_model.specs.declared.request.Request.TheVariants.{Position}
use Rattle.rapid_model.specs.declared.value.Value.{Value}
use Rattle.rapid_model.specs.declared.value.Value.TheVariants as values
use Rattle.rapid_values.specs.Values.{made_of}
use Rattle.typed_trees.specs.Plain as trees
use Rattle.typed_trees.specs.Plain.{TypedArgs, TypedExpr, TypedExprs, TypedPlace, TypedRoutine, TypedSteps, TypedTree, NoExprs, MoreExprs, NoSteps, MoreSteps, NotHeld, Held, PlaceOf, Given, Lent, OfSignal, NoArgs, MoreArgs}
use Rattle.typed_trees.specs.declared.datum.Datum.{Datum}
use Rattle.typed_trees.specs.declared.datum.Datum.TheVariants as datums
use Rattle.typed_trees.specs.declared.datum.Lvalue.{Lvalue}
use Rattle.rapid_meaning.specs.Doings.{Doing, Gives, Misfit, Asks, Reads, ◌>>=◌, calls, or_misfit}
use Rattle.rapid_meaning.specs.Flows.{Flow, Returns}
use Rattle.rapid_meaning.specs.Functions.{absolute, read_signal, shown, text_length, truncated, when_at}
use Rattle.rapid_meaning.specs.Layouts.{length_at}
use Rattle.rapid_meaning.specs.Places.{rooted, indexed, part_at, read_value, test_and_set}
use Rattle.rapid_meaning.specs.Values.{between, opposite, of_bit, whole, with_sign}

-- what a function of the task returned
abbrev pub returned : Flow → Doing Value
returned (Returns (Some v)) = Gives v
returned _ = Misfit

-- the length of an array passed by reference
abbrev pub lent_length : TypedTree → TypedRoutine → TypedPlace → Option ℕ
lent_length tree routine (PlaceOf root index part sort) = length_at tree routine root

abbrev mutual
  pub expr : TypedTree → TypedRoutine → TypedExpr → Doing Value
  expr tree routine (trees.Known at sort v) = Gives v
  expr tree routine (trees.ErrorNumber at sort) = Reads (λ d. Gives (whole d.errno))
  expr tree routine (trees.SignalValue at sort signal) = do
    bit ← read_signal signal
    Gives (of_bit bit)
  expr tree routine (trees.Stored at sort p) = do
    q ← place tree routine p
    read_value q
  expr tree routine (trees.Group at sort e) = expr tree routine e
  expr tree routine (trees.Aggregate at sort es) = do
    vs ← exprs tree routine es
    or_misfit (made_of sort vs)
  expr tree routine (trees.Builtin at sort function args) = builtin tree routine function args
  expr tree routine (trees.Invoke at sort called args) = do
    xs ← arguments tree routine args
    flow ← calls called xs
    returned flow
  expr tree routine (trees.Not at sort e) = do
    v ← expr tree routine e
    opposite v
  expr tree routine (trees.Signed at sort minus e) = do
    v ← expr tree routine e
    with_sign minus v
  expr tree routine (trees.Chain at sort e steps) = do
    v ← expr tree routine e
    along tree routine steps v

  pub exprs : TypedTree → TypedRoutine → TypedExprs → Doing (List Value)
  exprs tree routine NoExprs = Gives []
  exprs tree routine (MoreExprs e es) = do
    v ← expr tree routine e
    vs ← exprs tree routine es
    Gives (v ∷ vs)

  -- the operators that follow a left operand, each with its right operand
  pub along : TypedTree → TypedRoutine → TypedSteps → Value → Doing Value
  along tree routine NoSteps v = Gives v
  along tree routine (MoreSteps o e steps) v = do
    w ← between o v (expr tree routine e)
    along tree routine steps w

  -- the root, then the index, then the part
  pub place : TypedTree → TypedRoutine → TypedPlace → Doing Lvalue
  place tree routine (PlaceOf root NotHeld part sort) = do
    p ← rooted tree routine root
    part_at part p
  place tree routine (PlaceOf root (Held e) part sort) = do
    p ← rooted tree routine root
    v ← expr tree routine e
    q ← indexed (length_at tree routine root) p v
    part_at part q

  -- the arguments of a routine call in order, by value or by reference
  pub arguments : TypedTree → TypedRoutine → TypedArgs → Doing (List Datum)
  arguments tree routine NoArgs = Gives []
  arguments tree routine (MoreArgs (Given e) more) = do
    v ← expr tree routine e
    xs ← arguments tree routine more
    Gives (datums.Plain v ∷ xs)
  arguments tree routine (MoreArgs (Lent p) more) = do
    q ← place tree routine p
    xs ← arguments tree routine more
    Gives (datums.Place q ∷ xs)
  arguments tree routine (MoreArgs other more) = Misfit

  -- The predefined functions: what each evaluates, in order, what it asks, and its value. Dim reads no datum.
  pub builtin : TypedTree → TypedRoutine → Function → TypedArgs → Doing Value
  builtin tree routine functions.Abs (MoreArgs (Given e) NoArgs) = do
    v ← expr tree routine e
    absolute v
  builtin tree routine functions.Trunc (MoreArgs (Given e) NoArgs) = do
    v ← expr tree routine e
    truncated v
  builtin tree routine functions.StrLen (MoreArgs (Given e) NoArgs) = do
    v ← expr tree routine e
    text_length v
  builtin tree routine functions.NumToStr (MoreArgs (Given e) (MoreArgs (Given f) NoArgs)) = do
    v ← expr tree routine e
    w ← expr tree routine f
    shown v w
  builtin tree routine functions.Dim (MoreArgs (Lent p) (MoreArgs one NoArgs)) = or_misfit (option_map whole (lent_length tree routine p))
  builtin tree routine functions.CJointT NoArgs = Asks Position when_at
  builtin tree routine functions.TestDI (MoreArgs (OfSignal signal) NoArgs) = do
    bit ← read_signal signal
    Gives (values.Bool bit)
  builtin tree routine functions.DOutput (MoreArgs (OfSignal signal) NoArgs) = do
    bit ← read_signal signal
    Gives (of_bit bit)
  builtin tree routine functions.TestAndSet (MoreArgs (Lent p) NoArgs) = do
    q ← place tree routine p
    met ← test_and_set q
    Gives (values.Bool met)
  builtin tree routine function args = Misfit
