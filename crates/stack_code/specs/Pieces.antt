-- The pieces of statements without a list of their own, in order, after their Look.
use Rattle.std.specs.Prelude.{ℕ, ◌+◌, Bool, true, false, pos, neg_ℤ, List, [], ◌∷◌, codes, bytes_eq, filter_map, Option, None, Some, slice_get}
use Rattle.std.specs.Option.{option_and_then, option_map, unwrap_or}
use Rattle.rapid_model.specs.declared.value.Value.TheVariants.{Num}
use Rattle.rapid_model.specs.declared.operator.Operator.TheVariants as operators
use Rattle.typed_trees.specs.Plain as trees
use Rattle.typed_trees.specs.Plain.{TypedArg, TypedArgs, TypedExpr, TypedPlace, TypedRoutine, TypedStmt, TypedTree, PlaceOf, Given, Lent, OfSignal, OfMeeting, Optional, Argument}
use Rattle.typed_trees.specs.declared.datum.Datum.TheVariants.{Plain}
use Rattle.typed_trees.specs.declared.expr.TreeRoot.{TreeRoot}
use Rattle.typed_trees.specs.declared.expr.TreeRoot.TheVariants as roots
use Rattle.rapid_meaning.specs.Expressions.{lent_length}
use Rattle.rapid_meaning.specs.Instructions.{has, needed, options}
use Rattle.rapid_meaning.specs.Values.{whole}
use Rattle.stack_code.specs.Recipes.{recipe}
use Rattle.stack_code.specs.declared.op.Op.{Op}
use Rattle.stack_code.specs.declared.op.Op.TheVariants as ops
use Rattle.stack_code.specs.declared.order_on.OrderOn.{OrderOn}
use Rattle.stack_code.specs.declared.order_on.OrderOn.TheVariants as orders
use Rattle.stack_code.specs.declared.step.Step.{Step}
use Rattle.stack_code.specs.declared.step.Step.TheVariants as steps
use Rattle.stack_code.specs.declared.tail_kind.TailKind.{TailKind}
use Rattle.stack_code.specs.declared.tail_kind.TailKind.TheVariants as tails

-- OfExpr, OfPlace, OfArgs: operands. Does: an operation. Waits: a Wait that goes back to the statement's Look. GoesTo:
-- a jump to a label. Chooses: pops a bool, and does the first operation if it is TRUE, else the second. Travels: pops
-- a target and a speed, and moves the arm.
pub data Piece : Type 0 where
  OfExpr : TypedExpr → Piece
  OfPlace : TypedPlace → Piece
  OfArgs : TypedArgs → Piece
  Does : Op → Piece
  Waits : Piece
  GoesTo : ℕ → Piece
  Chooses : Op → Op → Piece
  Travels : Piece

-- pushes a whole number as a num
abbrev pub push : ℕ → Op
push n = ops.Push (Plain (whole n))

-- pushes -1
abbrev pub push_down : Op
push_down = ops.Push (Plain (Num (neg_ℤ (pos 1_000))))

-- the number in the cell of a persistent of the tree
abbrev pub cell_number : TypedTree → TreeRoot → ℕ
cell_number tree (roots.Pers row) = unwrap_or (slice_get tree.pers_of row) 0
cell_number tree root = 0

abbrev pub watched_number : TypedTree → TypedPlace → ℕ
watched_number tree (PlaceOf root index part sort) = cell_number tree root

abbrev pub meeting_number : TypedTree → ℕ → ℕ
meeting_number tree row = unwrap_or (slice_get tree.meeting_of row) 0

-- an argument by its number, if it exists and has this form

abbrev pub value_in : TypedArg → Option TypedExpr
value_in (Given e) = Some e
value_in arg = None

abbrev pub place_in : TypedArg → Option TypedPlace
place_in (Lent p) = Some p
place_in arg = None

abbrev pub signal_in : TypedArg → Option ℕ
signal_in (OfSignal signal) = Some signal
signal_in arg = None

abbrev pub meeting_in : TypedArg → Option ℕ
meeting_in (OfMeeting number) = Some number
meeting_in arg = None

abbrev pub value_at : List TypedArg → ℕ → Option TypedExpr
value_at args n = option_and_then value_in (slice_get args n)

abbrev pub place_at : List TypedArg → ℕ → Option TypedPlace
place_at args n = option_and_then place_in (slice_get args n)

abbrev pub signal_at : List TypedArg → ℕ → Option ℕ
signal_at args n = option_and_then signal_in (slice_get args n)

abbrev pub meeting_at : List TypedArg → ℕ → Option ℕ
meeting_at args n = option_and_then meeting_in (slice_get args n)

-- the tail of a text, from an option

abbrev pub tail_kind : Bool → TailKind
tail_kind true = tails.Num
tail_kind false = tails.Bool

abbrev pub tail_in : List TypedArg → Option TypedExpr
tail_in (Optional name (Argument (Given e)) ∷ []) = Some e
tail_in options = None

abbrev pub tail_kind_in : List TypedArg → Option TailKind
tail_kind_in [] = Some tails.None
tail_kind_in (Optional name (Argument (Given e)) ∷ []) = Some (tail_kind (bytes_eq name (codes "Num")))
tail_kind_in options = None

-- the length of an array argument
abbrev pub list_length : TypedTree → TypedRoutine → TypedPlace → ℕ
list_length tree routine list = unwrap_or (lent_length tree routine list) 0

-- an order of an interrupt, for one firing only with the option
abbrev pub order_of : OrderOn → List TypedArg → Op
order_of on options = ops.Order on (has (codes "Single") options)

-- a zone that sets a signal, temporary with the option
abbrev pub tie_of : ℕ → List TypedArg → Op
tie_of signal options = ops.ZoneTie (has (codes "Temp") options) signal

-- the pieces of a step, from the arguments without the options, and the options; none if its argument has another form
abbrev pub piece_of : TypedTree → TypedRoutine → List TypedArg → List TypedArg → Step → Option Piece
piece_of tree routine args options (steps.Value n) = option_map OfExpr (value_at args n)
piece_of tree routine args options (steps.Place n) = option_map OfPlace (place_at args n)
piece_of tree routine args options (steps.Count n) = Some (Does (push n))
piece_of tree routine args options steps.Drop = Some (Does ops.Drop)
piece_of tree routine args options steps.Dup = Some (Does ops.Dup)
piece_of tree routine args options steps.Over = Some (Does ops.Over)
piece_of tree routine args options steps.Load = Some (Does ops.Load)
piece_of tree routine args options steps.Store = Some (Does ops.Store)
piece_of tree routine args options steps.Bit = Some (Does ops.Bit)
piece_of tree routine args options steps.Still = Some (Does ops.Still)
piece_of tree routine args options steps.Travel = Some Travels
piece_of tree routine args options steps.TestSet = Some (Does ops.TestSet)
piece_of tree routine args options (steps.Binary o) = Some (Does (ops.Binary o))
piece_of tree routine args options (steps.Irq change) = Some (Does (ops.Irq change))
piece_of tree routine args options (steps.Zone change) = Some (Does (ops.Zone change))
piece_of tree routine args options steps.Wait = Some Waits
piece_of tree routine args options (steps.GetSignal n) = option_map (λ signal. Does (ops.GetSignal signal)) (signal_at args n)
piece_of tree routine args options (steps.PutSignal n) = option_map (λ signal. Does (ops.PutSignal signal)) (signal_at args n)
piece_of tree routine args options (steps.OrderSignal n) = option_map (λ signal. Does (order_of (orders.Signal signal) options)) (signal_at args n)
piece_of tree routine args options (steps.OrderPers n) = option_map (λ watch. Does (order_of (orders.Pers (watched_number tree watch)) options)) (place_at args n)
piece_of tree routine args options (steps.TaskSet n) = option_map (λ list. Does (ops.TaskSet (list_length tree routine list))) (place_at args n)
piece_of tree routine args options (steps.Arrive n) = option_map (λ meeting. Does (ops.Arrive (meeting_number tree meeting))) (meeting_at args n)
piece_of tree routine args options (steps.Shape home) = Some (Does (ops.Shape (has (codes "Inside") options) home))
piece_of tree routine args options steps.ZoneSet = Some (Does (ops.ZoneSet (has (codes "Temp") options)))
piece_of tree routine args options (steps.ZoneTie n) = option_map (λ signal. Does (tie_of signal options)) (signal_at args n)
piece_of tree routine args options steps.Tail = option_map OfExpr (tail_in options)
piece_of tree routine args options steps.Say = option_map (λ kind. Does (ops.Say kind)) (tail_kind_in options)

abbrev pub pieces_of_steps : TypedTree → TypedRoutine → List TypedArg → List TypedArg → List Step → List Piece
pieces_of_steps tree routine args options row = filter_map (piece_of tree routine args options) row

-- The bounds of a FOR whose variable is this datum of the frame; its last value and step are the next two. All given
-- values are evaluated before any is stored. A step that is not given is computed from the other two.
abbrev pub bounds_pieces : ℕ → TypedExpr → TypedExpr → Option TypedExpr → List Piece
bounds_pieces k first last (Some step) =
    Does (ops.Local k) ∷ OfExpr first ∷ Does (ops.Local (k + 1)) ∷ OfExpr last ∷ Does (ops.Local (k + 2)) ∷ OfExpr step
    ∷ Does ops.Store ∷ Does ops.Store ∷ Does ops.Store ∷ []
bounds_pieces k first last None =
    Does (ops.Local k) ∷ OfExpr first ∷ Does (ops.Local (k + 1)) ∷ OfExpr last ∷ Does ops.Store ∷ Does ops.Store
    ∷ Does (ops.Local (k + 2)) ∷ Does (ops.Local k) ∷ Does ops.Load ∷ Does (ops.Local (k + 1)) ∷ Does ops.Load
    ∷ Does (ops.Binary operators.Greater) ∷ Chooses push_down (push 1) ∷ Does ops.Store ∷ []

-- a statement without a list of its own
abbrev pub pieces : TypedTree → TypedRoutine → TypedStmt → List Piece
pieces tree routine (trees.Assign at p e) = OfPlace p ∷ OfExpr e ∷ Does ops.Store ∷ []
pieces tree routine (trees.Instruct at instruction args) = pieces_of_steps tree routine (needed args) (options args) (recipe instruction)
pieces tree routine (trees.Call at called args) = OfArgs args ∷ Does (ops.Call called) ∷ []
pieces tree routine (trees.Goto at label) = GoesTo label ∷ []
pieces tree routine (trees.Return at None) = Does ops.Back ∷ []
pieces tree routine (trees.Return at (Some e)) = OfExpr e ∷ Does ops.BackWith ∷ []
pieces tree routine (trees.Exit at) = Does ops.Exit ∷ []
pieces tree routine (trees.Raise at None) = Does ops.Again ∷ []
pieces tree routine (trees.Raise at (Some e)) = OfExpr e ∷ Does ops.Raise ∷ []
pieces tree routine (trees.Retry at) = Does ops.Retry ∷ []
pieces tree routine (trees.TryNext at) = Does ops.Next ∷ []
pieces tree routine (trees.Connect at p trap) = OfPlace p ∷ Does ops.Dup ∷ Does ops.Load ∷ Does (ops.Connect trap) ∷ []
pieces tree routine other = []
