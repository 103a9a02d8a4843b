-- The text of one operation as it is listed: its name and its operands, each after a space. Numbers are integers, data
-- and truth values are written as values, types and functions by their names in RAPID, and all else by its name in the
-- table of operations.
use Rattle.std.specs.Prelude.{ℕ, List, [], ◌∷◌, ◌++◌, codes, decimal}
use Rattle.rapid_model.specs.declared.function.Function.{Function}
use Rattle.rapid_model.specs.declared.function.Function.TheVariants as functions
use Rattle.rapid_model.specs.declared.operator.Operator.{Operator}
use Rattle.rapid_model.specs.declared.operator.Operator.TheVariants as operators
use Rattle.stack_code.specs.declared.irq_op.IrqOp.{IrqOp}
use Rattle.stack_code.specs.declared.irq_op.IrqOp.TheVariants as irqs
use Rattle.stack_code.specs.declared.op.Op.{Op}
use Rattle.stack_code.specs.declared.op.Op.TheVariants as ops
use Rattle.stack_code.specs.declared.order_on.OrderOn.{OrderOn}
use Rattle.stack_code.specs.declared.order_on.OrderOn.TheVariants as orders
use Rattle.stack_code.specs.declared.tail_kind.TailKind.{TailKind}
use Rattle.stack_code.specs.declared.tail_kind.TailKind.TheVariants as tails
use Rattle.stack_code.specs.declared.unary_op.UnaryOp.{UnaryOp}
use Rattle.stack_code.specs.declared.unary_op.UnaryOp.TheVariants as unary
use Rattle.stack_code.specs.declared.zone_op.ZoneOp.{ZoneOp}
use Rattle.stack_code.specs.declared.zone_op.ZoneOp.TheVariants as zones
use Rattle.typed_trees.specs.declared.datum.Datum.{Datum}
use Rattle.typed_trees.specs.declared.datum.Datum.TheVariants.{Plain}
use Rattle.value_text.specs.ValueText.{part_text, sort_text, truth_text, value_text}

abbrev pub operator_name : Operator → List ℕ
operator_name operators.Or = codes "Or"
operator_name operators.Xor = codes "Xor"
operator_name operators.And = codes "And"
operator_name operators.Equal = codes "Equal"
operator_name operators.NotEqual = codes "NotEqual"
operator_name operators.Less = codes "Less"
operator_name operators.Greater = codes "Greater"
operator_name operators.LessEqual = codes "LessEqual"
operator_name operators.GreaterEqual = codes "GreaterEqual"
operator_name operators.Add = codes "Add"
operator_name operators.Sub = codes "Sub"
operator_name operators.Mul = codes "Mul"
operator_name operators.Div = codes "Div"
operator_name operators.IntDiv = codes "IntDiv"
operator_name operators.Mod = codes "Mod"

abbrev pub unary_name : UnaryOp → List ℕ
unary_name unary.Minus = codes "Minus"
unary_name unary.Not = codes "Not"

abbrev pub function_name : Function → List ℕ
function_name functions.Abs = codes "Abs"
function_name functions.Trunc = codes "Trunc"
function_name functions.StrLen = codes "StrLen"
function_name functions.NumToStr = codes "NumToStr"
function_name functions.Dim = codes "Dim"
function_name functions.CJointT = codes "CJointT"
function_name functions.TestDI = codes "TestDI"
function_name functions.DOutput = codes "DOutput"
function_name functions.TestAndSet = codes "TestAndSet"

abbrev pub irq_name : IrqOp → List ℕ
irq_name irqs.Sleep = codes "Sleep"
irq_name irqs.Watch = codes "Watch"
irq_name irqs.Delete = codes "Delete"
irq_name irqs.Disable = codes "Disable"
irq_name irqs.Enable = codes "Enable"

abbrev pub zone_name : ZoneOp → List ℕ
zone_name zones.On = codes "On"
zone_name zones.Off = codes "Off"
zone_name zones.Free = codes "Free"

abbrev pub tail_name : TailKind → List ℕ
tail_name tails.None = codes "None"
tail_name tails.Num = codes "Num"
tail_name tails.Bool = codes "Bool"

abbrev pub op_name : Op → List ℕ
op_name (ops.Push datum) = codes "Push"
op_name ops.Errno = codes "Errno"
op_name ops.Drop = codes "Drop"
op_name ops.Dup = codes "Dup"
op_name ops.Over = codes "Over"
op_name (ops.Slot k) = codes "Slot"
op_name (ops.Local k) = codes "Local"
op_name (ops.Pers p) = codes "Pers"
op_name (ops.Ref k) = codes "Ref"
op_name (ops.Index n) = codes "Index"
op_name (ops.Part part) = codes "Part"
op_name ops.Load = codes "Load"
op_name ops.Store = codes "Store"
op_name (ops.GetSignal s) = codes "GetSignal"
op_name (ops.PutSignal s) = codes "PutSignal"
op_name ops.Bit = codes "Bit"
op_name (ops.Pack sort) = codes "Pack"
op_name (ops.Binary o) = codes "Binary"
op_name (ops.Unary o) = codes "Unary"
op_name (ops.Func f) = codes "Func"
op_name (ops.Jump a) = codes "Jump"
op_name (ops.JumpTrue a) = codes "JumpTrue"
op_name (ops.JumpFalse a) = codes "JumpFalse"
op_name ops.Look = codes "Look"
op_name (ops.Call r) = codes "Call"
op_name ops.Back = codes "Back"
op_name ops.BackWith = codes "BackWith"
op_name ops.NoBack = codes "NoBack"
op_name ops.Raise = codes "Raise"
op_name ops.Again = codes "Again"
op_name ops.Retry = codes "Retry"
op_name ops.Next = codes "Next"
op_name ops.Exit = codes "Exit"
op_name (ops.Turn k a) = codes "Turn"
op_name (ops.Step k a) = codes "Step"
op_name (ops.Wait a) = codes "Wait"
op_name ops.TestSet = codes "TestSet"
op_name (ops.TaskSet n) = codes "TaskSet"
op_name (ops.Arrive g) = codes "Arrive"
op_name ops.Here = codes "Here"
op_name ops.Still = codes "Still"
op_name ops.Aim = codes "Aim"
op_name (ops.Point a) = codes "Point"
op_name (ops.Connect r) = codes "Connect"
op_name (ops.Order on single) = codes "Order"
op_name (ops.Irq o) = codes "Irq"
op_name (ops.Shape inside home) = codes "Shape"
op_name (ops.ZoneSet temporary) = codes "ZoneSet"
op_name (ops.ZoneTie temporary s) = codes "ZoneTie"
op_name (ops.Zone o) = codes "Zone"
op_name (ops.Say tail) = codes "Say"

abbrev pub word : List ℕ → List ℕ
word text = 32 ∷ text

abbrev pub number_word : ℕ → List ℕ
number_word n = word (decimal n)

-- operations push only values
abbrev pub datum_text : Datum → List ℕ
datum_text (Plain v) = value_text v
datum_text datum = []

-- a signal or a persistent of the cell
abbrev pub order_text : OrderOn → List ℕ
order_text (orders.Signal s) = codes " D" ++ decimal s
order_text (orders.Pers p) = codes " P" ++ decimal p

abbrev pub op_args : Op → List ℕ
op_args (ops.Push datum) = word (datum_text datum)
op_args (ops.Slot k) = number_word k
op_args (ops.Local k) = number_word k
op_args (ops.Pers p) = number_word p
op_args (ops.Ref k) = number_word k
op_args (ops.Index n) = number_word n
op_args (ops.TaskSet n) = number_word n
op_args (ops.Part part) = word (part_text part)
op_args (ops.GetSignal s) = number_word s
op_args (ops.PutSignal s) = number_word s
op_args (ops.Pack sort) = word (sort_text sort)
op_args (ops.Binary o) = word (operator_name o)
op_args (ops.Unary o) = word (unary_name o)
op_args (ops.Func f) = word (function_name f)
op_args (ops.Jump a) = number_word a
op_args (ops.JumpTrue a) = number_word a
op_args (ops.JumpFalse a) = number_word a
op_args (ops.Call r) = number_word r
op_args (ops.Turn k a) = number_word k ++ number_word a
op_args (ops.Step k a) = number_word k ++ number_word a
op_args (ops.Wait a) = number_word a
op_args (ops.Arrive g) = number_word g
op_args (ops.Point a) = number_word a
op_args (ops.Connect r) = number_word r
op_args (ops.Order on single) = order_text on ++ word (truth_text single)
op_args (ops.Irq o) = word (irq_name o)
op_args (ops.Shape inside home) = word (truth_text inside) ++ word (truth_text home)
op_args (ops.ZoneSet temporary) = word (truth_text temporary)
op_args (ops.ZoneTie temporary s) = word (truth_text temporary) ++ number_word s
op_args (ops.Zone o) = word (zone_name o)
op_args (ops.Say tail) = word (tail_name tail)
op_args op = []

abbrev pub op_text : Op → List ℕ
op_text op = op_name op ++ op_args op
