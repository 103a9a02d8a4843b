-- What statements do (RAPID Kernel, statements).
use Rattle.std.specs.Prelude.{ℕ, List, ◌/◌, ◌%◌, ◌==◌, ◌&&◌, nat_le, Bool, true, false, pos, negsuc, None, Some, if◌then◌else◌}
use Rattle.rapid_model.specs.declared.fate.Fate.TheVariants as fates
use Rattle.rapid_model.specs.declared.fate.Fault.TheVariants.{RaiseRange}
use Rattle.rapid_model.specs.declared.instruction.Instruction.{Instruction}
use Rattle.rapid_model.specs.declared.instruction.Instruction.TheVariants as instructions
use Rattle.rapid_model.specs.declared.value.Value.{Value}
use Rattle.rapid_model.specs.declared.value.Value.TheVariants as values
use Rattle.rapid_model.specs.declared.operator.Operator.TheVariants as operators
use Rattle.rapid_values.specs.Operators.{apply}
use Rattle.typed_trees.specs.Plain as trees
use Rattle.typed_trees.specs.Plain.{TypedArg, TypedArgs, TypedArms, TypedCases, TypedElse, TypedExpr, TypedExprs, TypedPlace, TypedRoutine, TypedStmt, TypedStmts, TypedTree, NoExprs, MoreExprs, NoArms, MoreArms, NoCases, MoreCases, NoElse, Else}
use Rattle.rapid_meaning.specs.Doings.{Doing, Gives, Raises, Ends, Misfit, Act, ◌>>=◌, calls, fault, goes_to}
use Rattle.rapid_meaning.specs.Errors.{header, raised_again}
use Rattle.rapid_meaning.specs.Expressions.{arguments, expr, place}
use Rattle.rapid_meaning.specs.Flows.{Flow, Normal, Jumps, Returns, Retries, Skips, Way, Where, Part, Attempt, Turn, Leg, Rest}
use Rattle.rapid_meaning.specs.Instructions.{aimed, instructed, marked, needed, options, truth}
use Rattle.rapid_meaning.specs.Interrupts.{connect}
use Rattle.rapid_meaning.specs.Looks.{hold, look}
use Rattle.rapid_meaning.specs.Loops.{bounds, counts_on, turn_due}
use Rattle.rapid_meaning.specs.Moves.{further, has_next, point}
use Rattle.rapid_meaning.specs.Places.{write_value}
use Rattle.rapid_meaning.specs.Values.{applied, truth_in}

-- a list inside a statement
abbrev pub inner : Where → TypedStmts → Doing Flow
inner w list = goes_to (Rest w list list)

abbrev pub inner_or_not : Where → TypedElse → Doing Flow
inner_or_not w NoElse = Gives Normal
inner_or_not w (Else list) = inner w list

-- what follows a list that reached its end
abbrev pub and_then : Doing Flow → Flow → Doing Flow
and_then next Normal = next
and_then next flow = Gives flow

-- what follows a statement's own part that gave nothing
abbrev pub goes_on : {A : Type 0} → A → Doing Flow
goes_on _ = Gives Normal

-- an assignment: the place with its index, then the value, then the write
abbrev pub assign : TypedTree → TypedRoutine → TypedPlace → TypedExpr → Act
assign tree routine p e = do
  q ← place tree routine p
  v ← expr tree routine e
  write_value q v

-- a procedure call: the arguments, then the body
abbrev pub call : TypedTree → TypedRoutine → ℕ → TypedArgs → Doing Flow
call tree routine called args = do
  xs ← arguments tree routine args
  calls called xs

-- CONNECT
abbrev pub connects : TypedTree → TypedRoutine → TypedPlace → ℕ → Act
connects tree routine p trap = marked tree routine p (λ q old. connect q old trap)

-- WHILE: the list, then the statement again
abbrev pub again_behind : Where → Part → TypedStmts → Doing Flow
again_behind w again list = inner w list >>= and_then (goes_to again)

-- an instruction is done, or is a wait that is not ready
abbrev pub done_or_held : Part → Bool → Doing Flow
done_or_held again true = Gives Normal
done_or_held again false = hold again

-- RAISE with a number, which must be whole and from 1 to 90
abbrev pub raised : Value → Act
raised (values.Num (pos n)) = if n % 1_000 == 0 && nat_le 1 (n / 1_000) && nat_le (n / 1_000) 90 then Raises (n / 1_000) else fault RaiseRange
raised (values.Num (negsuc n)) = fault RaiseRange
raised _ = Misfit

-- IF: the list of the first condition that is TRUE, else that of ELSE
abbrev pub chosen : TypedTree → TypedRoutine → TypedArms → TypedElse → Doing TypedElse
chosen tree routine NoArms other = Gives other
chosen tree routine (MoreArms e list more) other = do
  b ← truth tree routine e
  if b then Gives (Else list) else chosen tree routine more other

-- whether one of the values is equal; they are evaluated in order up to the first equal one
abbrev pub is_among : TypedTree → TypedRoutine → Value → TypedExprs → Doing Bool
is_among tree routine v NoExprs = Gives false
is_among tree routine v (MoreExprs e es) = do
  w ← expr tree routine e
  equal ← applied (apply operators.Equal v w)
  b ← truth_in equal
  if b then Gives true else is_among tree routine v es

-- TEST: the list of the first CASE with an equal value, else that of DEFAULT
abbrev pub selected : TypedTree → TypedRoutine → Value → TypedCases → TypedElse → Doing TypedElse
selected tree routine v NoCases other = Gives other
selected tree routine v (MoreCases es list more) other = do
  b ← is_among tree routine v es
  if b then Gives (Else list) else selected tree routine v more other

-- a move from its next setpoint on; a Look stands before each of the others
abbrev pub points : Where → TypedStmt → Way → Doing Flow
points w s way = point way (if has_next (further way) then goes_to (Leg w s (further way)) else Gives Normal)

-- an instruction; setpoints raise no errors
abbrev pub instructs : TypedTree → Where → TypedStmt → Instruction → List TypedArg → List TypedArg → Doing Flow
instructs tree w s instructions.MoveAbsJ args options = header w s (aimed tree w.routine args) (points w s)
instructs tree w s instruction args options = header w s (instructed tree w.routine instruction args options) (done_or_held (Attempt w s))

-- what follows the Look of a statement, by its form
abbrev pub follows : TypedTree → Where → TypedStmt → TypedStmt → Doing Flow
follows tree w s (trees.Assign at p e) = header w s (assign tree w.routine p e) goes_on
follows tree w s (trees.Instruct at instruction args) = instructs tree w s instruction (needed args) (options args)
follows tree w s (trees.Call at called args) = header w s (call tree w.routine called args) goes_on
follows tree w s (trees.Label at label) = Gives Normal
follows tree w s (trees.Goto at label) = Gives (Jumps label)
follows tree w s (trees.Return at None) = Gives (Returns None)
follows tree w s (trees.Return at (Some e)) = header w s (expr tree w.routine e) (λ v. Gives (Returns (Some v)))
follows tree w s (trees.Exit at) = Ends fates.Exit
follows tree w s (trees.Raise at None) = raised_again w.errors
follows tree w s (trees.Raise at (Some e)) = header w s (expr tree w.routine e >>= raised) goes_on
follows tree w s (trees.Retry at) = Gives Retries
follows tree w s (trees.TryNext at) = Gives Skips
follows tree w s (trees.Connect at p trap) = header w s (connects tree w.routine p trap) goes_on
follows tree w s (trees.If at arms other) = header w s (chosen tree w.routine arms other) (inner_or_not w)
follows tree w s (trees.IfOne at e one) = header w s (truth tree w.routine e) (λ b. if b then goes_to (Attempt w one) else Gives Normal)
follows tree w s (trees.For at local first last step list) = header w s (bounds tree w.routine local first last step) (λ _. turn_due w.routine local (Turn w s))
follows tree w s (trees.While at e list) = header w s (truth tree w.routine e) (λ b. if b then again_behind w (Attempt w s) list else Gives Normal)
follows tree w s (trees.Test at e cases other) = header w s (expr tree w.routine e >>= λ v. selected tree w.routine v cases other) (inner_or_not w)

-- the byte where a statement begins
abbrev pub byte_of : TypedStmt → ℕ
byte_of (trees.Assign at p e) = at
byte_of (trees.Instruct at instruction args) = at
byte_of (trees.Call at called args) = at
byte_of (trees.Label at label) = at
byte_of (trees.Goto at label) = at
byte_of (trees.Return at value) = at
byte_of (trees.Exit at) = at
byte_of (trees.Raise at number) = at
byte_of (trees.Retry at) = at
byte_of (trees.TryNext at) = at
byte_of (trees.Connect at p trap) = at
byte_of (trees.If at arms other) = at
byte_of (trees.IfOne at e one) = at
byte_of (trees.For at local first last step list) = at
byte_of (trees.While at e list) = at
byte_of (trees.Test at e cases other) = at

-- a statement, from its Look; a label has none
abbrev pub stmt : TypedTree → Where → TypedStmt → Doing Flow
stmt tree w (trees.Label at label) = Gives Normal
stmt tree w s = look w (byte_of s) (Attempt w s) (follows tree w s s)

-- what follows the Look of an iteration of a FOR: its list, then the next iteration
abbrev pub turned : Where → Part → TypedStmt → Doing Flow
turned w next (trees.For at local first last step list) = inner w list >>= and_then (counts_on w.routine local next)
turned w next _ = Misfit

-- an iteration of a FOR, from its Look
abbrev pub turn : Where → TypedStmt → Doing Flow
turn w s = look w (byte_of s) (Turn w s) (turned w (Turn w s) s)

-- a move from the Look before its next setpoint
abbrev pub leg : Where → TypedStmt → Way → Doing Flow
leg w s way = look w (byte_of s) (Leg w s way) (points w s way)
