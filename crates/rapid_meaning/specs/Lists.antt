-- Lists of statements, and GOTO (RAPID Kernel, GOTO and labels).
use Rattle.std.specs.Prelude.{ℕ, ◌==◌, Option, None, Some, if◌then◌else◌}
use Rattle.typed_trees.specs.Plain.{TypedStmts, TypedTree, NoStmts, MoreStmts, Label}
use Rattle.rapid_meaning.specs.Doings.{Doing, Gives, ◌>>=◌, goes_to}
use Rattle.rapid_meaning.specs.Flows.{Flow, Normal, Jumps, Where, Rest}
use Rattle.rapid_meaning.specs.Statements.{and_then, stmt}

-- does statements in order, up to the first that does not end normally
abbrev pub items : TypedTree → Where → TypedStmts → Doing Flow
items tree w NoStmts = Gives Normal
items tree w (MoreStmts s more) = stmt tree w s >>= λ flow. and_then (items tree w more) flow

-- the statements after a label of the list itself
abbrev pub behind : ℕ → TypedStmts → Option TypedStmts
behind label NoStmts = None
behind label (MoreStmts (Label at number) more) = if number == label then Some more else behind label more
behind label (MoreStmts s more) = behind label more

-- a list that has the label of a jump goes on after it; any other list passes the jump outward
abbrev pub jumped : Where → TypedStmts → ℕ → Option TypedStmts → Doing Flow
jumped w list label None = Gives (Jumps label)
jumped w list label (Some more) = goes_to (Rest w list more)

abbrev pub ended : Where → TypedStmts → Flow → Doing Flow
ended w list (Jumps label) = jumped w list label (behind label list)
ended w list flow = Gives flow

-- does the statements of a list that are left
abbrev pub rest : TypedTree → Where → TypedStmts → TypedStmts → Doing Flow
rest tree w list more = items tree w more >>= ended w list
