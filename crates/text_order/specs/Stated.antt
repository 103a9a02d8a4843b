-- The statements of a module in text order, and the bytes at which they start.
use Rattle.std.specs.Prelude.{ℕ, ◌<◌, List, [], ◌∷◌, ◌++◌, flat_map}
use Rattle.raw_trees.specs.Plain.{PlainStmt, PlainStmts, PlainArms, PlainCases, PlainElse, PlainRoutine, PlainItem, PlainModule, Assign, Call, Label, Goto, Return, Exit, Raise, Retry, TryNext, Connect, If, IfOne, For, While, Test, NoStmts, MoreStmts, NoArms, MoreArms, NoCases, MoreCases, NoElse, Else, Datum, Routine, stmts_of, else_of}

-- a statement, and then those of its lists
abbrev mutual
  pub stated : PlainStmt → List PlainStmt
  stated (If at arms other) = If at arms other ∷ (stated_in_arms arms ++ stated_in_else other)
  stated (IfOne at test simple) = IfOne at test simple ∷ stated simple
  stated (For at name first last step list) = For at name first last step list ∷ stated_in list
  stated (While at test list) = While at test list ∷ stated_in list
  stated (Test at value cases other) = Test at value cases other ∷ (stated_in_cases cases ++ stated_in_else other)
  stated stmt = stmt ∷ []

  pub stated_in : PlainStmts → List PlainStmt
  stated_in NoStmts = []
  stated_in (MoreStmts stmt list) = stated stmt ++ stated_in list

  pub stated_in_arms : PlainArms → List PlainStmt
  stated_in_arms NoArms = []
  stated_in_arms (MoreArms test list arms) = stated_in list ++ stated_in_arms arms

  pub stated_in_cases : PlainCases → List PlainStmt
  stated_in_cases NoCases = []
  stated_in_cases (MoreCases values list cases) = stated_in list ++ stated_in_cases cases

  pub stated_in_else : PlainElse → List PlainStmt
  stated_in_else NoElse = []
  stated_in_else (Else list) = stated_in list

-- those of its list, then those of its ERROR part
abbrev pub stated_in_routine : PlainRoutine → List PlainStmt
stated_in_routine r = stated_in (stmts_of r.list) ++ stated_in_else (else_of r.handler)

abbrev pub stated_in_item : PlainItem → List PlainStmt
stated_in_item (Datum local task datum at) = []
stated_in_item (Routine r) = stated_in_routine r

abbrev pub stated_in_module : PlainModule → List PlainStmt
stated_in_module m = flat_map stated_in_item m.items

-- the byte at which a statement starts
abbrev pub byte_of : PlainStmt → ℕ
byte_of (Assign at place value) = at
byte_of (Call at name args) = at
byte_of (Label at name) = at
byte_of (Goto at name) = at
byte_of (Return at value) = at
byte_of (Exit at) = at
byte_of (Raise at number) = at
byte_of (Retry at) = at
byte_of (TryNext at) = at
byte_of (Connect at place trap) = at
byte_of (If at arms other) = at
byte_of (IfOne at test simple) = at
byte_of (For at name first last step list) = at
byte_of (While at test list) = at
byte_of (Test at value cases other) = at

-- each number is below those after it
abbrev pub IsBelow : ℕ → List ℕ → Type 0
IsBelow n [] = Unit {0}
IsBelow n (m ∷ ms) = (n < m) × IsBelow n ms

abbrev pub AreAscending : List ℕ → Type 0
AreAscending [] = Unit {0}
AreAscending (n ∷ ns) = IsBelow n ns × AreAscending ns
