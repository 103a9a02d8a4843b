-- The lists in a statement.
use Rattle.std.specs.Prelude.{Bool, true, false}
use Rattle.raw_trees.specs.Plain.{PlainStmt, PlainArms, PlainCases, PlainElse, If, IfOne, For, While, Test, NoArms, NoCases, NoElse}

-- a statement with no statement in it
abbrev pub is_simple : PlainStmt → Bool
is_simple (If at arms other) = false
is_simple (IfOne at test then) = false
is_simple (For at name first last step list) = false
is_simple (While at test list) = false
is_simple (Test at value cases other) = false
is_simple stmt = true

-- IF and each ELSEIF with its list
abbrev pub arms_in : PlainStmt → PlainArms
arms_in (If at arms other) = arms
arms_in _ = NoArms

-- each CASE with its values and its list
abbrev pub cases_in : PlainStmt → PlainCases
cases_in (Test at value cases other) = cases
cases_in _ = NoCases

-- ELSE or DEFAULT
abbrev pub else_in : PlainStmt → PlainElse
else_in (If at arms other) = other
else_in (Test at value cases other) = other
else_in _ = NoElse
