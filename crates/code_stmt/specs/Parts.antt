-- The lists of a statement, if it has them.
use Rattle.typed_trees.specs.Plain.{TypedArms, TypedCases, TypedElse, TypedStmt, If, Test, NoArms, NoCases, NoElse}

abbrev pub arms_in : TypedStmt → TypedArms
arms_in (If at arms other) = arms
arms_in s = NoArms

abbrev pub cases_in : TypedStmt → TypedCases
cases_in (Test at e cases other) = cases
cases_in s = NoCases

-- of ELSE, or of DEFAULT
abbrev pub else_in : TypedStmt → TypedElse
else_in (If at arms other) = other
else_in (Test at e cases other) = other
else_in s = NoElse
