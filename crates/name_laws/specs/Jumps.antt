-- Which labels the GOTOs of a typed routine go to, that all labels differ, and how labels are numbered.
use Rattle.std.specs.Prelude.{◌≡◌, ◌≢◌, ℕ, List, [], ◌∷◌, ◌++◌, map, Some, slice_get}
use Rattle.std.specs.List.{Contains}
use Rattle.raw_trees.specs.Plain.{PlainRoutine}
use Rattle.typed_trees.specs.Plain.{TypedStmt, TypedStmts, TypedArms, TypedCases, TypedElse, TypedRoutine, Label, Goto, If, IfOne, For, While, Test, NoStmts, MoreStmts, NoArms, MoreArms, NoCases, MoreCases, NoElse, Else}
use Rattle.typed_trees.specs.Labels.{error_part}
use Rattle.stmt_types.specs.Labels.{labels_in_routine}

-- a list's own labels
abbrev pub own_label : TypedStmt → List ℕ
own_label (Label at number) = number ∷ []
own_label _ = []

abbrev pub own : TypedStmts → List ℕ
own NoStmts = []
own (MoreStmts stmt list) = own_label stmt ++ own list

-- each GOTO goes to a label of its own list or of an enclosing list; these are the labels of the enclosing lists
abbrev mutual
  pub Lands : List ℕ → TypedStmt → Type 0
  Lands around (Goto at number) = Contains around number
  Lands around (If at arms other) = LandInArms around arms × LandInElse around other
  Lands around (IfOne at test simple) = Lands around simple
  Lands around (For at local first last step list) = Land (own list ++ around) list
  Lands around (While at test list) = Land (own list ++ around) list
  Lands around (Test at value cases other) = LandInCases around cases × LandInElse around other
  Lands around _ = Unit {0}

  pub Land : List ℕ → TypedStmts → Type 0
  Land around NoStmts = Unit {0}
  Land around (MoreStmts stmt list) = Lands around stmt × Land around list

  pub LandInArms : List ℕ → TypedArms → Type 0
  LandInArms around NoArms = Unit {0}
  LandInArms around (MoreArms test list arms) = Land (own list ++ around) list × LandInArms around arms

  pub LandInCases : List ℕ → TypedCases → Type 0
  LandInCases around NoCases = Unit {0}
  LandInCases around (MoreCases values list cases) = Land (own list ++ around) list × LandInCases around cases

  pub LandInElse : List ℕ → TypedElse → Type 0
  LandInElse around NoElse = Unit {0}
  LandInElse around (Else list) = Land (own list ++ around) list

-- the GOTOs of a routine's list and of its ERROR part go to labels of the same part
pub record JumpsLand (t : TypedRoutine) : Type 0 where
  pub list : Land (own t.list ++ []) t.list
  pub handler : LandInElse [] (error_part t.handler)

-- no element of a list is another one's equal
abbrev pub IsApart : ℕ → List ℕ → Type 0
IsApart x [] = Unit {0}
IsApart x (y ∷ ys) = (x ≢ y) × IsApart x ys

abbrev pub AreApart : List ℕ → Type 0
AreApart [] = Unit {0}
AreApart (x ∷ xs) = IsApart x xs × AreApart xs

-- each number is its index
abbrev pub AreInOrder : List ℕ → Type 0
AreInOrder numbers = (index number : ℕ) → slice_get numbers index ≡ Some number → number ≡ index

-- the labels of a routine are at different bytes, as in every text
abbrev pub LabelsApart : PlainRoutine → Type 0
LabelsApart r = AreApart (map (λ label. label.at) (labels_in_routine r))
